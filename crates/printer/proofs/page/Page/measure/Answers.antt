-- `printer::page::Page::measure`: the trees done, what they take and the place of their first wrong cost, before those that are left. The measure is the bytes left.
use Rattle.std.proofs.lemmas.Result.{err_from_is_err_and}
use Prim.Native.Nat.{◌+◌, ◌<◌}
use native.Mathlib.Omega.{arith}
use Rattle.printer.proofs.MeasuringWalk.{Paged, paged_begin, lead_some, lead_none, paged_tree, paged_stop, paged_wrong, paged_end}
use Rattle.printer.proofs.page.Page.measure.Goals as goal
use Rattle.printer.proofs.page.Page.measure.Goals.{Joined-p-gt0, then-p-gt0, else-p-gt0}

-- past the tree that was measured
on : (c : Joined-p-gt0)
    → (c.loop-p.p < c.in_ok-m.m.place)
    × Paged c.args.self.now.table.now c.args.self.now.width c.in_ok-m.m.place c.earlier-wrong.result (c.if-p-gt0.w + (c.in_ok-m.m.len + 1))
on c =
    let l = c.loop-p in
    paged_tree _ _ l.p l.wrong l.w l.invariant c.if-p-gt0.w _ _ c.loop-p-test.true c.in_ok-m.ensures
    (elim c.if-p-gt0.branch [
      | then-p-gt0 v ↦ lead_some l.p l.w c.if-p-gt0.w v.if-p-gt0.true v.w-is
      | else-p-gt0 v ↦ lead_none l.p l.w c.if-p-gt0.w v.if-p-gt0.false v.w-is
    ])
    c.earlier-wrong.ensures

pub loop-p-init : goal.loop-p-init
loop-p-init c = paged_begin _ _ c.args.self.now.limited

pub returns-in_err-m : goal.returns-in_err-m
returns-in_err-m c =
    let p = err_from_is_err_and c.from_residual.result c.from_residual.ensures.1 in
    rw (p.1, p.2) (paged_stop _ _ _ _ _ c.loop-p.invariant _ c.loop-p-test.true c.in_err-m.ensures)

pub overflow_add-w-in-loop-p : goal.overflow_add-w-in-loop-p
overflow_add-w-in-loop-p c = let g = (on (goal.at.overflow_add-w-in-loop-p c).Joined-p-gt0).1 in omega (arith, g.size, g.checks.read.within, g.checks.read.limit)

pub overflow_add-w-in-loop-p-2 : goal.overflow_add-w-in-loop-p-2
overflow_add-w-in-loop-p-2 c = let g = (on (goal.at.overflow_add-w-in-loop-p-2 c).Joined-p-gt0).1 in omega (arith, g.size, g.checks.read.within, g.checks.read.limit)

pub loop-p-preserved : goal.loop-p-preserved
loop-p-preserved c = (on (goal.at.loop-p-preserved c).Joined-p-gt0).1

pub returns-in-Some : goal.returns-in-Some
returns-in-Some c = paged_wrong _ _ _ _ _ c.loop-p.invariant _ _ c.loop-p-test.false c.in-Some.is c.at.ensures

pub returns-in-None : goal.returns-in-None
returns-in-None c = paged_end _ _ _ _ _ c.loop-p.invariant c.loop-p-test.false c.in-None.is
