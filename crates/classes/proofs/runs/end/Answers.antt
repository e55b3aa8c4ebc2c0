-- `runs::end`: the run from the place that was reached is the run from the start; eight bytes, or those before the first mark, are passed at once.
use Rattle.std.proofs.Common.{◌≡◌, ℕ, ◌+◌, ◌%◌, ◌^◌, ◌≤◌, length, sym, ap, ◌∙◌, arith}
use Rattle.classes.specs.Runs.{run_end}
use Rattle.classes.proofs.Goes.{run_go, run_past, run_stop}
use Rattle.classes.proofs.runs.end.Goals as goal
use Rattle.classes.proofs.runs.end.Given.{Over}
use Rattle.classes.proofs.runs.end.Goals.{After-marks-m}

-- over k bytes of the word without a mark
passed : (g : Over) (u : After-marks-m g) (k : ℕ) → k ≤ 8 → u.marks-m.result % 256 ^ k ≡ 0
    → run_end g.R.Run.goes_on u.args.s.now (u.loop-i.i + k) ≡ run_end g.R.Run.goes_on u.args.s.now u.args.at
passed g u k h z = sym (u.marks-m.ensures u.args.s.now u.loop-i.i (λ j. (u.type_inv.s j).fits) u.loop-i-test.true u.word.ensures k h z) ∙ u.loop-i.invariant.1

pub returns-then-s-at : goal.returns-then-s-at
returns-then-s-at g c = run_past g.R.Run.goes_on _ _ (omega arith)

pub loop-i-preserved-then-m-eq0 : goal.loop-i-preserved-then-m-eq0
loop-i-preserved-then-m-eq0 g c =
    (c.loop-i-test.true, passed g (goal.at.loop-i-preserved-then-m-eq0 g c).After-marks-m 8 (omega arith) (ap (λ (m : ℕ). m % 256 ^ 8) c.if-m-eq0.true))

pub returns-then-not-goes_on : goal.returns-then-not-goes_on
returns-then-not-goes_on g c =
    run_stop g.R.Run.goes_on _ _ (omega (arith, c.before_mark-i.ensures.0)) (sym c.goes_on.ensures ∙ c.if-not-goes_on.true)
    ∙ passed g (goal.at.returns-then-not-goes_on g c).After-marks-m c.before_mark-i.result (omega (arith, c.before_mark-i.ensures.0)) c.before_mark-i.ensures.1

pub loop-i-else-m-eq0-init : goal.loop-i-else-m-eq0-init
loop-i-else-m-eq0-init g c = (
  omega arith,
  omega (arith, c.before_mark-i.ensures.0),
  sym (run_go g.R.Run.goes_on _ _ (omega (arith, c.before_mark-i.ensures.0)) (sym c.goes_on.ensures ∙ c.if-not-goes_on.false))
      ∙ passed g (goal.at.loop-i-else-m-eq0-init g c).After-marks-m c.before_mark-i.result (omega (arith, c.before_mark-i.ensures.0)) c.before_mark-i.ensures.1,
)

pub returns-then-not-goes_on-2 : goal.returns-then-not-goes_on-2
returns-then-not-goes_on-2 g c =
    run_stop g.R.Run.goes_on _ _ c.loop-i-else-m-eq0-test.true (sym c.goes_on-in-loop-i-else-m-eq0.ensures ∙ c.if-not-goes_on-2.true) ∙ c.loop-i-else-m-eq0.invariant.2

pub loop-i-else-m-eq0-preserved : goal.loop-i-else-m-eq0-preserved
loop-i-else-m-eq0-preserved g c = (
  omega (arith, c.loop-i-else-m-eq0.invariant.0),
  omega (arith, c.loop-i-else-m-eq0-test.true),
  sym (run_go g.R.Run.goes_on _ _ c.loop-i-else-m-eq0-test.true (sym c.goes_on-in-loop-i-else-m-eq0.ensures ∙ c.if-not-goes_on-2.false)) ∙ c.loop-i-else-m-eq0.invariant.2,
)

pub loop-i-preserved : goal.loop-i-preserved
loop-i-preserved g c = (c.loop-i-else-m-eq0.invariant.1, c.loop-i-else-m-eq0.invariant.2)

pub returns-then-not-goes_on-3 : goal.returns-then-not-goes_on-3
returns-then-not-goes_on-3 g c =
    run_stop g.R.Run.goes_on _ _ c.loop-j-test.true (sym c.goes_on-in-loop-j.ensures ∙ c.if-not-goes_on-3.true) ∙ c.loop-j.invariant

pub loop-j-preserved : goal.loop-j-preserved
loop-j-preserved g c =
    sym (run_go g.R.Run.goes_on _ _ c.loop-j-test.true (sym c.goes_on-in-loop-j.ensures ∙ c.if-not-goes_on-3.false)) ∙ c.loop-j.invariant

pub returns : goal.returns
returns g c =
    let e : length c.args.s.now ≡ c.loop-j.j = omega (arith, c.loop-j.auto.j-end) in
    e ∙ run_past g.R.Run.goes_on _ _ (omega arith) ∙ c.loop-j.invariant
