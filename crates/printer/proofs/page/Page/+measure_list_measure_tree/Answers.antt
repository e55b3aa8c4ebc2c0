-- `printer::page::Page::measure_tree` and `measure_list`, which call each other: the depth still allowed falls from a tree to the trees below it.
use mathlib.Core.Path.{refl, ap, sym, ◌∙◌}
use Rattle.std.specs.Prelude.{Ok}
use Rattle.std.proofs.lemmas.Result.{err_from_is_err_and}
use Prim.Native.Nat.{ℕ, ◌+◌, ◌*◌, ◌-◌, ◌≤◌, ◌<◌}
use native.Mathlib.Omega.{arith}
use native.Mathlib.Nat.{pos_of_ne-zero}
use lib.Dec.{eqb}
use Rattle.refusals.specs.Numbers.{depth_limit}
use Rattle.records.specs.Records.{head_len}
use Rattle.table.specs.declared.Record.TheVariants.{Symbol, Binding, List as ListOf}
use Rattle.table.proofs.Steps.{step_in, symbol_from}
use Rattle.table.proofs.Walks.{got_name, small, list_few}
use Rattle.printer.specs.Layout.{Wrap, fits_in}
use Rattle.printer.proofs.LayoutBounds.{inner_le, item_column_within}
use Rattle.printer.proofs.MeasuringWalk.{laid_tree, at_fault, at_symbol, at_integer, binding_stop, binding_good, at_line, kind_line, empty_test, list_read, at_list}
use Rattle.printer.proofs.MeasuringWalk.{laying_begin, laying_name, laying_tree, laying_stop, laying_end}
use Rattle.printer.proofs.page.Page.+measure_list_measure_tree.Goals as goal
use Rattle.printer.proofs.page.Page.+measure_list_measure_tree.Goals.{measure_list-then-p-q, measure_list-else-p-q+in_ok-m, measure_list-In_ok-m, measure_list-Then-p-q, measure_tree-In_ok-m-in-Ok-Binding, measure_tree-else-kind_at-via-then-kind_at+else-fits_in, measure_tree-else-kind_at-via-else-kind_at}

-- at a symbol the place past it was told apart from its own
measure-list-past : (t : ℕ) (c : measure_list-Then-p-q t) → c.loop-i.p < c.past_symbol-q.result
measure-list-past t c = omega (arith, c.if-p-q.true, symbol_from _ _ _ c.past_symbol-q.ensures)

-- no sum wraps where a symbol is counted in, and where another tree is: the walk past it is bounded
measure-list-named : (t : ℕ) (c : measure_list-Then-p-q t)
    → (c.loop-i.cost + (c.past_symbol-q.result - c.loop-i.p - head_len) ≤ 8589934592)
    × (c.loop-i.len + (c.past_symbol-q.result - c.loop-i.p - head_len) ≤ 8589934592)
measure-list-named t c =
    let h = c.requires in
    let g = laying_name _ _ _ _ _ _ _ _ _ _ _ _ c.loop-i.invariant c.loop-i-test.true _ _ _ _ _ c.past_symbol-q.ensures (measure-list-past t c) refl refl refl refl in
    (omega (arith, g.walk.bound, g.walk.within, c.args.self.now.limited, h.4), omega (arith, g.bound, g.walk.within, c.args.self.now.limited))

measure-list-treed : (t : ℕ) (c : measure_list-In_ok-m t)
    → (c.loop-i.cost + c.in_ok-m.m.cost ≤ 8589934592) × (c.loop-i.len + c.in_ok-m.m.len ≤ 8589934592)
measure-list-treed t c =
    let h = c.requires in
    let g = laying_tree _ _ _ _ _ _ _ _ _ _ _ _ c.loop-i.invariant c.loop-i-test.true _ _ _ _ _ _ _ c.item_indent.ensures c.item_column.ensures c.in_ok-m.ensures refl refl refl refl in
    (omega (arith, g.walk.bound, g.walk.within, c.args.self.now.limited, h.4), omega (arith, g.bound, g.walk.within, c.args.self.now.limited))

pub measure_list-loop-i-init : goal.measure_list-loop-i-init
measure_list-loop-i-init t c = let h = c.requires in laying_begin _ _ _ _ _ _ _ _ h.0 (omega (arith, h.1)) c.nl_len-len.ensures

pub measure_list-overflow_sub-k-then-p-q : goal.measure_list-overflow_sub-k-then-p-q
measure_list-overflow_sub-k-then-p-q t c = omega (arith, (got_name _ 0 _ _ c.past_symbol-q.ensures (measure-list-past t c)).0)

pub measure_list-overflow_add-cost-then-p-q : goal.measure_list-overflow_add-cost-then-p-q
measure_list-overflow_add-cost-then-p-q t c = omega (arith, (measure-list-named t c).0)

pub measure_list-overflow_add-len-then-p-q : goal.measure_list-overflow_add-len-then-p-q
measure_list-overflow_add-len-then-p-q t c = omega (arith, (measure-list-named t c).1)

pub measure_list-measure_tree-requires : goal.measure_list-measure_tree-requires
measure_list-measure_tree-requires t c =
    let l = c.loop-i in
    let h = c.requires in
    let g = l.invariant.walk in
    let k = item_column_within (eqb l.i 0) c.args.indent (c.args.column + 1) (l.p + 4 * depth_limit) (omega (arith, h.2, g.from)) (omega (arith, h.1)) in
    (omega arith, (g.within, omega (arith, h.1, c.item_indent.ensures, inner_le (eqb l.i 0) Wrap c.args.indent), omega (arith, c.item_column.ensures, k)))

pub measure_list-returns-in_err-m : goal.measure_list-returns-in_err-m
measure_list-returns-in_err-m t c =
    let p = err_from_is_err_and c.from_residual.result c.from_residual.ensures.1 in
    rw (p.1, p.2) (laying_stop _ _ _ _ _ _ _ _ _ _ _ _ c.loop-i.invariant c.loop-i-test.true _ _ _ c.in_err-m.ensures)

pub measure_list-overflow_add-cost-else-p-q : goal.measure_list-overflow_add-cost-else-p-q
measure_list-overflow_add-cost-else-p-q t c = omega (arith, (measure-list-treed t (goal.at.measure_list-overflow_add-cost-else-p-q t c).In_ok-m).0)

pub measure_list-overflow_add-len-else-p-q : goal.measure_list-overflow_add-len-else-p-q
measure_list-overflow_add-len-else-p-q t c = omega (arith, (measure-list-treed t (goal.at.measure_list-overflow_add-len-else-p-q t c).In_ok-m).1)

pub measure_list-loop-i-preserved : goal.measure_list-loop-i-preserved
measure_list-loop-i-preserved t c =
    let l = c.loop-i in
    let lt = c.loop-i-test.true in
    elim c.if-p-q.branch [
      | measure_list-then-p-q v ↦
          laying_name _ _ _ _ _ _ _ _ _ _ _ _ l.invariant lt _ _ _ _ _ c.past_symbol-q.ensures (omega (arith, v.if-p-q.true, symbol_from _ _ _ c.past_symbol-q.ensures)) v.p-is v.cost-is v.wrong-is v.len-is
      | measure_list-else-p-q+in_ok-m v ↦
          laying_tree _ _ _ _ _ _ _ _ _ _ _ _ l.invariant lt _ _ _ _ _ _ _ v.item_indent.ensures v.item_column.ensures v.in_ok-m.ensures v.p-is v.cost-is (v.wrong-is ∙ v.earlier-wrong.ensures) v.len-is
    ]

pub measure_list-returns : goal.measure_list-returns
measure_list-returns t c =
    let l = c.loop-i in
    let h = c.requires in
    laying_end _ _ _ _ _ _ _ _ _ _ _ _ l.invariant c.loop-i-test.false h.3 _ _ (omega (arith, h.1)) h.5 c.own_wrong-own.ensures c.earlier.ensures _
    (ap (λ (j : ℕ). l.len + (c.args.n - 1) * j) c.nl_len.ensures)

-- no sum wraps at a binding
measure-tree-bound : (t : ℕ) (c : measure_tree-In_ok-m-in-Ok-Binding t)
    → (c.in-Ok-Binding.len - head_len + 3 + c.in_ok-m-in-Ok-Binding.m.cost ≤ 8589934592)
    × (c.in-Ok-Binding.len - head_len + 3 + c.in_ok-m-in-Ok-Binding.m.len ≤ 8589934592)
measure-tree-bound t c =
    let h = c.requires in
    let n = step_in _ c.args.depth _ _ (Binding _) c.in-Ok-Binding.ensures c.in-Ok-Binding.field-0-is in
    let y = laid_tree _ _ _ _ _ _ _ c.in_ok-m-in-Ok-Binding.ensures in
    let g = small _ _ _ _ _ _ (omega (arith, h.0, n.0, n.1)) y.got in
    (omega (arith, g.bound, g.within, h.0, c.args.self.now.limited, n.1), omega (arith, y.bound, g.within, h.0, c.args.self.now.limited, n.1))

pub measure_tree-returns-then-fits_in : goal.measure_tree-returns-then-fits_in
measure_tree-returns-then-fits_in t c =
    kind_line _ c.args.depth _ c.args.self.now.width c.args.indent c.args.column _ _ _ _ c.requires.0 c.kind_at.ensures c.stored_cost.ensures c.fits_in.ensures c.if-kind_at.true c.if-fits_in.true c.measure_line.ensures

pub measure_tree-overflow_add-at : goal.measure_tree-overflow_add-at
measure_tree-overflow_add-at t c = omega (arith, step_in _ c.args.depth _ _ (Symbol _) c.in-Ok-Symbol.ensures c.in-Ok-Symbol.field-0-is)

pub measure_tree-overflow_sub-len : goal.measure_tree-overflow_sub-len
measure_tree-overflow_sub-len t c = omega (arith, step_in _ c.args.depth _ _ (Symbol _) c.in-Ok-Symbol.ensures c.in-Ok-Symbol.field-0-is)

pub measure_tree-overflow_sub-n : goal.measure_tree-overflow_sub-n
measure_tree-overflow_sub-n t c = omega (arith, step_in _ c.args.depth _ _ (Binding _) c.in-Ok-Binding.ensures c.in-Ok-Binding.field-0-is)

pub measure_tree-overflow_add-at-in-Ok-Binding : goal.measure_tree-overflow_add-at-in-Ok-Binding
measure_tree-overflow_add-at-in-Ok-Binding t c = omega (arith, step_in _ c.args.depth _ _ (Binding _) c.in-Ok-Binding.ensures c.in-Ok-Binding.field-0-is)

pub measure_tree-overflow_sub-depth : goal.measure_tree-overflow_sub-depth
measure_tree-overflow_sub-depth t c = omega (arith, step_in _ c.args.depth _ _ (Binding _) c.in-Ok-Binding.ensures c.in-Ok-Binding.field-0-is)

pub measure_tree-overflow_add-column : goal.measure_tree-overflow_add-column
measure_tree-overflow_add-column t c = let h = c.requires in omega (arith, step_in _ c.args.depth _ _ (Binding _) c.in-Ok-Binding.ensures c.in-Ok-Binding.field-0-is, h.0, c.args.self.now.limited, h.2)

pub measure_tree-measure_tree-requires : goal.measure_tree-measure_tree-requires
measure_tree-measure_tree-requires t c =
    let h = c.requires in
    let n = step_in _ c.args.depth _ _ (Binding _) c.in-Ok-Binding.ensures c.in-Ok-Binding.field-0-is in
    (omega (arith, n.2), (omega (arith, h.0, n.1), omega (arith, h.1, n.2), omega (arith, h.2, n.0)))

pub measure_tree-returns-in_err-m-in-Ok-Binding : goal.measure_tree-returns-in_err-m-in-Ok-Binding
measure_tree-returns-in_err-m-in-Ok-Binding t c =
    let p = err_from_is_err_and c.from_residual.result c.from_residual.ensures.1 in
    rw (p.1, p.2) (binding_stop _ _ _ _ c.in-Ok-Binding.ensures _ _ _ _ _ _ c.in-Ok-Binding.field-0-is c.in_err-m-in-Ok-Binding.ensures refl)

pub measure_tree-overflow_add-result : goal.measure_tree-overflow_add-result
measure_tree-overflow_add-result t c = omega (arith, (measure-tree-bound t (goal.at.measure_tree-overflow_add-result t c).In_ok-m-in-Ok-Binding).0)

pub measure_tree-overflow_add-result-in-Ok-Binding : goal.measure_tree-overflow_add-result-in-Ok-Binding
measure_tree-overflow_add-result-in-Ok-Binding t c = omega (arith, (measure-tree-bound t (goal.at.measure_tree-overflow_add-result-in-Ok-Binding t c).In_ok-m-in-Ok-Binding).1)

pub measure_tree-returns-then-n-eq0 : goal.measure_tree-returns-then-n-eq0
measure_tree-returns-then-n-eq0 t c =
    at_line _ _ _ _ c.in-Ok-List.ensures c.args.self.now.width c.args.indent c.args.column _ _ c.in-Ok-List.field-0-is c.requires.0 (empty_test c.in-Ok-List.n _ c.if-n-eq0.true) c.measure_line-then-n-eq0.ensures

pub measure_tree-overflow_sub-depth-in-Ok-List : goal.measure_tree-overflow_sub-depth-in-Ok-List
measure_tree-overflow_sub-depth-in-Ok-List t c = omega (arith, step_in _ c.args.depth _ _ (ListOf _) c.in-Ok-List.ensures c.in-Ok-List.field-0-is)

pub measure_tree-measure_list-requires : goal.measure_tree-measure_list-requires
measure_tree-measure_list-requires t c =
    let h = c.requires in
    let n = step_in _ c.args.depth _ _ (ListOf _) c.in-Ok-List.ensures c.in-Ok-List.field-0-is in (
      omega (arith, n.1),
      (
        omega (arith, n.0),
        omega (arith, h.1, n.1),
        h.2,
        pos_of_ne-zero c.if-n-eq0.false,
        list_few _ c.args.depth _ _ _ c.args.self.now.bytes c.in-Ok-List.ensures c.in-Ok-List.field-0-is,
        elim c.else-kind_at.branch [
          | measure_tree-else-kind_at-via-then-kind_at+else-fits_in w ↦ sym (w.fits_in.ensures ∙ ap (fits_in c.args.self.now.width c.args.column) w.stored_cost.ensures) ∙ w.if-fits_in.false
          | measure_tree-else-kind_at-via-else-kind_at w ↦ absurd (w.if-kind_at.false (list_read _ c.args.depth _ c.args.self.now.width _ _ n c.kind_at.ensures))
        ],
      ),
    )

pub measure_tree-returns-in-Err : goal.measure_tree-returns-in-Err
measure_tree-returns-in-Err t c = at_fault _ _ _ _ c.in-Err.ensures _ _ _ _ c.at.ensures

pub measure_tree-returns-in-Ok-Symbol : goal.measure_tree-returns-in-Ok-Symbol
measure_tree-returns-in-Ok-Symbol t c = at_symbol _ _ _ _ c.in-Ok-Symbol.ensures _ _ _ _ _ c.in-Ok-Symbol.field-0-is (ap Ok c.atom.ensures)

pub measure_tree-returns-in-Ok-Integer : goal.measure_tree-returns-in-Ok-Integer
measure_tree-returns-in-Ok-Integer t c = at_integer _ _ _ _ c.in-Ok-Integer.ensures _ _ _ _ _ _ c.in-Ok-Integer.field-0-is c.text_len.ensures c.wide_at.ensures (ap Ok c.atom-in-Ok-Integer.ensures)

pub measure_tree-returns-in_ok-m-in-Ok-Binding : goal.measure_tree-returns-in_ok-m-in-Ok-Binding
measure_tree-returns-in_ok-m-in-Ok-Binding t c = binding_good _ _ _ _ c.in-Ok-Binding.ensures _ _ _ _ _ _ c.in-Ok-Binding.field-0-is c.requires.0 c.in_ok-m-in-Ok-Binding.ensures refl

pub measure_tree-returns-else-n-eq0 : goal.measure_tree-returns-else-n-eq0
measure_tree-returns-else-n-eq0 t c = at_list _ _ _ _ c.in-Ok-List.ensures _ _ _ _ _ c.in-Ok-List.field-0-is c.measure_list.ensures
