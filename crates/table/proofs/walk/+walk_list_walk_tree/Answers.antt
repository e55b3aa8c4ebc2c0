-- `table::walk::walk_tree`, `walk_binding` and `walk_list`, which call each other: the depth still allowed falls from a tree to the trees below it.
use Rattle.std.specs.Prelude.{Ok}
use Rattle.std.proofs.lemmas.Result.{err_from_is_err_and}
use mathlib.Core.Path.{refl}
use Prim.Native.Nat.{ℕ, ◌+◌, ◌<◌}
use native.Mathlib.Omega.{arith}
use Rattle.wide.specs.Bytes.{Bytes}
use Rattle.table.specs.Records.{Binding}
use Rattle.table.specs.Decoding.{tree_at}
use Rattle.table.specs.Walking.{Walks}
use Rattle.table.proofs.Reading.{list_in}
use Rattle.table.proofs.Steps.{step_in}
use Rattle.table.proofs.Walks.{small, walked_tree, at_binding, binding_good, symbol_good, symbol_bad, list_good, at_fault, at_list, list_few}
use Rattle.table.proofs.Walks.{counted_name, counted_empty, counted_tree, counted_stop, counted_end}
use Rattle.table.proofs.walk.+walk_list_walk_tree.Goals as goal
use Rattle.table.proofs.walk.+walk_list_walk_tree.Goals.{walk_list-After-struct_known-1, walk_list-in-Ok-List+else-m-eq0+in_ok-x-in-Ok-List, walk_list-in_default+in_ok-x-in_default}

-- each item but a symbol was walked as a tree
walk-list-item : (t : ℕ) (c : walk_list-After-struct_known-1 t) → Walks c.args.t.now c.loop.p (tree_at c.args.t.now c.args.depth c.loop.p) (Ok c.match-record_at.x)
walk-list-item t c = elim c.match-record_at.branch [
  | walk_list-in-Ok-List+else-m-eq0+in_ok-x-in-Ok-List w ↦
      let e = list_good c.args.t.now c.args.depth c.loop.p _ w.in-Ok-List.ensures _ w.in-Ok-List.field-0-is w.if-depth-gt0.true in
      rw w.x-is (at_list _ _ _ _ e _ _ refl w.in_ok-x-in-Ok-List.ensures)
  | walk_list-in_default+in_ok-x-in_default w ↦ rw w.x-is w.in_ok-x-in_default.ensures
]

-- no sum wraps: what is counted is bounded by the bytes that were walked over
walk-list-bound : (t : ℕ) (c : walk_list-After-struct_known-1 t)
    → (c.loop.cost + c.match-record_at.x.cost < 18446744073709551616) × (c.loop.empty + c.match-record_at.x.empty < 18446744073709551616)
walk-list-bound t c =
    let h = c.requires.1 in
    let g = counted_tree _ _ _ _ _ _ _ _ _ c.loop.invariant _ _ _ _ _ c.loop-test.true (walk-list-item t c) refl refl refl refl in
    (omega (arith, g.walk.bound, g.walk.within, h), omega (arith, g.few, g.walk.bound, g.walk.within, h))

pub walk_list-overflow_add-cost-in-Ok-Symbol : goal.walk_list-overflow_add-cost-in-Ok-Symbol
walk_list-overflow_add-cost-in-Ok-Symbol t c =
    let g = counted_name _ _ _ _ _ _ _ _ _ c.loop.invariant _ _ _ _ _ c.loop-test.true (symbol_good _ _ _ _ c.in-Ok-Symbol.ensures _ _ c.in-Ok-Symbol.field-0-is c.is_name.ensures c.if-is_name.true) refl refl refl refl in
    omega (arith, g.walk.bound, g.walk.within, c.requires.1)

pub walk_list-returns-in-Ok-Symbol-2 : goal.walk_list-returns-in-Ok-Symbol-2
walk_list-returns-in-Ok-Symbol-2 t c =
    let e = symbol_bad c.args.t.now c.args.depth c.loop.p _ c.in-Ok-Symbol.ensures _ _ c.in-Ok-Symbol.field-0-is c.is_name.ensures c.if-is_name.false in
    counted_stop _ _ _ _ _ _ _ _ _ c.loop.invariant _ c.loop-test.true (at_fault _ _ _ _ _ e c.at.ensures)

pub walk_list-walk_list-requires : goal.walk_list-walk_list-requires
walk_list-walk_list-requires t c =
    let hb : Bytes c.args.t.now = λ i. (c.type_inv.t i).fits in
    let e = list_good _ c.args.depth _ _ c.in-Ok-List.ensures _ c.in-Ok-List.field-0-is c.if-depth-gt0.true in
    (omega (arith, c.if-depth-gt0.true), (omega (arith, list_in _ _ _ _ c.in-Ok-List.ensures c.in-Ok-List.field-0-is), list_few _ c.args.depth _ _ _ hb e refl))

pub walk_list-returns-in_err-x-in-Ok-List : goal.walk_list-returns-in_err-x-in-Ok-List
walk_list-returns-in_err-x-in-Ok-List t c =
    let p = err_from_is_err_and c.from_residual.result c.from_residual.ensures.1 in
    let e = list_good _ c.args.depth _ _ c.in-Ok-List.ensures _ c.in-Ok-List.field-0-is c.if-depth-gt0.true in
    rw (p.1, p.2) (counted_stop _ _ _ _ _ _ _ _ _ c.loop.invariant _ c.loop-test.true (at_list _ _ _ _ e _ _ refl c.in_err-x-in-Ok-List.ensures))

pub walk_list-returns-in_err-x-in_default : goal.walk_list-returns-in_err-x-in_default
walk_list-returns-in_err-x-in_default t c =
    let p = err_from_is_err_and c.from_residual-in_err-x-in_default.result c.from_residual-in_err-x-in_default.ensures.1 in
    rw (p.1, p.2) (counted_stop _ _ _ _ _ _ _ _ _ c.loop.invariant _ c.loop-test.true c.in_err-x-in_default.ensures)

pub walk_list-overflow_add-cost-in-loop : goal.walk_list-overflow_add-cost-in-loop
walk_list-overflow_add-cost-in-loop t c = omega (arith, (walk-list-bound t c).0)

pub walk_list-overflow_add-empty-in-loop : goal.walk_list-overflow_add-empty-in-loop
walk_list-overflow_add-empty-in-loop t c = omega (arith, (walk-list-bound t (goal.at.walk_list-overflow_add-empty-in-loop t c).After-struct_known-1).1)

pub walk_list-loop-preserved-in-Ok-Symbol : goal.walk_list-loop-preserved-in-Ok-Symbol
walk_list-loop-preserved-in-Ok-Symbol t c =
    let l = c.loop in
    let e = symbol_good _ _ _ _ c.in-Ok-Symbol.ensures _ _ c.in-Ok-Symbol.field-0-is c.is_name.ensures c.if-is_name.true in
    counted_name _ _ _ _ _ _ _ _ _ l.invariant _ _ _ _ _ c.loop-test.true e refl refl refl refl

pub walk_list-loop-preserved-then-m-eq0 : goal.walk_list-loop-preserved-then-m-eq0
walk_list-loop-preserved-then-m-eq0 t c =
    let e = list_good _ c.args.depth _ _ c.in-Ok-List.ensures _ c.in-Ok-List.field-0-is c.if-depth-gt0.true in
    let h = list_in _ _ _ _ c.in-Ok-List.ensures c.in-Ok-List.field-0-is in
    counted_empty _ _ _ _ _ _ _ _ _ c.loop.invariant _ _ _ _ _ _ c.loop-test.true (omega (arith, h)) e c.if-m-eq0.true c.own_wrong.ensures refl refl refl c.earlier-wrong.ensures

pub walk_list-loop-preserved : goal.walk_list-loop-preserved
walk_list-loop-preserved t c =
    let l = c.loop in
    let i = walk-list-item t (goal.at.walk_list-loop-preserved t c).After-struct_known-1 in
    counted_tree _ _ _ _ _ _ _ _ _ l.invariant _ _ _ _ _ c.loop-test.true i refl refl refl c.earlier-wrong-in-loop.ensures

pub walk_list-returns : goal.walk_list-returns
walk_list-returns t c = let l = c.loop in counted_end _ _ _ _ _ _ _ _ _ l.invariant _ _ c.loop-test.false c.own_wrong-own.ensures (refl, refl, refl, c.earlier.ensures)

-- no sum wraps at a binding
pub walk_binding-overflow_add-cost-2 : goal.walk_binding-overflow_add-cost-2
walk_binding-overflow_add-cost-2 t c =
    let n = c.requires in
    let y = walked_tree _ _ _ _ c.in_ok-x.ensures in
    let g = small _ _ _ _ _ _ (omega (arith, n.0, n.1)) y.0 in
    omega (arith, g.bound, g.past, g.within, n.0, n.1)

pub walk_binding-returns : goal.walk_binding-returns
walk_binding-returns t c =
    let n = c.requires in
    binding_good _ c.args.depth _ _ _ _ n.0 (omega (arith, n.0, n.1)) c.in_ok-x.ensures (refl, refl, refl, refl)

pub walk_tree-returns-in-Ok-Binding : goal.walk_tree-returns-in-Ok-Binding
walk_tree-returns-in-Ok-Binding t c = at_binding _ c.args.depth _ _ c.in-Ok-Binding.ensures _ _ c.in-Ok-Binding.field-0-is c.walk_binding.ensures
