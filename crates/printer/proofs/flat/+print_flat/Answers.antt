-- `printer::flat::print_flat`: the depth falls at each call; the laws of each record and of each item are cited.
use mathlib.Core.Path.{◌≡◌, refl, sym, ◌∙◌}
use Prim.Native.Nat.{ℕ, ◌-◌}
use native.Mathlib.Omega.{arith}
use lib.Dec.{eqb}
use lib.ListN.{length}
use Rattle.table.proofs.Reading.{symbol_in, integer_in, binding_in, list_in}
use Rattle.records.proofs.Heads.{payload_size}
use Rattle.printer.specs.PrivateWriting.{line}
use Rattle.printer.proofs.CheckedRecords.{good_found, symbol_found, integer_found, binding_found, list_found, Named, symbol_named}
use Rattle.printer.proofs.ListTexts.{flatly, space_put, line_symbol, line_integer, line_binding, line_list}
use Rattle.printer.proofs.LayoutBounds.{right_line}
use Rattle.printer.proofs.ListWriting.{atom_written, binding_size, binding_written, filling_begin, filling_is, filling_item, filling_step, end_size, filling_end}
use Rattle.printer.proofs.flat.+print_flat.Goals as goal
use Rattle.printer.proofs.flat.+print_flat.Goals.{After-put_optional, In-Some, in-Some, in_default}

-- the space before the item
spaced : (t : ℕ) (c : After-put_optional t)
    → c.put_optional.result ≡ length (flatly.before (eqb c.loop-i.i 0))
spaced t c = (space_put _ _ _ _ _ c.then_some.ensures c.put_optional.ensures).0

-- a symbol among the items
named : (t : ℕ) (c : In-Some t)
    → Named c.args.t.now (c.args.depth - 1) c.loop-i.p c.in-Some.len
named t c =
    let v = c.loop-i.invariant in
    symbol_named c.args.t.now (c.args.depth - 1) c.loop-i.p _ v.within (filling_item v c.loop-i-test.true).right c.in-Some.ensures

pub unwrap-node-requires : goal.unwrap-node-requires
unwrap-node-requires t c = good_found _ _ _ _ c.requires.3 c.record_at.ensures

pub put_symbol-n-requires : goal.put_symbol-n-requires
put_symbol-n-requires t c = let b = symbol_in _ _ _ _ (sym c.unwrap-node.ensures ∙ c.record_at.ensures) c.in-Symbol.is in (b.0, omega (arith, c.requires))

pub overflow_add-result : goal.overflow_add-result
overflow_add-result t c = omega (arith, symbol_in _ _ _ _ (sym c.unwrap-node.ensures ∙ c.record_at.ensures) c.in-Symbol.is, c.requires)

pub put_integer-n-requires : goal.put_integer-n-requires
put_integer-n-requires t c = omega (arith, integer_in _ _ _ (sym c.unwrap-node.ensures ∙ c.record_at.ensures) c.in-Integer.is, c.requires)

pub put_name-k-requires : goal.put_name-k-requires
put_name-k-requires t c =
    let b = binding_in _ _ _ _ (sym c.unwrap-node.ensures ∙ c.record_at.ensures) c.in-Binding.is in
    let r = c.requires in
    (b.0, omega arith)

pub overflow_add-at : goal.overflow_add-at
overflow_add-at t c = omega (arith, binding_in _ _ _ _ (sym c.unwrap-node.ensures ∙ c.record_at.ensures) c.in-Binding.is, c.requires)

pub overflow_sub-depth : goal.overflow_sub-depth
overflow_sub-depth t c = (binding_found _ _ _ _ c.requires.3 (sym c.unwrap-node.ensures ∙ c.record_at.ensures) _ c.in-Binding.is).deeper

pub print_flat-tree-requires : goal.print_flat-tree-requires
print_flat-tree-requires t c =
    let r = c.requires in
    let h = binding_found _ _ _ _ r.3 (sym c.unwrap-node.ensures ∙ c.record_at.ensures) _ c.in-Binding.is in
    let b = binding_in _ _ _ _ (sym c.unwrap-node.ensures ∙ c.record_at.ensures) c.in-Binding.is in
    let d = h.deeper in
    (omega arith, (omega arith, r.1, omega arith, h.right))

pub overflow_add-result-in-Binding : goal.overflow_add-result-in-Binding
overflow_add-result-in-Binding t c =
    let r = c.requires in
    let h = binding_found _ _ _ _ r.3 (sym c.unwrap-node.ensures ∙ c.record_at.ensures) _ c.in-Binding.is in
    let e = binding_size line line _ _ _ _ (line_binding _) h _ c.put_name-k.ensures.0 in
    omega (arith, e, c.print_flat-tree.ensures.1.0, right_line c.args.t.now c.args.depth c.args.at (λ i. (c.type_inv.t i).fits) r.0 r.2 r.3, r.1)

pub loop-i-init : goal.loop-i-init
loop-i-init t c =
    let r = c.requires in
    let h = list_found _ _ _ _ r.3 (sym c.unwrap-node.ensures ∙ c.record_at.ensures) _ c.in-List.is in
    let k = list_in _ _ _ _ (sym c.unwrap-node.ensures ∙ c.record_at.ensures) c.in-List.is in
    filling_begin c.args.t.now c.args.at c.args.depth _ flatly 0 line (line_list _) _ _ h
    (omega (arith, right_line c.args.t.now c.args.depth c.args.at (λ i. (c.type_inv.t i).fits) r.0 r.2 r.3, r.1)) (omega (arith, r.0)) c.put_byte-w.ensures.0

pub overflow_add-k : goal.overflow_add-k
overflow_add-k t c =
    let v = c.loop-i.invariant in
    omega (arith, (filling_item v c.loop-i-test.true).room, v.small, spaced t (goal.at.overflow_add-k t c).After-put_optional)

pub put_symbol-requires : goal.put_symbol-requires
put_symbol-requires t c = let n = named t (goal.at.put_symbol-requires t c).In-Some in (n.0, n.1)

pub overflow_add-w : goal.overflow_add-w
overflow_add-w t c =
    let v = c.loop-i.invariant in
    let n = named t (goal.at.overflow_add-w t c).In-Some in
    let k = payload_size c.args.t.now c.loop-i.p _ n.1 n.0 in
    omega (arith, (filling_item v c.loop-i-test.true).room, v.small, k, n.1, c.put_symbol.ensures.0, spaced t (goal.at.overflow_add-w t c).After-put_optional, c.requires)

pub overflow_add-p-in-Some : goal.overflow_add-p-in-Some
overflow_add-p-in-Some t c = omega (arith, (named t (goal.at.overflow_add-p-in-Some t c).In-Some).1, c.requires)

pub print_flat-item-requires : goal.print_flat-item-requires
print_flat-item-requires t c =
    let v = c.loop-i.invariant in
    let d = v.deeper in
    (omega arith, (v.within, c.requires.1, omega (arith, c.requires), (filling_item v c.loop-i-test.true).right))

pub overflow_add-w-in_default : goal.overflow_add-w-in_default
overflow_add-w-in_default t c =
    let v = c.loop-i.invariant in
    omega (arith, (filling_item v c.loop-i-test.true).room, v.small, c.print_flat-item.ensures.1.0, spaced t (goal.at.overflow_add-w-in_default t c).After-put_optional)

pub loop-i-preserved : goal.loop-i-preserved
loop-i-preserved t c =
    let v = c.loop-i.invariant in
    let l = c.loop-i-test.true in
    let e = c.min-from.ensures in
    let g = space_put _ _ _ _ _ c.then_some.ensures c.put_optional.ensures in
    elim c.match-symbol_at.branch [
      | in-Some w ↦
          let n = symbol_named c.args.t.now (c.args.depth - 1) c.loop-i.p _ v.within (filling_item v l).right w.in-Some.ensures in
          filling_is (filling_step v l _ _ _ _ _ c.put_optional.new.out w.put_symbol.new.out _ e g refl (omega arith) c.min-rest-in-loop-i.ensures
          (atom_written line _ _ _ _ _ _ _ n.2 (line_symbol _) w.put_symbol.ensures) (omega arith)) _ _ _ w.out-is w.w-is w.p-is
      | in_default w ↦
          filling_is (filling_step v l _ _ _ _ _ c.put_optional.new.out w.print_flat-item.new.out _ e g refl (omega arith) c.min-rest-in-loop-i.ensures w.print_flat-item.ensures (omega arith)) _ _ _ w.out-is w.w-is w.p-is
    ]

pub overflow_add-result-in-List : goal.overflow_add-result-in-List
overflow_add-result-in-List t c =
    let v = c.loop-i.invariant in
    omega (arith, end_size v c.loop-i-test.false 1 refl, v.small, c.put_byte-end.ensures.0)

pub returns-in-Symbol : goal.returns-in-Symbol
returns-in-Symbol t c =
    let f = symbol_found _ _ _ _ c.requires.3 (sym c.unwrap-node.ensures ∙ c.record_at.ensures) _ c.in-Symbol.is in
    atom_written line _ _ _ _ _ c.args.out.now _ f (line_symbol _) c.put_symbol-n.ensures

pub returns-in-Integer : goal.returns-in-Integer
returns-in-Integer t c =
    let f = integer_found _ _ _ _ c.requires.3 (sym c.unwrap-node.ensures ∙ c.record_at.ensures) c.in-Integer.is in
    atom_written line _ _ _ _ _ c.args.out.now _ f (line_integer _) c.put_integer-n.ensures

pub returns-in-Binding : goal.returns-in-Binding
returns-in-Binding t c =
    let h = binding_found _ _ _ _ c.requires.3 (sym c.unwrap-node.ensures ∙ c.record_at.ensures) _ c.in-Binding.is in
    binding_written line line _ _ _ _ (line_binding _) h _ _ _ _ c.args.out.now _ _ c.put_name-k.ensures c.min-rest.ensures c.print_flat-tree.ensures

pub returns-after-loop-i : goal.returns-after-loop-i
returns-after-loop-i t c =
    let h = list_found _ _ _ _ c.requires.3 (sym c.unwrap-node.ensures ∙ c.record_at.ensures) _ c.in-List.is in
    filling_end c.loop-i.invariant c.loop-i-test.false line c.args.out.now h (line_list _) _ c.put_byte-w.ensures _ _ _ c.min-rest-in-List.ensures c.put_byte-end.ensures
