-- `printer::page::Page::print_wrapped`: the depth falls at each call; the laws of each record and of each item are cited.
use mathlib.Core.Path.{◌≡◌, refl, sym, ◌∙◌}
use Prim.Native.Nat.{ℕ, ◌+◌}
use native.Mathlib.Omega.{arith}
use lib.Dec.{eqb}
use lib.ListN.{length}
use Rattle.table.proofs.Reading.{symbol_in, integer_in, binding_in, list_in}
use Rattle.printer.specs.Layout.{Wrap, bytes, gap}
use Rattle.printer.specs.PrivateWriting.{laid}
use Rattle.printer.proofs.CheckedRecords.{good_found, symbol_found, integer_found, binding_found, list_found, found_end}
use Rattle.printer.proofs.Fits.{fits_right, list_cost, binding_cost}
use Rattle.printer.proofs.ListTexts.{broken, laid_symbol, laid_integer, laid_binding}
use Rattle.printer.proofs.LayoutBounds.{inner_le}
use Rattle.printer.proofs.LookedBound.{right_looked}
use Rattle.printer.proofs.ListCounting.{seen_symbol, seen_integer, atom_seen, binding_seen, fitting_seen, wrapped_seen, counting_begin, counting_cost, counting_step, counting_le, counting_end}
use Rattle.printer.proofs.ListWriting.{atom_written, binding_size, binding_written, filling_begin, filling_item, filling_step, end_size, filling_end}
use Rattle.printer.proofs.ListWriting.{fitting_written, wrapped_text, wrapped_ready, wrapped_item}
use Rattle.printer.proofs.page.Page.+print_wrapped.Goals as goal
use Rattle.printer.proofs.page.Page.+print_wrapped.Goals.{After-put_gap}

-- the line break before the item
gapped : (t : ℕ) (c : After-put_gap t)
    → c.put_gap.result ≡ length (bytes (gap (eqb c.loop-i.i 0) Wrap c.args.indent 0))
gapped t c = c.put_gap.ensures.0

pub unwrap-node-requires : goal.unwrap-node-requires
unwrap-node-requires t c = good_found _ _ _ _ c.requires.2 c.record_at.ensures

pub put_symbol-n-requires : goal.put_symbol-n-requires
put_symbol-n-requires t c = let b = symbol_in _ _ _ _ (sym c.unwrap-node.ensures ∙ c.record_at.ensures) c.in-Symbol.is in (b.0, omega (arith, c.requires))

pub overflow_add-result : goal.overflow_add-result
overflow_add-result t c = omega (arith, symbol_in _ _ _ _ (sym c.unwrap-node.ensures ∙ c.record_at.ensures) c.in-Symbol.is, c.requires)

pub put_integer-n-requires : goal.put_integer-n-requires
put_integer-n-requires t c = omega (arith, integer_in _ _ _ (sym c.unwrap-node.ensures ∙ c.record_at.ensures) c.in-Integer.is, c.requires)

pub put_name-k-requires : goal.put_name-k-requires
put_name-k-requires t c =
    let b = binding_in _ _ _ _ (sym c.unwrap-node.ensures ∙ c.record_at.ensures) c.in-Binding.is in
    let r = c.requires in
    (b.0, omega arith)

pub overflow_add-at : goal.overflow_add-at
overflow_add-at t c = omega (arith, binding_in _ _ _ _ (sym c.unwrap-node.ensures ∙ c.record_at.ensures) c.in-Binding.is, c.requires)

pub overflow_sub-depth : goal.overflow_sub-depth
overflow_sub-depth t c = (binding_found _ _ _ _ c.requires.2 (sym c.unwrap-node.ensures ∙ c.record_at.ensures) _ c.in-Binding.is).deeper

pub print_wrapped-tree-requires : goal.print_wrapped-tree-requires
print_wrapped-tree-requires t c =
    let r = c.requires in
    let k = c.put_name-k.ensures in
    let h = binding_found _ _ _ _ r.2 (sym c.unwrap-node.ensures ∙ c.record_at.ensures) _ c.in-Binding.is in
    let e = binding_size (laid c.args.self.now.width c.args.indent c.args.column) (laid c.args.self.now.width c.args.indent (c.args.column + c.put_name-k.result)) _ _ _ _
    (λ x. laid_binding _ x c.args.self.now.width c.args.indent c.args.column _ k.0) h _ k.0 in
    let b = binding_in _ _ _ _ (sym c.unwrap-node.ensures ∙ c.record_at.ensures) c.in-Binding.is in
    let d = h.deeper in
    (omega arith, (omega arith, omega arith, h.right, omega (arith, e, r.3), binding_cost _ _ _ _ _ _ b.0 (omega arith) h r.4))

pub overflow_add-result-in-Binding : goal.overflow_add-result-in-Binding
overflow_add-result-in-Binding t c =
    let r = c.requires in
    let k = c.put_name-k.ensures in
    let h = binding_found _ _ _ _ r.2 (sym c.unwrap-node.ensures ∙ c.record_at.ensures) _ c.in-Binding.is in
    let e = binding_size (laid c.args.self.now.width c.args.indent c.args.column) (laid c.args.self.now.width c.args.indent (c.args.column + c.put_name-k.result)) _ _ _ _
    (λ x. laid_binding _ x c.args.self.now.width c.args.indent c.args.column _ k.0) h _ k.0 in
    omega (arith, e, r.3, c.print_wrapped-tree.ensures.0.1.0)

pub returns-then-test : goal.returns-then-test
returns-then-test t c =
    let r = c.requires in
    let h = list_found _ _ _ _ r.2 (sym c.unwrap-node.ensures ∙ c.record_at.ensures) _ c.in-List.is in
    let g = fits_right c.args.self.now.table.now c.args.at c.args.self.now.width c.args.column _ _ _ h r.4 _ c.fits-test.ensures in
    let f = sym g.0 ∙ c.if-test.true in
    (fitting_written _ _ _ c.args.self.now.width c.args.indent c.args.column h f _ _ c.args.out.now _ c.print_flat-line.ensures, fitting_seen _ _ _ c.args.self.now.width c.args.indent c.args.column _ h g.1 f)

pub loop-i-init : goal.loop-i-init
loop-i-init t c =
    let r = c.requires in
    let h = list_found _ _ _ _ r.2 (sym c.unwrap-node.ensures ∙ c.record_at.ensures) _ c.in-List.is in
    let g = fits_right c.args.self.now.table.now c.args.at c.args.self.now.width c.args.column _ _ _ h r.4 _ c.fits-test.ensures in
    let no = sym g.0 ∙ c.if-test.false in
    let f = wrapped_text _ _ _ c.args.self.now.width c.args.indent c.args.column h no in
    let b = list_in _ _ _ _ (sym c.unwrap-node.ensures ∙ c.record_at.ensures) c.in-List.is in
    let m = right_looked c.args.self.now.table.now c.args.depth c.args.at c.args.self.now.width c.args.indent c.args.column r.0 r.2 in
    let e = wrapped_seen _ _ _ c.args.self.now.width c.args.indent c.args.column _ h g.1 no in
    let q = found_end c.args.self.now.table.now c.args.depth c.args.at r.0 r.2 in (
      filling_begin c.args.self.now.table.now c.args.at c.args.depth _ (broken c.args.self.now.width c.args.indent (c.args.column + 1)) c.args.column
          (laid c.args.self.now.width c.args.indent c.args.column) f _ _ h r.3 (omega arith) c.put_byte-w.ensures.0,
      counting_begin c.args.self.now.table.now c.args.at c.args.depth _ c.args.self.now.width c.args.indent (c.args.column + 1) _ h.right (list_cost _ _ _ _ _ h r.4) (omega (arith, b)) (omega (arith, e, m, q, c.args.self.now.limited)),
    )

pub overflow_add-k : goal.overflow_add-k
overflow_add-k t c =
    let v = c.loop-i.invariant.0 in
    omega (arith, (filling_item v c.loop-i-test.true).room, v.small, gapped t (goal.at.overflow_add-k t c).After-put_gap)

pub print_wrapped-item-requires : goal.print_wrapped-item-requires
print_wrapped-item-requires t c =
    let v = c.loop-i.invariant.0 in
    let u = c.loop-i.invariant.1 in
    let l = c.loop-i-test.true in
    let r = c.requires in
    let d = v.deeper in
    let j = c.item_indent.ensures in
    (omega arith, (v.within, omega (arith, r.1, j, inner_le (eqb c.loop-i.i 0) Wrap c.args.indent), (filling_item v l).right, wrapped_ready c.args.self.now.width c.args.indent v l _ _ j c.item_column.ensures, counting_cost u l (filling_item v l).right))

pub overflow_add-w : goal.overflow_add-w
overflow_add-w t c =
    let v = c.loop-i.invariant.0 in
    let l = c.loop-i-test.true in
    let s = c.args in
    let u = wrapped_item s.self.now.width s.indent v l _ _ c.item_indent.ensures c.item_column.ensures _ _ _ _ c.print_wrapped-item.ensures.0 in
    omega (arith, (filling_item v l).room, v.small, u.1.0, gapped t (goal.at.overflow_add-w t c).After-put_gap)

pub overflow_add-looked : goal.overflow_add-looked
overflow_add-looked t c =
    let o = c.loop-i.invariant in
    let l = c.loop-i-test.true in
    let x = c.print_wrapped-item.ensures in
    let n = counting_step o.1 l _ _ c.item_indent.ensures c.item_column.ensures (filling_item o.0 l).right _ _ _ x.0.0 x.1 refl in
    omega (arith, counting_le n)

pub loop-i-preserved : goal.loop-i-preserved
loop-i-preserved t c =
    let o = c.loop-i.invariant in
    let v = o.0 in
    let l = c.loop-i-test.true in
    let s = c.args in
    let u = wrapped_item s.self.now.width s.indent v l _ _ c.item_indent.ensures c.item_column.ensures _ _ _ _ c.print_wrapped-item.ensures.0 in
    let g = c.put_gap.ensures in
    let x = c.print_wrapped-item.ensures in (
      filling_step v l _ _ _ _ _ c.put_gap.new.out c.print_wrapped-item.new.out _ c.min-from.ensures g refl (omega arith) c.min-rest-in-loop-i.ensures u (omega arith),
      counting_step o.1 l _ _ c.item_indent.ensures c.item_column.ensures (filling_item v l).right _ _ _ x.0.0 x.1 (omega arith),
    )

pub overflow_add-result-in-List : goal.overflow_add-result-in-List
overflow_add-result-in-List t c =
    let v = c.loop-i.invariant.0 in
    omega (arith, end_size v c.loop-i-test.false _ c.put_close-end.ensures.0, v.small)

pub returns-in-Symbol : goal.returns-in-Symbol
returns-in-Symbol t c =
    let f = symbol_found _ _ _ _ c.requires.2 (sym c.unwrap-node.ensures ∙ c.record_at.ensures) _ c.in-Symbol.is in
    (atom_written (laid c.args.self.now.width c.args.indent c.args.column) _ _ _ _ _ c.args.out.now _ f (laid_symbol _ _ c.args.indent c.args.column) c.put_symbol-n.ensures, atom_seen _ _ _ c.args.self.now.width c.args.indent c.args.column f (seen_symbol _ c.args.self.now.width c.args.indent c.args.column))

pub returns-in-Integer : goal.returns-in-Integer
returns-in-Integer t c =
    let f = integer_found _ _ _ _ c.requires.2 (sym c.unwrap-node.ensures ∙ c.record_at.ensures) c.in-Integer.is in
    (atom_written (laid c.args.self.now.width c.args.indent c.args.column) _ _ _ _ _ c.args.out.now _ f (laid_integer _ _ c.args.indent c.args.column) c.put_integer-n.ensures, atom_seen _ _ _ c.args.self.now.width c.args.indent c.args.column f (seen_integer _ c.args.self.now.width c.args.indent c.args.column))

pub returns-in-Binding : goal.returns-in-Binding
returns-in-Binding t c =
    let k = c.put_name-k.ensures in
    let h = binding_found _ _ _ _ c.requires.2 (sym c.unwrap-node.ensures ∙ c.record_at.ensures) _ c.in-Binding.is in
    let x = c.print_wrapped-tree.ensures in (
      binding_written (laid c.args.self.now.width c.args.indent c.args.column) (laid c.args.self.now.width c.args.indent (c.args.column + c.put_name-k.result)) _ _ _ _
          (λ x. laid_binding _ x c.args.self.now.width c.args.indent c.args.column _ k.0) h _ _ _ _ c.args.out.now _ _ k c.min-rest.ensures x.0,
      binding_seen _ _ _ _ c.args.self.now.width c.args.indent c.args.column _ _ h k.0 x.1,
    )

pub returns-after-loop-i : goal.returns-after-loop-i
returns-after-loop-i t c =
    let r = c.requires in
    let h = list_found _ _ _ _ r.2 (sym c.unwrap-node.ensures ∙ c.record_at.ensures) _ c.in-List.is in
    let g = fits_right c.args.self.now.table.now c.args.at c.args.self.now.width c.args.column _ _ _ h r.4 _ c.fits-test.ensures in
    let no = sym g.0 ∙ c.if-test.false in
    let f = wrapped_text _ _ _ c.args.self.now.width c.args.indent c.args.column h no in
    let o = c.loop-i.invariant in (
      filling_end o.0 c.loop-i-test.false (laid c.args.self.now.width c.args.indent c.args.column) c.args.out.now h f _ c.put_byte-w.ensures _ _ _ c.min-rest-in-List.ensures
          c.put_close-end.ensures,
      counting_end o.1 c.loop-i-test.false ∙ sym (wrapped_seen _ _ _ c.args.self.now.width c.args.indent c.args.column _ h g.1 no),
    )
