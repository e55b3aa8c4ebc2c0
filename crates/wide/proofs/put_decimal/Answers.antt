-- `wide::put_decimal`: the text's length is known before a byte is put; a minus sign comes first, and the digits go into the rest of the buffer.
use Rattle.std.proofs.Common.{ℕ, List, length, sym, ap, ◌∙◌, arith, length-set}
use Rattle.lists.specs.Over.{over}
use Rattle.wide.specs.Value.{val, value}
use Rattle.wide.specs.Text.{digits_of, decimal}
use Rattle.wide.proofs.Decimals.{text_top}
use Rattle.wide.proofs.Spelling.{minus_text, plain_text}
use Rattle.lists.proofs.Blocks.{fits_in, no_room}
use Rattle.wide.proofs.Putting.{minus_put, minus_room}
use Rattle.wide.proofs.put_decimal.Goals as goal

pub overflow_add-result : goal.overflow_add-result
overflow_add-result c = omega (arith, c.count-k.ensures, text_top (val c.magnitude-n.result))

pub returns-then-out-k : goal.returns-then-out-k
returns-then-out-k c =
    let z = value c.args.w in
    let e = minus_text z _ _ c.magnitude-n.ensures c.negative.ensures c.if-negative.true in
    let k = c.count-k.ensures in
    (omega (arith, k, ap length e), no_room (decimal z) _ (omega (arith, k, ap length e, c.if-out-k.true)))

pub slice_bounds-put_digits-count : goal.slice_bounds-put_digits-count
slice_bounds-put_digits-count c = simp length-set (omega arith)

pub slice_bounds-put_digits-start : goal.slice_bounds-put_digits-start
slice_bounds-put_digits-start c = simp length-set (omega arith)

pub put_digits-requires : goal.put_digits-requires
put_digits-requires c = (c.count-k.ensures, minus_room c.args.out.now _ c.if-out-k.false)

pub returns-then-negative : goal.returns-then-negative
returns-then-negative c =
    let a = c.args in
    let z = value a.w in
    let e = minus_text z _ _ c.magnitude-n.ensures c.negative.ensures c.if-negative.true in
    let k = c.count-k.ensures in
    let o = c.if-out-k.false in
    let n = c.magnitude-n.result in
    (omega (arith, k, ap length e), fits_in (decimal z) a.out.now _ (omega (arith, k, o, ap length e)) ((minus_put a.out.now _ (digits_of (val n)) (omega (arith, k, o)) c.put_digits.ensures).holds ∙ ap (λ (t : List ℕ). over t a.out.now) (sym e)))

pub returns-then-out-k-2 : goal.returns-then-out-k-2
returns-then-out-k-2 c =
    let z = value c.args.w in
    let e = plain_text z _ _ c.magnitude-n.ensures c.negative.ensures c.if-negative.false in
    let k = c.count-k.ensures in
    (k ∙ sym (ap length e), no_room (decimal z) _ (omega (arith, k, ap length e, c.if-out-k-2.true)))

pub returns : goal.returns
returns c =
    let a = c.args in
    let z = value a.w in
    let e = plain_text z _ _ c.magnitude-n.ensures c.negative.ensures c.if-negative.false in
    let k = c.count-k.ensures in (
      k ∙ sym (ap length e),
      fits_in (decimal z) a.out.now _ (omega (arith, k, c.if-out-k-2.false, ap length e))
          (c.put_digits-2.ensures ∙ ap (λ (t : List ℕ). over t a.out.now) (sym e)),
    )
