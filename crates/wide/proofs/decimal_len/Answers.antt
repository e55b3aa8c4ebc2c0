-- `wide::decimal_len`: the digits of the magnitude, and a place for the minus sign.
use Rattle.std.proofs.Common.{length, sym, ap, ◌∙◌, arith}
use Rattle.wide.specs.Value.{val, value}
use Rattle.wide.proofs.Decimals.{text_top}
use Rattle.wide.proofs.Spelling.{minus_text, plain_text}
use Rattle.wide.proofs.decimal_len.Goals as goal

pub overflow_add-result : goal.overflow_add-result
overflow_add-result c = omega (arith, c.count-k.ensures, text_top (val c.magnitude.result))

pub returns-then-negative : goal.returns-then-negative
returns-then-negative c =
    let e = minus_text (value c.args.w) _ _ c.magnitude.ensures c.negative.ensures c.if-negative.true in
    omega (arith, c.count-k.ensures, ap length e)

pub returns : goal.returns
returns c =
    let e = plain_text (value c.args.w) _ _ c.magnitude.ensures c.negative.ensures c.if-negative.false in
    c.count-k.ensures ∙ sym (ap length e)
