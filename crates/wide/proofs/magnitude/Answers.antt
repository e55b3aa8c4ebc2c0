-- `wide::magnitude`: the bits as they are, or negated below 0.
use Rattle.std.proofs.Common.{ℕ, ◌+◌, ◌-◌, ◌*◌, ◌%◌, ◌^◌, sym, ap, ◌∙◌, arith, w64, SFits, of_z}
use mir.ValLaws.{to_z-of_z}
use Rattle.wide.specs.Value.{val}
use Rattle.wide.proofs.Signs.{size_below, size_above}
use Rattle.wide.proofs.magnitude.Goals as goal

pub returns-then-negative : goal.returns-then-negative
unfolding val
returns-then-negative c =
    let w = c.args.w in
    let f : SFits w64 w.hi = record { sfits = omega arith } in
    c.negated.ensures ∙ ap (λ (x : ℕ). (2 ^ 128 - (x * 2 ^ 64 + w.lo)) % 2 ^ 128) (c.as_unsigned-hi.ensures ∙ ap (of_z w64) (to_z-of_z w64 w.hi f))
    ∙ size_below w.hi w.lo f (omega arith) (sym c.negative.ensures ∙ c.if-negative.true)

pub returns : goal.returns
unfolding val
returns c =
    let w = c.args.w in
    ap (λ (x : ℕ). x * 2 ^ 64 + w.lo) (c.as_unsigned-hi.ensures ∙ ap (of_z w64) (to_z-of_z w64 w.hi (record { sfits = omega arith })))
    ∙ size_above w.hi w.lo (omega arith) (sym c.negative.ensures ∙ c.if-negative.false)
