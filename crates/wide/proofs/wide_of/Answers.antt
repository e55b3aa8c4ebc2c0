-- `wide::wide_of`: the high limb's sign is the integer's.
use Rattle.std.proofs.Common.{ℤ, ap, ◌∙◌, arith, w64}
use mir.ValLaws.{to_z-of_z}
use Rattle.wide.specs.Value.{val, value_of}
use Rattle.wide.proofs.Signs.{joined}
use Rattle.wide.proofs.wide_of.Goals as goal

pub returns : goal.returns
unfolding val
returns c =
    let n = c.args.n in
    ap (λ (z : ℤ). value_of z n.lo) (to_z-of_z w64 c.cast_signed.result (record { sfits = c.cast_signed.type_inv }) ∙ c.cast_signed.ensures)
    ∙ joined n.hi n.lo (omega arith) (omega arith)
