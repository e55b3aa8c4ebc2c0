-- `wide::negative`: the sign is that of the high limb.
use Rattle.std.proofs.Common.{ℤ, pos, ap, ◌∙◌, arith, w64}
use lib.Signed.{lt_z}
use mir.ValLaws.{to_z-of_z}
use Rattle.wide.proofs.Signs.{sign}
use Rattle.wide.proofs.negative.Goals as goal

pub returns : goal.returns
returns c =
    let w = c.args.w in
    ap (λ (z : ℤ). lt_z z (pos 0)) (to_z-of_z w64 w.hi (record { sfits = omega arith })) ∙ sign w.hi w.lo (omega arith)
