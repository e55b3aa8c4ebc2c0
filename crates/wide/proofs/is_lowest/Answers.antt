-- `wide::is_lowest`: two limbs name -2^127.
use Rattle.std.proofs.Common.{refl, ◌∙◌, arith}
use Rattle.wide.specs.Value.{val}
use Rattle.wide.proofs.Lowest.{limbs_lowest}
use Rattle.wide.proofs.is_lowest.Goals as goal

pub returns : goal.returns
unfolding val
returns c = c.eq.ensures ∙ limbs_lowest c.args.w c.wide_of.result (c.wide_of.ensures ∙ refl) (omega arith) (omega arith)
