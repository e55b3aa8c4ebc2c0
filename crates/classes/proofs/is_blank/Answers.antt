-- `classes::is_blank`: the number and the class agree on every byte.
use Rattle.std.proofs.Common.{rules}
use Rattle.classes.proofs.Rules.{rules_of}
use Rattle.classes.proofs.is_blank.Goals as goal

pub returns : goal.returns
returns c = rw c.number_of.ensures (rules_of c.args.b (search rules)).number_blank
