-- `classes::is_rparen`: the comparisons and the class agree on every byte.
use Rattle.std.proofs.Common.{rules}
use Rattle.classes.proofs.Rules.{rules_of}
use Rattle.classes.proofs.is_rparen.Goals as goal

pub returns : goal.returns
returns c = (rules_of c.args.b (search rules)).rparen_is
