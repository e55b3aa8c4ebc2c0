-- `classes::class_of`: the number in the table names the class, by the one computed test.
use Rattle.std.proofs.Common.{ap, ◌∙◌, rules}
use Rattle.classes.specs.Numbers.{named}
use Rattle.classes.proofs.Rules.{rules_of}
use Rattle.classes.proofs.class_of.Goals as goal

pub returns : goal.returns
returns c = c.from.ensures ∙ ap named c.number_of.ensures ∙ (rules_of c.args.b (search rules)).class
