-- `classes::is_line_end`: the comparisons and the class agree on every byte.
use Rattle.std.proofs.Common.{◌∙◌, rules, eq-eqb, ne_eqb}
use Rattle.classes.proofs.Rules.{rules_of}
use Rattle.classes.proofs.is_line_end.Goals as goal

pub returns-then-b-eq10 : goal.returns-then-b-eq10
returns-then-b-eq10 c =
    let e = eq-eqb c.args.b 10 c.if-b-eq10.true in
    e ∙ rw e at (rules_of c.args.b (search rules)).line_end_is

pub returns-else-b-eq10 : goal.returns-else-b-eq10
returns-else-b-eq10 c = rw (ne_eqb c.args.b 10 c.if-b-eq10.false) at (rules_of c.args.b (search rules)).line_end_is
