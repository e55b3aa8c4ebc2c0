-- `wide::with_sign`: only 2^127 has the limbs that are refused.
use Rattle.std.proofs.Common.{sym, ◌∙◌, arith, eqb-true}
use Rattle.lists.proofs.Choice.{and_left, and_right}
use Rattle.wide.specs.Value.{val}
use Rattle.wide.proofs.Minus.{refuses, negates, keeps, unlike}
use Rattle.wide.proofs.with_sign.Goals as goal

pub returns-then-not-minus : goal.returns-then-not-minus
returns-then-not-minus c = keeps _ _ _ c.if-not-minus.true c.wide_of.ensures

pub returns-then-eq : goal.returns-then-eq
unfolding val
returns-then-eq c =
    let e = sym c.eq.ensures ∙ c.if-eq.true in
    refuses _ _ _ c.if-not-minus.false (eqb-true _ _ (and_left _ _ e)) (eqb-true _ _ (and_right _ _ e))

pub returns : goal.returns
unfolding val
returns c =
    negates _ _ _ _ c.if-not-minus.false (unlike c.args.n.hi c.args.n.lo (omega arith) (sym c.eq.ensures ∙ c.if-eq.false)) c.negated.ensures c.wide_of-2.ensures
