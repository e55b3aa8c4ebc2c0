-- `wide::digits::count`: the digits counted and those of the two limbs left are those of n. The measure is the number left.
use Rattle.std.proofs.Common.{◌≡◌, ℕ, length, ap, arith}
use Rattle.wide.specs.Value.{val}
use Rattle.wide.specs.Text.{digits_of}
use Rattle.wide.proofs.Decimals.{text_top}
use Rattle.wide.proofs.TwoLimbs.{val_lt}
use Rattle.wide.proofs.Spelling.{big, alone, falls, count_more, count_small}
use Rattle.wide.proofs.digits.count.Goals as goal

pub loop-rest-init : goal.loop-rest-init
loop-rest-init c = record { bound = val_lt c.args.n (omega arith) (omega arith); sum = omega arith }

pub overflow_add-k : goal.overflow_add-k
overflow_add-k c = omega (arith, count_small c.loop-rest.invariant (omega (arith, text_top (val c.args.n))))

pub loop-rest-smaller : goal.loop-rest-smaller
unfolding val
loop-rest-smaller c =
    let n = c.loop-rest.rest in
    falls _ (val n) (big n.hi n.lo c.loop-rest-test.true) c.by_ten.ensures.0

pub loop-rest-preserved : goal.loop-rest-preserved
unfolding val
loop-rest-preserved c =
    let n = c.loop-rest.rest in
    count_more _ _ (val n) _ c.loop-rest.invariant (big n.hi n.lo c.loop-rest-test.true) c.by_ten.ensures.0

pub overflow_add-result : goal.overflow_add-result
overflow_add-result c = omega (arith, count_small c.loop-rest.invariant (omega (arith, text_top (val c.args.n))), text_top c.loop-rest.rest.lo, c.count_low.ensures)

pub returns : goal.returns
unfolding val
returns c =
    let n = c.loop-rest.rest in
    let e : length (digits_of (val n)) ≡ length (digits_of n.lo) = ap (λ (x : ℕ). length (digits_of x)) (alone n.hi n.lo c.loop-rest-test.false) in
    omega (arith, c.loop-rest.invariant.sum, c.count_low.ensures)
