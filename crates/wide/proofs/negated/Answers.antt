-- `wide::negated`: both ways of the borrow, by one law of two limbs.
use Rattle.std.proofs.Common.{ℕ, ◌+◌, ◌-◌, ◌%◌, ◌^◌, arith}
use Rattle.wide.specs.Value.{val}
use Rattle.wide.proofs.Signs.{negated_law, borrowed}
use Rattle.wide.proofs.negated.Goals as goal

pub returns : goal.returns
unfolding val
returns c =
    let n = c.args.n in
    let low = c.overflowing_sub-lo in
    let high : ℕ = (0 + (2 ^ 64 - n.hi)) % 2 ^ 64 in
    negated_law n.hi n.lo _ low.result.0 high c.from.result (omega arith) (omega arith) (omega arith) (omega arith) (omega arith)
    low.ensures.value (omega arith) (omega arith) (borrowed n.lo c.from.result low.result.1 low.ensures.overflow c.from.ensures)
