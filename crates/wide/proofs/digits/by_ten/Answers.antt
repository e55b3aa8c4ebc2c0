-- `wide::digits::by_ten`: each step's remainder is below 10, so that no part is above 64 bits.
use Rattle.std.proofs.Common.{◌/◌, ◌%◌, ◌^◌, arith, mod-lt, lit<}
use Rattle.wide.specs.Value.{val}
use Rattle.wide.proofs.Tens.{quotient, digit, pair_fits, upper_lt}
use Rattle.wide.proofs.digits.by_ten.Goals as goal

pub overflow_add-a : goal.overflow_add-a
overflow_add-a c = let n = c.args.n in record { fits = pair_fits (n.hi % 10) (n.lo / 2 ^ 32) (mod-lt n.hi (lit< tt)) (upper_lt n.lo (omega arith)) }

pub returns : goal.returns
unfolding val
returns c = (quotient c.args.n.hi c.args.n.lo, digit c.args.n.hi c.args.n.lo)
