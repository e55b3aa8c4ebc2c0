-- `runs::before_mark`: the zero bytes below the first mark.
use Rattle.std.proofs.Common.{arith}
use lib.Count.{trailing_le}
use Rattle.classes.proofs.Zeros.{few_zeros, zero_bytes}
use Rattle.classes.proofs.runs.before_mark.Goals as goal

pub overflow_cast-result : goal.overflow_cast-result
overflow_cast-result c = omega (arith, trailing_le 64 c.args.m)

pub returns : goal.returns
returns c = (few_zeros c.args.m c.requires c.ranges.m.fits, zero_bytes c.args.m)
