-- `wide::digits::count_low`: the power of ten that x reaches tells its digits, and 0 has one.
use Rattle.std.proofs.Common.{sym, arith}
use Rattle.wide.proofs.Spelling.{count_one, count_power, low_lt}
use Rattle.wide.proofs.digits.count_low.Goals as goal

pub returns-in-Some : goal.returns-in-Some
returns-in-Some c = let e = c.in-Some.ensures in sym (count_power c.in-Some.power c.args.x e.power_le e.next_power_gt (low_lt c.args.x (omega arith)))

pub returns-in-None : goal.returns-in-None
returns-in-None c = sym (count_one c.args.x (omega (arith, c.in-None.ensures.none)))
