-- `wide::digits::put_low`: the digits left to put and those that stand make up the text.
use Rattle.std.proofs.Common.{refl, arith}
use Rattle.wide.proofs.Spelling.{begin, one_left, more_left, last_left, step, last, low_lt}
use Rattle.wide.proofs.digits.put_low.Goals as goal

pub loop-i-init : goal.loop-i-init
loop-i-init c = begin _ _ _ (low_lt c.args.x (omega arith)) c.requires.0 c.requires.1

pub loop-i-preserved : goal.loop-i-preserved
loop-i-preserved c = step _ _ _ _ c.loop-i.rest _ _ c.loop-i.invariant (more_left c.loop-i.invariant c.loop-i-test.true) refl refl

pub overflow_cast-out-2 : goal.overflow_cast-out-2
overflow_cast-out-2 c = omega (arith, last_left c.loop-i.invariant c.loop-i-test.false)

pub overflow_add-out-2 : goal.overflow_add-out-2
overflow_add-out-2 c = omega (arith, last_left c.loop-i.invariant c.loop-i-test.false)

pub bounds-out-0 : goal.bounds-out-0
bounds-out-0 c = let i = c.loop-i.invariant in omega (arith, one_left i, i.room, i.long)

pub returns : goal.returns
returns c = last _ _ _ _ _ c.loop-i.invariant (last_left c.loop-i.invariant c.loop-i-test.false)
