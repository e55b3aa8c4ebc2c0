-- `wide::digits::put_digits`: the digits left to put and those that stand make up the text; the low limb's are put by `put_low`. The measure is the number left.
use Rattle.std.proofs.Common.{arith}
use Rattle.wide.specs.Value.{val}
use Rattle.wide.proofs.TwoLimbs.{val_lt}
use Rattle.wide.proofs.Spelling.{begin, one_left, step, big, falls, glyph_fits, room_low, rest_low}
use Rattle.wide.proofs.digits.put_digits.Goals as goal

pub loop-rest-init : goal.loop-rest-init
loop-rest-init c = begin _ _ _ (val_lt c.args.n (omega arith) (omega arith)) c.requires.0 c.requires.1

pub overflow_sub-at : goal.overflow_sub-at
overflow_sub-at c = one_left c.loop-rest.invariant

pub overflow_add-out : goal.overflow_add-out
overflow_add-out c = record { fits = glyph_fits _ _ c.by_ten-t.ensures.1 }

pub bounds-out-at : goal.bounds-out-at
bounds-out-at c =
    let i = c.loop-rest.invariant in
    omega (arith, one_left i, i.room, i.long)

pub loop-rest-smaller : goal.loop-rest-smaller
unfolding val
loop-rest-smaller c =
    let n = c.loop-rest.rest in
    falls _ (val n) (big n.hi n.lo c.loop-rest-test.true) c.by_ten-t.ensures.0

pub loop-rest-preserved : goal.loop-rest-preserved
unfolding val
loop-rest-preserved c =
    let l = c.loop-rest in
    step _ _ _ _ (val l.rest) _ _ l.invariant (big l.rest.hi l.rest.lo c.loop-rest-test.true) c.by_ten-t.ensures.1 c.by_ten-t.ensures.0

pub put_low-requires : goal.put_low-requires
unfolding val
put_low-requires c =
    let l = c.loop-rest in
    room_low _ _ _ _ l.rest.hi _ l.invariant c.loop-rest-test.false

pub returns : goal.returns
unfolding val
returns c =
    let l = c.loop-rest in
    rest_low _ _ _ _ _ l.rest.hi _ l.invariant c.loop-rest-test.false c.put_low.ensures
