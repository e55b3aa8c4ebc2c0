-- `wide::digits::put_digits`: the digits left to put and those that stand make up the text; the low limb's are put by `put_low`. The measure is the number left.
use Rattle.std.proofs.Common.{length}
use Rattle.lists.specs.Over.{over}
use Rattle.wide.specs.Value.{val}
use Rattle.wide.specs.Text.{digits_of}
use Rattle.wide.proofs.Spelling.{Fill}
use Rattle.wide.proofs.digits.put_digits.Given as goal

abbrev pub invariant-loop-rest : goal.invariant-loop-rest
invariant-loop-rest l = Fill (over (digits_of (val l.initial.rest)) l.initial.out) l.out (length l.initial.out) l.at (val l.rest)

abbrev pub decreases-loop-rest : goal.decreases-loop-rest
decreases-loop-rest l = val l.rest
