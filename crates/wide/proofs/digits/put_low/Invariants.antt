-- `wide::digits::put_low`: the digits left to put and those that stand make up the text.
use Rattle.std.proofs.Common.{length}
use Rattle.lists.specs.Over.{over}
use Rattle.wide.specs.Text.{digits_of}
use Rattle.wide.proofs.Spelling.{Fill}
use Rattle.wide.proofs.digits.put_low.Given as goal

abbrev pub invariant-loop-i : goal.invariant-loop-i
invariant-loop-i l = Fill (over (digits_of l.initial.rest) l.initial.out) l.out (length l.initial.out) l.i l.rest
