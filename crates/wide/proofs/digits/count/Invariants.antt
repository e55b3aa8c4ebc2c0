-- `wide::digits::count`: the digits counted and those of the two limbs left are those of n. The measure is the number left.
use Rattle.std.proofs.Common.{length}
use Rattle.wide.specs.Value.{val}
use Rattle.wide.specs.Text.{digits_of}
use Rattle.wide.proofs.Spelling.{Counted}
use Rattle.wide.proofs.digits.count.Given as goal

abbrev pub invariant-loop-rest : goal.invariant-loop-rest
invariant-loop-rest l = Counted (length (digits_of (val l.initial.rest))) l.k (val l.rest)

abbrev pub decreases-loop-rest : goal.decreases-loop-rest
decreases-loop-rest l = val l.rest
