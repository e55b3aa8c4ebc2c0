-- `settings::finding::find`: what is left of the file to read decides the answer, at every turn of the loop (`Walking.Walk`).
use Prim.Native.Nat.{◌-◌}
use lib.ListN.{length}
use Rattle.settings.specs.Kinds.{kind_number}
use Rattle.settings.proofs.Walking.{Walk}
use Rattle.settings.proofs.finding.find.Given as goal

abbrev pub invariant-loop-at : goal.invariant-loop-at
invariant-loop-at l = Walk l.f (kind_number l.kind) l.seen.words l.at l.found

abbrev pub decreases-loop-at : goal.decreases-loop-at
decreases-loop-at l = length l.f - l.at
