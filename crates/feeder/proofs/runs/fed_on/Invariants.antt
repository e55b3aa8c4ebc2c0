-- `feeder::runs::fed_on`: run by run, what is left of the call is the call.
use Prim.Native.Nat.{◌-◌, ◌≤◌}
use mathlib.Core.Path.{◌≡◌}
use lib.ListN.{length}
use Rattle.feeder.specs.Feeding.{feed_from}
use Rattle.feeder.specs.PrivateRuns.{call}
use Rattle.feeder.proofs.runs.fed_on.Given as goal

abbrev pub invariant-loop-at : goal.invariant-loop-at
invariant-loop-at l = (l.at ≤ length l.below) × (call l.below l.place l.at l.m ≡ feed_from l.initial.m l.place l.below)

abbrev pub decreases-loop-at : goal.decreases-loop-at
decreases-loop-at l = length l.below - l.at
