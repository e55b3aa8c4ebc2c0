-- `table::check`: the trees done, before those that are left, and the place of their first wrong cost. The measure is the bytes left.
use Prim.Native.Nat.{◌-◌}
use lib.ListN.{length}
use Rattle.table.proofs.Walks.{Checks}
use Rattle.table.proofs.check.Given as goal

abbrev pub invariant-loop-p : goal.invariant-loop-p
invariant-loop-p l = Checks l.t l.p l.wrong

abbrev pub decreases-loop-p : goal.decreases-loop-p
decreases-loop-p l = length l.t - l.p
