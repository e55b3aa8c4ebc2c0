-- `runs::end`: the run from the place that was reached is the run from the start; eight bytes, or those before the first mark, are passed at once.
use Rattle.std.proofs.Common.{◌≡◌, ◌-◌, ◌≤◌, length}
use Rattle.classes.specs.Runs.{run_end}
use Rattle.classes.proofs.runs.end.Given as goal

abbrev pub invariant-loop-i : goal.invariant-loop-i
invariant-loop-i g l = let run = run_end g.R.Run.goes_on l.s in (l.i ≤ length l.s) × (run l.i ≡ run l.at)

abbrev pub decreases-loop-i : goal.decreases-loop-i
decreases-loop-i g l = length l.s - l.i

abbrev pub invariant-loop-i-else-m-eq0 : goal.invariant-loop-i-else-m-eq0
invariant-loop-i-else-m-eq0 g l = let run = run_end g.R.Run.goes_on l.s in (l.initial.i ≤ l.i) × (l.i ≤ length l.s) × (run l.i ≡ run l.at)

abbrev pub decreases-loop-i-else-m-eq0 : goal.decreases-loop-i-else-m-eq0
decreases-loop-i-else-m-eq0 g l = length l.s - l.i

abbrev pub invariant-loop-j : goal.invariant-loop-j
invariant-loop-j g l = let run = run_end g.R.Run.goes_on l.s in run l.j ≡ run l.at
