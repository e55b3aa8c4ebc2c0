-- `lexer::gap_from`: at each place, skipping from there stops where it stops from the start; a law for each test.
use Prim.Native.Nat.{◌-◌}
use mathlib.Core.Path.{◌≡◌}
use lib.ListN.{length}
use Rattle.lexer.specs.Gaps.{skip_at}
use Rattle.lexer.proofs.gap_from.Given as goal

abbrev pub invariant-loop-i : goal.invariant-loop-i
invariant-loop-i l = skip_at l.src l.i ≡ skip_at l.src l.at

abbrev pub decreases-loop-i : goal.decreases-loop-i
decreases-loop-i l = length l.src - l.i
