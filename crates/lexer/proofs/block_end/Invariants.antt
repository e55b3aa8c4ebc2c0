-- `lexer::block_end`: at each place, skipping inside the comments open there is skipping behind the first opener.
use Prim.Native.Nat.{◌+◌, ◌-◌, ◌≤◌}
use mathlib.Core.Path.{◌≡◌}
use lib.ListN.{length, drop}
use Rattle.lexer.specs.Lexing.{InBlock}
use Rattle.lexer.specs.Gaps.{skip_in}
use Rattle.lexer.proofs.block_end.Given as goal

abbrev pub invariant-loop-i : goal.invariant-loop-i
invariant-loop-i l =
    (1 ≤ l.depth) × (l.depth ≤ l.i) × (l.start + 2 ≤ l.i) × (skip_in 0 (InBlock l.depth l.start) (drop l.i l.src) l.i ≡ skip_in 0 (InBlock 1 l.start) (drop (l.start + 2) l.src) (l.start + 2))

abbrev pub decreases-loop-i : goal.decreases-loop-i
decreases-loop-i l = length l.src - l.i
