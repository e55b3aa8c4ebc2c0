-- `lexer::next_token`: 1, 2, then at each place, the next token from there is the next token from the start; a law for each test.
use Prim.Native.Nat.{◌-◌, ◌≤◌}
use mathlib.Core.Path.{◌≡◌}
use lib.ListN.{length}
use Rattle.refusals.specs.Numbers.{source_limit}
use Rattle.lexer.specs.Lexing.{lex_at, next_token}
use Rattle.lexer.proofs.next_token.Given as goal

abbrev pub invariant-loop-i : goal.invariant-loop-i
invariant-loop-i l = (length l.src ≤ source_limit) × (lex_at l.src l.i ≡ next_token l.src l.at)

abbrev pub decreases-loop-i : goal.decreases-loop-i
decreases-loop-i l = length l.src - l.i
