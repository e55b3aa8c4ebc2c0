-- `lexer::literal::digits_from`: at each place, what is left to read and where it ends is what was to be read at the start.
use mathlib.Core.Path.{◌≡◌}
use lib.ListN.{drop}
use Rattle.lexer.specs.Literals.{Empty, reading, literal_end}
use Rattle.lexer.proofs.literal.digits_from.Given as goal

abbrev pub invariant-loop-i : goal.invariant-loop-i
invariant-loop-i l =
    (reading l.radix l.x (drop l.i l.src) l.i ≡ reading l.radix Empty (drop l.at l.src) l.at) × (literal_end (drop l.i l.src) l.i ≡ literal_end (drop l.at l.src) l.at)
