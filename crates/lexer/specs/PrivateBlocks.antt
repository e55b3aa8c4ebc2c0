-- Private, for the contracts of the lexer's own functions: what two bytes of a block comment are, and where it ends.
use Rattle.std.specs.Prelude.{ℕ, ◌+◌, ◌≤◌, List, cond, ◌&&◌, Option, Some, None}
use Rattle.classes.specs.declared.Class.{Class}
use Rattle.classes.specs.Classes.{lparen, rparen, semicolon}
use Rattle.lexer.specs.Gaps.{Rest, unclosed, skip_at}
use Rattle.lexer.specs.declared.Mark.{Mark}
use Rattle.lexer.specs.declared.Mark.TheVariants.{Opener, Closer, Neither}

abbrev pub mark_of : Class → Class → Mark
mark_of c c' = cond (lparen c && semicolon c') Opener (cond (semicolon c && rparen c') Closer Neither)

-- where skipping s stops behind a block comment that was opened at a place
abbrev pub block_left : Option ℕ → List ℕ → ℕ → Rest
block_left (Some i) s st = skip_at s i
block_left None s st = unclosed st

-- a block comment ends behind its opener
abbrev pub Beyond : Option ℕ → ℕ → Type 0
Beyond (Some i) st = st + 2 ≤ i
Beyond None st = Unit {0}
