-- Where what comes next begins: the blanks and comments that lexing skips (document 01, 'How source becomes tokens'), without the token behind them.
use Rattle.std.specs.Prelude.{ℕ, zero, suc, List, [], ◌∷◌, get_or, drop}
use Rattle.classes.specs.Classes.{class_of}
use Rattle.lexer.specs.Lexing.{Skip, Between, InLine, InBlock, skip, skipped}

-- where skipping stops: before the rest of the list, which stands at a place, or in a block comment that is never closed, whose outermost opener is at a place
pub data Rest : Type 0 where
  before : List ℕ → ℕ → Rest
  unclosed : ℕ → Rest

-- the source's end, at i
abbrev pub spent : Skip → ℕ → Rest
spent Between i = before [] i
spent InLine i = before [] i
spent (InBlock d p) i = unclosed p

-- skipping over a list that stands at i, where the first n bytes are passed unread
unfoldable pub skip_in : ℕ → Skip → List ℕ → ℕ → Rest
skip_in n m [] i = spent m i
skip_in (suc n) m (b ∷ s) i = skip_in n m s (suc i)
skip_in zero m (b ∷ s) i = skipped (skip m (class_of b) (class_of (get_or s 0 0)) i) (before (b ∷ s) i) (λ k. skip_in 0 k s (suc i)) (λ k. skip_in 1 k s (suc i))

abbrev pub skip_at : List ℕ → ℕ → Rest
skip_at s i = skip_in 0 Between (drop i s) i

abbrev pub rest_place : Rest → ℕ
rest_place (before l i) = i
rest_place (unclosed p) = p

-- the place behind the blanks and comments from a place on; of a block comment that is never closed, its own
abbrev pub gap_end : List ℕ → ℕ → ℕ
gap_end s at = rest_place (skip_at s at)
