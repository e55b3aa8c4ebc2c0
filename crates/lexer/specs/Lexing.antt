-- Uncut lexing, over the rest of the source: what to skip, then a token (document 01, 'How source becomes tokens').
use Rattle.std.specs.Prelude.{ℕ, zero, suc, ◌+◌, ◌-◌, List, [], ◌∷◌, true, false, cond, ◌&&◌, leb, ltb, length, get_or, drop}
use Rattle.refusals.specs.Numbers.{source_limit, too_long, past_source, form_feed, open_comment}
use Rattle.refusals.specs.Result.{ok, refused}
use Rattle.classes.specs.declared.Class.{Class}
use Rattle.classes.specs.declared.Class.TheVariants.{Space, LineEnd, Semicolon, LParen, RParen, AtSign, FormFeed, Minus, Digit, Other}
use Rattle.classes.specs.Classes.{class_of, blank, line_end, semicolon, lparen, rparen, symbol_other}
use Rattle.lexer.specs.Tokens.{lparen as open_paren, rparen as close_paren, at_sign, symbol, token, Answer, end, is}
use Rattle.lexer.specs.Literals.{unsigned_in}

-- what is being skipped: blanks, a line comment, or block comments of a depth whose outermost opener is at a place
pub data Skip : Type 0 where
  Between InLine : Skip
  InBlock : ℕ → ℕ → Skip

-- stop before a byte, pass it, or pass it and the next
pub data Skipping : Type 0 where
  Stop : Skipping
  One Two : Skip → Skipping

-- after `;)` at depth d
abbrev pub leave : ℕ → ℕ → Skip
leave d p = cond (leb d 1) Between (InBlock (d - 1) p)

-- what a byte of class c at i, before one of class c', does
unfoldable pub skip : Skip → Class → Class → ℕ → Skipping
skip Between c c' i =
    cond (blank c) (One Between)
    (cond (semicolon c) (One InLine)
    (cond (lparen c && semicolon c') (Two (InBlock 1 i)) Stop))
skip InLine c c' i = cond (line_end c) (One Between) (One InLine)
skip (InBlock d p) c c' i =
    cond (lparen c && semicolon c') (Two (InBlock (d + 1) p))
    (cond (semicolon c && rparen c') (Two (leave d p)) (One (InBlock d p)))

-- the place past the bytes that a symbol runs on over, where the list stands at i
unfoldable pub symbol_end : List ℕ → ℕ → ℕ
symbol_end [] i = i
symbol_end (b ∷ s) i = cond (symbol_other (class_of b)) (symbol_end s (suc i)) i

-- the token that begins with the byte b of class c at i, before s; blanks and comments begin none
abbrev pub token_in : Class → ℕ → List ℕ → ℕ → Answer
token_in LParen b s i = ok (is (token open_paren i 1))
token_in RParen b s i = ok (is (token close_paren i 1))
token_in AtSign b s i = ok (is (token at_sign i 1))
token_in FormFeed b s i = refused form_feed i
token_in Minus b s i = unsigned_in true i s (suc i)
token_in Digit b s i = unsigned_in false i (b ∷ s) i
token_in Other b s i = ok (is (token symbol i (symbol_end s (suc i) - i)))
token_in Space b s i = ok end
token_in LineEnd b s i = ok end
token_in Semicolon b s i = ok end

-- the source's end
abbrev pub ended : Skip → Answer
ended Between = ok end
ended InLine = ok end
ended (InBlock d p) = refused open_comment p

abbrev pub skipped : {A : Type 0} → Skipping → A → (Skip → A) → (Skip → A) → A
skipped Stop here one two = here
skipped (One k) here one two = one k
skipped (Two k) here one two = two k

-- the next token of a list that stands at i, where the first n bytes are passed unread (n is 1 behind the first byte of `(;` or `;)`)
unfoldable pub lex_in : ℕ → Skip → List ℕ → ℕ → Answer
lex_in n m [] i = ended m
lex_in (suc n) m (b ∷ s) i = lex_in n m s (suc i)
lex_in zero m (b ∷ s) i = skipped (skip m (class_of b) (class_of (get_or s 0 0)) i) (token_in (class_of b) b s i) (λ k. lex_in 0 k s (suc i)) (λ k. lex_in 1 k s (suc i))

-- the next token from a place on
abbrev pub lex_at : List ℕ → ℕ → Answer
lex_at s i = lex_in 0 Between (drop i s) i

-- uncut lexing: 1, 2, then the next token
unfoldable pub next_token : List ℕ → ℕ → Answer
next_token s at =
    cond (ltb source_limit (length s)) (refused too_long source_limit)
    (cond (ltb (length s) at) (refused past_source (length s)) (lex_at s at))
