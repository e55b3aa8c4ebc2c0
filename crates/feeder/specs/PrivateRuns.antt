-- Private, for the contracts of the feeder's own functions: a call seen from inside its piece, and what the private types stand for.
use Rattle.std.specs.Prelude.{ℕ, ◌+◌, ◌-◌, ◌≤◌, ◌<◌, ◌≡◌, cond, List, leb, length, get_or, drop, Option, Some, None}
use Rattle.refusals.specs.Numbers.{source_limit}
use Rattle.refusals.specs.Result.{ok, refused_by}
use Rattle.classes.specs.declared.Class.{Class}
use Rattle.classes.specs.Classes.{class_of, semicolon, lparen, rparen, is_at_sign}
use Rattle.lexer.specs.declared.Token.{Token}
use Rattle.lexer.specs.declared.Token.TheVariants as token
use Rattle.lexer.specs.Tokens.{token_of}
use Rattle.feeder.specs.Machine.{Half, Clear, Semi, Paren, Mode, Blank, Symbol, half, deeper}
use Rattle.feeder.specs.Feeding.{Fed, fed, ready, live, feed_from}
use Rattle.feeder.specs.declared.Phase.TheVariants.{Refused}
use Rattle.feeder.specs.declared.runs.Moved.{Moved}
use Rattle.feeder.specs.declared.runs.Moved.TheVariants.{On, Give, Halt}
use Rattle.feeder.specs.declared.glance.Seen.{Seen}
use Rattle.feeder.specs.declared.rest.Rest.{Rest}

-- i bytes had been consumed before
abbrev pub ahead : ℕ → Fed → Fed
ahead i f = fed f.reply (i + f.used) f.state

-- what is left of a call on the piece q, whose first byte stands at p, once i bytes are consumed
unfoldable pub call : List ℕ → ℕ → ℕ → Mode → Fed
call q p i m = ahead i (feed_from m (p + i) (drop i q))

-- the same by where a run ended
unfoldable pub moved : List ℕ → ℕ → Moved → Fed
moved q p (On m i) = call q p i m
moved q p (Give t st i) = fed (ok (ready (token_of t st))) i (live Blank (p + i))
moved q p (Halt r i) = fed (refused_by r) i (record { phase = Refused r; place = p + i })

-- a run that goes on has consumed a byte
abbrev pub Further : ℕ → ℕ → Moved → Type 0
Further i n (On m j) = (i < j) × (j ≤ n)
Further i n (Give t st j) = j ≤ n
Further i n (Halt r j) = j ≤ n

-- a run in mode m over the piece q, from i on: where it ends, and that what is left of the call stays the same
pub record Moves (q : List ℕ) (p i : ℕ) (m : Mode) (x : Moved) : Type 0 where
  pub further : Further i (length q) x
  pub same : moved q p x ≡ call q p i m

-- the same over what is left of a piece
abbrev pub Runs : Rest → Mode → Moved → Type 0
Runs r m x = Moves r.piece.now r.place r.at m x

-- one more byte of class c inside a block comment: the depth and the half that it goes on with, or none where it is left
abbrev pub inside_of : Class → ℕ → Half → Option (ℕ × Half)
inside_of c d Clear = Some (d, half c)
inside_of c d Semi = cond (rparen c) (cond (leb d 1) None (Some (d - 1, Clear))) (Some (d, half c))
inside_of c d Paren = cond (semicolon c) (Some (deeper d, Clear)) (Some (d, half c))

-- of the tokens that are no literals, the one of n bytes that begins with the byte b
abbrev pub token_by : ℕ → ℕ → Token
token_by b n = cond (lparen (class_of b)) token.LParen (cond (rparen (class_of b)) token.RParen (cond (is_at_sign (class_of b)) token.At (token.Symbol n)))

-- the symbol that begins at j, if it was seen, is the one that is handed out, wherever below the limit the piece stands
abbrev pub Ran : List ℕ → ℕ → Option Seen → Type 0
Ran q j None = Unit {0}
Ran q j (Some g) =
    (g.start ≡ j) × (j < g.end) × (g.end ≤ length q)
    × ((p : ℕ) → p + length q ≤ source_limit → moved q p (Give (token.Symbol (g.end - j)) (p + j) g.end) ≡ call q p (j + 1) (Symbol (p + j)))

-- the token, if one was seen, is what a call hands out that begins outside of tokens and comments, wherever below the limit the piece stands
abbrev pub Shown : List ℕ → Option Seen → Type 0
Shown q None = Unit {0}
Shown q (Some g) =
    (g.start < g.end) × (g.end ≤ length q)
    × ((p : ℕ) → p + length q ≤ source_limit → moved q p (Give (token_by (get_or q g.start 0) (g.end - g.start)) (p + g.start) g.end) ≡ call q p 0 Blank)
