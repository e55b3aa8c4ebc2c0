-- The machine that is fed byte by byte (document 01, 'Feeding in pieces'): what one byte does in each mode.
use Rattle.std.specs.Prelude.{ℕ, ◌+◌, ◌-◌, Bool, true, false, cond, eqb, leb, ltb}
use Rattle.refusals.specs.Numbers.{source_limit, too_long, form_feed, open_comment}
use Rattle.refusals.specs.Result.{Result, ok, refused}
use Rattle.classes.specs.declared.Class.{Class}
use Rattle.classes.specs.declared.Class.TheVariants.{Space, LineEnd, Semicolon, LParen, RParen, AtSign, FormFeed, Minus, Digit, Other}
use Rattle.classes.specs.Classes.{class_of, line_end, semicolon, lparen, rparen, symbol_other, literal_byte}
use Rattle.lexer.specs.declared.literal.Reading.{Reading}
use Rattle.lexer.specs.declared.literal.Reading.TheVariants.{Empty, Number}
use Rattle.lexer.specs.Tokens.{Token, token, lparen as open_paren, rparen as close_paren, at_sign, symbol, Answer, end, is}
use Rattle.lexer.specs.Literals.{grow, radix_of, concluded}
use Rattle.wide.specs.Value.{split}
pub use Rattle.feeder.specs.declared.Half.{Half}
pub use Rattle.feeder.specs.declared.Half.TheVariants.{Clear, Semi, Paren}
pub use Rattle.feeder.specs.declared.Mode.{Mode}
pub use Rattle.feeder.specs.declared.Mode.TheVariants.{Blank, Line, Opener, Symbol, Sign, Block, Zero, Digits}

-- what the source's end at p makes of a mode: the held token, the refusal of a held literal or an open comment, or the end
unfoldable pub closing : Mode → ℕ → Answer
closing Blank p = ok end
closing Line p = ok end
closing (Opener st) p = ok (is (token open_paren st 1))
closing (Symbol st) p = ok (is (token symbol st (p - st)))
closing (Sign st) p = concluded true st p Empty
closing (Block st d h) p = refused open_comment st
closing (Zero st minus) p = concluded minus st p (Number (split 0))
closing (Digits st minus r x) p = concluded minus st p x

-- what a byte does before which the call is not refused: it is consumed and the machine goes on; or a token is handed out, before the byte or with it
pub data Turn : Type 0 where
  Go : Mode → Turn
  Stay Take : Token → Turn

-- a byte that only ends what is held ends it as the source's end would
abbrev pub ended_by : Answer → Result Turn
ended_by (ok (is t)) = ok (Stay t)
ended_by (ok end) = refused 0 0
ended_by (refused n a) = refused n a

-- a literal's first digit, the byte b at p: `0` may begin a prefix
abbrev pub begun : ℕ → Bool → ℕ → ℕ → Mode
begun st minus p b = cond (eqb b 48) (Zero st minus) (Digits st minus 10 (grow 10 Empty b p))

abbrev pub in_blank : Class → ℕ → ℕ → Result Turn
in_blank Space p b = ok (Go Blank)
in_blank LineEnd p b = ok (Go Blank)
in_blank Semicolon p b = ok (Go Line)
in_blank LParen p b = ok (Go (Opener p))
in_blank RParen p b = ok (Take (token close_paren p 1))
in_blank AtSign p b = ok (Take (token at_sign p 1))
in_blank FormFeed p b = refused form_feed p
in_blank Minus p b = ok (Go (Sign p))
in_blank Digit p b = ok (Go (begun p false p b))
in_blank Other p b = ok (Go (Symbol p))

-- in a block comment: half of `(;` or `;)`, by the byte that was just consumed
abbrev pub half : Class → Half
half c = cond (semicolon c) Semi (cond (lparen c) Paren Clear)

-- after `;)` at depth d
abbrev pub out : ℕ → ℕ → Mode
out st d = cond (leb d 1) Blank (Block st (d - 1) Clear)

-- after `(;` at depth d; no more comments are open than bytes were consumed, so that no reached state feels the limit
abbrev pub deeper : ℕ → ℕ
deeper d = cond (ltb d source_limit) (d + 1) d

abbrev pub in_block : Class → ℕ → ℕ → Half → Mode
in_block c st d Clear = Block st d (half c)
in_block c st d Semi = cond (rparen c) (out st d) (Block st d (half c))
in_block c st d Paren = cond (semicolon c) (Block st (deeper d) Clear) (Block st d (half c))

abbrev pub in_digits : ℕ → Bool → ℕ → Reading → ℕ → ℕ → Result Turn
in_digits st minus r x p b = cond (literal_byte b) (ok (Go (Digits st minus r (grow r x b p)))) (ended_by (concluded minus st p x))

-- the byte b at p
unfoldable pub turn : Mode → ℕ → ℕ → Result Turn
turn Blank p b = in_blank (class_of b) p b
turn Line p b = ok (Go (cond (line_end (class_of b)) Blank Line))
turn (Opener st) p b = cond (semicolon (class_of b)) (ok (Go (Block st 1 Clear))) (ok (Stay (token open_paren st 1)))
turn (Symbol st) p b = cond (symbol_other (class_of b)) (ok (Go (Symbol st))) (ok (Stay (token symbol st (p - st))))
turn (Sign st) p b = cond (literal_byte b) (ok (Go (begun st true p b))) (ended_by (concluded true st p Empty))
turn (Block st d h) p b = ok (Go (in_block (class_of b) st d h))
turn (Zero st minus) p b = cond (eqb (radix_of 48 b) 10) (in_digits st minus 10 (Number (split 0)) p b) (ok (Go (Digits st minus (radix_of 48 b) Empty)))
turn (Digits st minus r x) p b = in_digits st minus r x p b

-- a byte at the source's limit or beyond is refused before it is looked at
unfoldable pub step : Mode → ℕ → ℕ → Result Turn
step m p b = cond (leb source_limit p) (refused too_long source_limit) (turn m p b)
