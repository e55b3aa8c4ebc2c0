-- Literals (document 01, 'How source becomes tokens', its last two rules before the token; the place of a digit: document 02, 1/12).
use Rattle.std.specs.Prelude.{ℕ, suc, ◌+◌, ◌-◌, ◌*◌, List, [], ◌∷◌, Bool, cond, ◌||◌, eqb, leb, drop, get_or, Option, Some, None}
use Rattle.refusals.specs.Numbers.{no_digits, foreign_digit, too_large, minus_lowest}
use Rattle.refusals.specs.Result.{ok, refused, refused_by}
use Rattle.classes.specs.Classes.{digit_of, literal_byte}
use Rattle.wide.specs.declared.Limbs.{Limbs}
use Rattle.wide.specs.Value.{val, grown, Integer, is as is_integer, none as no_integer, integer_of}
use Rattle.lexer.specs.Tokens.{Answer, is, token, int}
pub use Rattle.lexer.specs.declared.literal.Reading.{Reading}
pub use Rattle.lexer.specs.declared.literal.Reading.TheVariants.{Empty, Bad, Number}

abbrev pub grew : Option Limbs → ℕ → Reading
grew (Some n) p = Number n
grew None p = Bad (record { number = too_large; place = p })

-- the number n takes the digit d, which stands at p; if a digit is both foreign and too much, it is foreign
unfoldable pub taken : ℕ → ℕ → ℕ → ℕ → Reading
taken r n d p = cond (leb r d) (Bad (record { number = foreign_digit; place = p })) (grew (grown (n * r + d)) p)

-- from the left, the first digit that is foreign or too much names the refusal and its place
abbrev pub digit : ℕ → Reading → ℕ → ℕ → Reading
digit r Empty d p = taken r 0 d p
digit r (Number n) d p = taken r (val n) d p
digit r (Bad first) d p = Bad first

-- the byte b at p; underscores drop out
unfoldable pub grow : ℕ → Reading → ℕ → ℕ → Reading
grow r x b p = cond (eqb b 95) x (digit r x (digit_of b) p)

-- all following bytes of the literal, which stand at i, after what was read before
unfoldable pub reading : ℕ → Reading → List ℕ → ℕ → Reading
reading r x [] i = x
reading r x (b ∷ s) i = cond (literal_byte b) (reading r (grow r x b i) s (suc i)) x

-- the place past them, where the list stands at i
unfoldable pub literal_end : List ℕ → ℕ → ℕ
literal_end [] i = i
literal_end (b ∷ s) i = cond (literal_byte b) (literal_end s (suc i)) i

-- the radix that two bytes name: `0x`, `0o` or `0b` in either case, or else 10
unfoldable pub radix_of : ℕ → ℕ → ℕ
radix_of b c =
    cond (eqb b 48) (cond (eqb c 120 || eqb c 88) 16 (cond (eqb c 111 || eqb c 79) 8 (cond (eqb c 98 || eqb c 66) 2 10))) 10

abbrev pub signed : ℕ → ℕ → Integer → Answer
signed st e (is_integer z) = ok (is (token (int z) st (e - st)))
signed st e no_integer = refused minus_lowest st

-- the answer for a literal from st up to e: the refusal of a digit names the digit, every other one the literal's start
unfoldable pub concluded : Bool → ℕ → ℕ → Reading → Answer
concluded minus st e Empty = refused no_digits st
concluded minus st e (Bad digit) = refused_by digit
concluded minus st e (Number n) = signed st e (integer_of minus (val n))

-- all following digits, which stand at i
abbrev pub digits_in : Bool → ℕ → ℕ → List ℕ → ℕ → Answer
digits_in minus st r l i = concluded minus st (literal_end l i) (reading r Empty l i)

-- a literal from st whose sign, if any, is behind: a prefix and digits, or digits, which stand at i
unfoldable pub unsigned_in : Bool → ℕ → List ℕ → ℕ → Answer
unsigned_in minus st l i =
    let r = radix_of (get_or l 0 0) (get_or l 1 0) in
    cond (eqb r 10) (digits_in minus st 10 l i) (digits_in minus st r (drop 2 l) (suc (suc i)))
