-- THEOREM packed_states: every state that a feeder can be in comes back from its words, so that the words a host keeps mean the state. Assumes nothing.
use mathlib.Core.Bool.{Bool, true, false, ◌||◌}
use mathlib.Core.List.{List, [], ◌∷◌}
use Prim.Native.Nat.{ℕ, suc, ◌<◌}
use native.Mathlib.Omega.{arith}
use lib.Dec.{eqb, leb}
use Rattle.lists.proofs.Choice.{pick}
use Rattle.refusals.specs.Numbers.{source_limit}
use Rattle.refusals.specs.Result.{Result, ok, refused}
use Rattle.classes.specs.declared.Class.{Class}
use Rattle.classes.specs.declared.Class.TheVariants.{Space, LineEnd, Semicolon, LParen, RParen, AtSign, FormFeed, Minus, Digit, Other}
use Rattle.classes.specs.Classes.{class_of, line_end, semicolon, rparen, symbol_other, literal_byte}
use Rattle.wide.specs.Value.{split, val, Integer, is as integer, none as no_integer, integer_of}
use Rattle.lexer.specs.declared.literal.Reading.{Reading}
use Rattle.lexer.specs.declared.literal.Reading.TheVariants.{Empty, Bad, Number}
use Rattle.lexer.specs.Tokens.{Answer, end, is}
use Rattle.lexer.specs.Literals.{grow, radix_of, signed, concluded}
use Rattle.lexer.proofs.Digits.{of_grow}
use Rattle.feeder.specs.declared.Half.{Half}
use Rattle.feeder.specs.declared.Half.TheVariants.{Clear, Semi, Paren}
use Rattle.feeder.specs.declared.Mode.{Mode}
use Rattle.feeder.specs.declared.Mode.TheVariants.{Blank, Line, Opener, Symbol, Sign, Block, Zero, Digits}
use Rattle.feeder.specs.declared.Phase.{Phase}
use Rattle.feeder.specs.declared.Phase.TheVariants.{Live, Closed, Refused}
use Rattle.feeder.specs.declared.State.{State}
use Rattle.feeder.specs.Machine.{closing, Turn, Go, Stay, Take, ended_by, begun, in_blank, in_block, in_digits, turn, step}
use Rattle.feeder.specs.Feeding.{stepped, feed_from, feed_in, feed_of, shut, close_in, close_of}
use Rattle.tulbazhik_feed.proofs.Packed.{ReadingFits, ModeFits, PhaseFits, back}
use Rattle.demands.specs.DriverWords.{PackedStates}
use Rattle.demands.specs.Rules.{Reached, fresh, feeds, closes}

-- ---- a radix and a refusal's number stay bytes

AnswerFits : Answer → Type 0
AnswerFits (ok end) = Unit {0}
AnswerFits (ok (is t)) = Unit {0}
AnswerFits (refused n a) = n < 256

TurnFits : Result Turn → Type 0
TurnFits (ok (Go m)) = ModeFits m
TurnFits (ok (Stay t)) = Unit {0}
TurnFits (ok (Take t)) = Unit {0}
TurnFits (refused n a) = n < 256

signed_fits : (st e : ℕ) (i : Integer) → AnswerFits (signed st e i)
unfolding AnswerFits
signed_fits st e (integer z) = tt
signed_fits st e no_integer = omega arith

concluded_fits : (minus : Bool) (st e : ℕ) (x : Reading) → ReadingFits x → AnswerFits (concluded minus st e x)
unfolding AnswerFits concluded
concluded_fits minus st e Empty h = omega arith
concluded_fits minus st e (Bad d) h = h
concluded_fits minus st e (Number n) h = signed_fits st e (integer_of minus (val n))

grow_fits : (r : ℕ) (x : Reading) (b p : ℕ) → ReadingFits x → ReadingFits (grow r x b p)
grow_fits r x b p h = of_grow ReadingFits p (λ v l. tt) (omega arith) (omega arith) r x b h

ends_fits : (a : Answer) → AnswerFits a → TurnFits (ended_by a)
unfolding AnswerFits TurnFits
ends_fits (ok end) h = omega arith
ends_fits (ok (is t)) h = tt
ends_fits (refused n a) h = h

radix_fits : (b c : ℕ) → radix_of b c < 256
unfolding radix_of
radix_fits b c =
    pick (λ (r : ℕ). r < 256) (eqb b 48)
    (λ _. pick (λ (r : ℕ). r < 256) (eqb c 120 || eqb c 88) (λ _. omega arith)
    (λ _. pick (λ (r : ℕ). r < 256) (eqb c 111 || eqb c 79) (λ _. omega arith)
    (λ _. pick (λ (r : ℕ). r < 256) (eqb c 98 || eqb c 66) (λ _. omega arith) (λ _. omega arith))))
    (λ _. omega arith)

begun_fits : (st p b : ℕ) (minus : Bool) → ModeFits (begun st minus p b)
begun_fits st p b minus = pick ModeFits (eqb b 48) (λ _. tt) (λ _. (omega arith, grow_fits 10 Empty b p tt))

blank_fits : (c : Class) (p b : ℕ) → TurnFits (in_blank c p b)
unfolding TurnFits
blank_fits Space p b = tt
blank_fits LineEnd p b = tt
blank_fits Semicolon p b = tt
blank_fits LParen p b = tt
blank_fits RParen p b = tt
blank_fits AtSign p b = tt
blank_fits FormFeed p b = omega arith
blank_fits Minus p b = tt
blank_fits Digit p b = begun_fits p p b false
blank_fits Other p b = tt

block_fits : (c : Class) (st d : ℕ) (h : Half) → ModeFits (in_block c st d h)
block_fits c st d Clear = tt
block_fits c st d Semi = pick ModeFits (rparen c) (λ _. pick ModeFits (leb d 1) (λ _. tt) (λ _. tt)) (λ _. tt)
block_fits c st d Paren = pick ModeFits (semicolon c) (λ _. tt) (λ _. tt)

digits_fits : (st r p b : ℕ) (minus : Bool) (x : Reading) → r < 256 → ReadingFits x → TurnFits (in_digits st minus r x p b)
unfolding TurnFits
digits_fits st r p b minus x h f = pick TurnFits (literal_byte b) (λ _. (h, grow_fits r x b p f)) (λ _. ends_fits (concluded minus st p x) (concluded_fits minus st p x f))

turn_fits : (m : Mode) (p b : ℕ) → ModeFits m → TurnFits (turn m p b)
unfolding turn TurnFits
turn_fits Blank p b h = blank_fits (class_of b) p b
turn_fits Line p b h = pick ModeFits (line_end (class_of b)) (λ _. tt) (λ _. tt)
turn_fits (Opener st) p b h = pick TurnFits (semicolon (class_of b)) (λ _. tt) (λ _. tt)
turn_fits (Symbol st) p b h = pick TurnFits (symbol_other (class_of b)) (λ _. tt) (λ _. tt)
turn_fits (Sign st) p b h = pick TurnFits (literal_byte b) (λ _. begun_fits st p b true) (λ _. ends_fits (concluded true st p Empty) (concluded_fits true st p Empty tt))
turn_fits (Block st d k) p b h = block_fits (class_of b) st d k
turn_fits (Zero st minus) p b h =
    pick TurnFits (eqb (radix_of 48 b) 10) (λ _. digits_fits st 10 p b minus (Number (split 0)) (omega arith) tt) (λ _. (radix_fits 48 b, tt))
turn_fits (Digits st minus r x) p b h = digits_fits st r p b minus x h.0 h.1

step_fits : (m : Mode) (p b : ℕ) → ModeFits m → TurnFits (step m p b)
unfolding step TurnFits
step_fits m p b h = pick TurnFits (leb source_limit p) (λ _. omega arith) (λ _. turn_fits m p b h)

-- ---- and so does a call

fits_on : (x : Result Turn) (p : ℕ) (q : List ℕ) → TurnFits x → ((k : Mode) → ModeFits k → PhaseFits (feed_from k (suc p) q).state.phase)
    → PhaseFits (stepped x p (λ k. feed_from k (suc p) q)).state.phase
unfolding TurnFits
fits_on (ok (Go k)) p q h ih = ih k h
fits_on (ok (Stay t)) p q h ih = tt
fits_on (ok (Take t)) p q h ih = tt
fits_on (refused n a) p q h ih = h

fits_from : (q : List ℕ) (m : Mode) (p : ℕ) → ModeFits m → PhaseFits (feed_from m p q).state.phase
unfolding feed_from
fits_from [] m p h = h
fits_from (b ∷ q) m p h = fits_on (step m p b) p q (step_fits m p b h) (λ k l. fits_from q k (suc p) l)

feed_in_lem : (f : Phase) (p : ℕ) (q : List ℕ) → PhaseFits f → PhaseFits (feed_in f p q).state.phase
feed_in_lem (Live m) p q h = fits_from q m p h
feed_in_lem Closed p q h = tt
feed_in_lem (Refused r) p q h = h

pub feed_fits : (s : State) (q : List ℕ) → PhaseFits s.phase → PhaseFits (feed_of s q).state.phase
unfolding feed_of
feed_fits s q h = feed_in_lem s.phase s.place q h

shut_fits : (a : Answer) (p : ℕ) → AnswerFits a → PhaseFits (shut a p).state.phase
unfolding AnswerFits
shut_fits (ok end) p h = tt
shut_fits (ok (is t)) p h = tt
shut_fits (refused n a) p h = h

closing_fits : (m : Mode) (p : ℕ) → ModeFits m → AnswerFits (closing m p)
unfolding AnswerFits closing
closing_fits Blank p h = tt
closing_fits Line p h = tt
closing_fits (Opener st) p h = tt
closing_fits (Symbol st) p h = tt
closing_fits (Sign st) p h = concluded_fits true st p Empty tt
closing_fits (Block st d k) p h = omega arith
closing_fits (Zero st minus) p h = concluded_fits minus st p (Number (split 0)) tt
closing_fits (Digits st minus r x) p h = concluded_fits minus st p x h.1

close_in_lem : (f : Phase) (p : ℕ) → PhaseFits f → PhaseFits (close_in f p).state.phase
close_in_lem (Live m) p h = shut_fits (closing m p) p (closing_fits m p h)
close_in_lem Closed p h = tt
close_in_lem (Refused r) p h = h

pub close_fits : (s : State) → PhaseFits s.phase → PhaseFits (close_of s).state.phase
unfolding close_of
close_fits s h = close_in_lem s.phase s.place h

reached_fits : (n : ℕ) (s : State) → Reached n s → PhaseFits s.phase
reached_fits n s fresh = tt
reached_fits n s (feeds n' s' q r) = feed_fits s' q (reached_fits n' s' r)
reached_fits n s (closes n' s' r) = close_fits s' (reached_fits n' s' r)

pub packed_states : PackedStates
packed_states n s r = back s (reached_fits n s r)
