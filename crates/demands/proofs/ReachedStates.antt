-- States reached from the fresh one: what is held began before the place, a token ends at it, and no more comments are open than bytes
-- were consumed. Assumes nothing.
use mathlib.Core.Path.{◌≡◌}
use mathlib.Core.List.{List, [], ◌∷◌}
use mathlib.Core.Bool.{Bool, true, false}
use Prim.Native.Nat.{ℕ, suc, ◌+◌, ◌≤◌, ◌<◌}
use native.Mathlib.Omega.{arith}
use lib.Dec.{eqb, leb, ltb}
use borrow.Author.Tests.{leb-false}
use Rattle.lists.proofs.Choice.{pick}
use Rattle.refusals.specs.Numbers.{source_limit}
use Rattle.refusals.specs.Result.{Result, ok, refused}
use Rattle.classes.specs.declared.Class.{Class}
use Rattle.classes.specs.declared.Class.TheVariants.{Space, LineEnd, Semicolon, LParen, RParen, AtSign, FormFeed, Minus, Digit, Other}
use Rattle.classes.specs.Classes.{class_of, line_end, semicolon, rparen, symbol_other, literal_byte}
use Rattle.wide.specs.Value.{split}
use Rattle.lexer.specs.declared.literal.Reading.{Reading}
use Rattle.lexer.specs.declared.literal.Reading.TheVariants.{Empty, Number}
use Rattle.lexer.specs.Tokens.{past, Answer, end, is}
use Rattle.lexer.specs.Literals.{radix_of, concluded}
use Rattle.feeder.specs.declared.Half.{Half}
use Rattle.feeder.specs.declared.Half.TheVariants.{Clear, Semi, Paren}
use Rattle.feeder.specs.declared.Mode.{Mode}
use Rattle.feeder.specs.declared.Mode.TheVariants.{Blank, Line, Opener, Symbol, Sign, Block, Zero, Digits}
use Rattle.feeder.specs.declared.Phase.{Phase}
use Rattle.feeder.specs.declared.Phase.TheVariants.{Live, Closed, Refused}
use Rattle.feeder.specs.declared.State.{State}
use Rattle.feeder.specs.Machine.{closing, Turn, Go, Stay, Take, ended_by, begun, deeper, in_blank, in_block, in_digits, turn, step}
use Rattle.feeder.specs.Feeding.{Reply, more, finish, ready, Fed, stepped, feed_from, feed_in, feed_of, shut, close_in, close_of}
use Rattle.demands.specs.Rules.{Reached, fresh, feeds, closes}
use Rattle.demands.proofs.HeldTokens.{Ends, from_start, concluded_ends}

abbrev pub Sound : Mode → ℕ → Type 0
Sound Blank p = Unit {0}
Sound Line p = Unit {0}
Sound (Opener st) p = st + 1 ≡ p
Sound (Symbol st) p = st < p
Sound (Sign st) p = st < p
Sound (Block st d h) p = (st < p) × (1 ≤ d) × (d ≤ p)
Sound (Zero st minus) p = st < p
Sound (Digits st minus r x) p = st < p

-- what a turn at p leaves
Leaves : ℕ → Result Turn → Type 0
Leaves p (ok (Go k)) = Sound k (suc p)
Leaves p (ok (Stay t)) = past t ≡ p
Leaves p (ok (Take t)) = past t ≡ suc p
Leaves p (refused n a) = Unit {0}

leaves_ends : (p : ℕ) (a : Answer) → Ends p a → Leaves p (ended_by a)
unfolding Leaves Ends
leaves_ends p (ok end) h = absurd h
leaves_ends p (ok (is t)) h = h
leaves_ends p (refused n a) h = tt

leaves_begun : (st p b : ℕ) (minus : Bool) → st ≤ p → Sound (begun st minus p b) (suc p)
leaves_begun st p b minus h = pick (λ k. Sound k (suc p)) (eqb b 48) (λ _. omega arith) (λ _. omega arith)

leaves_blank : (c : Class) (p b : ℕ) → Leaves p (in_blank c p b)
unfolding Leaves
leaves_blank Space p b = tt
leaves_blank LineEnd p b = tt
leaves_blank Semicolon p b = tt
leaves_blank LParen p b = omega arith
leaves_blank RParen p b = omega arith
leaves_blank AtSign p b = omega arith
leaves_blank FormFeed p b = tt
leaves_blank Minus p b = omega arith
leaves_blank Digit p b = leaves_begun p p b false (omega arith)
leaves_blank Other p b = omega arith

leaves_block : (c : Class) (st d p : ℕ) (h : Half) → (st < p) × (1 ≤ d) × (d ≤ p) → Sound (in_block c st d h) (suc p)
leaves_block c st d p Clear s = (omega (arith, s.0), s.1, omega (arith, s.2))
leaves_block c st d p Semi s =
    pick (λ k. Sound k (suc p)) (rparen c)
    (λ _. pick (λ k. Sound k (suc p)) (leb d 1) (λ _. tt) (λ e. (omega (arith, s.0), omega (arith, leb-false d 1 e), omega (arith, s.2))))
    (λ _. (omega (arith, s.0), s.1, omega (arith, s.2)))
leaves_block c st d p Paren s =
    let g : (1 ≤ deeper d) × (deeper d ≤ suc p) =
    pick (λ (k : ℕ). (1 ≤ k) × (k ≤ suc p)) (ltb d source_limit) (λ _. (omega arith, omega (arith, s.2))) (λ _. (s.1, omega (arith, s.2)))
    in
    pick (λ k. Sound k (suc p)) (semicolon c) (λ _. (omega (arith, s.0), g.0, g.1)) (λ _. (omega (arith, s.0), s.1, omega (arith, s.2)))

leaves_digits : (st r p b : ℕ) (minus : Bool) (x : Reading) → st < p → Leaves p (in_digits st minus r x p b)
unfolding Leaves
leaves_digits st r p b minus x s =
    pick (Leaves p) (literal_byte b) (λ _. omega arith) (λ _. leaves_ends p (concluded minus st p x) (concluded_ends [] st minus p x (omega arith)))

leaves : (m : Mode) (p b : ℕ) → Sound m p → Leaves p (turn m p b)
unfolding turn Leaves
leaves Blank p b s = leaves_blank (class_of b) p b
leaves Line p b s = pick (λ k. Sound k (suc p)) (line_end (class_of b)) (λ _. tt) (λ _. tt)
leaves (Opener st) p b s = pick (Leaves p) (semicolon (class_of b)) (λ _. (omega arith, omega arith, omega arith)) (λ _. s)
leaves (Symbol st) p b s = pick (Leaves p) (symbol_other (class_of b)) (λ _. omega arith) (λ _. from_start st p (omega arith))
leaves (Sign st) p b s = pick (Leaves p) (literal_byte b) (λ _. leaves_begun st p b true (omega arith)) (λ _. leaves_ends p (concluded true st p Empty) (concluded_ends [] st true p Empty (omega arith)))
leaves (Block st d h) p b s = leaves_block (class_of b) st d p h s
leaves (Zero st minus) p b s =
    pick (Leaves p) (eqb (radix_of 48 b) 10) (λ _. leaves_digits st 10 p b minus (Number (split 0)) s) (λ _. omega arith)
leaves (Digits st minus r x) p b s = leaves_digits st r p b minus x s

abbrev pub SoundIn : Phase → ℕ → Type 0
SoundIn (Live m) p = Sound m p
SoundIn Closed p = Unit {0}
SoundIn (Refused r) p = Unit {0}

-- of a state, and of the token that is handed out with it
abbrev pub TokenAt : Result Reply → ℕ → Type 0
TokenAt (ok more) p = Unit {0}
TokenAt (ok finish) p = Unit {0}
TokenAt (ok (ready t)) p = past t ≡ p
TokenAt (refused n a) p = Unit {0}

pub record SoundFed (f : Fed) : Type 0 where
  pub phase_is : SoundIn f.state.phase f.state.place
  pub bound : f.state.place ≤ source_limit
  pub token_at : TokenAt f.reply f.state.place

sound_on : (x : Result Turn) (p : ℕ) (q : List ℕ) → p < source_limit → Leaves p x → ((k : Mode) → Sound k (suc p) → SoundFed (feed_from k (suc p) q)) → SoundFed (stepped x p (λ k. feed_from k (suc p) q))
unfolding Leaves
sound_on (ok (Go k)) p q l h ih = let g = ih k h in record { phase_is = g.phase_is; bound = g.bound; token_at = g.token_at }
sound_on (ok (Stay t)) p q l h ih = record { phase_is = tt; bound = omega arith; token_at = h }
sound_on (ok (Take t)) p q l h ih = record { phase_is = tt; bound = omega arith; token_at = h }
sound_on (refused n a) p q l h ih = record { phase_is = tt; bound = omega arith; token_at = tt }

fed_from : (q : List ℕ) (m : Mode) (p : ℕ) → Sound m p → p ≤ source_limit → SoundFed (feed_from m p q)
unfolding feed_from step
fed_from [] m p s l = record { phase_is = s; bound = l; token_at = tt }
fed_from (b ∷ q) m p s l =
    pick (λ (x : Result Turn). SoundFed (stepped x p (λ k. feed_from k (suc p) q))) (leb source_limit p)
    (λ _. record { phase_is = tt; bound = l; token_at = tt })
    (λ e. sound_on (turn m p b) p q (leb-false source_limit p e) (leaves m p b s) (λ k h. fed_from q k (suc p) h (omega (arith, leb-false source_limit p e))))

pub fed_sound : (h : Phase) (p : ℕ) (q : List ℕ) → SoundIn h p → p ≤ source_limit → SoundFed (feed_in h p q)
fed_sound (Live m) p q s l = fed_from q m p s l
fed_sound Closed p q s l = record { phase_is = tt; bound = l; token_at = tt }
fed_sound (Refused r) p q s l = record { phase_is = tt; bound = l; token_at = tt }

shut_sound : (a : Answer) (p : ℕ) → p ≤ source_limit → TokenAt (shut a p).reply p → SoundFed (shut a p)
shut_sound (ok end) p l h = record { phase_is = tt; bound = l; token_at = tt }
shut_sound (ok (is t)) p l h = record { phase_is = tt; bound = l; token_at = h }
shut_sound (refused n a) p l h = record { phase_is = tt; bound = l; token_at = tt }

ended : (p : ℕ) (a : Answer) → Ends p a → TokenAt (shut a p).reply p
unfolding Ends
ended p (ok end) h = tt
ended p (ok (is t)) h = h
ended p (refused n a) h = tt

closing_ends : (m : Mode) (p : ℕ) → Sound m p → TokenAt (shut (closing m p) p).reply p
unfolding closing
closing_ends Blank p s = tt
closing_ends Line p s = tt
closing_ends (Opener st) p s = s
closing_ends (Symbol st) p s = from_start st p (omega arith)
closing_ends (Sign st) p s = ended p _ (concluded_ends [] st true p Empty (omega arith))
closing_ends (Block st d h) p s = tt
closing_ends (Zero st minus) p s = ended p _ (concluded_ends [] st minus p (Number (split 0)) (omega arith))
closing_ends (Digits st minus r x) p s = ended p _ (concluded_ends [] st minus p x (omega arith))

pub closed_sound : (h : Phase) (p : ℕ) → SoundIn h p → p ≤ source_limit → SoundFed (close_in h p)
closed_sound (Live m) p s l = shut_sound (closing m p) p l (closing_ends m p s)
closed_sound Closed p s l = record { phase_is = tt; bound = l; token_at = tt }
closed_sound (Refused r) p s l = record { phase_is = tt; bound = l; token_at = tt }

pub record SoundState (s : State) : Type 0 where
  pub phase_is : SoundIn s.phase s.place
  pub bound : s.place ≤ source_limit

-- calls lead from sound states to sound states, and the fresh one is sound
pub reached_sound : (n : ℕ) (s : State) → Reached n s → SoundState s
unfolding feed_of close_of
reached_sound n s fresh = record { phase_is = tt; bound = omega arith }
reached_sound n s (feeds n' s' q r) =
    let w = reached_sound n' s' r in
    let g = fed_sound s'.phase s'.place q w.phase_is w.bound in
    record { phase_is = g.phase_is; bound = g.bound }
reached_sound n s (closes n' s' r) =
    let w = reached_sound n' s' r in
    let g = closed_sound s'.phase s'.place w.phase_is w.bound in
    record { phase_is = g.phase_is; bound = g.bound }
