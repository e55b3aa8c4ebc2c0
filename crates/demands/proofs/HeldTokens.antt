-- The machine while it holds a symbol or a literal: it hands out what uncut lexing reads from the same place. Assumes nothing.
use mathlib.Core.Path.{◌≡◌, refl, sym, ap, ◌∙◌}
use mathlib.Core.List.{List, [], ◌∷◌}
use mathlib.Core.Bool.{Bool, true, false, cond}
use Prim.Native.Nat.{ℕ, suc, ◌+◌, ◌-◌, ◌≤◌, ◌<◌}
use native.Mathlib.Omega.{arith}
use lib.Dec.{eqb}
use lib.ListN.{drop, length, length-drop}
use borrow.Author.Tests.{eqb-true}
use Rattle.lists.proofs.Places.{next as next_place}
use Rattle.lists.proofs.Choice.{true_false}
use Rattle.refusals.specs.Numbers.{no_digits}
use Rattle.refusals.specs.Result.{Result, ok, refused}
use Rattle.classes.specs.declared.Class.{Class}
use Rattle.classes.specs.declared.Class.TheVariants.{Space, LineEnd, Semicolon, LParen, RParen, AtSign, FormFeed, Minus, Digit, Other}
use Rattle.classes.specs.Classes.{class_of, symbol_other, digit_of, literal_byte}
use Rattle.wide.specs.Value.{Integer, is as is_integer, none as no_integer, integer_of, val, split, grown}
use Rattle.lexer.specs.declared.literal.Reading.{Reading}
use Rattle.lexer.specs.declared.literal.Reading.TheVariants.{Empty, Bad, Number}
use Rattle.lexer.specs.Tokens.{token, past, symbol, Answer, end, is}
use Rattle.lexer.specs.Literals.{taken, grow, reading, literal_end, radix_of, signed, concluded, digits_in, unsigned_in}
use Rattle.lexer.specs.Lexing.{symbol_end}
use Rattle.lexer.specs.Streams.{Stream, ends, then}
use Rattle.feeder.specs.declared.Mode.{Mode}
use Rattle.feeder.specs.declared.Mode.TheVariants.{Blank, Symbol, Sign, Zero, Digits}
use Rattle.feeder.specs.Machine.{closing, Turn, Go, Stay, ended_by, begun, in_blank, in_digits, turn}
use Rattle.demands.proofs.Events.{last, follow, events}

-- l is what is left of s at p
pub record At (s : List ℕ) (p : ℕ) (l : List ℕ) : Type 0 where
  pub left : drop p s ≡ l
  pub bound : p ≤ length s

pub inside : (s : List ℕ) (p b : ℕ) (l : List ℕ) → drop p s ≡ b ∷ l → p < length s
inside s p b l e =
    let n : length s - p ≡ suc (length l) = sym (length-drop p s) ∙ ap length e in
    omega arith

pub next : (s : List ℕ) (p b : ℕ) (l : List ℕ) → At s p (b ∷ l) → At s (suc p) l
next s p b l e = record { left = next_place s p b l e.left; bound = inside s p b l e.left }

-- x is the answer, and what is handed out from the token's end on, which is within the source
unfoldable pub After : List ℕ → ℕ → Answer → Stream → Type 0
After s p (ok end) x = x ≡ ends (ok tt)
After s p (refused n a) x = x ≡ ends (refused n a)
After s p (ok (is t)) x = (p ≤ past t) × (past t ≤ length s) × (x ≡ then t (events Blank (past t) (drop (past t) s)))

pub weaken : (s : List ℕ) (p : ℕ) (a : Answer) (x : Stream) → After s (suc p) a x → After s p a x
unfolding After
weaken s p (ok end) x h = h
weaken s p (refused n a) x h = h
weaken s p (ok (is t)) x h = (omega (arith, h.0), h.1, h.2)

-- between tokens a turn hands out nothing that leaves its byte
fresh : (c : Class) (p b : ℕ) (x y : Stream) (r : Mode → Stream) → follow (in_blank c p b) x r ≡ follow (in_blank c p b) y r
fresh Space p b x y r = refl
fresh LineEnd p b x y r = refl
fresh Semicolon p b x y r = refl
fresh LParen p b x y r = refl
fresh RParen p b x y r = refl
fresh AtSign p b x y r = refl
fresh FormFeed p b x y r = refl
fresh Minus p b x y r = refl
fresh Digit p b x y r = refl
fresh Other p b x y r = refl

-- a byte that is taken anew
pub again : (p b : ℕ) (l : List ℕ) → follow (turn Blank p b) (ends (refused 0 0)) (λ k. events k (suc p) l) ≡ events Blank p (b ∷ l)
unfolding events turn
again p b l = fresh (class_of b) p b _ _ _

-- a turn at the byte b before l
abbrev pub over : Result Turn → ℕ → ℕ → List ℕ → Stream
over x p b l = follow x (follow (turn Blank p b) (ends (refused 0 0)) (λ k. events k (suc p) l)) (λ k. events k (suc p) l)

-- an answer whose token ends at p
unfoldable pub Ends : ℕ → Answer → Type 0
Ends p (ok end) = ⊥
Ends p (refused n a) = Unit {0}
Ends p (ok (is t)) = past t ≡ p

module _ (s : List ℕ) (p : ℕ) where
  -- a byte, or the source's end, ends what is held
  pub stays : (a : Answer) (b : ℕ) (l : List ℕ) → Ends p a → At s p (b ∷ l) → After s p a (over (ended_by a) p b l)
  unfolding After Ends
  stays (ok end) b l h e = absurd h
  stays (refused n a) b l h e = refl
  stays (ok (is t)) b l h e =
      (omega arith, omega (arith, e.bound), ap (then t) (again p b l ∙ ap (events Blank p) (sym e.left) ∙ ap (λ (q : ℕ). events Blank q (drop q s)) (sym h)))

  pub lasts : (a : Answer) → Ends p a → At s p [] → After s p a (last a)
  unfolding After Ends events closing
  lasts (ok end) h e = absurd h
  lasts (refused n a) h e = refl
  lasts (ok (is t)) h e =
      (omega arith, omega (arith, e.bound), ap (then t) (ap (events Blank p) (sym e.left) ∙ ap (λ (q : ℕ). events Blank q (drop q s)) (sym h)))

pub from_start : (st p : ℕ) → st ≤ p → st + (p - st) ≡ p
from_start st p h = omega arith

-- the law of a mode, at every place where l is left
abbrev Law : List ℕ → ℕ → Mode → List ℕ → (ℕ → Answer) → Type 0
Law s st m l f = (p : ℕ) → st ≤ p → At s p l → After s p (f p) (events m p l)

-- symbols
module _ (s : List ℕ) (st : ℕ) where
  abbrev symbol_at : List ℕ → ℕ → Answer
  symbol_at l p = ok (is (token symbol st (symbol_end l p - st)))

  symbol_on : (t : Bool) (b : ℕ) (l : List ℕ) (p : ℕ) → st ≤ p → At s p (b ∷ l) → Law s st (Symbol st) l (symbol_at l)
      → After s p (ok (is (token symbol st (cond t (symbol_end l (suc p)) p - st)))) (over (cond t (ok (Go (Symbol st))) (ok (Stay (token symbol st (p - st))))) p b l)
  unfolding Ends
  symbol_on true b l p h e ih = weaken s p (symbol_at l (suc p)) _ (ih (suc p) (omega arith) (next s p b l e))
  symbol_on false b l p h e ih = stays s p (ok (is (token symbol st (p - st)))) b l (from_start st p h) e

  pub in_symbol : (l : List ℕ) → Law s st (Symbol st) l (symbol_at l)
  unfolding events turn closing symbol_end Ends
  in_symbol [] p h e = lasts s p (ok (is (token symbol st (p - st)))) (from_start st p h) e
  in_symbol (b ∷ l) p h e = symbol_on (symbol_other (class_of b)) b l p h e (in_symbol l)

-- literals
module _ (s : List ℕ) (st : ℕ) (minus : Bool) where
  signed_ends : (p : ℕ) (z : Integer) → st ≤ p → Ends p (signed st p z)
  unfolding Ends
  signed_ends p (is_integer z) h = from_start st p h
  signed_ends p no_integer h = tt

  pub concluded_ends : (p : ℕ) (x : Reading) → st ≤ p → Ends p (concluded minus st p x)
  unfolding Ends concluded
  concluded_ends p Empty h = tt
  concluded_ends p (Bad d) h = tt
  concluded_ends p (Number n) h = signed_ends p (integer_of minus (val n)) h

  abbrev literal_at : ℕ → Reading → List ℕ → ℕ → Answer
  literal_at r x l p = concluded minus st (literal_end l p) (reading r x l p)

  digits_on : (t : Bool) (r : ℕ) (x y : Reading) (b : ℕ) (l : List ℕ) (p : ℕ) → st ≤ p → At s p (b ∷ l) → Law s st (Digits st minus r y) l (literal_at r y l)
      → After s p (concluded minus st (cond t (literal_end l (suc p)) p) (cond t (reading r y l (suc p)) x)) (over (cond t (ok (Go (Digits st minus r y))) (ended_by (concluded minus st p x))) p b l)
  digits_on true r x y b l p h e ih = weaken s p (literal_at r y l (suc p)) _ (ih (suc p) (omega arith) (next s p b l e))
  digits_on false r x y b l p h e ih = stays s p (concluded minus st p x) b l (concluded_ends p x h) e

  digits : (r : ℕ) (x : Reading) (l : List ℕ) → Law s st (Digits st minus r x) l (literal_at r x l)
  unfolding events turn closing literal_end reading
  digits r x [] p h e = lasts s p (concluded minus st p x) (concluded_ends p x h) e
  digits r x (b ∷ l) p h e = digits_on (literal_byte b) r x (grow r x b p) b l p h e (digits r (grow r x b p) l)

  -- a leading 0 at p, and what comes after it
  zero_on : (t : Bool) (r b : ℕ) (l : List ℕ) (p : ℕ) → st ≤ p → At s (suc p) (b ∷ l)
      → After s (suc p) (cond t (digits_in minus st 10 (48 ∷ b ∷ l) p) (digits_in minus st r l (suc (suc p)))) (over (cond t (in_digits st minus 10 (Number (split 0)) (suc p) b) (ok (Go (Digits st minus r Empty)))) (suc p) b l)
  unfolding events turn literal_end reading literal_byte grow taken grown digit_of
  zero_on true r b l p h e = digits 10 (Number (split 0)) (b ∷ l) (suc p) (omega arith) e
  zero_on false r b l p h e = weaken s (suc p) _ _ (digits r Empty l (suc (suc p)) (omega arith) (next s (suc p) b l e))

  leading : (l : List ℕ) (p : ℕ) → st ≤ p → At s (suc p) l → After s (suc p) (unsigned_in minus st (48 ∷ l) p) (events (Zero st minus) (suc p) l)
  unfolding events turn closing unsigned_in
  leading [] p h e = unfold radix_of reading literal_end literal_byte grow taken grown digit_of in lasts s (suc p) (concluded minus st (suc p) (Number (split 0))) (concluded_ends (suc p) (Number (split 0)) (omega arith)) e
  leading (b ∷ l) p h e = zero_on (eqb (radix_of 48 b) 10) (radix_of 48 b) b l p h e

  begins_on : (t : Bool) (b : ℕ) (l : List ℕ) (p : ℕ) → st ≤ p → At s (suc p) l → literal_byte b ≡ true → eqb b 48 ≡ t
      → After s (suc p) (unsigned_in minus st (b ∷ l) p) (events (cond t (Zero st minus) (Digits st minus 10 (grow 10 Empty b p))) (suc p) l)
  unfolding unsigned_in radix_of reading literal_end
  begins_on true b l p h e d f = rw (eqb-true b 48 f) (leading l p h e)
  begins_on false b l p h e d f = rw (f, d) (digits 10 (grow 10 Empty b p) l (suc p) (omega arith) e)

  -- from a literal's first digit at p on
  pub begins : (b : ℕ) (l : List ℕ) (p : ℕ) → st ≤ p → At s (suc p) l → literal_byte b ≡ true → After s (suc p) (unsigned_in minus st (b ∷ l) p) (events (begun st minus p b) (suc p) l)
  begins b l p h e d = begins_on (eqb b 48) b l p h e d refl

sign_none : (s : List ℕ) (st b : ℕ) (l : List ℕ) (p : ℕ) → literal_byte b ≡ false → (t : Bool) → eqb b 48 ≡ t → After s p (unsigned_in true st (b ∷ l) p) (ends (refused no_digits st))
unfolding unsigned_in radix_of reading literal_end literal_byte digit_of concluded After
sign_none s st b l p d true f = let z : ◌≡◌ {A = Bool} true false = rw (eqb-true b 48 f) at d in true_false z
sign_none s st b l p d false f = rw (f, d) refl

sign_on : (s : List ℕ) (st : ℕ) (t : Bool) (b : ℕ) (l : List ℕ) (p : ℕ) → st ≤ p → At s p (b ∷ l) → literal_byte b ≡ t
    → After s p (unsigned_in true st (b ∷ l) p) (over (cond t (ok (Go (begun st true p b))) (ended_by (concluded true st p Empty))) p b l)
unfolding concluded
sign_on s st true b l p h e d = weaken s p _ _ (begins s st true b l p h (next s p b l e) d)
sign_on s st false b l p h e d = sign_none s st b l p d (eqb b 48) refl

-- after `-`
pub after_sign : (s : List ℕ) (st : ℕ) (l : List ℕ) → Law s st (Sign st) l (unsigned_in true st l)
unfolding events turn closing unsigned_in radix_of reading literal_end concluded After
after_sign s st [] p h e = refl
after_sign s st (b ∷ l) p h e = sign_on s st (literal_byte b) b l p h e refl
