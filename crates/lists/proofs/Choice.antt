-- What is known of a `cond`, and of the tests that decide it. Assumes nothing.
use Prim.Native.Nat.{ℕ, ◌≤◌}
use mathlib.Core.Path.{◌≡◌, refl, sym}
use mathlib.Core.Bool.{Bool, true, false, cond, ◌&&◌, ◌||◌}
use native.Mathlib.Omega.{arith}
use borrow.Author.Tests.{leb-true, eqb-true, eqb-false, eq-eqb, ne_eqb}
use lib.Dec.{leb, eqb}

-- what holds of both sides, each under its test, holds of the choice
pub pick : {A : Type 0} (P : A → Type 0) (t : Bool) {x y : A} → (t ≡ true → P x) → (t ≡ false → P y) → P (cond t x y)
pick P true f g = f refl
pick P false f g = g refl

pub and_left : (a b : Bool) → (a && b) ≡ true → a ≡ true
and_left true b e = refl
and_left false b e = e

pub and_right : (a b : Bool) → (a && b) ≡ true → b ≡ true
and_right true b e = e
and_right false b e = cc

pub or_right : (a : Bool) → (a || true) ≡ true
or_right true = refl
or_right false = refl

pub true_false : {P : Type 0} → ◌≡◌ {A = Bool} true false → P
true_false e = let z : ◌≡◌ {A = ℕ} 0 1 = cc in absurd (omega arith)

-- the lower end of a range of bytes
pub at_least : (lo hi b : ℕ) → (leb lo b && leb b hi) ≡ true → lo ≤ b
at_least lo hi b e = leb-true lo b (and_left (leb lo b) (leb b hi) e)

-- a test for one number may stand either way round
pub eqb_turn : (a b : ℕ) → eqb a b ≡ eqb b a
eqb_turn a b = by (eqb b a) refl
  where
    by : (x : Bool) → eqb b a ≡ x → eqb a b ≡ x
    by true e = eq-eqb a b (sym (eqb-true b a e))
    by false e = ne_eqb a b (λ q. eqb-false b a e (sym q))
