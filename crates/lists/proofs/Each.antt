-- A rule for every byte, shown by one computed test over all 256. Assumes nothing.
use Prim.Native.Nat.{ℕ, zero, suc, ◌+◌, ◌<◌}
use mathlib.Core.Path.{◌≡◌, refl, sym, ap, ◌∙◌}
use mathlib.Core.Bool.{Bool, true, false, cond, ◌&&◌}
use native.Mathlib.Nat.{add-zero, zero-add, add-suc, suc-add, le_of_suc-le-suc, not-suc-le-zero}
use Rattle.lists.proofs.Choice.{and_left, and_right}

-- two answers are one
abbrev pub same : Bool → Bool → Bool
same true b = b
same false b = cond b false true

-- the test holds of the n numbers from i on
abbrev pub all : (ℕ → Bool) → ℕ → ℕ → Bool
all f zero i = true
all f (suc n) i = f i && all f n (suc i)

all_from : (f : ℕ → Bool) (n i k : ℕ) → all f n i ≡ true → k < n → f (i + k) ≡ true
all_from f zero i k e h = absurd (not-suc-le-zero h)
all_from f (suc n) i zero e h = ap f (add-zero i) ∙ and_left (f i) (all f n (suc i)) e
all_from f (suc n) i (suc k) e h = ap f (add-suc i k ∙ sym (suc-add i k)) ∙ all_from f n (suc i) k (and_right (f i) (all f n (suc i)) e) (le_of_suc-le-suc h)

pub each : (f : ℕ → Bool) → all f 256 0 ≡ true → (b : ℕ) → b < 256 → f b ≡ true
each f e b h = sym (ap f (zero-add b)) ∙ all_from f 256 0 b e h

pub same_eq : (a b : Bool) → same a b ≡ true → a ≡ b
same_eq true true e = refl
same_eq true false e = sym e
same_eq false true e = e
same_eq false false e = refl

-- two tests agree on every byte
pub agree : (f g : ℕ → Bool) → all (λ b. same (f b) (g b)) 256 0 ≡ true → (b : ℕ) → b < 256 → f b ≡ g b
agree f g e b h = same_eq (f b) (g b) (each (λ b. same (f b) (g b)) e b h)
