-- A list from a place on. Assumes nothing.
use Prim.Native.Nat.{ℕ, zero, suc, ◌+◌, ◌<◌}
use mathlib.Core.Path.{◌≡◌, refl, sym, ap, ◌∙◌}
use mathlib.Core.List.{List, [], ◌∷◌, ◌++◌}
use native.Mathlib.Numerals.{add-one}
use native.Mathlib.Nat.{add-zero}
use native.Mathlib.Omega.{arith}
use lib.ListN.{length, get_or, drop}
use lib.Seq.{drop-cons, get_or-drop, drop-drop, drop_at}

-- its byte, and the list from the next place on
pub from : (s : List ℕ) (i : ℕ) → i < length s → drop i s ≡ get_or s i 0 ∷ drop (i + 1) s
from s i h = rw (add-one, drop-cons s i 0)

-- it begins with the byte at i, or 0
pub first : (s : List ℕ) (i : ℕ) → get_or (drop i s) 0 0 ≡ get_or s i 0
first s i = simp (get_or-drop, add-zero)

-- a byte that is not 0 is within
pub within : (s : List ℕ) (i : ℕ) → 0 < get_or s i 0 → i < length s
within [] i h = absurd (omega arith)
within (b ∷ s) zero h = omega arith
within (b ∷ s) (suc i) h = omega (arith, within s i h)

-- the rest one place further on
pub next : (s : List ℕ) (p b : ℕ) (l : List ℕ) → drop p s ≡ b ∷ l → drop (suc p) s ≡ l
next s p b l e = ap (λ (k : ℕ). drop k s) (sym (add-one p)) ∙ sym (drop-drop 1 p s) ∙ ap (drop 1) e

-- the rest past what stands there
pub past : (s n l : List ℕ) (p : ℕ) → drop p s ≡ n ++ l → drop (p + length n) s ≡ l
past s n l p e = sym (drop-drop (length n) p s) ∙ ap (drop (length n)) e ∙ drop_at n l (length n) refl
