-- Two unsigned limbs are decided by their number. Assumes nothing.
use Rattle.std.proofs.Common.{◌≡◌, ℕ, ◌/◌, ◌%◌, ◌^◌, ◌<◌, ◌≤◌, Bool, true, false, ltb, ◌⊎◌, sym, refl, ap, ◌∙◌, inl, inr, div-add-mod', ltb-false, ltb-true}
use lib.Arith.{digits_lt, digits_div, digits_mod}
use Rattle.wide.specs.Value.{Limbs, val, split}

-- one number is below another or not
pub which : (a b : ℕ) → (a < b) ⊎ (b ≤ a)
which a b = by (ltb a b) refl
  where
    by : (t : Bool) → ltb a b ≡ t → (a < b) ⊎ (b ≤ a)
    by true e = inl (ltb-true a b e)
    by false e = inr (ltb-false a b e)

-- the limbs of a number have it as their number
pub split_val : (v : ℕ) → val (split v) ≡ v
unfolding val
split_val v = div-add-mod' v (2 ^ 64)

-- and no other limbs have it: what a contract `val n ≡ m` on limbs gives
pub limbs_of : (n : Limbs) (m : ℕ) → n.lo < 2 ^ 64 → val n ≡ m → n ≡ split m
unfolding val
limbs_of n m b e =
    let p : n.hi ≡ m / 2 ^ 64 = sym (ap (λ (x : ℕ). x / 2 ^ 64) (sym e) ∙ digits_div n.hi b) in
    let q : n.lo ≡ m % 2 ^ 64 = sym (ap (λ (x : ℕ). x % 2 ^ 64) (sym e) ∙ digits_mod n.hi b) in
    limbs_at n.hi n.lo (m / 2 ^ 64) (m % 2 ^ 64) p q
  where
    limbs_at : (h l h' l' : ℕ) → h ≡ h' → l ≡ l' → ◌≡◌ {A = Limbs} (record { hi = h; lo = l }) (record { hi = h'; lo = l' })
    limbs_at h l h' l' p q = rw (p, q) refl

-- limbs of 64 bits hold a number of 128
pub val_lt : (n : Limbs) → n.hi < 2 ^ 64 → n.lo < 2 ^ 64 → val n < 2 ^ 128
unfolding val
val_lt n p q = digits_lt {q = n.hi} {m = 2 ^ 64} {r = n.lo} {c = 2 ^ 64} p q
