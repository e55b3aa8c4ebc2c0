-- Two limbs times a radix plus a digit: over a variable base, since omega stops at 38 digits. Assumes nothing.
use Rattle.std.specs.Prelude.{Some, None}
use Rattle.std.proofs.Common.{◌≡◌, ℕ, ◌+◌, ◌*◌, ◌/◌, ◌%◌, ◌^◌, ◌<◌, ◌≤◌, Bool, cond, sym, ap, ◌∙◌, subst, le_trans, mul-le-mul_right, mul_assoc, mul_comm, add-mul, pos_of_ne-zero, mul-le-mul_left, arith, le-ltb, lt-ltb}
use lib.Pow.{split}
use Rattle.wide.specs.Value.{Limbs, val, split as halves_of, grown}
use Rattle.wide.proofs.TwoLimbs.{limbs_of, val_lt}

pub small : (p r : ℕ) → p < 2 ^ 32 → r ≤ 255 → p * r ≤ 1095216660225
small p r h k = le_trans (mul-le-mul_left p k) (omega arith)

regroup : (B q s r : ℕ) → (q * B + s) * r ≡ q * r * B + s * r
regroup B q s r = add-mul (q * B) s r ∙ ap (λ (x : ℕ). x + s * r) (mul_assoc q B r ∙ ap (λ (x : ℕ). q * x) (mul_comm B r) ∙ sym (mul_assoc q r B))

-- one limb, in halves
pub columns : (x r : ℕ) → x * r ≡ x / 2 ^ 32 * r * 2 ^ 32 + x % 2 ^ 32 * r
columns x r = ap (λ (y : ℕ). y * r) (sym (split x 32)) ∙ regroup (2 ^ 32) (x / 2 ^ 32) (x % 2 ^ 32) r

pub halves : (X D A c : ℕ) → X ≡ D * 2 ^ 32 + A → (D + (A + c) / 2 ^ 32) / 2 ^ 32 * 2 ^ 64 + ((D + (A + c) / 2 ^ 32) % 2 ^ 32 * 2 ^ 32 + (A + c) % 2 ^ 32) ≡ X + c
halves X D A c e = omega arith

-- two limbs
pub limbs : (B h l r d c1 l' c2 h' : ℕ) → c1 * B + l' ≡ l * r + d → c2 * B + h' ≡ h * r + c1 → c2 * (B * B) + (h' * B + l') ≡ (h * B + l) * r + d
limbs B h l r d c1 l' c2 h' e f =
    omega (arith, regroup B h l r, add-mul (c2 * B) h' B, add-mul (h * r) c1 B, ap (λ (x : ℕ). x * B) f, mul_assoc c2 B B)

pub fitting : (h l r d c1 l' c2 h' : ℕ) → c1 * 2 ^ 64 + l' ≡ l * r + d → c2 * 2 ^ 64 + h' ≡ h * r + c1 → c2 ≡ 0 → h' * 2 ^ 64 + l' ≡ (h * 2 ^ 64 + l) * r + d
fitting h l r d c1 l' c2 h' e f z = sym (zeros (h' * 2 ^ 64 + l') c2 (2 ^ 128) z) ∙ limbs (2 ^ 64) h l r d c1 l' c2 h' e f
  where
    zeros : (x k N : ℕ) → k ≡ 0 → k * N + x ≡ x
    zeros x k N z = let p : k * N ≡ 0 * N = ap (λ (y : ℕ). y * N) z in omega arith

pub above : (h l r d c1 l' c2 h' : ℕ) → c1 * 2 ^ 64 + l' ≡ l * r + d → c2 * 2 ^ 64 + h' ≡ h * r + c1 → (c2 ≡ 0 → ⊥) → 2 ^ 128 ≤ (h * 2 ^ 64 + l) * r + d
above h l r d c1 l' c2 h' e f z =
    subst (λ (x : ℕ). 2 ^ 128 ≤ x) (limbs (2 ^ 64) h l r d c1 l' c2 h' e f) (big (h' * 2 ^ 64 + l') c2 (2 ^ 128) (pos_of_ne-zero z))
  where
    big : (x k N : ℕ) → 0 < k → N ≤ k * N + x
    big x k N z = let p : 1 * N ≤ k * N = mul-le-mul_right N z in omega arith

-- what `grown` says of limbs that hold the number, and of a number that none hold
pub fits : (n : Limbs) (m : ℕ) → n.hi < 2 ^ 64 → n.lo < 2 ^ 64 → val n ≡ m → Some n ≡ grown m
unfolding grown
fits n m p q e =
    let l : m < 2 ^ 128 = subst (λ (x : ℕ). x < 2 ^ 128) e (val_lt n p q) in
    ap Some (limbs_of n m q e) ∙ sym (ap (λ (t : Bool). cond t (Some (halves_of m)) None) (lt-ltb m (2 ^ 128) l))

pub over : (m : ℕ) → 2 ^ 128 ≤ m → None ≡ grown m
unfolding grown
over m h = sym (ap (λ (t : Bool). cond t (Some (halves_of m)) None) (le-ltb m (2 ^ 128) h))

-- below 2^56 one limb is enough
pub short : (l r d : ℕ) → l < 2 ^ 56 → r ≤ 255 → d ≤ 255 → l * r + d < 2 ^ 64
short l r d h p q = let m : l * r ≤ l * 255 = mul-le-mul_left l p in omega arith

pub short_val : (h l r d : ℕ) → h ≡ 0 → 0 * 2 ^ 64 + (l * r + d) ≡ (h * 2 ^ 64 + l) * r + d
short_val h l r d e =
    let z : 0 * 2 ^ 64 + l ≡ l = omega arith in
    let n : h * 2 ^ 64 + l ≡ l = ap (λ (x : ℕ). x * 2 ^ 64 + l) e ∙ z in
    rw n (omega arith)
