-- A signed high limb and an unsigned low limb are decided by their integer, which fits 128 bits. Assumes nothing.
use Rattle.std.proofs.Common.{◌≡◌, ℕ, suc, ◌+◌, ◌-◌, ◌*◌, ◌/◌, ◌%◌, ◌^◌, ◌<◌, true, ltb, ℤ, pos, negsuc, sym, refl, ap, ◌∙◌, arith, w64, SFits, lt-ltb}
use lib.Arith.{digits_lt, digits_div, digits_mod}
use mir.Syntax.{w128}
use Rattle.wide.specs.Value.{Wide, value_of, value}

pub value_neg : (k l : ℕ) → l < 2 ^ 64 → value_of (negsuc k) l ≡ negsuc (k * 2 ^ 64 + (2 ^ 64 - suc l))
unfolding value_of
value_neg k l h =
    let e : suc k * 2 ^ 64 ≡ suc (k * 2 ^ 64 + (2 ^ 64 - 1)) = omega arith in
    let m : ltb l (suc (k * 2 ^ 64 + (2 ^ 64 - 1))) ≡ true = lt-ltb l (suc (k * 2 ^ 64 + (2 ^ 64 - 1))) (omega arith) in
    let s : suc (k * 2 ^ 64 + (2 ^ 64 - 1)) - suc l ≡ k * 2 ^ 64 + (2 ^ 64 - suc l) = omega arith in
    rw (e, m) (ap negsuc s)

pub value_pos : (k l : ℕ) → value_of (pos k) l ≡ pos (k * 2 ^ 64 + l)
unfolding value_of
value_pos k l = refl

-- two digits in a base are decided by their number
digit_high : (h l k m B : ℕ) → l < B → m < B → h * B + l ≡ k * B + m → h ≡ k
digit_high h l k m B p q e = sym (digits_div h {m = B} {r = l} p) ∙ ap (λ (x : ℕ). x / B) e ∙ digits_div k {m = B} {r = m} q

digit_low : (h l k m B : ℕ) → l < B → m < B → h * B + l ≡ k * B + m → l ≡ m
digit_low h l k m B p q e = sym (digits_mod h {m = B} {r = l} p) ∙ ap (λ (x : ℕ). x % B) e ∙ digits_mod k {m = B} {r = m} q

-- the low limb is below 2^64, and nothing is asked of the high one
pub value_high : (y z : ℤ) (l m : ℕ) → l < 2 ^ 64 → m < 2 ^ 64 → value_of y l ≡ value_of z m → y ≡ z
value_high (pos h) (pos k) l m p q e =
    let f : pos (h * 2 ^ 64 + l) ≡ pos (k * 2 ^ 64 + m) = sym (value_pos h l) ∙ e ∙ value_pos k m in
    ap pos (digit_high h l k m (2 ^ 64) p q (cc))
value_high (pos h) (negsuc k) l m p q e =
    let f : pos (h * 2 ^ 64 + l) ≡ negsuc (k * 2 ^ 64 + (2 ^ 64 - suc m)) = sym (value_pos h l) ∙ e ∙ value_neg k m q in
    let z : ◌≡◌ {A = ℕ} 0 1 = cc in absurd (omega arith)
value_high (negsuc h) (pos k) l m p q e =
    let f : negsuc (h * 2 ^ 64 + (2 ^ 64 - suc l)) ≡ pos (k * 2 ^ 64 + m) = sym (value_neg h l p) ∙ e ∙ value_pos k m in
    let z : ◌≡◌ {A = ℕ} 0 1 = cc in absurd (omega arith)
value_high (negsuc h) (negsuc k) l m p q e =
    let f : negsuc (h * 2 ^ 64 + (2 ^ 64 - suc l)) ≡ negsuc (k * 2 ^ 64 + (2 ^ 64 - suc m)) = sym (value_neg h l p) ∙ e ∙ value_neg k m q in
    ap negsuc (digit_high h (2 ^ 64 - suc l) k (2 ^ 64 - suc m) (2 ^ 64) (omega arith) (omega arith) (cc))

pub value_low : (y z : ℤ) (l m : ℕ) → l < 2 ^ 64 → m < 2 ^ 64 → value_of y l ≡ value_of z m → l ≡ m
value_low (pos h) (pos k) l m p q e =
    let f : pos (h * 2 ^ 64 + l) ≡ pos (k * 2 ^ 64 + m) = sym (value_pos h l) ∙ e ∙ value_pos k m in
    digit_low h l k m (2 ^ 64) p q (cc)
value_low (pos h) (negsuc k) l m p q e =
    let f : pos (h * 2 ^ 64 + l) ≡ negsuc (k * 2 ^ 64 + (2 ^ 64 - suc m)) = sym (value_pos h l) ∙ e ∙ value_neg k m q in
    let z : ◌≡◌ {A = ℕ} 0 1 = cc in absurd (omega arith)
value_low (negsuc h) (pos k) l m p q e =
    let f : negsuc (h * 2 ^ 64 + (2 ^ 64 - suc l)) ≡ pos (k * 2 ^ 64 + m) = sym (value_neg h l p) ∙ e ∙ value_pos k m in
    let z : ◌≡◌ {A = ℕ} 0 1 = cc in absurd (omega arith)
value_low (negsuc h) (negsuc k) l m p q e =
    let f : negsuc (h * 2 ^ 64 + (2 ^ 64 - suc l)) ≡ negsuc (k * 2 ^ 64 + (2 ^ 64 - suc m)) = sym (value_neg h l p) ∙ e ∙ value_neg k m q in
    let s : 2 ^ 64 - suc l ≡ 2 ^ 64 - suc m = digit_low h (2 ^ 64 - suc l) k (2 ^ 64 - suc m) (2 ^ 64) (omega arith) (omega arith) (cc) in
    omega arith

pub value_same : (a b : Wide) → a.lo < 2 ^ 64 → b.lo < 2 ^ 64 → value a ≡ value b → a ≡ b
value_same a b p q e =
    wide_at a.hi b.hi a.lo b.lo (value_high a.hi b.hi a.lo b.lo p q e) (value_low a.hi b.hi a.lo b.lo p q e)
  where
    wide_at : (h h' : ℤ) (l l' : ℕ) → h ≡ h' → l ≡ l' → ◌≡◌ {A = Wide} (record { hi = h; lo = l }) (record { hi = h'; lo = l' })
    wide_at h h' l l' p q = rw (p, q) refl

-- limbs of 64 bits hold an integer of 128
pub value_fits_lem : (z : ℤ) (l : ℕ) → SFits w64 z → l < 2 ^ 64 → SFits w128 (value_of z l)
value_fits_lem (pos n) l f h = rw (value_pos n l) (record { sfits = digits_lt {q = n} {m = 2 ^ 63} {r = l} {c = 2 ^ 64} f.sfits h })
value_fits_lem (negsuc n) l f h =
    rw (value_neg n l h) (record { sfits = digits_lt {q = n} {m = 2 ^ 63} {r = 2 ^ 64 - suc l} {c = 2 ^ 64} f.sfits (omega arith) })
