-- The zeros below a number's lowest set digit, in whole bytes. Assumes nothing.
use Rattle.std.proofs.Common.{◌≡◌, ℕ, zero, suc, ◌+◌, ◌*◌, ◌/◌, ◌%◌, ◌^◌, ◌<◌, ◌⊎◌, sym, refl, ap, ◌∙◌, inl, inr, mul_assoc, eq-or-lt_of_le, pow-suc, mul-one, arith, pow-add}
use native.Mathlib.Nat.{mul-mod_left}
use lib.Count.{count_trailing_zeros, trailing_le, under}

-- a number is a multiple of the power that its trailing zeros count
trailing_times : (k n : ℕ) → (x : ℕ) × (n ≡ x * 2 ^ count_trailing_zeros k n)
unfolding count_trailing_zeros
trailing_times zero n = (n, sym (mul-one n))
trailing_times (suc k) n = by (count_trailing_zeros k (n / 2)) (trailing_times k (n / 2)) (n % 2) refl
  where
    by : (t : ℕ) → (x : ℕ) × (n / 2 ≡ x * 2 ^ t) → (d : ℕ) → n % 2 ≡ d → (x : ℕ) × (n ≡ x * 2 ^ under d t)
    by t r zero e = (r.0, rw (pow-suc 2 t) (omega (arith, r.1, e, mul_assoc r.0 (2 ^ t) 2)))
    by t r (suc d) e = (n, sym (mul-one n))

-- a byte is eight digits
bytes_digits : (r : ℕ) → 2 ^ (8 * r) ≡ 256 ^ r
bytes_digits zero = refl
bytes_digits (suc r) =
    let e : 8 * suc r ≡ 8 * r + 8 = omega arith in
    rw (e, pow-add 2 (8 * r) 8, bytes_digits r, pow-suc 256 r) refl

whole : (t x n : ℕ) → n ≡ x * 2 ^ t → n ≡ x * 2 ^ (t % 8) * 256 ^ (t / 8)
whole t x n h =
    let e : t ≡ t % 8 + 8 * (t / 8) = omega arith in
    h ∙ ap (λ (j : ℕ). x * 2 ^ j) e ∙ ap (λ (y : ℕ). x * y) (pow-add 2 (t % 8) (8 * (t / 8)))
    ∙ sym (mul_assoc x (2 ^ (t % 8)) (2 ^ (8 * (t / 8)))) ∙ ap (λ (y : ℕ). x * 2 ^ (t % 8) * y) (bytes_digits (t / 8))

module _ (m : ℕ) where
  abbrev r : ℕ
  r = count_trailing_zeros 64 m / 8

  times : (x : ℕ) × (m ≡ x * 256 ^ r)
  times = let e = trailing_times 64 m in (e.0 * 2 ^ (count_trailing_zeros 64 m % 8), whole (count_trailing_zeros 64 m) e.0 m e.1)

  -- the bytes before the lowest one that is not 0
  pub zero_bytes : m % 256 ^ r ≡ 0
  zero_bytes = ap (λ (y : ℕ). y % 256 ^ r) times.1 ∙ mul-mod_left times.0 (256 ^ r)

  -- and there are fewer than eight of them
  pub few_zeros : 0 < m → m < 2 ^ 64 → r < 8
  few_zeros p h = by (eq-or-lt_of_le {n = r} {m = 8} (omega (arith, trailing_le 64 m)))
    where
      by : (r ≡ 8) ⊎ (r < 8) → r < 8
      by (inl e) = let k : m ≡ times.0 * 256 ^ 8 = times.1 ∙ ap (λ (j : ℕ). times.0 * 256 ^ j) e in absurd (omega arith)
      by (inr l) = l
