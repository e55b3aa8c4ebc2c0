-- Division by ten of a number in two limbs, in steps of 32 bits. Assumes nothing.
use Rattle.std.proofs.Common.{◌≡◌, ℕ, ◌+◌, ◌*◌, ◌/◌, ◌%◌, ◌^◌, ◌<◌, sym, ap, ◌∙◌, mod-lt, div-add-mod', arith}
use lib.Arith.{digits_div, digits_mod}

steps : (hi lo q1 r1 l1 l0 q2 r2 q3 r3 : ℕ) → q1 * 10 + r1 ≡ hi → l1 * 2 ^ 32 + l0 ≡ lo → q2 * 10 + r2 ≡ r1 * 2 ^ 32 + l1 → q3 * 10 + r3 ≡ r2 * 2 ^ 32 + l0
    → (q1 * 2 ^ 64 + (q2 * 2 ^ 32 + q3)) * 10 + r3 ≡ hi * 2 ^ 64 + lo
steps hi lo q1 r1 l1 l0 q2 r2 q3 r3 a b c d = omega arith

module _ (hi lo : ℕ) where
  abbrev pub a : ℕ
  a = hi % 10 * 2 ^ 32 + lo / 2 ^ 32

  abbrev pub b : ℕ
  b = a % 10 * 2 ^ 32 + lo % 2 ^ 32

  tenfold : (hi / 10 * 2 ^ 64 + (a / 10 * 2 ^ 32 + b / 10)) * 10 + b % 10 ≡ hi * 2 ^ 64 + lo
  tenfold =
      steps hi lo (hi / 10) (hi % 10) (lo / 2 ^ 32) (lo % 2 ^ 32) (a / 10) (a % 10) (b / 10) (b % 10)
      (div-add-mod' hi 10) (div-add-mod' lo (2 ^ 32)) (div-add-mod' a 10) (div-add-mod' b 10)

  pub quotient : hi / 10 * 2 ^ 64 + (a / 10 * 2 ^ 32 + b / 10) ≡ (hi * 2 ^ 64 + lo) / 10
  quotient = sym (ap (λ (x : ℕ). x / 10) (sym tenfold) ∙ digits_div (hi / 10 * 2 ^ 64 + (a / 10 * 2 ^ 32 + b / 10)) (mod-lt b (omega arith)))

  pub digit : b % 10 ≡ (hi * 2 ^ 64 + lo) % 10
  digit = sym (ap (λ (x : ℕ). x % 10) (sym tenfold) ∙ digits_mod (hi / 10 * 2 ^ 64 + (a / 10 * 2 ^ 32 + b / 10)) (mod-lt b (omega arith)))

pub pair_fits : (r l : ℕ) → r < 10 → l < 2 ^ 32 → r * 2 ^ 32 + l < 2 ^ 64
pair_fits r l h k = omega arith

pub upper_lt : (l : ℕ) → l < 2 ^ 64 → l / 2 ^ 32 < 2 ^ 32
upper_lt l h = omega arith
