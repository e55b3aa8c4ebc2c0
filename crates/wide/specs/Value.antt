-- The integer of document 01, 'How source becomes tokens': what two limbs stand for, growth by a digit, and the sign rule.
use Rattle.std.specs.Prelude.{ℕ, ◌+◌, ◌-◌, ◌*◌, ◌/◌, ◌%◌, ◌^◌, Bool, true, false, cond, ℤ, pos, ◌+ℤ◌, ◌*ℤ◌, ◌==◌, nat_lt, Option, Some, None}
use Rattle.std.specs.Int.{w128}
use Rattle.std.proofs.Common.{to_z}
pub use Rattle.wide.specs.declared.Limbs.{Limbs}
pub use Rattle.wide.specs.declared.Wide.{Wide}

-- the number of two unsigned limbs
unfoldable pub val : Limbs → ℕ
val n = n.hi * 2 ^ 64 + n.lo

-- the two limbs of a number below 2^128
abbrev pub split : ℕ → Limbs
split v = record { hi = v / 2 ^ 64; lo = v % 2 ^ 64 }

-- the integer of a signed high limb and an unsigned low limb
unfoldable pub value_of : ℤ → ℕ → ℤ
value_of h l = h *ℤ pos (2 ^ 64) +ℤ pos l

abbrev pub value : Wide → ℤ
value w = value_of w.hi w.lo

-- a number of at most 2^128-1, or none
unfoldable pub grown : ℕ → Option Limbs
grown v = cond (nat_lt v (2 ^ 128)) (Some (split v)) None

-- n's 128 bits with a sign: n modulo 2^128 in -2^127 .. 2^127-1
abbrev pub reduced : ℕ → ℤ
reduced n = to_z w128 n

pub data Integer : Type 0 where
  is : ℤ → Integer
  none : Integer

-- n or, with `-`, minus n, reduced modulo 2^128; `-` with 2^127 is refused
unfoldable pub integer_of : Bool → ℕ → Integer
integer_of false n = is (reduced n)
integer_of true n = cond (n == 2 ^ 127) none (is (reduced ((2 ^ 128 - n) % 2 ^ 128)))

-- what the code hands out for it
abbrev pub signed_of : Option Wide → Integer
signed_of (Some w) = is (value w)
signed_of None = none
