-- The text of an integer: decimal, no plus sign, no leading zeros (document 01, 'How a table is laid out'); but for -2^127, which no spelling with a minus reads as (document 02, 6/12).
use Rattle.std.specs.Prelude.{ℕ, zero, suc, ◌+◌, ◌-◌, ◌/◌, ◌%◌, ◌^◌, Bool, false, cond, List, [], ◌∷◌, ◌++◌, replicate, ℤ, pos, negsuc, ◌==◌, nat_lt}

-- the digits of n, of which there are at most k, the most significant first
unfoldable pub digits : ℕ → ℕ → List ℕ
digits zero n = []
digits (suc k) n = cond (nat_lt n 10) ((48 + n) ∷ []) (digits k (n / 10) ++ ((48 + n % 10) ∷ []))

-- a number of 128 bits has at most 39
abbrev pub digits_of : ℕ → List ℕ
digits_of n = digits 39 n

abbrev pub decimal : ℤ → List ℕ
decimal (pos n) = digits_of n
decimal (negsuc n) = 45 ∷ digits_of (suc n)

-- -2^127, written as the integer below -(2^127 - 1)
abbrev pub lowest_integer : ℤ
lowest_integer = negsuc (2 ^ 127 - 1)

unfoldable pub is_lowest : ℤ → Bool
is_lowest (pos n) = false
is_lowest (negsuc n) = n == 2 ^ 127 - 1

-- `0x8` and 31 zeros
abbrev pub lowest_text : List ℕ
lowest_text = 48 ∷ 120 ∷ 56 ∷ replicate 31 48

unfoldable pub integer_text : ℤ → List ℕ
integer_text z = cond (is_lowest z) lowest_text (decimal z)
