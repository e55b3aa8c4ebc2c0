-- Numbers as bytes, little-endian (document 01, 'Trees and their table').
use Rattle.std.specs.Prelude.{ℕ, zero, suc, ◌+◌, ◌*◌, ◌/◌, ◌%◌, ◌<◌, cond, List, [], ◌∷◌, length, take, drop, ℤ, pos, nat_le, slice_index}
use Rattle.std.specs.Int.{w128}
use Rattle.std.proofs.Common.{of_z, to_z}

-- every number of a list is a byte, as every slice of bytes is known to hold
abbrev pub Bytes : List ℕ → Type 0
Bytes t = (i : ℕ) → slice_index t i < 256

-- the k lowest bytes of n, the least first
unfoldable pub le : ℕ → ℕ → List ℕ
le zero n = []
le (suc k) n = n % 256 ∷ le k (n / 256)

-- the number that bytes stand for, the least first
unfoldable pub number : List ℕ → ℕ
number [] = 0
number (b ∷ l) = b + 256 * number l

-- the number in the k bytes of t from p on; bytes past the end count as none
abbrev pub number_at : ℕ → List ℕ → ℕ → ℕ
number_at k t p = number (take k (drop p t))

-- an integer's 16 bytes, two's complement, and the integer that stands in 16 bytes
abbrev pub wide_bytes : ℤ → List ℕ
wide_bytes z = le 16 (of_z w128 z)

abbrev pub integer_at : List ℕ → ℕ → ℤ
integer_at t p = to_z w128 (number_at 16 t p)

-- the same for a reader that may be asked for bytes past the end: 0 where fewer are left
abbrev pub number_in : ℕ → List ℕ → ℕ → ℕ
number_in k t p = cond (nat_le (p + k) (length t)) (number_at k t p) 0

abbrev pub wide_in : List ℕ → ℕ → ℤ
wide_in t p = cond (nat_le (p + 16) (length t)) (integer_at t p) (pos 0)
