-- The integer at the ends of its range and in document 01's cases, computed. Assumes nothing.
use Rattle.std.specs.Prelude.{Some, None}
use Rattle.std.proofs.Common.{◌≡◌, ℕ, ◌+◌, ◌-◌, ◌^◌, Bool, true, false, List, [], ◌∷◌, map, replicate, pos, negsuc, refl}
use Rattle.wide.specs.Value.{is, none, integer_of, grown}
use Rattle.wide.specs.Text.{digits, is_lowest, integer_text}
use Rattle.wide.specs.Bytes.{le, wide_bytes}

-- 0, -1, 10, the highest integer and the two lowest as text
pub texts : map integer_text (pos 0 ∷ negsuc 0 ∷ pos 10 ∷ pos (2 ^ 127 - 1) ∷ negsuc (2 ^ 127 - 2) ∷ negsuc (2 ^ 127 - 1) ∷ [])
    ≡ (48 ∷ [])
    ∷ (45 ∷ 49 ∷ [])
    ∷ (49 ∷ 48 ∷ [])
    ∷ (49 ∷ 55 ∷ 48 ∷ 49 ∷ 52 ∷ 49 ∷ 49 ∷ 56 ∷ 51 ∷ 52 ∷ 54 ∷ 48 ∷ 52 ∷ 54 ∷ 57 ∷ 50 ∷ 51 ∷ 49 ∷ 55 ∷ 51 ∷ 49 ∷ 54 ∷ 56 ∷ 55 ∷ 51 ∷ 48 ∷ 51 ∷ 55 ∷ 49 ∷ 53 ∷ 56 ∷ 56 ∷ 52 ∷ 49 ∷ 48 ∷ 53 ∷ 55 ∷ 50 ∷ 55 ∷ [])
    ∷ (45 ∷ 49 ∷ 55 ∷ 48 ∷ 49 ∷ 52 ∷ 49 ∷ 49 ∷ 56 ∷ 51 ∷ 52 ∷ 54 ∷ 48 ∷ 52 ∷ 54 ∷ 57 ∷ 50 ∷ 51 ∷ 49 ∷ 55 ∷ 51 ∷ 49 ∷ 54 ∷ 56 ∷ 55 ∷ 51 ∷ 48 ∷ 51 ∷ 55 ∷ 49 ∷ 53 ∷ 56 ∷ 56 ∷ 52 ∷ 49 ∷ 48 ∷ 53 ∷ 55 ∷ 50 ∷ 55 ∷ [])
    ∷ (48 ∷ 120 ∷ 56 ∷ replicate 31 48)
    ∷ []
unfolding digits is_lowest integer_text
texts = refl

-- the literals of document 01: `0x8` and 31 zeros, with `-` too, `-0x` and 32 `f`, 2^128-1; 0 with a sign; either side of 2^127
abbrev pub literals : List (Bool × ℕ)
literals =
    (false, 2 ^ 127) ∷ (true, 2 ^ 127) ∷ (true, 2 ^ 128 - 1) ∷ (false, 2 ^ 128 - 1) ∷ (false, 0) ∷ (true, 0) ∷ (true, 2)
    ∷ (false, 2 ^ 127 - 1) ∷ (true, 2 ^ 127 - 1) ∷ (true, 2 ^ 127 + 1) ∷ []

pub integers : map (λ (l : Bool × ℕ). integer_of l.0 l.1) literals
    ≡ is (negsuc (2 ^ 127 - 1)) ∷ none ∷ is (pos 1) ∷ is (negsuc 0) ∷ is (pos 0) ∷ is (pos 0) ∷ is (negsuc 1)
    ∷ is (pos (2 ^ 127 - 1)) ∷ is (negsuc (2 ^ 127 - 2)) ∷ is (pos (2 ^ 127 - 1)) ∷ []
unfolding integer_of
integers = refl

-- 2^128-1 is held, one more is not
pub growths : map grown (2 ^ 64 ∷ (2 ^ 128 - 1) ∷ 2 ^ 128 ∷ [])
    ≡ Some (record { hi = 1; lo = 0 }) ∷ Some (record { hi = 2 ^ 64 - 1; lo = 2 ^ 64 - 1 }) ∷ None ∷ []
unfolding grown
growths = refl

-- 258, -1 and the lowest integer in 16 bytes
pub in_bytes : map wide_bytes (pos 258 ∷ negsuc 0 ∷ negsuc (2 ^ 127 - 1) ∷ [])
    ≡ (2 ∷ 1 ∷ replicate 14 0) ∷ replicate 16 255 ∷ (0 ∷ 0 ∷ 0 ∷ 0 ∷ 0 ∷ 0 ∷ 0 ∷ 0 ∷ 0 ∷ 0 ∷ 0 ∷ 0 ∷ 0 ∷ 0 ∷ 0 ∷ 128 ∷ []) ∷ []
unfolding le
in_bytes = refl
