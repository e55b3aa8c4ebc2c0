-- The bytes of a name, and of a symbol one by one. Assumes nothing.
use mathlib.Core.Path.{◌≡◌, refl}
use mathlib.Core.Bool.{true, false}
use mathlib.Core.List.{List, [], ◌∷◌}
use Prim.Native.Nat.{ℕ, ◌+◌, ◌-◌, ◌<◌}
use native.Mathlib.Omega.{arith}
use lib.ListN.{length, take, drop, get_or}
use Rattle.std.specs.List.{list_all}
use Rattle.classes.specs.Classes.{class_of, symbol_first, symbol_other}
use Rattle.records.specs.Records.{head_len, payload}
use Rattle.table.specs.Trees.{runs_on, is_symbol}

-- what `&t[start..end]` holds between the header of a record and its end
pub part : (t : List ℕ) (at len : ℕ) → take (at + len - (at + head_len)) (drop (at + head_len) t) ≡ payload t at len
part t at len = let e : at + len - (at + head_len) ≡ len - head_len = omega arith in rw e refl

pub empty : (s : List ℕ) → length s ≡ 0 → false ≡ is_symbol s
unfolding is_symbol
empty [] h = refl
empty (b ∷ s) h = absurd (omega arith)

pub not_first : (s : List ℕ) → symbol_first (class_of (get_or s 0 0)) ≡ false → false ≡ is_symbol s
unfolding is_symbol
not_first [] e = refl
not_first (b ∷ s) e = rw e refl

pub begins : (s : List ℕ) → 0 < length s → symbol_first (class_of (get_or s 0 0)) ≡ true → runs_on (drop 1 s) ≡ is_symbol s
unfolding is_symbol
begins [] h e = absurd (omega arith)
begins (b ∷ s) h e = rw e refl

pub runs_all : (s : List ℕ) → list_all (λ b. symbol_other (class_of b)) s ≡ runs_on s
unfolding runs_on
runs_all [] = refl
runs_all (b ∷ s) = rw (runs_all s) refl
