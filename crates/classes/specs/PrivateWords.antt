-- Private, for the contracts of the functions under `runs`: eight bytes read as one number, and marks on those of them that may end a run.
use Rattle.std.specs.Prelude.{◌≡◌, ℕ, zero, suc, ◌+◌, ◌*◌, ◌%◌, ◌^◌, ◌<◌, ◌≤◌, List, length, slice_index}

-- the number in the n bytes from a place on, the first one lowest
unfoldable pub number : ℕ → List ℕ → ℕ → ℕ
number zero s i = 0
number (suc n) s i = slice_index s i + 256 * number n s (i + 1)

-- m marks bytes of the word w, each by its highest bit, so that a run goes on over all that stand before the first mark
abbrev pub Marks : (List ℕ → ℕ → ℕ) → ℕ → ℕ → Type 0
Marks run w m =
    (s : List ℕ) (i : ℕ) → ((j : ℕ) → slice_index s j < 256) → i + 8 ≤ length s → w ≡ number 8 s i
    → (k : ℕ) → k ≤ 8 → m % 256 ^ k ≡ 0 → run s i ≡ run s (i + k)
