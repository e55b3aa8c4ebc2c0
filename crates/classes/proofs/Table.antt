-- A table whose entries are a function's values: antt computes the list from the function and compares it with the one of the source. Assumes nothing.
use Rattle.std.proofs.Common.{◌≡◌, ℕ, zero, suc, ◌+◌, ◌<◌, List, [], ◌∷◌, get_or, sym, ap, ◌∙◌, le_of_suc-le-suc, not-suc-le-zero, add-zero, add-suc, suc-add, zero-add}

abbrev pub build : (ℕ → ℕ) → ℕ → ℕ → List ℕ
build g zero i = []
build g (suc n) i = g i ∷ build g n (suc i)

from : (g : ℕ → ℕ) (n i k : ℕ) → k < n → get_or (build g n i) k 0 ≡ g (i + k)
from g zero i k h = absurd (not-suc-le-zero h)
from g (suc n) i zero h = ap g (sym (add-zero i))
from g (suc n) i (suc k) h = from g n (suc i) k (le_of_suc-le-suc h) ∙ ap g (suc-add i k ∙ sym (add-suc i k))

pub built : (g : ℕ → ℕ) (n k : ℕ) → k < n → get_or (build g n 0) k 0 ≡ g k
built g n k h = from g n 0 k h ∙ ap g (zero-add k)
