-- Private, for contracts of the code's own functions: what the walk that checks a table and measures it answers.
use Rattle.std.specs.Prelude.{ℕ, ◌+◌, ◌*◌, ◌-◌, ◌≤◌, ◌≡◌, List, length, Result as CodeResult, Ok, Err}
use Rattle.refusals.specs.declared.Refusal.{Refusal}
use Rattle.refusals.specs.Result.{Result, ok, refused}
use Rattle.table.specs.Trees.{Tree, Trees, cost}
use Rattle.table.specs.Costs.{costed}
use Rattle.table.specs.Decoding.{Found, found}
use Rattle.table.specs.Walking.{wrong_in}
use Rattle.printer.specs.Layout.{page}
use Rattle.printer.specs.PrivateWriting.{line, laid}
use Rattle.printer.specs.declared.measure.Size.{Size}

-- the tree x that stands from `at` to q
abbrev pub Told : List ℕ → ℕ → Tree → ℕ → Size → Type 0
Told t at x q r = (r.place ≡ q) × (r.cost ≡ cost x) × (r.wrong ≡ wrong_in (costed t x at))

-- a refusal of the number n at the place a
abbrev pub Stopped : ℕ → ℕ → Refusal → Type 0
Stopped n a r = (r.number ≡ n) × (r.place ≡ a)

-- on a single line
abbrev pub Straight : List ℕ → ℕ → Result (Found Tree) → CodeResult Size Refusal → Type 0
Straight t at (ok (found x q)) (Ok r) = Told t at x q r × (r.len ≡ length (line x))
Straight t at (ok (found x q)) (Err r) = ⊥
Straight t at (refused n a) (Ok r) = ⊥
Straight t at (refused n a) (Err r) = Stopped n a r

-- laid at width w, indent i and column c, if no cost is wrong; bounded in any case
abbrev pub Sized : List ℕ → ℕ → Result (Found Tree) → ℕ → ℕ → ℕ → CodeResult Size Refusal → Type 0
Sized t at (ok (found x q)) w i c (Ok r) =
    Told t at x q r × (costed t x at ≡ ok tt → r.len ≡ length (laid w i c x)) × (r.len + 300 ≤ 128 * (q - at))
Sized t at (ok (found x q)) w i c (Err r) = ⊥
Sized t at (refused n a) w i c (Ok r) = ⊥
Sized t at (refused n a) w i c (Err r) = Stopped n a r

-- a whole table at width w: the bytes of its text, or its refusal
abbrev pub Summed : Result (Found Trees) → ℕ → CodeResult ℕ Refusal → Type 0
Summed (ok (found xs q)) w (Ok n) = n ≡ length (page xs w)
Summed (ok (found xs q)) w (Err r) = ⊥
Summed (refused n a) w (Ok k) = ⊥
Summed (refused n a) w (Err r) = Stopped n a r
