-- What one walk over a tree tells: where it ends, what it costs, its empty lists, and the first list that stores a wrong cost.
use Rattle.std.specs.Prelude.{ℕ, ◌+◌, ◌<◌, ◌≡◌, cond, List, eqb, Option, Some, None, Result as CodeResult, Ok, Err}
use Rattle.refusals.specs.Result.{Result, ok, refused}
use Rattle.refusals.specs.declared.Refusal.{Refusal}
use Rattle.table.specs.Trees.{Tree, Trees, symbol, integer, binding, list, none, more, cost}
use Rattle.table.specs.Decoding.{Found, found}
use Rattle.table.specs.Costs.{stored_cost, costed}
use Rattle.table.specs.declared.walk.Walked.{Walked}

-- the empty lists in a tree: each takes a byte more on a single line than it costs
abbrev pub is_empty : Trees → ℕ
is_empty none = 1
is_empty (more x xs) = 0

unfoldable mutual
  pub empties : Tree → ℕ
  empties (symbol n) = 0
  empties (integer z) = 0
  empties (binding n x) = empties x
  empties (list xs) = is_empty xs + empties_of xs

  pub empties_of : Trees → ℕ
  empties_of none = 0
  empties_of (more x xs) = empties x + empties_of xs

-- the place of a wrong cost, if there is one
abbrev pub wrong_in : Result (Unit {0}) → Option ℕ
wrong_in (ok u) = None
wrong_in (refused n a) = Some a

-- the first of two, where there is one
abbrev pub first_of : Option ℕ → Option ℕ → Option ℕ
first_of None b = b
first_of (Some a) b = Some a

-- the place of a list that costs k and stores another cost
abbrev pub own_wrong : List ℕ → ℕ → ℕ → Option ℕ
own_wrong t at k = cond (eqb (stored_cost t at) k) None (Some at)

-- a tree that is found, or a refusal, with which nothing else is told
abbrev pub Walks : List ℕ → ℕ → Result (Found Tree) → CodeResult Walked Refusal → Type 0
Walks t at (ok (found x q)) (Ok r) = (r.place ≡ q) × (r.cost ≡ cost x) × (r.empty ≡ empties x) × (r.wrong ≡ wrong_in (costed t x at))
Walks t at (ok (found x q)) (Err r) = ⊥
Walks t at (refused n a) (Ok r) = ⊥
Walks t at (refused n a) (Err r) = (r.number ≡ n) × (r.place ≡ a) × (0 < n)
