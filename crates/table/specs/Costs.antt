-- The costs that a table's lists store (document 02, 7/12): each is held to the cost of what follows in the table, an outer list's before those inside it. THEOREM cost_fits.
use Rattle.std.specs.Prelude.{ℕ, ◌+◌, ◌^◌, ◌≤◌, ◌<◌, cond, List, eqb, length}
use Rattle.refusals.specs.Numbers.{table_limit, wrong_cost}
use Rattle.refusals.specs.Result.{Result, ok, refused, and_then}
use Rattle.wide.specs.Bytes.{number_in}
use Rattle.records.specs.Records.{head_len}
use Rattle.table.specs.Kinds.{list_len}
use Rattle.table.specs.Trees.{Tree, Trees, symbol, integer, binding, list, none, more, cost, records}

-- the 4 bytes after the item count of the list at a place, of any table
unfoldable pub stored_cost : List ℕ → ℕ → ℕ
stored_cost t at = number_in 4 t (at + (head_len + 4))

-- a tree that stands at a place: 25 at its first list, in preorder, that stores another cost than its own
unfoldable mutual
  pub costed : List ℕ → Tree → ℕ → Result (Unit {0})
  costed t (symbol n) at = ok tt
  costed t (integer z) at = ok tt
  costed t (binding n x) at = costed t x (at + (length n + head_len))
  costed t (list xs) at = cond (eqb (stored_cost t at) (cost (list xs))) (costed_all t xs (at + list_len)) (refused wrong_cost at)

  pub costed_all : List ℕ → Trees → ℕ → Result (Unit {0})
  costed_all t none at = ok tt
  costed_all t (more x xs) at = and_then (costed t x at) (λ _. costed_all t xs (at + length (records x)))

-- a cost fits its 4 bytes in any table within the limit: a byte of a record costs less than 2
abbrev pub CostFits : Type 0
CostFits = (x : Tree) → length (records x) ≤ table_limit → cost x < 2 ^ 32
