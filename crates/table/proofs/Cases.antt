-- Document 01's worked table, computed: the records of `x @ (a)`, and the tree that is found in them; and each refusal of a record once.
use mathlib.Core.Path.{◌≡◌, refl}
use mathlib.Core.List.{List, [], ◌∷◌, ◌++◌}
use Prim.Native.Nat.{ℕ}
use lib.ListN.{replicate, take}
use Rattle.wide.specs.Text.{lowest_integer}
use Rattle.wide.specs.Bytes.{le, number}
use Rattle.classes.specs.Classes.{class_of}
use Rattle.refusals.specs.Result.{ok, refused}
use Rattle.records.specs.Records.{record_of, head_at}
use Rattle.table.specs.Trees.{Trees, symbol, integer, binding, list, none, more, runs_on, is_symbol, cost, records, records_of}
use Rattle.table.specs.Records.{record_at}
use Rattle.table.specs.Decoding.{found, items_at, step_at, tree_at, trees_at, shape_of, table_of}
use Rattle.table.specs.Costs.{stored_cost, costed}

-- `x @ (a)`
abbrev pub tree : Trees
tree = more (binding (120 ∷ []) (list (more (symbol (97 ∷ [])) none))) none

abbrev pub bytes : List ℕ
bytes =
    7 ∷ 0 ∷ 0 ∷ 0 ∷ 3 ∷ 0 ∷ 120 ∷ 14 ∷ 0 ∷ 0 ∷ 0 ∷ 5 ∷ 0 ∷ 1 ∷ 0 ∷ 0 ∷ 0 ∷ 3 ∷ 0 ∷ 0 ∷ 0 ∷ 7 ∷ 0 ∷ 0 ∷ 0 ∷ 1 ∷ 0 ∷ 97 ∷ []

pub worked : (records_of tree ≡ bytes) × (table_of bytes ≡ ok (found tree 28))
unfolding le number class_of runs_on is_symbol record_of records head_at record_at step_at items_at tree_at trees_at shape_of cost stored_cost costed table_of
worked = (refl, refl)

-- the item of the list is missing; one byte of it is left; a record cut by the end; an empty symbol
pub refused_tables : (table_of (take 21 bytes) ≡ refused 22 21) × (table_of (take 22 bytes) ≡ refused 15 21)
    × (table_of (take 6 bytes) ≡ refused 15 0) × (table_of (6 ∷ 0 ∷ 0 ∷ 0 ∷ 1 ∷ 0 ∷ []) ≡ refused 16 0)
unfolding le number class_of runs_on is_symbol record_of records head_at record_at step_at items_at tree_at trees_at shape_of cost stored_cost costed table_of
refused_tables = (refl, refl, refl, refl)

-- an unknown kind, with a length below 6 and with one of a head; kind 4, which is unknown now; a list of the length that kind 4 had, the 65th to be open and not
pub ordered_faults : (table_of (5 ∷ 0 ∷ 0 ∷ 0 ∷ 4 ∷ 0 ∷ []) ≡ refused 15 0) × (table_of (6 ∷ 0 ∷ 0 ∷ 0 ∷ 6 ∷ 0 ∷ []) ≡ refused 20 0)
    × (table_of (10 ∷ 0 ∷ 0 ∷ 0 ∷ 4 ∷ 0 ∷ 0 ∷ 0 ∷ 0 ∷ 0 ∷ []) ≡ refused 20 0)
    × (tree_at (10 ∷ 0 ∷ 0 ∷ 0 ∷ 5 ∷ 0 ∷ 0 ∷ 0 ∷ 0 ∷ 0 ∷ []) 0 0 ≡ refused 21 0)
    × (tree_at (10 ∷ 0 ∷ 0 ∷ 0 ∷ 5 ∷ 0 ∷ 0 ∷ 0 ∷ 0 ∷ 0 ∷ []) 1 0 ≡ refused 21 0)
unfolding le number class_of runs_on is_symbol record_of records head_at record_at step_at items_at tree_at trees_at shape_of cost stored_cost costed table_of
ordered_faults = (refl, refl, refl, refl, refl)

-- a list that stores the cost k, and the records of its n items
abbrev listed : ℕ → ℕ → List ℕ → List ℕ
listed n k items = 14 ∷ 0 ∷ 0 ∷ 0 ∷ 5 ∷ 0 ∷ n ∷ 0 ∷ 0 ∷ 0 ∷ k ∷ 0 ∷ 0 ∷ 0 ∷ items

-- `(())` costs 3, and the list in it 1. A wrong cost is told at its list; of two the outer; behind a tree that is missing, and behind an empty symbol
pub wrong_costs : (table_of (listed 1 3 (listed 0 1 [])) ≡ ok (found (more (list (more (list none) none)) none) 28))
    × (table_of (listed 1 3 (listed 0 2 [])) ≡ refused 25 14) × (table_of (listed 1 2 (listed 0 2 [])) ≡ refused 25 0)
    × (table_of (listed 1 2 (listed 1 2 [])) ≡ refused 22 28) × (table_of (listed 0 2 (6 ∷ 0 ∷ 0 ∷ 0 ∷ 1 ∷ 0 ∷ [])) ≡ refused 16 14)
unfolding le number class_of runs_on is_symbol record_of records head_at record_at step_at items_at tree_at trees_at shape_of cost stored_cost costed table_of
wrong_costs = (refl, refl, refl, refl, refl)

-- -2^127 is a good integer
abbrev lowest_record : List ℕ
lowest_record = 22 ∷ 0 ∷ 0 ∷ 0 ∷ 2 ∷ 0 ∷ (replicate 15 0 ++ (128 ∷ []))

pub lowest_table_lem : table_of lowest_record ≡ ok (found (more (integer lowest_integer) none) 22)
unfolding le number class_of runs_on is_symbol record_of records head_at record_at step_at items_at tree_at trees_at shape_of cost stored_cost costed table_of
lowest_table_lem = refl
