-- The faults of a table: their places (document 02, 1/12) and their numbers. THEOREM fault_placed: 22 and no other fault is told at the table's length; every other one, but
-- for 1, at one of its bytes. THEOREM fault_numbered: a table is refused for its length, or with one of seven numbers; 17, retired by document 02, 6/12, is none of them.
use Rattle.std.specs.Prelude.{ℕ, ◌≤◌, ◌≡◌, Bool, true, ◌||◌, ◌⊎◌, List, eqb, length}
use Rattle.refusals.specs.Numbers.{table_limit, too_long, too_deep, bad_record, bad_symbol, unknown_kind, wrong_length, missing_trees, wrong_cost}
use Rattle.refusals.specs.Result.{refused}
use Rattle.table.specs.Decoding.{table_of}

abbrev pub FaultPlaced : Type 0
FaultPlaced =
    (t : List ℕ) (n a : ℕ) → length t ≤ table_limit → table_of t ≡ refused n a
    → (a ≤ length t) × (n ≡ missing_trees → a ≡ length t) × (a ≡ length t → n ≡ missing_trees)

-- what a record is refused for: as it is due, and last for the cost that it stores
abbrev pub is_fault : ℕ → Bool
is_fault n = eqb n bad_record || (eqb n unknown_kind || (eqb n wrong_length || (eqb n too_deep || (eqb n bad_symbol || (eqb n missing_trees || eqb n wrong_cost)))))

abbrev pub FaultNumbered : Type 0
FaultNumbered = (t : List ℕ) (n a : ℕ) → table_of t ≡ refused n a → (n ≡ too_long) ⊎ (is_fault n ≡ true)
