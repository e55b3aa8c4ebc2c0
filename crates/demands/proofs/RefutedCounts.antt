-- Wrong counts of the records that the fits test looks at (document 02, 7/12), each ruled out by the promise that it breaks, on a given input, refuted by computation.
use mathlib.Core.Path.{◌≡◌, ap}
use mathlib.Core.Bool.{false}
use mathlib.Core.List.{List, [], ◌∷◌}
use Prim.Native.Nat.{ℕ}
use native.Mathlib.Omega.{arith}
use lib.ListN.{replicate}
use Rattle.refusals.specs.Result.{Result, ok, refused}
use Rattle.classes.specs.Classes.{class_of}
use Rattle.wide.specs.Bytes.{le, number}
use Rattle.records.specs.Records.{record_of, head_at}
use Rattle.table.specs.Costs.{costed, stored_cost}
use Rattle.table.specs.Trees.{list, none, runs_on, is_symbol, cost, records}
use Rattle.table.specs.Records.{record_at}
use Rattle.table.specs.Decoding.{items_at, step_at, tree_at, trees_at, table_of, shape_of}
use Rattle.printer.specs.Layout.{break_column, fits_in, lay, page_from}
use Rattle.printer.specs.Looking.{looks, looked, page_looked}
use Rattle.printer.specs.declared.cost.Tested.{Tested}
use Rattle.printer.specs.Fitting.{tested, fits_at}
use Rattle.printer.specs.Printing.{Text, text, printing}
use Rattle.windows.specs.declared.State.{State}
use Rattle.windows.specs.Machine.{fresh_state, put_of, next_of}
use Rattle.windows.specs.Filling.{Part, part, end, run, fill_of}
use Rattle.demands.proofs.Layouts.{rule_tree}
use Rattle.demands.proofs.Refuted.{Not}

-- the table of `(rule (a b) c)`
abbrev rule : List ℕ
rule = records rule_tree

abbrev counted : Result Text → ℕ
counted (ok (text n k)) = k
counted (refused n a) = 0

abbrev ended : Result Part → ℕ
ended (ok (part n)) = 0
ended (ok (end k)) = k
ended (refused n a) = 0

-- printer::cost::fits: the 6 records of the list are looked at, and not its own alone; the column is past the width, and it is looked at all the same
fits_walks : Not (tested false 6 ≡ fits_at rule 0 13 0)
unfolding fits_at number records record_of le stored_cost fits_in looks
fits_walks e = let z : ◌≡◌ {A = ℕ} 6 1 = ap (λ (x : Tested). x.looked) e in omega arith

fits_past : Not (tested false 1 ≡ fits_at rule 0 13 14)
unfolding fits_at stored_cost fits_in looks
fits_past e = let z : ◌≡◌ {A = ℕ} 1 0 = ap (λ (x : Tested). x.looked) e in omega arith

-- printer::print: the records of each list that is tested, as document 02 had it before 7/12; the outermost list alone; a list inside one that fitted; an empty list left out;
-- the count with a refusal for room
print_walks : Not (ok (text 24 9) ≡ printing rule 13 24)
unfolding printing table_of shape_of costed stored_cost trees_at tree_at items_at record_at head_at step_at number is_symbol runs_on class_of records record_of le break_column fits_in cost lay page_from looks looked page_looked
print_walks e = let z : ◌≡◌ {A = ℕ} 9 2 = ap counted e in omega arith

print_once : Not (ok (text 24 1) ≡ printing rule 13 24)
unfolding printing table_of shape_of costed stored_cost trees_at tree_at items_at record_at head_at step_at number is_symbol runs_on class_of records record_of le break_column fits_in cost lay page_from looks looked page_looked
print_once e = let z : ◌≡◌ {A = ℕ} 1 2 = ap counted e in omega arith

print_inside : Not (ok (text 15 2) ≡ printing rule 14 15)
unfolding printing table_of shape_of costed stored_cost trees_at tree_at items_at record_at head_at step_at number is_symbol runs_on class_of records record_of le break_column fits_in cost lay page_from looks looked page_looked
print_inside e = let z : ◌≡◌ {A = ℕ} 2 1 = ap counted e in omega arith

print_empty : Not (ok (text 3 0) ≡ printing (records (list none)) 0 3)
unfolding printing table_of shape_of costed stored_cost trees_at tree_at items_at record_at head_at step_at number is_symbol runs_on class_of records record_of le break_column fits_in cost lay page_from looks looked page_looked
print_empty e = let z : ◌≡◌ {A = ℕ} 0 1 = ap counted e in omega arith

print_short : Not (ok (text 24 2) ≡ printing rule 13 23)
unfolding printing table_of shape_of costed stored_cost trees_at tree_at items_at record_at head_at step_at number is_symbol runs_on class_of records record_of le break_column fits_in cost lay page_from
print_short e = let z : ◌≡◌ {A = ℕ} 0 1 = cc in omega arith

-- windows::fill at width 13: after a window of 6 bytes and one of 18 the end has the count of the last call alone; a second end has none
abbrev begun : State
begun = (fill_of rule 13 fresh_state (replicate 6 0)).state

abbrev done : State
done = (fill_of rule 13 begun (replicate 18 0)).state

fill_since : Not (ok (end 1) ≡ (fill_of rule 13 done []).answer)
unfolding fill_of run put_of next_of fits_at table_of shape_of cost costed stored_cost trees_at tree_at items_at record_at head_at step_at number is_symbol runs_on class_of records record_of le break_column fits_in looks
fill_since e = let z : ◌≡◌ {A = ℕ} 1 2 = ap ended e in omega arith

fill_again : Not (ok (end 0) ≡ (fill_of rule 13 (fill_of rule 13 done []).state (7 ∷ [])).answer)
unfolding fill_of run put_of next_of fits_at table_of shape_of cost costed stored_cost trees_at tree_at items_at record_at head_at step_at number is_symbol runs_on class_of records record_of le break_column fits_in looks
fill_again e = let z : ◌≡◌ {A = ℕ} 0 2 = ap ended e in omega arith

-- a list inside one that fitted is counted
fill_inside : Not (ok (end 2) ≡ (fill_of rule 14 (fill_of rule 14 fresh_state (replicate 15 0)).state []).answer)
unfolding fill_of run put_of next_of fits_at table_of shape_of cost costed stored_cost trees_at tree_at items_at record_at head_at step_at number is_symbol runs_on class_of records record_of le break_column fits_in looks
fill_inside e = let z : ◌≡◌ {A = ℕ} 2 1 = ap ended e in omega arith
