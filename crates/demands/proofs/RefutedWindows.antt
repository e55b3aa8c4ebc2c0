-- For each public function of the windowed print, for its door for C, and for those of the printer that it asks, two wrong answers or more that its promise rules out,
-- on a given input, refuted by computation.
use mathlib.Core.Path.{◌≡◌, ap}
use mathlib.Core.Bool.{true, false}
use mathlib.Core.List.{List, [], ◌∷◌}
use Prim.Native.Nat.{ℕ}
use native.Mathlib.Omega.{arith}
use lib.ListN.{get_or, replicate}
use Rattle.refusals.specs.Result.{ok}
use Rattle.classes.specs.Classes.{class_of}
use Rattle.wide.specs.Bytes.{number}
use Rattle.records.specs.Records.{head_at}
use Rattle.printer.specs.Looking.{looks}
use Rattle.table.specs.Costs.{costed, stored_cost}
use Rattle.table.specs.Trees.{runs_on, is_symbol, cost}
use Rattle.table.specs.Records.{record_at}
use Rattle.table.specs.Decoding.{items_at, step_at, tree_at, trees_at, table_of, shape_of}
use Rattle.printer.specs.Layout.{break_column, fits_in}
use Rattle.printer.specs.declared.cost.Tested.{Tested}
use Rattle.printer.specs.Fitting.{tested, fits_at}
use Rattle.windows.specs.declared.State.{State}
use Rattle.windows.specs.declared.Phase.TheVariants.{Fresh, Node, Between, Done}
use Rattle.windows.specs.Machine.{state, fresh_state, phase_word, put_of, next_of}
use Rattle.windows.specs.Filling.{part, end, run, fill_of}
use Rattle.words.specs.Words.{eight, end_answer, done_answer}
use Rattle.tulbazhik_windows.specs.States.{phase_in, cursor_in, stored, unpack_of, state_words, part_words, call_words}
use Rattle.demands.proofs.Refuted.{Not}

-- `a` and `ab`, each 2 and 3 bytes as a text; a good tree and then a record of unknown kind
abbrev one_byte : List ℕ
one_byte = 7 ∷ 0 ∷ 0 ∷ 0 ∷ 1 ∷ 0 ∷ 97 ∷ []

abbrev two_bytes : List ℕ
two_bytes = 8 ∷ 0 ∷ 0 ∷ 0 ∷ 1 ∷ 0 ∷ 97 ∷ 98 ∷ []

abbrev second_bad : List ℕ
second_bad = 7 ∷ 0 ∷ 0 ∷ 0 ∷ 1 ∷ 0 ∷ 97 ∷ 6 ∷ 0 ∷ 0 ∷ 0 ∷ 6 ∷ 0 ∷ []

-- the state after a first window of n bytes
abbrev after : List ℕ → ℕ → State
after t n = (fill_of t 0 fresh_state (replicate n 9)).state

-- printer::cost::break_column: the spaces of the indent; one
break_spaces : Not (8 ≡ break_column 2)
unfolding break_column
break_spaces e = omega arith

break_one : Not (1 ≡ break_column 0)
unfolding break_column
break_one e = omega arith

-- printer::cost::fits_in: a cost of 0 past the width; a cost that takes the last column is too much
in_past : Not (true ≡ fits_in 3 4 0)
unfolding fits_in
in_past e = let z : ◌≡◌ {A = ℕ} 0 1 = cc in omega arith

in_last : Not (false ≡ fits_in 3 1 2)
unfolding fits_in
in_last e = let z : ◌≡◌ {A = ℕ} 0 1 = cc in omega arith

-- printer::cost::fits: `(ab)`, which stores 4, fits in 4; it does not fit in 3; a table that ends before the cost, which is 0 then. The records looked at: RefutedCounts
abbrev listed : List ℕ
listed = 14 ∷ 0 ∷ 0 ∷ 0 ∷ 5 ∷ 0 ∷ 1 ∷ 0 ∷ 0 ∷ 0 ∷ 4 ∷ 0 ∷ 0 ∷ 0 ∷ two_bytes

fits_last : Not (tested false 1 ≡ fits_at listed 0 4 0)
unfolding fits_at number stored_cost fits_in looks
fits_last e = let f : false ≡ true = ap (λ (x : Tested). x.fits) e in let z : ◌≡◌ {A = ℕ} 0 1 = cc in omega arith

fits_own : Not (tested true 1 ≡ fits_at listed 0 3 0)
unfolding fits_at number stored_cost fits_in looks
fits_own e = let f : true ≡ false = ap (λ (x : Tested). x.fits) e in let z : ◌≡◌ {A = ℕ} 0 1 = cc in omega arith

fits_cut : Not (tested false 1 ≡ fits_at (7 ∷ 0 ∷ []) 0 0 0)
unfolding fits_at number stored_cost fits_in looks
fits_cut e = let f : false ≡ true = ap (λ (x : Tested). x.fits) e in let z : ◌≡◌ {A = ℕ} 0 1 = cc in omega arith

-- From<windows::Phase> for u64: counted from 1; the LF between two trees as the LF after a tree
word_of_fresh : Not (1 ≡ phase_word Fresh)
word_of_fresh e = omega arith

word_of_between : Not (6 ≡ phase_word Between)
word_of_between e = omega arith

-- From<u64> for windows::Phase: past the last the table was not checked yet; 0 as a record's
phase_past : Not (Fresh ≡ phase_in 9)
unfolding phase_in
phase_past e = let z : ◌≡◌ {A = ℕ} 0 1 = cc in omega arith

phase_zero : Not (Node ≡ phase_in 0)
unfolding phase_in
phase_zero e = let z : ◌≡◌ {A = ℕ} 0 1 = cc in omega arith

-- windows::fresh: at the second byte; done
fresh_on : Not (1 ≡ fresh_state.cursor.at)
fresh_on e = omega arith

fresh_done : Not (Done ≡ fresh_state.cursor.phase)
fresh_done e = let z : ◌≡◌ {A = ℕ} 0 1 = cc in omega arith

-- windows::fill: the second window begins with the next put, and the rest of the first is lost
fill_skips : Not (10 ∷ [] ≡ (fill_of two_bytes 0 (after two_bytes 1) (9 ∷ [])).window)
unfolding fill_of run put_of next_of table_of shape_of cost costed stored_cost trees_at tree_at record_at head_at step_at number is_symbol runs_on class_of
fill_skips e = let z : ◌≡◌ {A = ℕ} 10 98 = ap (λ (b : List ℕ). get_or b 0 0) e in omega arith

-- the end with a byte left; the end with the last byte; no end where none is left; no end in a window of length 0
fill_early : Not (ok (end 0) ≡ (fill_of one_byte 0 (after one_byte 1) []).answer)
unfolding fill_of run put_of next_of table_of shape_of cost costed stored_cost trees_at tree_at record_at head_at step_at number is_symbol runs_on class_of
fill_early e = let z : ◌≡◌ {A = ℕ} 0 1 = cc in omega arith

fill_last : Not (ok (end 0) ≡ (fill_of one_byte 0 fresh_state (9 ∷ 9 ∷ [])).answer)
unfolding fill_of run put_of next_of table_of shape_of cost costed stored_cost trees_at tree_at record_at head_at step_at number is_symbol runs_on class_of
fill_last e = let z : ◌≡◌ {A = ℕ} 0 1 = cc in omega arith

fill_late : Not (ok (part 0) ≡ (fill_of one_byte 0 (after one_byte 2) []).answer)
unfolding fill_of run put_of next_of table_of shape_of cost costed stored_cost trees_at tree_at record_at head_at step_at number is_symbol runs_on class_of
fill_late e = let z : ◌≡◌ {A = ℕ} 0 1 = cc in omega arith

-- the first call looks at the first tree alone; with a window of length 0 it does not look
fill_first : Not (ok (part 1) ≡ (fill_of second_bad 0 fresh_state (9 ∷ [])).answer)
unfolding fill_of table_of shape_of cost costed stored_cost trees_at tree_at record_at head_at step_at number is_symbol runs_on class_of
fill_first e = let z : ◌≡◌ {A = ℕ} 0 1 = cc in omega arith

fill_unchecked : Not (ok (part 0) ≡ (fill_of second_bad 0 fresh_state []).answer)
unfolding fill_of table_of shape_of cost costed stored_cost trees_at tree_at record_at head_at step_at number is_symbol runs_on class_of
fill_unchecked e = let z : ◌≡◌ {A = ℕ} 0 1 = cc in omega arith

-- a refused call changes its window, or moves its state on
fill_changes : Not (97 ∷ [] ≡ (fill_of second_bad 0 fresh_state (9 ∷ [])).window)
unfolding fill_of table_of shape_of cost costed stored_cost trees_at tree_at record_at head_at step_at number is_symbol runs_on class_of
fill_changes e = let z : ◌≡◌ {A = ℕ} 97 9 = ap (λ (b : List ℕ). get_or b 0 0) e in omega arith

fill_moves : Not (Node ≡ (fill_of second_bad 0 fresh_state (9 ∷ [])).state.cursor.phase)
unfolding fill_of table_of shape_of cost costed stored_cost trees_at tree_at record_at head_at step_at number is_symbol runs_on class_of
fill_moves e = let z : ◌≡◌ {A = ℕ} 0 1 = cc in omega arith

-- a window of length 0 moves the state on
fill_empty : Not (Node ≡ (fill_of one_byte 0 fresh_state []).state.cursor.phase)
unfolding fill_of table_of shape_of cost costed stored_cost trees_at tree_at record_at head_at step_at number is_symbol runs_on class_of
fill_empty e = let z : ◌≡◌ {A = ℕ} 0 1 = cc in omega arith

-- windows::fill_in: `(` leaves the stack as it was; a refusal clears it
in_kept : Not (5 ≡ get_or (fill_of listed 9 (state fresh_state.cursor (5 ∷ [])) (9 ∷ [])).state.stack 0 0)
unfolding fill_of run put_of next_of fits_at table_of shape_of cost costed stored_cost trees_at tree_at items_at record_at head_at step_at number is_symbol runs_on class_of fits_in looks
in_kept e = omega arith

in_cleared : Not (0 ≡ get_or (fill_of second_bad 0 (state fresh_state.cursor (5 ∷ [])) (9 ∷ [])).state.stack 0 0)
unfolding fill_of table_of shape_of cost costed stored_cost trees_at tree_at record_at head_at step_at number is_symbol runs_on class_of
in_cleared e = omega arith

-- ---- tulbazhik_fill

-- the fresh state
abbrev zeros : List ℕ
zeros = replicate 72 0

-- the end told as a part of 0 bytes; a part told as the end
door_end : Not (eight done_answer 0 0 0 0 0 ≡ call_words (fill_of [] 0 (unpack_of zeros) (9 ∷ [])))
unfolding part_words fill_of cursor_in phase_in table_of shape_of cost costed stored_cost trees_at
door_end e = let z : ◌≡◌ {A = ℕ} 8 0 = ap (λ (w : List ℕ). get_or w 0 0) e in omega arith

door_part : Not (eight end_answer 0 0 0 0 0 ≡ call_words (fill_of one_byte 0 (unpack_of zeros) []))
unfolding part_words fill_of cursor_in phase_in table_of shape_of cost costed stored_cost trees_at tree_at record_at head_at step_at number is_symbol runs_on class_of
door_part e = let z : ◌≡◌ {A = ℕ} 0 8 = ap (λ (w : List ℕ). get_or w 0 0) e in omega arith

-- the words as they were after a byte was given; other words after a refusal
door_kept : Not (0 ≡ get_or (state_words (fill_of one_byte 0 (unpack_of zeros) (9 ∷ []))) 64 0)
unfolding stored fill_of run put_of next_of cursor_in phase_in table_of shape_of cost costed stored_cost trees_at tree_at record_at head_at step_at number is_symbol runs_on class_of
door_kept e = omega arith

door_refused : Not (1 ≡ get_or (state_words (fill_of second_bad 0 (unpack_of zeros) (9 ∷ []))) 64 0)
unfolding stored fill_of cursor_in phase_in table_of shape_of cost costed stored_cost trees_at tree_at record_at head_at step_at number is_symbol runs_on class_of
door_refused e = omega arith

-- a byte of the window past those reported
door_past : Not (97 ∷ 10 ∷ 0 ∷ [] ≡ (fill_of one_byte 0 (unpack_of zeros) (9 ∷ 9 ∷ 9 ∷ [])).window)
unfolding fill_of run put_of next_of cursor_in phase_in table_of shape_of cost costed stored_cost trees_at tree_at record_at head_at step_at number is_symbol runs_on class_of
door_past e = let z : ◌≡◌ {A = ℕ} 0 9 = ap (λ (b : List ℕ). get_or b 2 0) e in omega arith
