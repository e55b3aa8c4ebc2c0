-- For each public function of the feeder, of records and of the table two wrong answers that its promise rules out, on a given input, refuted by computation.
use mathlib.Core.Path.{◌≡◌, ap}
use mathlib.Core.Bool.{true, false}
use mathlib.Core.List.{List, [], ◌∷◌}
use Prim.Native.Nat.{ℕ}
use native.Mathlib.Omega.{arith}
use lib.ListN.{take, replicate}
use Rattle.std.specs.Prelude.{Option, Some, None, Ok, Err}
use Rattle.refusals.specs.declared.Fault.TheVariants.{BadRecord, UnknownKind, TooDeep}
use Rattle.refusals.specs.Numbers.{depth_limit}
use Rattle.refusals.specs.Result.{ok, refused}
use Rattle.classes.specs.Classes.{class_of}
use Rattle.lists.specs.Over.{fitted}
use Rattle.wide.specs.Bytes.{le, number, number_in}
use Rattle.records.specs.Records.{head, head_of, record_of, head_at}
use Rattle.lexer.specs.Tokens.{token, lparen}
use Rattle.feeder.specs.declared.State.{State}
use Rattle.feeder.specs.declared.Mode.TheVariants.{Blank, Symbol as InSymbol}
use Rattle.feeder.specs.Machine.{turn, step, closing}
use Rattle.feeder.specs.Feeding.{more, finish, ready, Fed, fed, live, closed, dead, fresh_state, feed_from, feed_of, close_of}
use Rattle.table.specs.declared.Record.TheVariants.{Symbol, List as ListOf}
use Rattle.table.specs.declared.Kind.TheVariants as kind
use Rattle.table.specs.Kinds.{kind_named}
use Rattle.table.specs.Costs.{costed, stored_cost}
use Rattle.table.specs.Past.{past_symbol, past_of}
use Rattle.table.specs.Walking.{first_of, own_wrong, Walks}
use Rattle.table.specs.Trees.{runs_on, is_symbol, cost}
use Rattle.table.specs.Records.{record_at}
use Rattle.table.specs.Decoding.{items_at, step_at, tree_at, trees_at, table_of, judged, shape_of}
use Rattle.demands.proofs.Refuted.{Not}

-- feeder::fresh: a byte was consumed; it is closed
fresh_consumed : Not (live Blank 1 ≡ fresh_state)
fresh_consumed e = let z : ◌≡◌ {A = ℕ} 1 0 = ap (λ (s : State). s.place) e in omega arith

fresh_closed : Not (closed 0 ≡ fresh_state)
fresh_closed e = let h = ap (λ (s : State). s.phase) e in let z : ◌≡◌ {A = ℕ} 0 1 = cc h in omega arith

-- feeder::feed: `(` handed out before its next byte; `)` kept back; a form feed consumed; fed after a close
feed_early : Not (fed (ok (ready (token lparen 0 1))) 1 (live Blank 1) ≡ feed_of fresh_state (40 ∷ []))
unfolding feed_of feed_from step turn class_of
feed_early e = let r = ap (λ (f : Fed). f.reply) e in let z : ◌≡◌ {A = ℕ} 0 1 = cc r in omega arith

feed_late : Not (fed (ok more) 1 (live Blank 1) ≡ feed_of fresh_state (41 ∷ []))
unfolding feed_of feed_from step turn class_of
feed_late e = let r = ap (λ (f : Fed). f.reply) e in let z : ◌≡◌ {A = ℕ} 0 1 = cc r in omega arith

feed_form_feed : Not (fed (refused 3 0) 1 (dead 3 0 1) ≡ feed_of fresh_state (12 ∷ []))
unfolding feed_of feed_from step turn class_of
feed_form_feed e = let z : ◌≡◌ {A = ℕ} 1 0 = ap (λ (f : Fed). f.used) e in omega arith

feed_closed : Not (fed (ok more) 0 (closed 5) ≡ feed_of (closed 5) [])
unfolding feed_of
feed_closed e = let r = ap (λ (f : Fed). f.reply) e in let z : ◌≡◌ {A = ℕ} 0 1 = cc r in omega arith

-- feeder::close: the held token is dropped; a closed state is refused
close_drops : Not (fed (ok finish) 0 (closed 1) ≡ close_of (live (InSymbol 0) 1))
unfolding close_of closing
close_drops e = let r = ap (λ (f : Fed). f.reply) e in let z : ◌≡◌ {A = ℕ} 0 1 = cc r in omega arith

close_again : Not (fed (refused 19 5) 0 (closed 5) ≡ close_of (closed 5))
unfolding close_of
close_again e = let r = ap (λ (f : Fed). f.reply) e in let z : ◌≡◌ {A = ℕ} 0 1 = cc r in omega arith

-- records::len_at: the kind; what is left of a length that the end cuts
len_kind : Not (1 ≡ number_in 4 (7 ∷ 0 ∷ 0 ∷ 0 ∷ 1 ∷ 0 ∷ 97 ∷ []) 0)
unfolding number
len_kind e = omega arith

len_cut : Not (7 ≡ number_in 4 (7 ∷ 0 ∷ 0 ∷ []) 0)
unfolding number
len_cut e = omega arith

-- records::kind_at: the length; one where the head is cut
kind_len : Not (7 ≡ number_in 2 (7 ∷ 0 ∷ 0 ∷ 0 ∷ 1 ∷ 0 ∷ 97 ∷ []) 4)
unfolding number
kind_len e = omega arith

kind_cut : Not (1 ≡ number_in 2 (7 ∷ 0 ∷ 0 ∷ 0 ∷ 1 ∷ []) 4)
unfolding number
kind_cut e = omega arith

-- records::head_at: a length past the end; one below a head's
head_past : Not (Some (head 1 7) ≡ head_at (7 ∷ 0 ∷ 0 ∷ 0 ∷ 1 ∷ 0 ∷ []) 0)
unfolding head_at number
head_past e = let z : ◌≡◌ {A = ℕ} 0 1 = cc in omega arith

head_below : Not (Some (head 1 5) ≡ head_at (5 ∷ 0 ∷ 0 ∷ 0 ∷ 1 ∷ 0 ∷ []) 0)
unfolding head_at number
head_below e = let z : ◌≡◌ {A = ℕ} 0 1 = cc in omega arith

-- records::put_head: the kind first; bytes written where the room is too short
put_order : Not (1 ∷ 0 ∷ 6 ∷ 0 ∷ 0 ∷ 0 ∷ [] ≡ fitted (head_of 1 6) (replicate 6 9))
unfolding le
put_order e = let z : ◌≡◌ {A = ℕ} 1 6 = cc in omega arith

put_short : Not (6 ∷ 0 ∷ 0 ∷ 0 ∷ [] ≡ fitted (head_of 1 6) (replicate 4 9))
unfolding le
put_short e = let z : ◌≡◌ {A = ℕ} 6 9 = cc in omega arith

-- records::put: the payload's length for the record's; nothing written
put_payload : Not (1 ∷ 0 ∷ 0 ∷ 0 ∷ 1 ∷ 0 ∷ 97 ∷ [] ≡ fitted (record_of 1 (97 ∷ [])) (replicate 7 9))
unfolding record_of le
put_payload e = let z : ◌≡◌ {A = ℕ} 1 7 = cc in omega arith

put_none : Not (replicate 7 9 ≡ fitted (record_of 1 (97 ∷ [])) (replicate 7 9))
unfolding record_of le
put_none e = let z : ◌≡◌ {A = ℕ} 9 7 = cc in omega arith

-- TryFrom<usize> for table::Kind: 4, which is retired, as a list's; an unknown one told as a bad record
named_retired : Not (Ok kind.List ≡ kind_named 4)
named_retired e = let z : ◌≡◌ {A = ℕ} 0 1 = cc in omega arith

named_bad : Not (Err BadRecord ≡ kind_named 0)
named_bad e = let z : ◌≡◌ {A = ℕ} 0 1 = cc in omega arith

-- table::record_at: an empty symbol is bad; a length past the end is let through; 20 before 15; a missing tree as a record cut short
record_empty : Not (Err BadRecord ≡ record_at (6 ∷ 0 ∷ 0 ∷ 0 ∷ 1 ∷ 0 ∷ []) 0)
unfolding record_at head_at number
record_empty e = let z : ◌≡◌ {A = ℕ} 0 1 = cc in omega arith

record_past : Not (Ok (Symbol 7) ≡ record_at (7 ∷ 0 ∷ 0 ∷ 0 ∷ 1 ∷ 0 ∷ []) 0)
unfolding record_at head_at number
record_past e = let z : ◌≡◌ {A = ℕ} 0 1 = cc in omega arith

record_kind : Not (Err UnknownKind ≡ record_at (5 ∷ 0 ∷ 0 ∷ 0 ∷ 4 ∷ 0 ∷ []) 0)
unfolding record_at head_at number
record_kind e = let z : ◌≡◌ {A = ℕ} 0 1 = cc in omega arith

-- a list as it was before it stored its cost: by its kind, which is 20 now, and by its length, which is 21
record_old : Not (Ok (ListOf 0) ≡ record_at (10 ∷ 0 ∷ 0 ∷ 0 ∷ 4 ∷ 0 ∷ replicate 4 0) 0)
unfolding record_at head_at number
record_old e = let z : ◌≡◌ {A = ℕ} 0 1 = cc in omega arith

record_short : Not (Err UnknownKind ≡ record_at (10 ∷ 0 ∷ 0 ∷ 0 ∷ 5 ∷ 0 ∷ replicate 4 0) 0)
unfolding record_at head_at number
record_short e = let z : ◌≡◌ {A = ℕ} 0 1 = cc in omega arith

record_missing : Not (Err BadRecord ≡ record_at [] 0)
unfolding record_at head_at number
record_missing e = let z : ◌≡◌ {A = ℕ} 0 1 = cc in omega arith

-- table::is_symbol: the empty one; one that begins with a digit
symbol_empty : Not (true ≡ is_symbol [])
unfolding is_symbol
symbol_empty e = let z : ◌≡◌ {A = ℕ} 0 1 = cc in omega arith

symbol_digit : Not (true ≡ is_symbol (49 ∷ 97 ∷ []))
unfolding is_symbol runs_on class_of
symbol_digit e = let z : ◌≡◌ {A = ℕ} 0 1 = cc in omega arith

-- table::step_at: an empty symbol is let through; a list that is too deep is let through; 21 after 13
step_empty : Not (Ok (Symbol 6) ≡ step_at (6 ∷ 0 ∷ 0 ∷ 0 ∷ 1 ∷ 0 ∷ []) 0 true)
unfolding step_at record_at head_at number is_symbol
step_empty e = let z : ◌≡◌ {A = ℕ} 0 1 = cc in omega arith

step_deep : Not (Ok (ListOf 0) ≡ step_at (14 ∷ 0 ∷ 0 ∷ 0 ∷ 5 ∷ 0 ∷ replicate 8 0) 0 false)
unfolding step_at record_at head_at number
step_deep e = let z : ◌≡◌ {A = ℕ} 0 1 = cc in omega arith

step_length : Not (Err TooDeep ≡ step_at (15 ∷ 0 ∷ 0 ∷ 0 ∷ 5 ∷ 0 ∷ replicate 9 0) 0 false)
unfolding step_at record_at head_at number
step_length e = let z : ◌≡◌ {A = ℕ} 0 1 = cc in omega arith

-- table::past_symbol: past an empty symbol; not past a good one
past_empty : Not (6 ≡ past_symbol (6 ∷ 0 ∷ 0 ∷ 0 ∷ 1 ∷ 0 ∷ []) 0)
unfolding past_symbol record_at head_at number is_symbol
past_empty e = omega arith

past_stays : Not (0 ≡ past_symbol (7 ∷ 0 ∷ 0 ∷ 0 ∷ 1 ∷ 0 ∷ 97 ∷ []) 0)
unfolding past_symbol record_at head_at number is_symbol runs_on class_of
past_stays e = omega arith

-- table::past: past a list's record and not its item; past a list whose item is missing
past_item : Not (14 ≡ past_of 0 (tree_at (14 ∷ 0 ∷ 0 ∷ 0 ∷ 5 ∷ 0 ∷ 1 ∷ 0 ∷ 0 ∷ 0 ∷ 3 ∷ 0 ∷ 0 ∷ 0 ∷ 7 ∷ 0 ∷ 0 ∷ 0 ∷ 1 ∷ 0 ∷ 97 ∷ []) depth_limit 0))
unfolding tree_at items_at record_at head_at step_at number is_symbol runs_on class_of
past_item e = omega arith

past_missing : Not (14 ≡ past_of 0 (tree_at (14 ∷ 0 ∷ 0 ∷ 0 ∷ 5 ∷ 0 ∷ 1 ∷ 0 ∷ 0 ∷ 0 ∷ 3 ∷ 0 ∷ 0 ∷ 0 ∷ []) depth_limit 0))
unfolding tree_at items_at record_at head_at step_at number
past_missing e = omega arith

-- a list of n items that stores the cost k, and their records
abbrev costly : ℕ → ℕ → List ℕ → List ℕ
costly n k items = 14 ∷ 0 ∷ 0 ∷ 0 ∷ 5 ∷ 0 ∷ n ∷ 0 ∷ 0 ∷ 0 ∷ k ∷ 0 ∷ 0 ∷ 0 ∷ items

-- table::stored_cost: the item count; the bytes that are left of it where the table ends inside it
stored_count : Not (1 ≡ stored_cost (costly 1 3 []) 0)
unfolding stored_cost number
stored_count e = omega arith

stored_part : Not (3 ≡ stored_cost (take 13 (costly 1 3 [])) 0)
unfolding stored_cost number
stored_part e = omega arith

-- table::walk::earlier: the smaller place and not the first; none, where one is found next
earlier_least : Not (Some 1 ≡ first_of (Some 3) (Some 1))
earlier_least e = let z : ◌≡◌ {A = ℕ} 1 3 = cc in omega arith

earlier_none : Not (None ≡ first_of None (Some 4))
earlier_none e = let z : ◌≡◌ {A = ℕ} 0 1 = cc in omega arith

-- table::walk::own_wrong: none, where another cost is stored; the list's place, where it is right
own_none : Not (None ≡ own_wrong (costly 0 2 []) 0 1)
unfolding stored_cost number
own_none e = let z : ◌≡◌ {A = ℕ} 0 1 = cc in omega arith

own_always : Not (Some 0 ≡ own_wrong (costly 0 1 []) 0 1)
unfolding stored_cost number
own_always e = let z : ◌≡◌ {A = ℕ} 0 1 = cc in omega arith

-- table::walk::walk_tree of `()`: a cost one off; no wrong cost, where 2 is stored; a list left open
walk_cost : Not (Walks (costly 0 1 []) 0 (tree_at (costly 0 1 []) 1 0) (Ok (record { place = 14; cost = 2; empty = 1; wrong = None })))
unfolding tree_at items_at record_at head_at step_at number cost
walk_cost e = let z : ◌≡◌ {A = ℕ} 2 1 = e.1 in omega arith

walk_trusts : Not (Walks (costly 0 2 []) 0 (tree_at (costly 0 2 []) 1 0) (Ok (record { place = 14; cost = 1; empty = 1; wrong = None })))
unfolding tree_at items_at record_at head_at step_at number cost costed stored_cost
walk_trusts e = let w : ◌≡◌ {A = Option ℕ} None (Some 0) = e.3 in let z : ◌≡◌ {A = ℕ} 0 1 = cc w in omega arith

walk_deep : Not (Walks (costly 0 1 []) 0 (tree_at (costly 0 1 []) 0 0) (Ok (record { place = 14; cost = 1; empty = 1; wrong = None })))
unfolding tree_at record_at head_at step_at number
walk_deep e = e

-- table::check: the empty table is refused; a table that ends inside a list is good
check_empty : Not (refused 15 0 ≡ judged (table_of []))
unfolding table_of shape_of cost costed stored_cost trees_at
check_empty e = let z : ◌≡◌ {A = ℕ} 0 1 = cc in omega arith

check_missing : Not (ok tt ≡ judged (table_of (14 ∷ 0 ∷ 0 ∷ 0 ∷ 5 ∷ 0 ∷ 1 ∷ 0 ∷ 0 ∷ 0 ∷ 3 ∷ 0 ∷ 0 ∷ 0 ∷ [])))
unfolding table_of shape_of cost costed stored_cost trees_at tree_at items_at record_at head_at step_at number
check_missing e = let z : ◌≡◌ {A = ℕ} 0 1 = cc in omega arith

-- a wrong cost is let through; told before a tree that is missing; the inner one of two is told
check_trusts : Not (ok tt ≡ judged (table_of (costly 0 2 [])))
unfolding table_of shape_of trees_at tree_at items_at record_at head_at step_at number cost costed stored_cost
check_trusts e = let z : ◌≡◌ {A = ℕ} 0 1 = cc in omega arith

check_early : Not (refused 25 0 ≡ judged (table_of (costly 1 9 [])))
unfolding table_of shape_of trees_at tree_at items_at record_at head_at step_at number
check_early e = let z : ◌≡◌ {A = ℕ} 25 22 = cc in omega arith

check_inner : Not (refused 25 14 ≡ judged (table_of (costly 1 2 (costly 0 2 []))))
unfolding table_of shape_of trees_at tree_at items_at record_at head_at step_at number cost costed stored_cost
check_inner e = let z : ◌≡◌ {A = ℕ} 14 0 = cc in omega arith
