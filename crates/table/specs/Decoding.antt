-- A table decoded, once, into its trees or the first refusal (document 01, 'Order'; stored costs: document 02, 7/12).
use Rattle.std.specs.Prelude.{ℕ, zero, suc, ◌+◌, Bool, true, false, cond, List, ltb, length, Result as CodeResult, Ok, Err}
use Rattle.refusals.specs.Numbers.{table_limit, depth_limit, too_long, too_deep, number_of}
use Rattle.refusals.specs.declared.Fault.{Fault}
use Rattle.refusals.specs.declared.Fault.TheVariants as fault
use Rattle.refusals.specs.declared.Refusal.{Refusal}
use Rattle.refusals.specs.Result.{Result, ok, refused, refused_by}
use Rattle.wide.specs.Bytes.{integer_at}
use Rattle.records.specs.Records.{head_len, payload}
use Rattle.table.specs.Kinds.{integer_len, list_len}
use Rattle.table.specs.Trees.{Tree, Trees, symbol, integer, binding, list, none, more, is_symbol}
use Rattle.table.specs.Records.{Record, Symbol, Integer, Binding, ListOf, record_at}
use Rattle.table.specs.Costs.{costed_all}

-- what stands at a place, and the place past it
pub data Found (A : Type 0) : Type 0 where
  found : A → ℕ → Found A

-- goes on from the place past what was found; a refusal stays
abbrev pub and_then : {A B : Type 0} → Result (Found A) → (A → ℕ → Result (Found B)) → Result (Found B)
and_then (ok (found x q)) k = k x q
and_then (refused n a) k = refused n a

-- n trees from `at`, each found by f
unfoldable pub items_at : (ℕ → Result (Found Tree)) → ℕ → ℕ → Result (Found Trees)
items_at f zero at = ok (found none at)
items_at f (suc n) at = and_then (f at) (λ x q. and_then (items_at f n q) (λ xs r. ok (found (more x xs) r)))

-- a record judged by itself: 22, or 15, 20, 21, 13, 16; `deeper` says if one more list or binding may be open
abbrev pub step_of : List ℕ → ℕ → Bool → CodeResult Record Fault → CodeResult Record Fault
step_of t at deeper (Err f) = Err f
step_of t at deeper (Ok (Symbol len)) = cond (is_symbol (payload t at len)) (Ok (Symbol len)) (Err fault.BadSymbol)
step_of t at deeper (Ok Integer) = Ok Integer
step_of t at deeper (Ok (Binding len)) =
    cond deeper (cond (is_symbol (payload t at len)) (Ok (Binding len)) (Err fault.BadSymbol)) (Err fault.TooDeep)
step_of t at deeper (Ok (ListOf n)) = cond deeper (Ok (ListOf n)) (Err fault.TooDeep)

unfoldable pub step_at : List ℕ → ℕ → Bool → CodeResult Record Fault
step_at t at deeper = step_of t at deeper (record_at t at)

-- what a judged record comes to, where `sub` finds the trees below it
abbrev pub of_step : List ℕ → ℕ → (ℕ → Result (Found Tree)) → CodeResult Record Fault → Result (Found Tree)
of_step t at sub (Err f) = refused (number_of f) at
of_step t at sub (Ok (Symbol len)) = ok (found (symbol (payload t at len)) (at + len))
of_step t at sub (Ok Integer) = ok (found (integer (integer_at t (at + head_len))) (at + integer_len))
of_step t at sub (Ok (Binding len)) = and_then (sub (at + len)) (λ x q. ok (found (binding (payload t at len) x) q))
of_step t at sub (Ok (ListOf n)) = and_then (items_at sub n (at + list_len)) (λ xs q. ok (found (list xs) q))

-- the tree at `at`, with d lists and bindings still to be opened
unfoldable pub tree_at : List ℕ → ℕ → ℕ → Result (Found Tree)
tree_at t zero at = of_step t at (refused too_deep) (step_at t at false)
tree_at t (suc d) at = of_step t at (tree_at t d) (step_at t at true)

-- whole trees up to the table's end; k is more than there can be. A tree that is missing at the end is refused there, where its record was due
unfoldable pub trees_at : List ℕ → ℕ → ℕ → Result (Found Trees)
trees_at t zero at = ok (found none at)
trees_at t (suc k) at =
    cond (ltb at (length t))
    (and_then (tree_at t depth_limit at) (λ x q. and_then (trees_at t k q) (λ xs r. ok (found (more x xs) r))))
    (ok (found none at))

-- the trees of a table of at most 16,777,216 bytes, whatever costs its lists store
unfoldable pub shape_of : List ℕ → Result (Found Trees)
shape_of t = cond (ltb table_limit (length t)) (refused too_long table_limit) (trees_at t (length t + 1) 0)

-- found, if the costs are right
abbrev pub if_costed : {A : Type 0} → Result (Unit {0}) → Found A → Result (Found A)
if_costed (ok u) x = ok x
if_costed (refused n a) x = refused n a

-- every record by itself comes first, and then the costs that the lists store
unfoldable pub table_of : List ℕ → Result (Found Trees)
table_of t = and_then (shape_of t) (λ xs q. if_costed (costed_all t xs 0) (found xs q))

-- a table is good, or refused
abbrev pub judged : {A : Type 0} → Result A → Result (Unit {0})
judged (ok x) = ok tt
judged (refused n a) = refused n a

-- document 01's number and values for each case of the code's answer
abbrev pub verdict_of : CodeResult (Unit {0}) Refusal → Result (Unit {0})
verdict_of (Ok u) = ok tt
verdict_of (Err r) = refused_by r
