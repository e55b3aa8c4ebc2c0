-- Private, for contracts of the code's own functions: what a checked table holds at a place.
use Rattle.std.specs.Prelude.{ℕ, [], Option, Some, None, Result as CodeResult, Ok, Err}
use Rattle.refusals.specs.declared.Fault.{Fault}
use Rattle.refusals.specs.Result.{Result, ok, refused}
use Rattle.table.specs.Trees.{Tree, Trees, symbol, none}
use Rattle.table.specs.declared.Record.{Record}
use Rattle.table.specs.declared.Record.TheVariants.{Symbol, Integer, Binding, List as ListOf}
use Rattle.table.specs.Decoding.{Found, found}

abbrev pub Right : {A : Type 0} → Result (Found A) → Type 0
Right (ok (found x q)) = Unit {0}
Right (refused n a) = ⊥

abbrev pub tree_of : Result (Found Tree) → Tree
tree_of (ok (found x q)) = x
tree_of (refused n a) = symbol []

abbrev pub trees_of : Result (Found Trees) → Trees
trees_of (ok (found xs q)) = xs
trees_of (refused n a) = none

abbrev pub next_of : {A : Type 0} → Result (Found A) → ℕ
next_of (ok (found x q)) = q
next_of (refused n a) = a

-- the length of a symbol's record, and none of any other
abbrev pub named_len : CodeResult Record Fault → Option ℕ
named_len (Ok (Symbol len)) = Some len
named_len (Ok Integer) = None
named_len (Ok (Binding len)) = None
named_len (Ok (ListOf n)) = None
named_len (Err f) = None
