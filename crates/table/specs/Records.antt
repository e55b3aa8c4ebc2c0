-- The record at a place of a table (document 01, 'Trees and their table', 'Order'; its faults: document 02, 1/12).
use Rattle.std.specs.Prelude.{ℕ, ◌+◌, cond, List, eqb, ltb, length, Option, Some, None, Result, Ok, Err}
use Rattle.refusals.specs.declared.Fault.{Fault}
use Rattle.refusals.specs.declared.Fault.TheVariants as fault
use Rattle.wide.specs.Bytes.{number_at}
use Rattle.records.specs.declared.Head.{Head}
use Rattle.records.specs.Records.{head_len, head_at}
use Rattle.table.specs.Kinds.{Kind, kind_named, integer_len, list_len}
use Rattle.table.specs.declared.Kind.TheVariants as kind
pub use Rattle.table.specs.declared.Record.{Record}
pub use Rattle.table.specs.declared.Record.TheVariants.{Symbol, Integer, Binding, List as ListOf}

-- by its kind, its length and its item count: 21 if its length is wrong for its kind
abbrev pub of_kind : Result Kind Fault → ℕ → ℕ → Result Record Fault
of_kind (Err f) len items = Err f
of_kind (Ok kind.Symbol) len items = Ok (Symbol len)
of_kind (Ok kind.Integer) len items = cond (eqb len integer_len) (Ok Integer) (Err fault.WrongLength)
of_kind (Ok kind.Binding) len items = Ok (Binding len)
of_kind (Ok kind.List) len items = cond (eqb len list_len) (Ok (ListOf items)) (Err fault.WrongLength)

-- by the number of its kind: 20 if that is unknown
abbrev pub kind_of : ℕ → ℕ → ℕ → Result Record Fault
kind_of n len items = of_kind (kind_named n) len items

-- by its head: 15 if the table's end cuts it, or its length is below a head's, whatever its kind
abbrev pub record_of : Option Head → ℕ → Result Record Fault
record_of None items = Err fault.BadRecord
record_of (Some h) items = kind_of h.kind h.len items

-- the record that is due at a place: 22 where no byte is left
unfoldable pub record_at : List ℕ → ℕ → Result Record Fault
record_at t at = cond (ltb at (length t)) (record_of (head_at t at) (number_at 4 t (at + head_len))) (Err fault.MissingTrees)
