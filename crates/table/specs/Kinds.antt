-- The kinds of a table's records, and the lengths of those that have a fixed one (document 01, 'Trees and their table'; lists: document 02, 7/12).
use Rattle.std.specs.Prelude.{ℕ, ◌+◌, cond, eqb, Result, Ok, Err}
use Rattle.refusals.specs.declared.Fault.{Fault}
use Rattle.refusals.specs.declared.Fault.TheVariants as fault
use Rattle.records.specs.Records.{head_len}
pub use Rattle.table.specs.declared.Kind.{Kind}
use Rattle.table.specs.declared.Kind.TheVariants as kind

abbrev pub symbol_kind : ℕ
symbol_kind = 1

abbrev pub integer_kind : ℕ
integer_kind = 2

abbrev pub binding_kind : ℕ
binding_kind = 3

-- 4 is retired (document 02, 7/12): lists of that kind stored no cost
abbrev pub list_kind : ℕ
list_kind = 5

-- the code's name of a kind, or 20 where the kind is unknown
abbrev pub kind_named : ℕ → Result Kind Fault
kind_named n =
    cond (eqb n symbol_kind) (Ok kind.Symbol)
    (cond (eqb n integer_kind) (Ok kind.Integer)
    (cond (eqb n binding_kind) (Ok kind.Binding)
    (cond (eqb n list_kind) (Ok kind.List)
    (Err fault.UnknownKind))))

-- an integer's 16 bytes
abbrev pub integer_len : ℕ
integer_len = head_len + 16

-- a list's item count and its cost, 4 bytes each
abbrev pub list_len : ℕ
list_len = head_len + 8
