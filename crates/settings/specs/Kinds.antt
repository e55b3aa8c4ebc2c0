-- The kinds of a settings file's records, and how long the value of each may be (document 02, 5/12).
use Rattle.std.specs.Prelude.{ℕ, Bool, cond, ◌&&◌, eqb, leb, Result, Ok, Err}
use Rattle.refusals.specs.declared.Fault.{Fault}
use Rattle.refusals.specs.declared.Fault.TheVariants.{UnknownKind}
use Rattle.settings.specs.declared.kinds.Kind.{Kind}
use Rattle.settings.specs.declared.kinds.Kind.TheVariants as kind

abbrev pub edition_kind : ℕ
edition_kind = 1

abbrev pub width_kind : ℕ
width_kind = 2

abbrev pub style_kind : ℕ
style_kind = 3

-- unknown kinds from here up are skipped, others are refused
abbrev pub first_skipped : ℕ
first_skipped = 32768

-- an edition has 2 bytes, a width 4, a style name 1 to 32; what is skipped has any number of them
abbrev pub value_fits : ℕ → ℕ → Bool
value_fits kind n =
    cond (eqb kind edition_kind) (eqb n 2)
    (cond (eqb kind width_kind) (eqb n 4)
    (cond (eqb kind style_kind) (leb 1 n && leb n 32) (leb first_skipped kind)))

-- the number that each kind of the code stands for, and the kind of a number
abbrev pub kind_number : Kind → ℕ
kind_number kind.Edition = edition_kind
kind_number kind.Width = width_kind
kind_number kind.Style = style_kind

abbrev pub kind_of : ℕ → Result Kind Fault
kind_of n =
    cond (eqb n edition_kind) (Ok kind.Edition)
    (cond (eqb n width_kind) (Ok kind.Width)
    (cond (eqb n style_kind) (Ok kind.Style) (Err UnknownKind)))
