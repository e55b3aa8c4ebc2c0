-- The fits test on a table's bytes, whatever they are: by the cost that a list stores. Where that is right it is the layout's (proofs/Fits, `fits_stands`).
use Rattle.std.specs.Prelude.{ℕ, Bool, List}
use Rattle.table.specs.Costs.{stored_cost}
use Rattle.printer.specs.Layout.{fits_in}
use Rattle.printer.specs.Looking.{looks}
pub use Rattle.printer.specs.declared.cost.Tested.{Tested}

-- whether a list fits, and the records that were looked at for it
abbrev pub tested : Bool → ℕ → Tested
tested f k = record { fits = f; looked = k }

-- the list at p, at width w and column c
unfoldable pub fits_at : List ℕ → ℕ → ℕ → ℕ → Tested
fits_at t p w c = tested (fits_in w c (stored_cost t p)) (looks w c)
