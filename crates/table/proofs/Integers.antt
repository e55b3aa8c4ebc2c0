-- The integers of a table: those in range have 128 bits of their own. Assumes nothing.
use Prim.Native.Nat.{ℕ, ◌^◌, ◌<◌}
use lib.IntN.{ℤ, pos, negsuc}
use mir.Syntax.{w128}
use mir.Val.{to_z, SFits}
use mir.ValLaws.{to_z-Fits}
use Rattle.table.specs.Trees.{InRange}

pub fits_range : (z : ℤ) → InRange z → SFits w128 z
fits_range (pos n) h = record { sfits = h }
fits_range (negsuc n) h = record { sfits = h }

range_fits : (z : ℤ) → SFits w128 z → InRange z
range_fits (pos n) f = f.sfits
range_fits (negsuc n) f = f.sfits

pub range_bits : (n : ℕ) → n < 2 ^ 128 → InRange (to_z w128 n)
range_bits n h = range_fits (to_z w128 n) (to_z-Fits w128 n (record { fits = h }))
