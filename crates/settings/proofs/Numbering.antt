-- The number that a kind of the code has when it is cast. Assumes nothing.
use Prim.Native.Nat.{◌+◌}
use mathlib.Core.Path.{◌≡◌, refl}
use denote.Enum.Declared.{tag_of}
use Rattle.settings.specs.Kinds.{kind_number}
use Rattle.settings.specs.contracts.kinds.Kind.{the_type}
use Rattle.settings.specs.declared.kinds.Kind.{Kind}
use Rattle.settings.specs.declared.kinds.Kind.TheVariants as kind

pub cast_number : (k : Kind) → tag_of the_type k + 1 ≡ kind_number k
cast_number kind.Edition = refl
cast_number kind.Width = refl
cast_number kind.Style = refl
