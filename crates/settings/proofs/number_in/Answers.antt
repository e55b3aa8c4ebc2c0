-- `settings::number_in`: a value that was found has the bytes of its number, in the file that it was found in.
use mathlib.Core.Path.{sym, subst}
use Prim.Native.Nat.{ℕ}
use Rattle.std.proofs.Common.{◌≡◌, true}
use Rattle.settings.specs.Kinds.{value_fits, kind_number}
use Rattle.settings.specs.LookUps.{by_side}
use Rattle.settings.proofs.Spans.{Read, spanned_as, sided, part_len, number_read, number_len}
use Rattle.settings.proofs.number_in.Goals as goal
use Rattle.settings.proofs.number_in.Goals.{In_ok-at}

-- the value that was found, in the file of its side
read : (c : In_ok-at) → Read (kind_number c.args.kind) c.args.project.now c.args.house.now c.in_ok-at.at.side (by_side c.in_ok-at.at.side c.args.project.now c.args.house.now) c.in_ok-at.at.value
read c = sided _ _ _ _ _ (spanned_as _ _ _ (λ i. (c.type_inv.project i).fits) (λ i. (c.type_inv.house i).fits) _ c.in_ok-at.ensures)

pub part-requires : goal.part-requires
part-requires c = (read c).room

pub number-requires : goal.number-requires
number-requires c =
    let d = read (goal.at.number-requires c).In_ok-at in
    number_len c.args.kind _ c.requires (subst (λ (n : ℕ). value_fits (kind_number c.args.kind) n ≡ true) (sym (part_len _ _ _ d.room c.part.ensures.0)) d.fits)

pub returns : goal.returns
returns c = number_read _ _ _ _ _ _ _ _ (read (goal.at.returns c).In_ok-at) c.part.ensures.0 c.number.ensures
