-- `wide::put_wide`: the low limb, then the high one into the rest of the buffer.
use Rattle.std.proofs.Common.{ap, ◌∙◌, arith, w64, SFits, of_z}
use mir.ValLaws.{to_z-of_z}
use Rattle.wide.specs.Value.{value}
use Rattle.wide.specs.Bytes.{wide_bytes}
use Rattle.wide.proofs.Numbers.{wide_length}
use Rattle.lists.proofs.Blocks.{no_room}
use Rattle.wide.proofs.Putting.{sixteen}
use Rattle.wide.proofs.put_wide.Goals as goal

pub returns-then-out-lt16 : goal.returns-then-out-lt16
returns-then-out-lt16 c =
    let w = c.args.w in
    no_room (wide_bytes (value w)) _ (omega (arith, wide_length (value w)))

pub returns : goal.returns
returns c =
    let a = c.args in
    let f : SFits w64 a.w.hi = record { sfits = omega arith } in
    sixteen a.out.now _ _ _ a.w.lo a.w.hi f (omega arith) c.if-out-lt16.false (c.cast_unsigned.ensures ∙ ap (of_z w64) (to_z-of_z w64 a.w.hi f))
    c.put_le.ensures c.put_le-2.ensures
