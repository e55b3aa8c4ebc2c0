-- `isle::laid_out`: what was read, and what was printed, is no longer than its room.
use native.Mathlib.Omega.{arith}
use mathlib.Core.Path.{sym}
use Rattle.std.proofs.Common.{◌≤◌, length}
use lib.Seq.{length-take-le}
use Rattle.isle.proofs.Rooms.{read_room, text_room}
use Rattle.isle.proofs.laid_out.Goals as goal

pub slice_bounds-print-end : goal.slice_bounds-print-end
slice_bounds-print-end c = omega (arith, read_room _ _ _ c.in_ok-len.ensures.0, c.read.auto.table)

pub slice_bounds-print-end-2 : goal.slice_bounds-print-end-2
slice_bounds-print-end-2 c =
    let h : c.in_ok-len.len ≤ length c.read.new.table = omega (arith, read_room _ _ _ c.in_ok-len.ensures.0, c.read.auto.table) in
    sym (length-take-le _ _ h)

pub slice_bounds-result-end : goal.slice_bounds-result-end
slice_bounds-result-end c =
    let h : c.in_ok-text.text.len ≤ length c.print.new.out = omega (arith, text_room _ _ _ _ _ c.in_ok-text.ensures.0, c.print.auto.out) in
    sym (length-take-le _ _ h)
