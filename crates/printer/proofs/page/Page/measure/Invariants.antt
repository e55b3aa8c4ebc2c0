-- `printer::page::Page::measure`: the trees done, what they take and the place of their first wrong cost, before those that are left. The measure is the bytes left.
use Prim.Native.Nat.{◌-◌}
use lib.ListN.{length}
use Rattle.printer.proofs.MeasuringWalk.{Paged}
use Rattle.printer.proofs.page.Page.measure.Given as goal

abbrev pub invariant-loop-p : goal.invariant-loop-p
invariant-loop-p l = Paged l.self.table.now l.self.width l.p l.wrong l.w

abbrev pub decreases-loop-p : goal.decreases-loop-p
decreases-loop-p l = length l.self.table.now - l.p
