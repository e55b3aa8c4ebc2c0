-- `printer::page::Page::measure_tree` and `measure_list`, which call each other: the depth still allowed falls from a tree to the trees below it.
use Prim.Native.Nat.{◌+◌, ◌*◌}
use Rattle.printer.proofs.MeasuringWalk.{Laying}
use Rattle.printer.proofs.page.Page.+measure_list_measure_tree.Given as goal

abbrev pub decreases-measure_list : goal.decreases-measure_list
decreases-measure_list l = 2 * l.depth + 1

abbrev pub invariant-measure_list-loop-i : goal.invariant-measure_list-loop-i
invariant-measure_list-loop-i l = Laying l.self.table.now l.at l.n l.depth l.self.width l.indent l.column l.p l.i l.cost l.wrong l.len

abbrev pub decreases-measure_tree : goal.decreases-measure_tree
decreases-measure_tree l = 2 * l.depth
