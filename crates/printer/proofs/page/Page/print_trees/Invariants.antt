-- `printer::page::Page::print_trees`: what is done of the page, and the trees that are left.
use Prim.Native.Nat.{◌-◌}
use lib.ListN.{length}
use Rattle.printer.proofs.PageWriting.{Pages}
use Rattle.printer.proofs.page.Page.print_trees.Given as goal

abbrev pub invariant-loop-p : goal.invariant-loop-p
invariant-loop-p l = Pages l.self.table.now l.self.width l.initial.out l.out l.w l.looked l.p

abbrev pub decreases-loop-p : goal.decreases-loop-p
decreases-loop-p l = length l.self.table.now - l.p
