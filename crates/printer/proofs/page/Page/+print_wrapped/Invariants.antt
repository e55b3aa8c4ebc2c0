-- `printer::page::Page::print_wrapped`: the depth falls at each call; the laws of each record and of each item are cited.
use Prim.Native.Nat.{◌+◌}
use Rattle.printer.proofs.ListTexts.{broken}
use Rattle.printer.proofs.ListCounting.{Counting}
use Rattle.printer.proofs.ListWriting.{Filling}
use Rattle.printer.proofs.page.Page.+print_wrapped.Given as goal

abbrev pub decreases-print_wrapped : goal.decreases-print_wrapped
decreases-print_wrapped l = l.depth

abbrev pub invariant-loop-i : goal.invariant-loop-i
invariant-loop-i l =
    Filling l.self.table.now l.at l.depth l.n (broken l.self.width l.indent (l.column + 1)) l.column l.initial.out l.out l.w l.p l.i × Counting l.self.table.now l.at l.depth l.n l.self.width l.indent (l.column + 1) l.initial.looked l.looked l.p l.i
