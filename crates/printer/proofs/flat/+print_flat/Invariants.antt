-- `printer::flat::print_flat`: the depth falls at each call; the laws of each record and of each item are cited.
use Rattle.printer.proofs.ListTexts.{flatly}
use Rattle.printer.proofs.ListWriting.{Filling}
use Rattle.printer.proofs.flat.+print_flat.Given as goal

abbrev pub decreases-print_flat : goal.decreases-print_flat
decreases-print_flat l = l.depth

abbrev pub invariant-loop-i : goal.invariant-loop-i
invariant-loop-i l = Filling l.t l.at l.depth l.n flatly 0 l.initial.out l.out l.w l.p l.i
