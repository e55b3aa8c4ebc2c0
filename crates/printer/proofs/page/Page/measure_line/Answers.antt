-- `printer::page::Page::measure_line`: what the walk counts on a single line.
use native.Mathlib.Omega.{arith}
use Rattle.printer.proofs.MeasuringWalk.{straight, straight_small}
use Rattle.printer.proofs.page.Page.measure_line.Goals as goal

pub overflow_add-result : goal.overflow_add-result
overflow_add-result c =
    let h = c.requires in
    omega (arith, straight_small _ _ _ _ h c.in_ok-x.ensures, c.args.self.now.limited)

pub returns : goal.returns
returns c = straight _ _ _ _ c.in_ok-x.ensures
