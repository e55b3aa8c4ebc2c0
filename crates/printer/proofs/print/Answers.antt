-- `printer::print`: measured, and then written where the room is enough.
use Rattle.std.proofs.lemmas.Result.{err_from_is_err_and}
use Rattle.printer.proofs.PageWriting.{print_no, print_short, print_text}
use Rattle.table.proofs.Steps.{too_long_lem}
use Rattle.printer.proofs.MeasuringWalk.{summed_no}
use Rattle.printer.proofs.print.Goals as goal

pub returns-then-table-gt-TABLE_LIMIT : goal.returns-then-table-gt-TABLE_LIMIT
returns-then-table-gt-TABLE_LIMIT c = print_no _ _ c.args.out.now _ (summed_no _ _ _ _ _ (too_long_lem _ c.if-table-gt-TABLE_LIMIT.true) c.at.ensures)

pub returns-in_err-len : goal.returns-in_err-len
returns-in_err-len c =
    let p = err_from_is_err_and c.from_residual.result c.from_residual.ensures.1 in
    rw (p.1, p.2) (print_no _ _ c.args.out.now _ c.in_err-len.ensures)

pub returns-then-out-len : goal.returns-then-out-len
returns-then-out-len c = print_short _ _ _ c.args.out.now c.in_ok-len.ensures c.if-out-len.true _ c.at-then-out-len.ensures

pub returns : goal.returns
returns c = print_text _ _ _ c.args.out.now c.in_ok-len.ensures c.if-out-len.false _ _ c.print_trees-looked.ensures
