-- `reader::read`: the walk over no room measures and refuses, the one over the room lent writes.
use borrow.Author.Rules.{rules}
use Rattle.std.proofs.lemmas.Result.{err_from_is_err_and}
use Rattle.reader.proofs.WholeFiles.{refused_told, close_told, short_told, whole_told, never_told}
use Rattle.reader.proofs.read.Goals as goal

pub returns-in_err-measured : goal.returns-in_err-measured
returns-in_err-measured c =
    let p = err_from_is_err_and c.from_residual.result c.from_residual.ensures.1 in
    rw (p.1, p.2) (refused_told c.args.src.now c.args.table.now _ _ (c.in_err-measured.ensures))

pub returns-in-Close : goal.returns-in-Close
returns-in-Close c =
    rw c.at.ensures (close_told c.args.src.now _ _ _ (c.in_ok-measured.ensures) c.args.table.now _ c.in-Close.is)

pub returns-then-table-measured : goal.returns-then-table-measured
returns-then-table-measured c =
    rw c.at-then-table-measured.ensures (short_told c.args.src.now _ _ _ (c.in_ok-measured.ensures) c.in-End.is c.args.table.now (search rules))

pub returns-in_err-read_items-in-End : goal.returns-in_err-read_items-in-End
returns-in_err-read_items-in-End c =
    absurd (never_told c.args.src.now _ _ _ (c.in_ok-measured.ensures) c.in-End.is _ _ (c.in_err-read_items-in-End.ensures))

pub returns-in_ok-read_items-in-End : goal.returns-in_ok-read_items-in-End
returns-in_ok-read_items-in-End c =
    whole_told c.args.src.now _ _ _ (c.in_ok-measured.ensures) c.in-End.is _ c.args.table.now _ (c.in_ok-read_items-in-End.ensures) (search rules)
