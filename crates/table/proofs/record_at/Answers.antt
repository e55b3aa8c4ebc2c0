-- `table::record_at`: an unknown kind.
use Rattle.std.specs.Prelude.{Err}
use Rattle.std.proofs.lemmas.Result.{err_from_is_err_and}
use mathlib.Core.Path.{ap, ◌∙◌}
use Rattle.table.proofs.Reading.{kind_fault}
use Rattle.table.proofs.record_at.Goals as goal

pub returns-in_err-try_from : goal.returns-in_err-try_from
returns-in_err-try_from c =
    let p = err_from_is_err_and c.from_residual.result c.from_residual.ensures.1 in
    p.1 ∙ ap Err p.2 ∙ kind_fault _ _ _ _ c.in-Some.ensures c.in_err-try_from.ensures
