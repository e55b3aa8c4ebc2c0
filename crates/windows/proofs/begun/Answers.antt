-- `windows::begun`: refused, begun now, or begun before.
use Rattle.std.proofs.Common.{ap, ◌∙◌}
use Rattle.std.proofs.lemmas.Result.{err_from_is_err_and}
use Rattle.refusals.specs.Result.{ok}
use Rattle.windows.specs.Machine.{Cursor}
use Rattle.windows.proofs.Running.{begun_now, begun_before}
use Rattle.windows.proofs.begun.Goals as goal

pub returns-in_err-check : goal.returns-in_err-check
returns-in_err-check c = let p = err_from_is_err_and c.from_residual.result c.from_residual.ensures.1 in rw (p.1, p.2) (begun_now _ _ _ _ c.eq.ensures c.if-eq.true _ c.in_err-check.ensures)

pub returns-in_ok-check : goal.returns-in_ok-check
returns-in_ok-check c = ap (λ (x : Cursor). ok x) c.start.ensures ∙ begun_now _ _ _ _ c.eq.ensures c.if-eq.true _ c.in_ok-check.ensures

pub returns-else-eq : goal.returns-else-eq
returns-else-eq c = begun_before _ _ _ _ c.eq.ensures c.if-eq.false
