-- `windows::fill_in`: a call goes on, or it is refused.
use Rattle.std.proofs.Common.{◌∙◌}
use Rattle.windows.specs.Machine.{state}
use Rattle.windows.proofs.Running.{fill_is}
use Rattle.windows.proofs.fill_in.Goals as goal

pub returns-in-Ok : goal.returns-in-Ok
returns-in-Ok c = let a = c.args in c.go_on.ensures ∙ fill_is a.table.now a.width (state a.cursor a.stack.now) a.window.now _ c.in-Ok.ensures

pub returns-in-Err : goal.returns-in-Err
returns-in-Err c = let a = c.args in fill_is a.table.now a.width (state a.cursor a.stack.now) a.window.now _ c.in-Err.ensures
