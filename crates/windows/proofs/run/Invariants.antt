-- `windows::run`: turn after turn; what is written and what is left to run are the run.
use Rattle.std.proofs.Common.{◌≡◌, length}
use Rattle.windows.specs.Machine.{state}
use Rattle.windows.proofs.Running.{Running}
use Rattle.windows.proofs.run.Given as goal

abbrev pub invariant-loop : goal.invariant-loop
invariant-loop l = (length l.stack ≡ length l.initial.stack) × Running l.page.table.now l.page.width (state l.initial.ran.cursor l.initial.stack) l.initial.out l.out (state l.ran.cursor l.stack) l.ran.n l.counter
