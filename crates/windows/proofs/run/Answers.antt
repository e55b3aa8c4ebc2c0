-- `windows::run`: turn after turn; what is written and what is left to run are the run.
use Rattle.std.proofs.Common.{rules}
use Rattle.windows.proofs.Running.{running_end, running_stop, running_step}
use Rattle.windows.proofs.run.Goals as goal

pub returns-then-eq : goal.returns-then-eq
returns-then-eq c = running_stop _ _ _ _ _ _ _ _ _ c.loop.invariant.1 c.loop-test.true _ c.eq.ensures c.then-eq.either

pub loop-preserved : goal.loop-preserved
loop-preserved c = (search (rules, c.loop.invariant.0), running_step _ _ _ _ _ _ _ _ _ c.loop.invariant.1 c.loop-test.true _ c.eq.ensures c.if-eq.false c.if-ran-n.false _ _ _ c.turn-more.ensures)

pub returns-after-loop : goal.returns-after-loop
returns-after-loop c = running_end _ _ _ _ _ _ _ _ _ c.loop.invariant.1 c.loop-test.false
