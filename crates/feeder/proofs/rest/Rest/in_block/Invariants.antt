-- `feeder::rest::Rest::in_block`: at each place, what is left of the call is what was left at the start.
use mathlib.Core.Path.{◌≡◌}
use Rattle.feeder.specs.PrivateRuns.{call}
use Rattle.feeder.specs.Machine.{Block}
use Rattle.feeder.proofs.rest.Rest.in_block.Given as goal

abbrev pub invariant-loop-j : goal.invariant-loop-j
invariant-loop-j l = call l.self.piece.now l.self.place l.j (Block l.start l.d l.h) ≡ call l.self.piece.now l.self.place l.self.at (Block l.start l.depth l.initial.h)
