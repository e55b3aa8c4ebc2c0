-- `feeder::rest::Rest::in_blank`: at each place, what is left of the call is what was left at the start.
use mathlib.Core.Path.{◌≡◌}
use Rattle.feeder.specs.PrivateRuns.{call}
use Rattle.feeder.specs.Machine.{Blank}
use Rattle.feeder.proofs.rest.Rest.in_blank.Given as goal

abbrev pub invariant-loop-j : goal.invariant-loop-j
invariant-loop-j l = call l.self.piece.now l.self.place l.j Blank ≡ call l.self.piece.now l.self.place l.self.at Blank
