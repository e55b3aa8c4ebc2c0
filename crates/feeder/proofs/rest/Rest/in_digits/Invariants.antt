-- `feeder::rest::Rest::in_digits`: at each place, what is left of the call is what was left at the start.
use mathlib.Core.Path.{◌≡◌}
use Rattle.feeder.specs.PrivateRuns.{call}
use Rattle.feeder.specs.Machine.{Digits}
use Rattle.feeder.proofs.rest.Rest.in_digits.Given as goal

abbrev pub invariant-loop-j : goal.invariant-loop-j
invariant-loop-j l = call l.self.piece.now l.self.place l.j (Digits l.start l.minus l.radix l.x) ≡ call l.self.piece.now l.self.place l.self.at (Digits l.start l.minus l.radix l.initial.x)
