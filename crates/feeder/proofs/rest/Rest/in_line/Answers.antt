-- `feeder::rest::Rest::in_line`: a line that ends before the piece does, and one that goes on behind it.
use Rattle.std.proofs.Common.{rules}
use Rattle.feeder.proofs.Kept.{line_goes_on, line_is_left}
use Rattle.feeder.proofs.rest.Rest.in_line.Goals as goal

pub returns-then-j-self : goal.returns-then-j-self
returns-then-j-self c = search (rules, line_is_left)

pub returns : goal.returns
returns c = search (rules, line_goes_on)
