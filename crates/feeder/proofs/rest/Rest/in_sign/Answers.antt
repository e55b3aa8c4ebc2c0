-- `feeder::rest::Rest::in_sign`: a byte that does what it would do in a number whose digits are to come.
use mathlib.Core.Path.{refl}
use native.Mathlib.Omega.{arith}
use borrow.Author.Tests.{ne_eqb}
use Rattle.feeder.specs.Machine.{Sign, turn}
use Rattle.feeder.proofs.Calls.{as_in}
use Rattle.feeder.proofs.rest.Rest.in_sign.Goals as goal

pub returns : goal.returns
unfolding turn
returns c =
    let r = c.args.self in
    as_in r.piece.now r.place r.at (Sign c.args.start) _ c.in_digits.result c.in_digits.ensures (omega arith) (omega arith) (rw (ne_eqb _ _ c.if-self-eq48.false) refl)
