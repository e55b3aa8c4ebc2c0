-- `feeder::rest::Rest::in_symbol`: a symbol that ends before the piece does, and one that goes on behind it.
use native.Mathlib.Omega.{arith}
use Rattle.feeder.proofs.Kept.{symbol_goes_on, symbol_is_given}
use Rattle.feeder.proofs.rest.Rest.in_symbol.Goals as goal

pub returns-then-j-self : goal.returns-then-j-self
returns-then-j-self c =
    let r = c.args.self in
    symbol_is_given r.piece.now r.place c.args.start r.at _ c.symbol_end-j.ensures (omega arith) (omega arith) _ c.saturating_sub-len.ensures c.if-j-self.true

pub returns : goal.returns
returns c = let r = c.args.self in symbol_goes_on r.piece.now r.place c.args.start r.at _ c.symbol_end-j.ensures (omega arith) (omega arith) (omega arith) (omega arith)
