-- `wide::u16_at`: the bytes that are there.
use Rattle.std.proofs.Common.{◌∙◌}
use Rattle.wide.proofs.Numbers.{number_here, read_at}
use Rattle.wide.proofs.u16_at.Goals as goal

pub returns-in-Some : goal.returns-in-Some
returns-in-Some c =
    let e = c.in-Some.ensures in
    number_here 2 c.args.t.now c.args.at _ e.0 (c.from_le_bytes.ensures ∙ read_at c.args.t.now _ c.args.at 1 e.0 e.1)
