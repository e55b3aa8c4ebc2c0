-- `wide::put_le`: the lowest bytes of the limb, where there is room.
use Rattle.std.proofs.Common.{take, ap, ◌∙◌}
use Rattle.wide.proofs.Putting.{low_put, low_none}
use Rattle.wide.proofs.put_le.Goals as goal

pub returns-in-Some : goal.returns-in-Some
returns-in-Some g c =
    let chunk = rw c.unwrap.ensures at c.first_chunk.ensures.cases in
    low_put g.row.K c.args.x _ c.args.out.now c.requires c.in-Some.ensures.cases.enough (chunk.same ∙ ap (take g.row.K) c.to_le_bytes.ensures)

pub returns-in-None : goal.returns-in-None
returns-in-None g c = low_none g.row.K c.args.x c.args.out.now c.in-None.ensures.cases
