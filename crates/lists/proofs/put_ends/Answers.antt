-- `lists::put_ends`: two blocks that leave out no byte between them.
use Rattle.std.proofs.Common.{arith}
use Rattle.lists.proofs.Blocks.{overlap}
use Rattle.lists.proofs.put_ends.Goals as goal

pub returns : goal.returns
returns g c =
    let a = c.args in
    overlap g.row.N a.s.now a.out.now _ _ (omega arith) (omega arith) (omega arith) c.put_first.ensures c.put_first-2.ensures
