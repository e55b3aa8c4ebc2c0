-- `records::put_head`: the length, then the kind into the rest of the room.
use Rattle.std.proofs.Common.{ℕ, ap, ◌∙◌, arith}
use Rattle.lists.specs.Over.{fitted}
use Rattle.lists.proofs.Blocks.{no_room}
use Rattle.records.specs.Records.{head_of}
use Rattle.records.proofs.Heads.{head_length}
use Rattle.records.proofs.Putting.{head_put}
use Rattle.records.proofs.put_head.Goals as goal

pub returns-then-out-lt-HEAD : goal.returns-then-out-lt-HEAD
returns-then-out-lt-HEAD c = let a = c.args in no_room (head_of a.kind a.len) _ (omega (arith, head_length a.kind a.len))

-- the length that is put need only be the same number, however the code comes by it
pub returns : goal.returns
returns c =
    let a = c.args in
    head_put a.kind _ a.out.now _ _ c.if-out-lt-HEAD.false c.put_u32.ensures c.put_u16.ensures ∙ ap (λ (n : ℕ). fitted (head_of a.kind n) a.out.now) (omega arith)
