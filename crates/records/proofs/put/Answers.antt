-- `records::put`: the head, then the payload into the rest of the room.
use mathlib.Core.Path.{refl}
use Prim.Native.Nat.{◌+◌, ◌≤◌}
use lib.ListN.{length}
use native.Mathlib.Omega.{arith}
use Rattle.lists.proofs.Blocks.{fits_in, no_room}
use Rattle.records.specs.Records.{head_len, record_of}
use Rattle.records.proofs.Heads.{length_record}
use Rattle.records.proofs.Putting.{with_head}
use Rattle.records.proofs.put.Goals as goal

pub returns-then-out-lt-HEAD : goal.returns-then-out-lt-HEAD
returns-then-out-lt-HEAD c = let a = c.args in no_room (record_of a.kind a.payload.now) _ (omega (arith, length_record a.kind a.payload.now))

pub returns-then-out-payload : goal.returns-then-out-payload
returns-then-out-payload c =
    let a = c.args in
    no_room (record_of a.kind a.payload.now) _ (omega (arith, length_record a.kind a.payload.now))

pub returns : goal.returns
returns c =
    let a = c.args in
    let n = length_record a.kind a.payload.now in
    let h : length (record_of a.kind a.payload.now) ≤ length a.out.now = omega arith in
    fits_in (record_of a.kind a.payload.now) _ _ h
    (with_head a.kind (length a.payload.now + head_len) a.payload.now a.out.now _ _ refl (omega arith) c.put_head.ensures c.put.ensures.1)
