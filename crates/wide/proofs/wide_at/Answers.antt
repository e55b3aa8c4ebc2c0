-- `wide::wide_at`: two limbs of eight bytes, where sixteen are there.
use Rattle.std.proofs.Common.{◌+◌, ◌*◌, ◌^◌, ap, ap₂, ◌∙◌, to_z, ℕ}
use mir.Syntax.{w128}
use Rattle.wide.specs.Value.{val, value_of}
use Rattle.wide.proofs.Numbers.{limbs_read, wide_here, wide_gone}
use Rattle.wide.proofs.wide_at.Goals as goal

pub returns-in-Some : goal.returns-in-Some
unfolding val
returns-in-Some c =
    let e = c.in-Some.ensures in
    let high = rw c.unwrap.ensures at c.last_chunk.ensures.cases in
    let low = rw c.unwrap-in-Some.ensures at c.first_chunk.ensures.cases in
    wide_here c.args.t.now c.args.at _ e.0
    (c.wide_of.ensures ∙ ap (to_z w128) (ap₂ (λ (h l : ℕ). h * 2 ^ 64 + l) c.from_le_bytes.ensures c.from_le_bytes-in-Some.ensures
    ∙ limbs_read c.args.t.now c.in-Some.bytes.now _ _ c.args.at e.0 e.1 high.1.same low.same))

pub returns-in-None : goal.returns-in-None
unfolding value_of
returns-in-None c = wide_gone c.args.t.now c.args.at c.in-None.ensures
