-- `records::head_at`: one law for each test that finds the record cut, then its head.
use native.Mathlib.Omega.{arith}
use Rattle.records.proofs.Heads.{past_end, too_few, cut, below, headed}
use Rattle.records.proofs.head_at.Goals as goal

pub returns-then-t-at : goal.returns-then-t-at
returns-then-t-at c = past_end _ _ c.if-t-at.true

pub returns-then-left-lt-HEAD : goal.returns-then-left-lt-HEAD
returns-then-left-lt-HEAD c = too_few _ _ c.if-left-lt-HEAD.true

pub returns-then-left-len : goal.returns-then-left-len
returns-then-left-len c = cut _ _ _ c.if-left-lt-HEAD.false c.u32_at-len.ensures c.if-left-len.true

pub returns-then-len-lt-HEAD : goal.returns-then-len-lt-HEAD
returns-then-len-lt-HEAD c = below _ _ _ c.if-left-lt-HEAD.false c.u32_at-len.ensures c.if-left-len.false (omega (arith, c.if-len-lt-HEAD.true))

pub returns : goal.returns
returns c = headed _ _ _ c.if-left-lt-HEAD.false c.u32_at-len.ensures _ c.if-left-len.false (omega (arith, c.if-len-lt-HEAD.false)) c.u16_at.ensures
