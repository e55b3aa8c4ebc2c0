-- `feeder::runs::fed_on`: run by run, what is left of the call on the bytes below the limit is that call, and it gives the call on all bytes.
use mathlib.Core.Path.{◌≡◌, sym, ◌∙◌}
use mathlib.Core.List.{◌++◌}
use native.Mathlib.Omega.{arith}
use lib.ListN.{length, length-append}
use Rattle.std.proofs.Common.{rules, ◌<◌, ◌≤◌}
use Rattle.feeder.specs.Feeding.{feed_from}
use Rattle.feeder.specs.PrivateRuns.{call, moved}
use Rattle.feeder.proofs.Calls.{call_start, call_end, call_limit, cut_ready, cut_refused, cut_more}
use Rattle.feeder.proofs.runs.fed_on.Goals as goal
use Rattle.feeder.proofs.runs.fed_on.Goals.{After-loop-at}

pub loop-at-init : goal.loop-at-init
loop-at-init c = (omega arith, call_start _ c.args.place 0 c.args.mode)

pub loop-at-preserved : goal.loop-at-preserved
unfolding moved
loop-at-preserved c = let w = c.in-On.ensures in (w.further.1, w.same ∙ c.loop-at.invariant.1)

pub returns-in-Give : goal.returns-in-Give
unfolding moved
returns-in-Give c =
    let a = c.args in
    rw (c.answered.ensures, c.live.ensures) (cut_ready a.mode a.place a.below.now a.beyond.now _ _ _ (c.in-Give.ensures.same ∙ c.loop-at.invariant.1))

pub returns-in-Halt : goal.returns-in-Halt
unfolding moved
returns-in-Halt c =
    let a = c.args in
    rw (c.answered-in-Halt.ensures, c.refused.ensures) (cut_refused a.mode a.place a.below.now a.beyond.now c.in-Halt.r _ _ (c.in-Halt.ensures.same ∙ c.loop-at.invariant.1))

-- the bytes below the limit are all consumed
more : (u : After-loop-at) → let a = u.args in call (a.below.now ++ a.beyond.now) a.place u.loop-at.at u.loop-at.m ≡ feed_from a.mode a.place (a.below.now ++ a.beyond.now)
more u =
    let a = u.args in
    let q = a.below.now in
    let e : u.loop-at.at ≡ length q = omega arith in
    rw e (cut_more a.mode a.place q a.beyond.now u.loop-at.m (rw e at u.loop-at.invariant.1))

pub returns-then-not-is_empty : goal.returns-then-not-is_empty
returns-then-not-is_empty c =
    let a = c.args in
    let n : 0 < length a.beyond.now = search rules in
    let f = c.requires.beyond n in
    let h : c.loop-at.at < length (a.below.now ++ a.beyond.now) = rw length-append (omega arith) in
    rw (c.answered-then-not-is_empty.ensures, c.refused-then-not-is_empty.ensures, c.at-r.ensures)
    (sym (call_limit (a.below.now ++ a.beyond.now) a.place c.loop-at.at c.loop-at.m h (omega arith)) ∙ more (goal.at.returns-then-not-is_empty c).After-loop-at)

pub returns : goal.returns
returns c =
    let a = c.args in
    let n : length a.beyond.now ≡ 0 = search rules in
    let h : length (a.below.now ++ a.beyond.now) ≤ c.loop-at.at = rw length-append (omega arith) in
    rw (c.answered-2.ensures, c.live-2.ensures) (sym (call_end (a.below.now ++ a.beyond.now) a.place c.loop-at.at c.loop-at.m h) ∙ more (goal.at.returns c).After-loop-at)
