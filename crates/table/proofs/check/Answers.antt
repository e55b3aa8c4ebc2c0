-- `table::check`: the trees done, before those that are left, and the place of their first wrong cost. The measure is the bytes left.
use mathlib.Core.Path.{ap, sym}
use Prim.Native.Nat.{◌≤◌, ◌<◌}
use native.Mathlib.Omega.{arith}
use borrow.Author.Rules.{rules}
use borrow.Author.Tests.{not-true, not-false, leb-true, leb-false}
use lib.ListN.{length}
use Rattle.table.specs.Decoding.{judged}
use Rattle.table.proofs.Walks.{walked_tree, checks_tree, checks_good, checks_wrong}
use Rattle.table.proofs.check.Goals as goal
use Rattle.table.proofs.check.Goals.{After-loop-p, In-loop-p}

-- what the loop's test says, whichever way round the code asks it
inside : (c : In-loop-p) → c.loop-p.p < length c.args.t.now
inside c = search (rules, not-true, leb-false)

past_end : (c : After-loop-p) → length c.args.t.now ≤ c.loop-p.p
past_end c = search (rules, not-false, leb-true)

pub loop-p-smaller : goal.loop-p-smaller
loop-p-smaller c =
    let o = checks_tree _ _ _ c.loop-p.invariant _ _ _ _ (inside (goal.at.loop-p-smaller c).In-loop-p) (walked_tree _ _ _ _ c.in_ok-tree.ensures).0 c.earlier-wrong.ensures in
    omega (arith, o.past, o.rest.read.within)

pub loop-p-preserved : goal.loop-p-preserved
loop-p-preserved c =
    let o = checks_tree _ _ _ c.loop-p.invariant _ _ _ _ (inside (goal.at.loop-p-preserved c).In-loop-p) (walked_tree _ _ _ _ c.in_ok-tree.ensures).0 c.earlier-wrong.ensures in
    o.rest

pub returns-in-Some : goal.returns-in-Some
returns-in-Some c = rw c.at-in-Some.ensures (ap judged (sym (checks_wrong _ _ _ c.loop-p.invariant _ (past_end (goal.at.returns-in-Some c).After-loop-p) c.in-Some.is)))

pub returns-in-None : goal.returns-in-None
returns-in-None c = ap judged (sym (checks_good _ _ _ c.loop-p.invariant (past_end (goal.at.returns-in-None c).After-loop-p) c.in-None.is))
