-- `table::walk::walk_tree`, `walk_binding` and `walk_list`, which call each other: the depth still allowed falls from a tree to the trees below it.
use Prim.Native.Nat.{◌+◌, ◌*◌}
use Rattle.table.proofs.Walks.{Counted}
use Rattle.table.proofs.walk.+walk_list_walk_tree.Given as goal

abbrev pub decreases-walk_list : goal.decreases-walk_list
decreases-walk_list l = 2 * l.depth + 1

abbrev pub decreases-walk_binding : goal.decreases-walk_binding
decreases-walk_binding l = 2 * l.depth + 1

abbrev pub decreases-walk_tree : goal.decreases-walk_tree
decreases-walk_tree l = 2 * l.depth

abbrev pub invariant-walk_list-loop : goal.invariant-walk_list-loop
invariant-walk_list-loop l = Counted l.t l.at l.n l.depth l.p l.counter l.cost l.empty l.wrong
