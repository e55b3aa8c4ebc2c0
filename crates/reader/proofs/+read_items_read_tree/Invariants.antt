-- `reader::read_items` and `reader::read_tree`: the source bytes left, paired with a phase, fall; the loop over items is one record.
use Prim.Native.Nat.{suc, ◌+◌, ◌*◌, ◌-◌}
use lib.ListN.{length}
use Rattle.lexer.specs.Lexing.{next_token}
use Rattle.reader.specs.Grammar.{read_tree, read_items}
use Rattle.reader.proofs.Bounds.{place}
use Rattle.reader.proofs.Walk.{Going}
use Rattle.reader.proofs.+read_items_read_tree.Given as goal

abbrev pub decreases-read_items : goal.decreases-read_items
decreases-read_items l = 2 * (length l.src.now - place (length l.src.now) (next_token l.src.now l.at)) + 1

abbrev pub decreases-read_tree : goal.decreases-read_tree
decreases-read_tree l = 2 * (length l.src.now - l.start)

abbrev pub invariant-read_items-loop-token : goal.invariant-read_items-loop-token
invariant-read_items-loop-token l =
    Going l.src l.depth (read_items (read_tree l.src l.depth) (suc (length l.src)) (next_token l.src l.initial.at)) (next_token l.src l.initial.at) l.initial.room (next_token l.src l.at) l.due l.n l.size l.cost l.room

abbrev pub decreases-read_items-loop-token : goal.decreases-read_items-loop-token
decreases-read_items-loop-token l = length l.src - place (length l.src) (next_token l.src l.at)
