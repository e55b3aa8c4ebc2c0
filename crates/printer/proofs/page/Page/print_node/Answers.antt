-- `printer::page::Page::print_node`: three parts, each in the rest of the room.
use mathlib.Core.Path.{refl}
use native.Mathlib.Omega.{arith}
use Prim.Native.Nat.{◌+◌, ◌*◌, ◌-◌, ◌≤◌, ◌<◌}
use lib.ListN.{length}
use lib.Dec.{lit≤}
use Rattle.printer.specs.PrivateTrees.{tree_of, next_of}
use Rattle.printer.specs.PrivateWriting.{laid}
use Rattle.refusals.specs.Numbers.{depth_limit}
use Rattle.table.specs.Decoding.{tree_at}
use Rattle.printer.specs.Layout.{Wrap}
use Rattle.printer.proofs.LayoutBounds.{right_len}
use Rattle.printer.proofs.PageWriting.{first_le, node_out}
use Rattle.printer.proofs.page.Page.print_node.Goals as goal
use Rattle.printer.proofs.page.Page.print_node.Goals.{Start}

-- the text of the tree is bounded by its records
size : (c : Start)
    → (length (laid c.args.self.now.width 0 0 (tree_of (tree_at c.args.self.now.table.now depth_limit c.args.at))) + 300 ≤ 128 * (next_of (tree_at c.args.self.now.table.now depth_limit c.args.at) - c.args.at))
    × (c.args.at < next_of (tree_at c.args.self.now.table.now depth_limit c.args.at)) × (next_of (tree_at c.args.self.now.table.now depth_limit c.args.at) ≤ length c.args.self.now.table.now)
size c = right_len c.args.self.now.table.now _ c.args.at Wrap c.args.self.now.width 0 0 c.args.self.now.bytes c.requires.0 (lit≤ tt) c.requires.1

pub print_wrapped-tree-requires : goal.print_wrapped-tree-requires
print_wrapped-tree-requires c =
    let l = size (goal.at.print_wrapped-tree-requires c).Start in
    (c.requires.0, lit≤ tt, c.requires.1, omega (arith, c.args.self.now.limited), c.requires.2)

pub overflow_add-end : goal.overflow_add-end
overflow_add-end c =
    let l = size (goal.at.overflow_add-end c).Start in
    omega (arith, first_le c.args.at _ _ c.then_some.ensures c.put_optional-w.ensures.0, c.print_wrapped-tree.ensures.0.1.0, c.args.self.now.limited)

pub overflow_add-result : goal.overflow_add-result
overflow_add-result c =
    let l = size (goal.at.overflow_add-result c).Start in
    omega (arith, first_le c.args.at _ _ c.then_some.ensures c.put_optional-w.ensures.0, c.print_wrapped-tree.ensures.0.1.0, c.put_byte-k.ensures.0, c.args.self.now.limited)

pub returns : goal.returns
returns c =
    let s = c.args in
    let x = c.print_wrapped-tree.ensures in (
      node_out s.at s.self.now.width _ _ _ _ _ _ _ (tree_at s.self.now.table.now depth_limit s.at) s.out.now _ _ _ _ c.then_some.ensures c.put_optional-w.ensures c.min-rest.ensures x.0 refl
          c.min-last.ensures c.put_byte-k.ensures,
      x.1,
    )
