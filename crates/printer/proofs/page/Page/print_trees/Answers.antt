-- `printer::page::Page::print_trees`: what is done of the page, and the trees that are left.
use native.Mathlib.Omega.{arith}
use Rattle.printer.proofs.PageWriting.{pages_begin, pages_tree, pages_cost, pages_bound, pages_step, pages_end, pages_within, pages_limit}
use Rattle.printer.proofs.page.Page.print_trees.Goals as goal

pub loop-p-init : goal.loop-p-init
loop-p-init c = pages_begin _ _ _ c.requires

pub print_node-line-requires : goal.print_node-line-requires
print_node-line-requires c = let v = c.loop-p.invariant in (pages_within v, pages_tree v c.loop-p-test.true, pages_cost v c.loop-p-test.true)

pub overflow_add-w : goal.overflow_add-w
overflow_add-w c =
    let n = pages_step c.loop-p.invariant c.args.self.now.bytes c.loop-p-test.true _ _ _ _ c.print_node-line.new.out c.print_node-line.ensures c.min-rest.ensures (omega arith) in
    omega (arith, n.small, pages_within n, pages_limit n)

pub overflow_add-looked : goal.overflow_add-looked
overflow_add-looked c =
    let n = pages_step c.loop-p.invariant c.args.self.now.bytes c.loop-p-test.true _ _ _ _ c.print_node-line.new.out c.print_node-line.ensures c.min-rest.ensures (omega arith) in
    omega (arith, n.few, pages_within n, pages_limit n)

pub loop-p-smaller : goal.loop-p-smaller
loop-p-smaller c = omega (arith, pages_bound c.loop-p.invariant c.args.self.now.bytes c.loop-p-test.true, c.print_node-line.ensures.0.0)

pub loop-p-preserved : goal.loop-p-preserved
loop-p-preserved c = pages_step c.loop-p.invariant c.args.self.now.bytes c.loop-p-test.true _ _ _ _ c.print_node-line.new.out c.print_node-line.ensures c.min-rest.ensures (omega arith)

pub returns : goal.returns
returns c = pages_end c.loop-p.invariant c.loop-p-test.false
