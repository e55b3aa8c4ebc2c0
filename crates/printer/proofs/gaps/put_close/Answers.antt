-- `printer::gaps::put_close`: one line for each kind of end.
use mathlib.Core.List.{◌∷◌, []}
use native.Mathlib.Omega.{arith}
use Rattle.printer.specs.Layout.{bytes, nl}
use Rattle.lists.proofs.Rooms.{puts_both}
use Rattle.printer.proofs.gaps.put_close.Goals as goal

pub returns : goal.returns
returns c =
    let s = c.args in
    rw c.if-empty.false
    (puts_both (bytes (nl s.indent)) (41 ∷ []) s.out.now _ _ _ _ _ c.nl-n.ensures (λ l. omega arith) c.put_byte-k.ensures)
