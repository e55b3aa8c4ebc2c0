-- `feeder::glance::symbol_to`: the symbol behind its first byte is a run, wherever the piece stands.
use Prim.Native.Nat.{ℕ, ◌+◌, ◌-◌, ◌≤◌}
use mathlib.Core.Path.{refl}
use native.Mathlib.Omega.{arith}
use lib.ListN.{length}
use Rattle.refusals.specs.Numbers.{source_limit}
use Rattle.feeder.proofs.Kept.{symbol_is_given}
use Rattle.feeder.proofs.glance.symbol_to.Goals as goal

pub returns-then-k-piece : goal.returns-then-k-piece
returns-then-k-piece c =
    let q = c.args.piece.now in
    let j = c.args.j in
    let k = c.symbol_end-k.result in (
      refl,
      omega arith,
      omega arith,
      λ (p : ℕ) (l : p + length q ≤ source_limit). (symbol_is_given q p (p + j) (j + 1) k c.symbol_end-k.ensures (omega arith) l (k - j) (omega arith) c.if-k-piece.true).same,
    )
