-- `lexer::token_from`: no class of a blank or a comment stands at a gap's end.
use Prim.Native.Nat.{◌<◌}
use native.Mathlib.Omega.{arith}
use lib.ListN.{length}
use Rattle.lexer.specs.Gaps.{gap_end}
use Rattle.lexer.proofs.Skips.{gap_no_blank, gap_no_semicolon}
use Rattle.lexer.proofs.token_from.Goals as goal

pub unreachable-requires : goal.unreachable-requires
unreachable-requires c =
    let h : gap_end c.args.src.now c.args.at < length c.args.src.now = omega (arith, c.gap_from-i.ensures) in
    let e = gap_no_blank c.args.src.now c.args.at h in
    let f = gap_no_semicolon c.args.src.now c.args.at h in
    grind arith
