-- `wide::put_text`: `0x8` and 31 zeros for -2^127, for any other integer its decimal.
use Rattle.std.proofs.Common.{sym, ◌∙◌}
use Rattle.wide.proofs.Decimals.{lowest_text_lem, other_text}
use Rattle.wide.proofs.Putting.{put_as}
use Rattle.wide.proofs.put_text.Goals as goal

pub returns-then-is_lowest : goal.returns-then-is_lowest
returns-then-is_lowest c =
    let b = c in
    put_as _ _ b.args.out.now _ _ (lowest_text_lem _ (sym b.is_lowest.ensures ∙ c.if-is_lowest.true)) c.put.ensures

pub returns : goal.returns
returns c =
    let b = c in
    put_as _ _ b.args.out.now _ _ (other_text _ (sym b.is_lowest.ensures ∙ c.if-is_lowest.false)) c.put_decimal.ensures
