-- `wide::text_len`: 34 for -2^127, for any other integer the length of its decimal.
use Rattle.std.proofs.Common.{length, sym, ap, ◌∙◌}
use Rattle.wide.proofs.Decimals.{lowest_text_lem, other_text}
use Rattle.wide.proofs.text_len.Goals as goal

pub returns-then-is_lowest : goal.returns-then-is_lowest
returns-then-is_lowest c = sym (ap length (lowest_text_lem _ (sym c.is_lowest.ensures ∙ c.if-is_lowest.true)))

pub returns : goal.returns
returns c = c.decimal_len.ensures ∙ sym (ap length (other_text _ (sym c.is_lowest.ensures ∙ c.if-is_lowest.false)))
