-- `feeder::glance::token_ahead`: a law for each way to see a token behind blanks.
use mathlib.Core.Path.{sym, ◌∙◌}
use native.Mathlib.Omega.{arith}
use Rattle.feeder.proofs.Glances.{symbol_shown, sign_shown, paren_shown}
use Rattle.feeder.proofs.glance.token_ahead.Goals as goal

pub returns-then-is_high : goal.returns-then-is_high
returns-then-is_high c =
    symbol_shown c.args.piece.now c.in_ok-j.j (sym c.past_blanks.ensures ∙ c.in_ok-j.was)
    (c.type_inv.piece c.in_ok-j.j).fits (sym c.is_high.ensures ∙ c.if-is_high.true) c.symbol_to.result c.symbol_to.ensures

pub returns-then-is_rparen-is_at_sign : goal.returns-then-is_rparen-is_at_sign
returns-then-is_rparen-is_at_sign c =
    sign_shown c.args.piece.now c.in_ok-j.j (sym c.past_blanks.ensures ∙ c.in_ok-j.was) (rw (← c.is_rparen.ensures, ← c.is_at_sign.ensures) c.if-is_rparen-is_at_sign.true)

pub returns-then-not-is_semicolon : goal.returns-then-not-is_semicolon
returns-then-not-is_semicolon c =
    paren_shown c.args.piece.now c.in_ok-j.j (sym c.past_blanks.ensures ∙ c.in_ok-j.was)
    (sym c.is_lparen.ensures ∙ c.if-is_lparen.true) (omega arith) (sym c.is_semicolon.ensures ∙ c.if-not-is_semicolon.true)
