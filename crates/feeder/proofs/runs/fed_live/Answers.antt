-- `feeder::runs::fed_live`: the token that was seen is the call's.
use mathlib.Core.Path.{◌≡◌, ap, ◌∙◌}
use mathlib.Core.List.{◌++◌}
use native.Mathlib.Omega.{arith}
use Rattle.std.proofs.lemmas.List.{take-append-drop}
use Rattle.feeder.specs.Machine.{Blank}
use Rattle.feeder.specs.Feeding.{feed_from}
use Rattle.feeder.specs.PrivateRuns.{moved}
use Rattle.feeder.proofs.Calls.{call_start, cut_ready}
use Rattle.feeder.proofs.runs.fed_live.Goals as goal

pub returns : goal.returns
unfolding moved
returns c =
    let a = c.args in
    let q = c.split_at.result.0.now in
    let s = c.split_at.result.1.now in
    let e : q ++ s ≡ a.piece.now = rw (c.split_at.ensures.front, c.split_at.ensures.back) (take-append-drop _ _) in
    let w = c.in-Some.ensures in
    rw (c.answered.ensures, c.token_by.ensures, c.live.ensures, c.in-Blank.is)
    (cut_ready Blank a.place q s _ _ _ (w.2 a.place (omega (arith, w.0, w.1)) ∙ call_start q a.place 0 Blank) ∙ ap (feed_from Blank a.place) e)
