-- `settings::finding::find`: what is left of the file to read decides the answer, at every turn of the loop (`Walking.Walk`).
use native.Mathlib.Omega.{arith}
use mathlib.Core.Path.{sym, ap, ◌∙◌}
use Rattle.std.proofs.Common.{rules, ◌≡◌, Err}
use Rattle.settings.proofs.Numbering.{cast_number}
use Rattle.settings.proofs.Walking.{begun, cut, six, room, unfit, markable, twice, met, passed, ended, too_long_lem, no_edition}
use Rattle.settings.proofs.finding.find.Goals as goal
use Rattle.settings.proofs.finding.find.Goals.{else-head-kind, then-head-kind, then-not-value_fits-via-then-not-value_fits, then-not-value_fits-via-else-not-value_fits+then-mark}

pub returns-then-f-gt-SETTINGS_LIMIT : goal.returns-then-f-gt-SETTINGS_LIMIT
returns-then-f-gt-SETTINGS_LIMIT c = ap Err c.at.ensures ∙ too_long_lem _ _ c.if-f-gt-SETTINGS_LIMIT.true

pub returns-then-not-edition_first : goal.returns-then-not-edition_first
returns-then-not-edition_first c = ap Err c.at-then-not-edition_first.ensures ∙ no_edition _ _ c.if-f-gt-SETTINGS_LIMIT.false (sym c.edition_first.ensures ∙ c.if-not-edition_first.true)

pub loop-at-init : goal.loop-at-init
loop-at-init c = begun _ _ _ c.if-f-gt-SETTINGS_LIMIT.false (sym c.edition_first.ensures ∙ c.if-not-edition_first.false) c.none-seen.ensures

pub returns-in_err-head : goal.returns-in_err-head
returns-in_err-head c =
    let e : c.from_residual.result ≡ Err c.at-bad.result = search rules in
    e ∙ ap Err c.at-bad.ensures ∙ cut c.loop-at.invariant c.loop-at-test.true (sym c.head_at.ensures ∙ c.in_err-head.ensures.ok_part)

pub overflow_sub-len : goal.overflow_sub-len
overflow_sub-len c = six c.loop-at.invariant c.loop-at-test.true _ (sym c.head_at.ensures ∙ c.in_ok-head.ensures.ok_part)

pub returns-then-not-value_fits : goal.returns-then-not-value_fits
returns-then-not-value_fits c =
    let i = c.loop-at.invariant in
    let e = sym c.head_at.ensures ∙ c.in_ok-head.ensures.ok_part in
    ap Err c.at-bad.ensures ∙ elim c.then-not-value_fits.branch [
      | then-not-value_fits-via-then-not-value_fits w ↦ unfit i c.loop-at-test.true _ e (sym c.value_fits.ensures ∙ w.if-not-value_fits.true)
      | then-not-value_fits-via-else-not-value_fits+then-mark w ↦ twice i c.loop-at-test.true _ e (sym c.value_fits.ensures ∙ w.if-not-value_fits.false) (sym (w.mark.ensures i.before i.tells).0 ∙ w.if-mark.true)
    ]

pub mark-requires : goal.mark-requires
mark-requires c = markable c.loop-at.invariant c.loop-at-test.true _ (sym c.head_at.ensures ∙ c.in_ok-head.ensures.ok_part) (sym c.value_fits.ensures ∙ c.if-not-value_fits.false) (λ i. (c.type_inv.f i).fits)

pub overflow_add-at : goal.overflow_add-at
overflow_add-at c = let h = room c.loop-at.invariant c.loop-at-test.true _ (sym c.head_at.ensures ∙ c.in_ok-head.ensures.ok_part) in record { fits = omega (arith, h, c.if-f-gt-SETTINGS_LIMIT.false) }

pub loop-at-smaller : goal.loop-at-smaller
loop-at-smaller c = let h = six c.loop-at.invariant c.loop-at-test.true _ (sym c.head_at.ensures ∙ c.in_ok-head.ensures.ok_part) in omega (arith, h, c.loop-at-test.true)

pub loop-at-preserved : goal.loop-at-preserved
loop-at-preserved c =
    let e = sym c.head_at.ensures ∙ c.in_ok-head.ensures.ok_part in
    let u = sym c.value_fits.ensures ∙ c.if-not-value_fits.false in
    let m = c.mark.ensures c.loop-at.invariant.before c.loop-at.invariant.tells in
    let a = sym m.0 ∙ c.if-mark.false in
    elim c.if-head-kind.branch [
      | then-head-kind w ↦ rw w.found-is (met c.loop-at.invariant c.loop-at-test.true _ e u a m.1 (w.if-head-kind.true ∙ cast_number c.args.kind))
      | else-head-kind w ↦ rw w.found-is (passed c.loop-at.invariant c.loop-at-test.true _ e u a m.1 (λ q. w.if-head-kind.false (q ∙ sym (cast_number c.args.kind))))
    ]

pub returns : goal.returns
returns c = ended c.loop-at.invariant c.loop-at-test.false
