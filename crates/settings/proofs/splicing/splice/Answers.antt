-- `settings::splicing::splice`: each refusal by its test; then three parts, each put into the room that the one before left.
use mathlib.Core.Path.{sym, ap, ◌∙◌}
use Rattle.std.proofs.Common.{◌+◌, ◌≤◌, length}
use native.Mathlib.Omega.{arith}
use Rattle.refusals.specs.Result.{ok}
use Rattle.settings.specs.Kinds.{kind_number}
use Rattle.settings.proofs.Numbering.{cast_number}
use Rattle.settings.proofs.Joining.{answered, copy_long, copy_roomless, copy_fits, copy_size, three}
use Rattle.settings.proofs.splicing.splice.Goals as goal

pub returns-then-size-gt-SETTINGS_LIMIT : goal.returns-then-size-gt-SETTINGS_LIMIT
returns-then-size-gt-SETTINGS_LIMIT c =
    let v = c.args.value.now in
    let u = sym c.fits.ensures ∙ c.if-not-fits.false in
    rw c.at-then-size-gt-SETTINGS_LIMIT.ensures (answered _ _ _ (copy_long c.args.f.now v c.args.old.place (c.args.old.place + c.args.old.len) (kind_number c.args.kind) (length c.args.out.now) (omega arith) c.requires.0 u c.if-size-gt-SETTINGS_LIMIT.true))

pub returns-then-out-size : goal.returns-then-out-size
returns-then-out-size c =
    let v = c.args.value.now in
    let u = sym c.fits.ensures ∙ c.if-not-fits.false in
    rw c.at-then-out-size.ensures (answered _ _ _ (copy_roomless c.args.f.now v c.args.old.place (c.args.old.place + c.args.old.len) (kind_number c.args.kind) (length c.args.out.now) (omega arith) c.requires.0 u c.if-size-gt-SETTINGS_LIMIT.false c.if-out-size.true))

pub returns : goal.returns
returns c =
    let f = c.args.f.now in let v = c.args.value.now in let k = length c.args.out.now in
    let at = c.args.old.place in let next = at + c.args.old.len in let kind = kind_number c.args.kind in
    let order : at ≤ next = omega arith in
    let u = sym c.fits.ensures ∙ c.if-not-fits.false in
    let e = copy_fits f v at next kind k order c.requires.0 u c.if-size-gt-SETTINGS_LIMIT.false c.if-out-size.false in
    let w = answered _ _ c.args.out.now e in (
      ap ok (copy_size f v at next kind k order c.requires.0) ∙ w.0,
      three f v at next kind k order c.requires.0 c.args.out.now _ _ _ c.if-out-size.false c.put.ensures.1 (rw (← cast_number c.args.kind) c.put-2.ensures) c.put-3.ensures.1 ∙ w.1,
    )
