-- `settings::write`: the record is put where one of its kind was found, or behind the last; a file at fault is not copied.
use mathlib.Core.Path.{sym, ap, ◌∙◌}
use native.Mathlib.Omega.{arith}
use Rattle.std.proofs.Common.{rules, ◌≡◌, Err, length}
use Rattle.settings.specs.Kinds.{kind_number}
use Rattle.settings.specs.Files.{setting_is}
use Rattle.settings.specs.Writing.{written_of}
use Rattle.settings.proofs.Joining.{answered}
use Rattle.settings.proofs.Looking.{Old, found_as, at_found, not_found, at_head, at_room, at_old, not_old, bad_copy}
use Rattle.settings.proofs.write.Goals as goal
use Rattle.settings.proofs.write.Goals.{in-Some, in-None, After-splice-arg-1}

pub returns-in_err-found : goal.returns-in_err-found
returns-in_err-found c =
    let e : c.from_residual.result ≡ Err c.in_err-found.field-0.0 = search rules in
    let w = answered _ _ c.args.out.now (bad_copy c.args.f.now (setting_is (kind_number c.args.kind) c.args.value.now) (length c.args.out.now) _ _ (found_as _ _ _ c.in_err-found.ensures)) in
    (ap written_of e ∙ w.0, w.1)

pub overflow_sub-old : goal.overflow_sub-old
overflow_sub-old c = at_head _ _ (λ i. (c.type_inv.f i).fits) (at_found _ _ _ c.in_ok-found.ensures _ c.in-Some.is)

pub overflow_add-old : goal.overflow_add-old
overflow_add-old c =
    let h = at_room _ _ (λ i. (c.type_inv.f i).fits) (at_found _ _ _ c.in_ok-found.ensures _ c.in-Some.is) in
    let l = at_old _ _ (λ i. (c.type_inv.f i).fits) (at_found _ _ _ c.in_ok-found.ensures _ c.in-Some.is) in
    record { fits = omega (arith, h, l.limit) }

pub splice-requires : goal.splice-requires
splice-requires c =
    let o : Old c.args.f.now (kind_number c.args.kind) c.match-found.old.place c.match-found.old.len = elim c.match-found.branch [
      | in-Some w ↦ rw w.old-is (at_old _ _ (λ i. (c.type_inv.f i).fits) (at_found _ _ _ c.in_ok-found.ensures _ w.in-Some.is))
      | in-None w ↦ rw w.old-is (not_old _ _ (λ i. (c.type_inv.f i).fits) (not_found _ _ _ c.in_ok-found.ensures w.in-None.is))
    ] in
    (o.room, o.limit)

pub returns : goal.returns
returns c =
    let o : Old c.args.f.now (kind_number c.args.kind) c.match-found.old.place c.match-found.old.len = elim c.match-found.branch [
      | in-Some w ↦ rw w.old-is (at_old _ _ (λ i. (c.type_inv.f i).fits) (at_found _ _ _ c.in_ok-found.ensures _ w.in-Some.is))
      | in-None w ↦ rw w.old-is (not_old _ _ (λ i. (c.type_inv.f i).fits) (not_found _ _ _ c.in_ok-found.ensures w.in-None.is))
    ] in
    let w = answered _ _ c.args.out.now (sym (o.copy c.args.value.now (length c.args.out.now))) in
    let e = c.splice.ensures in
    (e.0 ∙ w.0, e.1 ∙ w.1)
