-- `settings::style_name`: the part of the file that the name was found in, or no bytes.
use mathlib.Core.Path.{◌∙◌}
use Rattle.settings.specs.Kinds.{style_kind}
use Rattle.settings.proofs.Spans.{spanned_as, sided, name_read}
use Rattle.settings.proofs.style_name.Goals as goal

pub part-requires : goal.part-requires
part-requires c = (sided _ _ _ _ _ (spanned_as style_kind _ _ (λ i. (c.type_inv.project i).fits) (λ i. (c.type_inv.house i).fits) _ c.in-Ok.ensures)).room

pub returns-in-Ok : goal.returns-in-Ok
returns-in-Ok c =
    let d = name_read style_kind _ _ c.args.project.ref_ptr c.args.house.ref_ptr _ _ (spanned_as style_kind _ _ (λ i. (c.type_inv.project i).fits) (λ i. (c.type_inv.house i).fits) _ c.in-Ok.ensures) in
    (c.part.ensures.0 ∙ d.0, c.part.ensures.1 ∙ d.1)
