-- What each public function of settings and of its door for C promises, in the words of the definitions, as in `Promises`. What is refuted in `RefutedSettings` is refuted of these.
use Rattle.std.specs.Prelude.{◌≡◌, length}
use Rattle.settings.specs.Kinds.{kind_of}
use Rattle.settings.specs.LookUps.{edition_in, width_in, style_in, style_name_in, part_at, number_of, part_of}
use Rattle.settings.specs.Writing.{copy_of, sized, laid, width_setting, style_setting, written_of}
use Rattle.words.specs.Words.{length_words}
use Rattle.tulbazhik_settings.specs.Sides.{number_words, style_words}
use Rattle.settings.proofs.kinds.KindTryFromUsize.try_from.Reads as settings-kind-try-from-usize
use Rattle.settings.proofs.edition.Reads as settings-edition
use Rattle.settings.proofs.width.Reads as settings-width
use Rattle.settings.proofs.style.Reads as settings-style
use Rattle.settings.proofs.style_name.Reads as settings-style-name
use Rattle.settings.proofs.write_width.Reads as settings-write-width
use Rattle.settings.proofs.write_style.Reads as settings-write-style
use Rattle.tulbazhik_settings.proofs.tulbazhik_edition.Reads as tulbazhik-edition
use Rattle.tulbazhik_settings.proofs.tulbazhik_width.Reads as tulbazhik-width
use Rattle.tulbazhik_settings.proofs.tulbazhik_style.Reads as tulbazhik-style
use Rattle.tulbazhik_settings.proofs.tulbazhik_write_width.Reads as tulbazhik-write-width
use Rattle.tulbazhik_settings.proofs.tulbazhik_write_style.Reads as tulbazhik-write-style

pub record PromisesSettings : Type 1 where
  pub settings_kind_try_from_usize : (κs : _) (a : _) (x : _) (s : _) → settings-kind-try-from-usize.Post κs a x s ≡ (x ≡ kind_of a.0)
  pub settings_edition : (κs : _) (a : _) (x : _) (s : _) → settings-edition.Post κs a x s ≡ (number_of x ≡ edition_in a.0.now a.1.0.now)
  pub settings_width : (κs : _) (a : _) (x : _) (s : _) → settings-width.Post κs a x s ≡ (number_of x ≡ width_in a.0.now a.1.0.now)
  pub settings_style : (κs : _) (a : _) (x : _) (s : _) → settings-style.Post κs a x s ≡ (part_of x ≡ style_in a.0.now a.1.0.now)
  pub settings_style_name : (κs : _) (a : _) (x : _) (s : _)
      → settings-style-name.Post κs a x s
      ≡ ((x.now ≡ style_name_in a.0.now a.1.0.now) × (x.ref_ptr ≡ part_at a.0.ref_ptr a.1.0.ref_ptr (style_in a.0.now a.1.0.now)))
  pub settings_write_width : (κs : _) (a : _) (x : _) (s : _)
      → settings-write-width.Post κs a x s
      ≡ ((written_of x ≡ sized (copy_of a.0.now (width_setting a.1.0) (length a.1.1.0.now)))
      × (s.1.1.0.now ≡ laid (copy_of a.0.now (width_setting a.1.0) (length a.1.1.0.now)) a.1.1.0.now))
  pub settings_write_style : (κs : _) (a : _) (x : _) (s : _)
      → settings-write-style.Post κs a x s
      ≡ ((written_of x ≡ sized (copy_of a.0.now (style_setting a.1.0.now) (length a.1.1.0.now)))
      × (s.1.1.0.now ≡ laid (copy_of a.0.now (style_setting a.1.0.now) (length a.1.1.0.now)) a.1.1.0.now))
  pub tulbazhik_settings_tulbazhik_edition : (κs : _) (a : _) (x : _) (s : _) → tulbazhik-edition.Post κs a x s ≡ (s.1.1.0.now ≡ number_words (edition_in a.0.now a.1.0.now))
  pub tulbazhik_settings_tulbazhik_width : (κs : _) (a : _) (x : _) (s : _) → tulbazhik-width.Post κs a x s ≡ (s.1.1.0.now ≡ number_words (width_in a.0.now a.1.0.now))
  pub tulbazhik_settings_tulbazhik_style : (κs : _) (a : _) (x : _) (s : _) → tulbazhik-style.Post κs a x s ≡ (s.1.1.0.now ≡ style_words (style_in a.0.now a.1.0.now))
  pub tulbazhik_settings_tulbazhik_write_width : (κs : _) (a : _) (x : _) (s : _)
      → tulbazhik-write-width.Post κs a x s
      ≡ ((s.1.1.1.0.now ≡ length_words (sized (copy_of a.0.now (width_setting a.1.0) (length a.1.1.0.now))))
      × (s.1.1.0.now ≡ laid (copy_of a.0.now (width_setting a.1.0) (length a.1.1.0.now)) a.1.1.0.now))
  pub tulbazhik_settings_tulbazhik_write_style : (κs : _) (a : _) (x : _) (s : _)
      → tulbazhik-write-style.Post κs a x s
      ≡ ((s.1.1.1.0.now ≡ length_words (sized (copy_of a.0.now (style_setting a.1.0.now) (length a.1.1.0.now))))
      × (s.1.1.0.now ≡ laid (copy_of a.0.now (style_setting a.1.0.now) (length a.1.1.0.now)) a.1.1.0.now))
