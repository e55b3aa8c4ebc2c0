-- How little the promises of settings leave open: of each public function, two results (and two lent memories) that meet its own contract are equal: THEOREM one_answer_settings.
use Rattle.std.specs.Prelude.{◌≡◌}
use Rattle.settings.proofs.kinds.KindTryFromUsize.try_from.Reads as settings-kind-try-from-usize
use Rattle.settings.proofs.edition.Reads as settings-edition
use Rattle.settings.proofs.width.Reads as settings-width
use Rattle.settings.proofs.style.Reads as settings-style
use Rattle.settings.proofs.style_name.Reads as settings-style-name
use Rattle.settings.proofs.write_width.Reads as settings-write-width
use Rattle.settings.proofs.write_style.Reads as settings-write-style
use Rattle.tulbazhik_settings.proofs.tulbazhik_edition.Reads as tulbazhik-edition
use Rattle.tulbazhik_settings.proofs.tulbazhik_width.Reads as tulbazhik-width
use Rattle.tulbazhik_settings.proofs.tulbazhik_style.Reads as tulbazhik-style
use Rattle.tulbazhik_settings.proofs.tulbazhik_write_width.Reads as tulbazhik-write-width
use Rattle.tulbazhik_settings.proofs.tulbazhik_write_style.Reads as tulbazhik-write-style
use Rattle.demands.specs.OneAnswer.{One, Left, LeftTwo, Both}

pub record OneAnswerSettings : Type 0 where
  pub settings_kind_try_from_usize : One settings-kind-try-from-usize.Post
  pub settings_edition : One settings-edition.Post
  pub settings_width : One settings-width.Post
  pub settings_style : One settings-style.Post
  -- of a part that is handed out its bytes, and where in memory they stand
  pub settings_style_name : (κs : _) (a : _) (x y : _) (s t : _) → settings-style-name.Post κs a x s → settings-style-name.Post κs a y t → (x.now ≡ y.now) × (x.ref_ptr ≡ y.ref_ptr)
  pub settings_write_width : Both settings-write-width.Post (λ κs s. s.1.1.0.now)
  pub settings_write_style : Both settings-write-style.Post (λ κs s. s.1.1.0.now)
  -- the door for C
  pub tulbazhik_settings_tulbazhik_edition : Left tulbazhik-edition.Post (λ κs s. s.1.1.0.now)
  pub tulbazhik_settings_tulbazhik_width : Left tulbazhik-width.Post (λ κs s. s.1.1.0.now)
  pub tulbazhik_settings_tulbazhik_style : Left tulbazhik-style.Post (λ κs s. s.1.1.0.now)
  pub tulbazhik_settings_tulbazhik_write_width : LeftTwo tulbazhik-write-width.Post (λ κs s. s.1.1.1.0.now) (λ κs s. s.1.1.0.now)
  pub tulbazhik_settings_tulbazhik_write_style : LeftTwo tulbazhik-write-style.Post (λ κs s. s.1.1.1.0.now) (λ κs s. s.1.1.0.now)
