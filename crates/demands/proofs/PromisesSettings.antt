-- What each public function of settings promises is its contract, word by word. Assumes nothing.
use mathlib.Core.Path.{refl}
use Rattle.demands.specs.PromisesSettings.{PromisesSettings}

pub promises_settings : PromisesSettings
promises_settings = record {
  settings_kind_try_from_usize = λ κs a x s. refl;
  settings_edition = λ κs a x s. refl;
  settings_width = λ κs a x s. refl;
  settings_style = λ κs a x s. refl;
  settings_style_name = λ κs a x s. refl;
  settings_write_width = λ κs a x s. refl;
  settings_write_style = λ κs a x s. refl;
  tulbazhik_settings_tulbazhik_edition = λ κs a x s. refl;
  tulbazhik_settings_tulbazhik_width = λ κs a x s. refl;
  tulbazhik_settings_tulbazhik_style = λ κs a x s. refl;
  tulbazhik_settings_tulbazhik_write_width = λ κs a x s. refl;
  tulbazhik_settings_tulbazhik_write_style = λ κs a x s. refl;
}
