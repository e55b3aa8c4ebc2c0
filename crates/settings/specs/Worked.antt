-- Settings files worked by hand (document 02, 5/12), as one statement: THEOREM worked_files.
use Rattle.std.specs.Prelude.{ℕ, ◌≡◌, List, [], ◌∷◌, ◌++◌}
use Rattle.refusals.specs.Numbers.{bad_settings, not_set, print_room, bad_style_name}
use Rattle.refusals.specs.Result.{ok, refused}
use Rattle.settings.specs.Files.{settings_of}
use Rattle.settings.specs.LookUps.{given, faulty, Project, House, Neither, edition_in, width_in, style_in}
use Rattle.settings.specs.Writing.{copy_of, width_setting, style_setting}

-- the records of edition 1, of a width below 256, of the style names `a` and `bc`, and a skipped one with no value
abbrev pub edition1 : List ℕ
edition1 = 8 ∷ 0 ∷ 0 ∷ 0 ∷ 1 ∷ 0 ∷ 1 ∷ 0 ∷ []

abbrev pub wide : ℕ → List ℕ
wide w = 10 ∷ 0 ∷ 0 ∷ 0 ∷ 2 ∷ 0 ∷ w ∷ 0 ∷ 0 ∷ 0 ∷ []

abbrev pub style_a : List ℕ
style_a = 7 ∷ 0 ∷ 0 ∷ 0 ∷ 3 ∷ 0 ∷ 97 ∷ []

abbrev pub style_bc : List ℕ
style_bc = 8 ∷ 0 ∷ 0 ∷ 0 ∷ 3 ∷ 0 ∷ 98 ∷ 99 ∷ []

abbrev pub unread : List ℕ
unread = 6 ∷ 0 ∷ 0 ∷ 0 ∷ 0 ∷ 128 ∷ []

pub record WorkedFiles : Type 0 where
  -- the edition; the width of the project, of the house, of neither; where a style name stands; past a skipped record
  pub edition : edition_in edition1 edition1 ≡ given Project 1
  pub width : width_in (edition1 ++ wide 80) (edition1 ++ wide 100) ≡ given Project 80
  pub house : width_in edition1 (edition1 ++ wide 100) ≡ given House 100
  pub neither : width_in edition1 edition1 ≡ faulty Neither not_set 0
  pub style : style_in (edition1 ++ (wide 80 ++ style_bc)) edition1 ≡ given Project (record { place = 24; len = 2 })
  pub past : width_in (edition1 ++ (unread ++ wide 80)) edition1 ≡ given Project 80
  -- no edition; a width before it; a skipped kind twice, an unknown kind, a cut record; the house file alone at fault
  pub empty : settings_of [] ≡ refused bad_settings 0
  pub late : settings_of (wide 80 ++ edition1) ≡ refused bad_settings 0
  pub twice : settings_of (edition1 ++ (unread ++ unread)) ≡ refused bad_settings 14
  pub unknown : settings_of (edition1 ++ (wide 80 ++ (6 ∷ 0 ∷ 0 ∷ 0 ∷ 4 ∷ 0 ∷ []))) ≡ refused bad_settings 18
  pub cut : settings_of (edition1 ++ (9 ∷ [])) ≡ refused bad_settings 8
  pub behind : width_in (edition1 ++ wide 80) [] ≡ faulty House bad_settings 0
  -- replaced in its place, longer than before; added at the end; no room; a style name of no byte
  pub replaces : copy_of (edition1 ++ wide 80) (width_setting 100) 18 ≡ ok (edition1 ++ wide 100)
  pub longer : copy_of (edition1 ++ (style_a ++ wide 80)) (style_setting (98 ∷ 99 ∷ [])) 26 ≡ ok (edition1 ++ (style_bc ++ wide 80))
  pub adds : copy_of edition1 (width_setting 100) 18 ≡ ok (edition1 ++ wide 100)
  pub full : copy_of edition1 (width_setting 100) 17 ≡ refused print_room 18
  pub nameless : copy_of edition1 (style_setting []) 18 ≡ refused bad_style_name 0
