-- For each public function of settings and of its door for C two wrong answers or more that its promise rules out, on given files, refuted by computation.
use mathlib.Core.Path.{◌≡◌, ap}
use mathlib.Core.List.{List, [], ◌∷◌, ◌++◌}
use Prim.Native.Nat.{ℕ}
use native.Mathlib.Omega.{arith}
use lib.ListN.{length, get_or, replicate}
use Rattle.std.specs.Prelude.{Ok}
use Rattle.refusals.specs.Numbers.{bad_settings, bad_style_name}
use Rattle.refusals.specs.Result.{Result, ok, refused}
use Rattle.wide.specs.Bytes.{le, number}
use Rattle.records.specs.Records.{record_of, head_at}
use Rattle.settings.specs.declared.kinds.Kind.TheVariants as kind
use Rattle.settings.specs.Kinds.{kind_of}
use Rattle.settings.specs.Files.{file_of, among, settings_at, settings_of}
use Rattle.settings.specs.declared.Side.{Side}
use Rattle.settings.specs.declared.Side.TheVariants.{Project, House, Neither}
use Rattle.settings.specs.declared.Span.{Span}
use Rattle.settings.specs.LookUps.{Sided, given, faulty, held_from, look_up, edition_in, width_in, style_in, style_name_in, part_at}
use Rattle.settings.specs.Writing.{replaced, copy_of, sized, laid, width_setting, style_setting}
use Rattle.settings.specs.Worked.{edition1, wide, style_a, style_bc, unread}
use Rattle.words.specs.Words.{eight, done_answer, refused_answer, length_words}
use Rattle.tulbazhik_settings.specs.Sides.{sided_words, number_words, style_words}
use Rattle.demands.proofs.Refuted.{Not}

-- edition 2; and an unknown kind that is not skipped
abbrev edition2 : List ℕ
edition2 = 8 ∷ 0 ∷ 0 ∷ 0 ∷ 1 ∷ 0 ∷ 2 ∷ 0 ∷ []

abbrev unknown : List ℕ
unknown = 6 ∷ 0 ∷ 0 ∷ 0 ∷ 255 ∷ 127 ∷ []

-- the number of a refusal, or 0; the number that is given, or 0; whose it is; the length of a copy, or 0
abbrev fault_of : {A : Type 0} → Sided A → ℕ
fault_of (given s x) = 0
fault_of (faulty s n a) = n

abbrev given_of : Sided ℕ → ℕ
given_of (given s n) = n
given_of (faulty s n a) = 0

abbrev side_of : Side → ℕ
side_of Project = 1
side_of House = 2
side_of Neither = 3

abbrev whose : {A : Type 0} → Sided A → ℕ
whose (given s x) = side_of s
whose (faulty s n a) = side_of s

abbrev place_of : Sided Span → ℕ
place_of (given s x) = x.place
place_of (faulty s n a) = 0

abbrev copied : Result (List ℕ) → List ℕ
copied (ok c) = c
copied (refused n a) = n ∷ a ∷ []

-- ---- TryFrom<usize> for settings::Kind: 0 as the edition's; the style's number as the width's
kind_zero : Not (Ok kind.Edition ≡ kind_of 0)
kind_zero e = let z : ◌≡◌ {A = ℕ} 0 1 = cc in omega arith

kind_style : Not (Ok kind.Width ≡ kind_of 3)
kind_style e = let z : ◌≡◌ {A = ℕ} 0 1 = cc in omega arith

-- ---- settings::edition: the house's; the greater of the two
edition_house : Not (given House 2 ≡ edition_in edition1 edition2)
unfolding look_up settings_of settings_at held_from head_at number among
edition_house e = let z : ◌≡◌ {A = ℕ} 2 1 = ap whose e in omega arith

edition_greater : Not (given Project 2 ≡ edition_in edition1 edition2)
unfolding look_up settings_of settings_at held_from head_at number among
edition_greater e = let z : ◌≡◌ {A = ℕ} 2 1 = ap given_of e in omega arith

-- ---- settings::width

-- the house's before the project's
width_house_first : Not (given House 100 ≡ width_in (edition1 ++ wide 80) (edition1 ++ wide 100))
unfolding look_up settings_of settings_at held_from head_at number among
width_house_first e = let z : ◌≡◌ {A = ℕ} 2 1 = ap whose e in omega arith

-- a skipped kind twice is accepted; so is an unknown kind below 32768
width_twice_skipped : Not (given Project 80 ≡ width_in (edition1 ++ (wide 80 ++ (unread ++ unread))) edition1)
unfolding look_up settings_of settings_at held_from head_at number among
width_twice_skipped e = let z : ◌≡◌ {A = ℕ} 0 23 = ap fault_of e in omega arith

width_unknown : Not (given Project 80 ≡ width_in (edition1 ++ (wide 80 ++ unknown)) edition1)
unfolding look_up settings_of settings_at held_from head_at number among
width_unknown e = let z : ◌≡◌ {A = ℕ} 0 23 = ap fault_of e in omega arith

-- the house file is not checked where the project's has the answer; the project's not behind a bad house file
width_unchecked : Not (given Project 80 ≡ width_in (edition1 ++ wide 80) [])
unfolding look_up settings_of settings_at held_from head_at number among
width_unchecked e = let z : ◌≡◌ {A = ℕ} 0 23 = ap fault_of e in omega arith

width_house_fault : Not (faulty House bad_settings 0 ≡ width_in [] [])
unfolding look_up settings_of settings_at held_from head_at number among
width_house_fault e = let z : ◌≡◌ {A = ℕ} 2 1 = ap whose e in omega arith

-- neither is told as the house's fault
width_neither : Not (faulty House 24 0 ≡ width_in edition1 edition1)
unfolding look_up settings_of settings_at held_from head_at number among
width_neither e = let z : ◌≡◌ {A = ℕ} 2 3 = ap whose e in omega arith

-- ---- settings::style: the place of the record; the house's place as the project's
style_record : Not (given Project (record { place = 8; len = 1 }) ≡ style_in (edition1 ++ style_a) edition1)
unfolding look_up settings_of settings_at held_from head_at number among record_of le
style_record e = let z : ◌≡◌ {A = ℕ} 8 14 = ap place_of e in omega arith

style_side : Not (given Project (record { place = 14; len = 2 }) ≡ style_in edition1 (edition1 ++ style_bc))
unfolding look_up settings_of settings_at held_from head_at number among
style_side e = let z : ◌≡◌ {A = ℕ} 1 2 = ap whose e in omega arith

-- ---- settings::style_name: the whole record; a copy of the name that stands elsewhere, as the house's same name
name_record : Not (style_bc ≡ style_name_in (edition1 ++ style_bc) edition1)
unfolding look_up settings_of settings_at held_from head_at number among
name_record e = let z : ◌≡◌ {A = ℕ} 8 2 = ap length e in omega arith

name_elsewhere : Not ((7, 14) ≡ part_at (5, 0) (7, 0) (style_in (edition1 ++ style_bc) (edition1 ++ style_bc)))
unfolding look_up settings_of settings_at held_from head_at number among
name_elsewhere e = let z : ◌≡◌ {A = ℕ} 7 5 = ap (λ (p : ℕ × ℕ). p.0) e in omega arith

-- ---- settings::write_width

-- a replaced record is moved to the end; what stood behind it is lost; a room of one byte too few is enough
width_moved : Not (ok (edition1 ++ (style_a ++ wide 100)) ≡ copy_of (edition1 ++ (wide 80 ++ style_a)) (width_setting 100) 99)
unfolding copy_of settings_of settings_at held_from head_at number among file_of replaced record_of le
width_moved e = let z : ◌≡◌ {A = ℕ} 7 10 = ap (λ (r : Result (List ℕ)). get_or (copied r) 8 0) e in omega arith

width_lost : Not (ok (edition1 ++ wide 100) ≡ copy_of (edition1 ++ (wide 80 ++ style_a)) (width_setting 100) 99)
unfolding copy_of settings_of settings_at held_from head_at number among file_of replaced record_of le
width_lost e = let z : ◌≡◌ {A = ℕ} 18 25 = ap (λ (r : Result (List ℕ)). length (copied r)) e in omega arith

width_roomless : Not (ok (edition1 ++ wide 100) ≡ copy_of edition1 (width_setting 100) 17)
unfolding copy_of settings_of settings_at held_from head_at number among file_of replaced record_of le
width_roomless e = let z : ◌≡◌ {A = ℕ} 18 2 = ap (λ (r : Result (List ℕ)). length (copied r)) e in omega arith

-- a refusal leaves bytes behind; what stands past the copy is cleared
width_touched : Not (8 ∷ [] ≡ laid (copy_of edition1 (width_setting 100) 1) (9 ∷ []))
unfolding copy_of settings_of settings_at held_from head_at number among file_of replaced record_of le
width_touched e = let z : ◌≡◌ {A = ℕ} 8 9 = ap (λ (b : List ℕ). get_or b 0 0) e in omega arith

width_cleared : Not (0 ≡ get_or (laid (copy_of edition1 (width_setting 100) 19) (replicate 19 9)) 18 0)
unfolding copy_of settings_of settings_at held_from head_at number among file_of replaced record_of le
width_cleared e = omega arith

-- ---- settings::write_style: a name of 33 bytes is taken; a name of none is told before the file's fault; the old name's length stays
style_long : Not (ok (edition1 ++ (39 ∷ 0 ∷ 0 ∷ 0 ∷ 3 ∷ 0 ∷ replicate 33 97)) ≡ copy_of edition1 (style_setting (replicate 33 97)) 99)
unfolding copy_of settings_of settings_at held_from head_at number among file_of replaced record_of le
style_long e = let z : ◌≡◌ {A = ℕ} 47 2 = ap (λ (r : Result (List ℕ)). length (copied r)) e in omega arith

style_name_first : Not (refused bad_style_name 0 ≡ copy_of [] (style_setting []) 99)
unfolding copy_of settings_of settings_at head_at number among
style_name_first e = let z : ◌≡◌ {A = ℕ} 26 23 = ap (λ (r : Result (List ℕ)). get_or (copied r) 0 0) e in omega arith

style_padded : Not (ok (edition1 ++ (8 ∷ 0 ∷ 0 ∷ 0 ∷ 3 ∷ 0 ∷ 97 ∷ 0 ∷ [])) ≡ copy_of (edition1 ++ style_bc) (style_setting (97 ∷ [])) 99)
unfolding copy_of settings_of settings_at held_from head_at number among file_of replaced record_of le
style_padded e = let z : ◌≡◌ {A = ℕ} 16 15 = ap (λ (r : Result (List ℕ)). length (copied r)) e in omega arith

-- ---- the door for C

-- tulbazhik_edition: the number where a length stands; the house's side
door_edition_length : Not (sided_words done_answer 0 1 0 Project ≡ number_words (edition_in edition1 edition1))
unfolding number_words look_up settings_of settings_at held_from head_at number among
door_edition_length e = let z : ◌≡◌ {A = ℕ} 1 0 = ap (λ (w : List ℕ). get_or w 2 0) e in omega arith

door_edition_side : Not (sided_words done_answer 0 0 1 House ≡ number_words (edition_in edition1 edition1))
unfolding number_words look_up settings_of settings_at held_from head_at number among
door_edition_side e = let z : ◌≡◌ {A = ℕ} 2 1 = ap (λ (w : List ℕ). get_or w 7 0) e in omega arith

-- tulbazhik_width: the answer without its side; what is set in neither as the width 0
door_width_side : Not (eight done_answer 0 0 0 80 0 ≡ number_words (width_in (edition1 ++ wide 80) edition1))
unfolding number_words look_up settings_of settings_at held_from head_at number among
door_width_side e = let z : ◌≡◌ {A = ℕ} 0 1 = ap (λ (w : List ℕ). get_or w 7 0) e in omega arith

door_width_zero : Not (sided_words done_answer 0 0 0 Neither ≡ number_words (width_in edition1 edition1))
unfolding number_words look_up settings_of settings_at held_from head_at number among
door_width_zero e = let z : ◌≡◌ {A = ℕ} 8 6 = ap (λ (w : List ℕ). get_or w 0 0) e in omega arith

-- tulbazhik_style: place and length exchanged; a refusal as a name of no byte
door_style_exchanged : Not (sided_words done_answer 1 14 0 Project ≡ style_words (style_in (edition1 ++ style_a) edition1))
unfolding style_words look_up settings_of settings_at held_from head_at number among record_of le
door_style_exchanged e = let z : ◌≡◌ {A = ℕ} 1 14 = ap (λ (w : List ℕ). get_or w 1 0) e in omega arith

door_style_none : Not (sided_words done_answer 0 0 0 Neither ≡ style_words (style_in edition1 edition1))
unfolding style_words look_up settings_of settings_at held_from head_at number among
door_style_none e = let z : ◌≡◌ {A = ℕ} 8 6 = ap (λ (w : List ℕ). get_or w 0 0) e in omega arith

-- tulbazhik_write_width: the room in place of the copy's length; done where there is no room
door_width_room : Not (eight done_answer 0 99 0 0 0 ≡ length_words (sized (copy_of edition1 (width_setting 100) 99)))
unfolding length_words copy_of settings_of settings_at held_from head_at number among file_of replaced record_of le
door_width_room e = let z : ◌≡◌ {A = ℕ} 99 18 = ap (λ (w : List ℕ). get_or w 2 0) e in omega arith

door_width_full : Not (eight done_answer 0 18 0 0 0 ≡ length_words (sized (copy_of edition1 (width_setting 100) 17)))
unfolding length_words copy_of settings_of settings_at held_from head_at number among file_of replaced record_of le
door_width_full e = let z : ◌≡◌ {A = ℕ} 8 6 = ap (λ (w : List ℕ). get_or w 0 0) e in omega arith

-- tulbazhik_write_style: the name's length in place of the copy's; a side where there is one file
door_style_length : Not (eight done_answer 0 2 0 0 0 ≡ length_words (sized (copy_of edition1 (style_setting (98 ∷ 99 ∷ [])) 99)))
unfolding length_words copy_of settings_of settings_at held_from head_at number among file_of replaced record_of le
door_style_length e = let z : ◌≡◌ {A = ℕ} 2 16 = ap (λ (w : List ℕ). get_or w 2 0) e in omega arith

door_style_side : Not (sided_words refused_answer 0 26 0 Project ≡ length_words (sized (copy_of edition1 (style_setting []) 99)))
unfolding length_words copy_of settings_of settings_at held_from head_at number among file_of replaced record_of le
door_style_side e = let z : ◌≡◌ {A = ℕ} 1 0 = ap (λ (w : List ℕ). get_or w 7 0) e in omega arith
