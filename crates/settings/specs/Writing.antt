-- Writing a width or a style name (document 02, 5/12): a copy of the file with that record replaced in its place, or added at the end.
use Rattle.std.specs.Prelude.{ℕ, ◌≡◌, cond, List, [], ◌∷◌, eqb, ltb, length}
use Rattle.std.specs.Prelude.{Result as CodeResult, Ok, Err}
use Rattle.refusals.specs.Numbers.{settings_limit, too_long, print_room, bad_style_name}
use Rattle.refusals.specs.declared.Refusal.{Refusal}
use Rattle.refusals.specs.Result.{Result, ok, refused, and_then, refused_by}
use Rattle.lists.specs.Over.{over}
use Rattle.wide.specs.Bytes.{le}
use Rattle.settings.specs.Kinds.{width_kind, style_kind, value_fits}
use Rattle.settings.specs.Files.{Setting, setting_is, file_of, settings_of}

-- the settings with y in the place of the one of its kind, or at the end
unfoldable pub replaced : Setting → List Setting → List Setting
replaced y [] = y ∷ []
replaced y (x ∷ xs) = cond (eqb x.kind y.kind) (y ∷ xs) (x ∷ replaced y xs)

-- a copy that has the limit's bytes at most, in a room that has the copy's
abbrev pub roomed : List ℕ → ℕ → Result (List ℕ)
roomed c room =
    cond (ltb settings_limit (length c)) (refused too_long settings_limit)
    (cond (ltb room (length c)) (refused print_room (length c)) (ok c))

-- a value that does not fit its kind is a style name of no byte or of more than 32
unfoldable pub copy_of : List ℕ → Setting → ℕ → Result (List ℕ)
copy_of f y room =
    and_then (settings_of f) (λ ys.
    cond (value_fits y.kind (length y.value)) (roomed (file_of (replaced y ys)) room) (refused bad_style_name (length y.value)))

-- the copy's length, or the refusal; and the room lent, which a refusal leaves as it was
abbrev pub sized : Result (List ℕ) → Result ℕ
sized (ok c) = ok (length c)
sized (refused n a) = refused n a

abbrev pub laid : Result (List ℕ) → List ℕ → List ℕ
laid (ok c) b = over c b
laid (refused n a) b = b

abbrev pub width_setting : ℕ → Setting
width_setting w = setting_is width_kind (le 4 w)

abbrev pub style_setting : List ℕ → Setting
style_setting name = setting_is style_kind name

-- what the code's answer stands for
abbrev pub written_of : CodeResult ℕ Refusal → Result ℕ
written_of (Ok n) = ok n
written_of (Err r) = refused_by r

-- a copy into a room: its length is answered, or its refusal
abbrev pub CopiedInto : Result (List ℕ) → CodeResult ℕ Refusal → List ℕ → List ℕ → Type 0
CopiedInto c result old new = (written_of result ≡ sized c) × (new ≡ laid c old)
