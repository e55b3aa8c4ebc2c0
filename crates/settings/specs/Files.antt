-- A settings file (document 02, 5/12): what it is made of, when it is good, and its settings or its first fault.
use Rattle.std.specs.Prelude.{ℕ, zero, suc, ◌+◌, ◌-◌, ◌^◌, ◌≤◌, ◌<◌, ◌≡◌, Bool, true, false, cond, ◌&&◌, ◌||◌, List, [], ◌∷◌, ◌++◌, eqb, ltb, length, Option, Some, None}
use Rattle.refusals.specs.Numbers.{settings_limit, too_long, bad_settings}
use Rattle.refusals.specs.Result.{Result, ok, refused, and_then}
use Rattle.records.specs.declared.Head.{Head}
use Rattle.records.specs.Records.{head_len, record_of, payload, head_at}
use Rattle.settings.specs.Kinds.{edition_kind, value_fits}

pub record Setting : Type 0 where
  pub kind : ℕ
  pub value : List ℕ

abbrev pub setting_is : ℕ → List ℕ → Setting
setting_is kind value = record { kind = kind; value = value }

-- the file of some settings, in their order
abbrev pub bytes_of : Setting → List ℕ
bytes_of y = record_of y.kind y.value

unfoldable pub file_of : List Setting → List ℕ
file_of [] = []
file_of (y ∷ ys) = bytes_of y ++ file_of ys

-- the kind is one of those
unfoldable pub among : ℕ → List ℕ → Bool
among k [] = false
among k (x ∷ xs) = eqb k x || among k xs

-- ---- when a file is good

-- each setting, after those of the kinds `before`, is of a kind that is not among them, and its value fits the kind
unfoldable pub GoodFrom : List ℕ → List Setting → Type 0
GoodFrom before [] = Unit {0}
GoodFrom before (y ∷ ys) = (value_fits y.kind (length y.value) ≡ true) × (among y.kind before ≡ false) × (y.kind < 2 ^ 16) × GoodFrom (y.kind ∷ before) ys

-- the edition stands first
abbrev pub EditionFirst : List Setting → Type 0
EditionFirst [] = ⊥
EditionFirst (y ∷ ys) = y.kind ≡ edition_kind

pub record GoodFile (ys : List Setting) (f : List ℕ) : Type 0 where
  pub bytes : f ≡ file_of ys
  pub limit : length f ≤ settings_limit
  pub edition : EditionFirst ys
  pub each : GoodFrom [] ys

-- ---- a file's settings, or its first fault

-- the record at a place, after those of the kinds `before`; rest has the settings from a later place on
abbrev pub of_head : List ℕ → List ℕ → ℕ → Option Head → (List ℕ → ℕ → Result (List Setting)) → Result (List Setting)
of_head f before at None rest = refused bad_settings at
of_head f before at (Some h) rest =
    cond (value_fits h.kind (h.len - head_len))
    (cond (among h.kind before) (refused bad_settings at)
    (and_then (rest (h.kind ∷ before) (at + h.len)) (λ ys. ok (setting_is h.kind (payload f at h.len) ∷ ys))))
    (refused bad_settings at)

-- from a place on; every record takes a byte, so that n of them are enough for the n bytes left
unfoldable pub settings_at : ℕ → List ℕ → List ℕ → ℕ → Result (List Setting)
settings_at zero f before at = ok []
settings_at (suc n) f before at = cond (ltb at (length f)) (of_head f before at (head_at f at) (settings_at n f)) (ok [])

-- the first record is a good edition
abbrev pub is_edition : Option Head → Bool
is_edition None = false
is_edition (Some h) = eqb h.kind edition_kind && eqb h.len 8

unfoldable pub settings_of : List ℕ → Result (List Setting)
settings_of f =
    cond (ltb settings_limit (length f)) (refused too_long settings_limit)
    (cond (is_edition (head_at f 0)) (settings_at (length f) f [] 0) (refused bad_settings 0))
