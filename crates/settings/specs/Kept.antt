-- What holds of settings files over the whole crate (document 02, 5/12): THEOREMS good_sound, good_complete, fault_placed, copy_good, written_project, written_house, others_project, others_house, width_written, width_behind, style_written, style_behind, write_same, skipped.
use Rattle.std.specs.Prelude.{ℕ, ◌-◌, ◌^◌, ◌≤◌, ◌<◌, ◌≡◌, Bool, true, false, cond, ◌⊎◌, List, [], ◌∷◌, ltb, length, take, Option, Some, None}
use Rattle.refusals.specs.Numbers.{settings_limit, too_long, bad_settings}
use Rattle.refusals.specs.Result.{ok, refused}
use Rattle.wide.specs.Bytes.{Bytes}
use Rattle.records.specs.declared.Head.{Head}
use Rattle.records.specs.Records.{head_len, head_at}
use Rattle.settings.specs.Kinds.{width_kind, style_kind, first_skipped, value_fits}
use Rattle.settings.specs.Files.{Setting, file_of, among, GoodFrom, GoodFile, is_edition, settings_of}
use Rattle.settings.specs.LookUps.{Value, absent, held, held_from, Sided, given, each_sided, Project, House, look_up, width_in, style_name_in}
use Rattle.settings.specs.Writing.{replaced, copy_of, width_setting, style_setting}

-- ---- good files, and the first fault of others

-- what is read of a file makes it a good one
abbrev pub GoodSound : Type 0
GoodSound = (f : List ℕ) (ys : List Setting) → Bytes f → settings_of f ≡ ok ys → GoodFile ys f

-- and every good file is read, as its settings in their order
abbrev pub GoodComplete : Type 0
GoodComplete = (f : List ℕ) (ys : List Setting) → GoodFile ys f → settings_of f ≡ ok ys

-- the kinds of some settings, after those before; the last one stands first
abbrev pub kinds_on : List ℕ → List Setting → List ℕ
kinds_on before [] = before
kinds_on before (y ∷ ys) = kinds_on (y.kind ∷ before) ys

-- the head of a good record after those of the kinds `before`: not cut, its value fits its kind, and its kind is new
abbrev pub is_good : List ℕ → Option Head → Bool
is_good before None = false
is_good before (Some h) = cond (value_fits h.kind (h.len - head_len)) (cond (among h.kind before) false true) false

-- the file begins with an edition, the bytes before a place are those of good settings, and the record at the place is bad or the second of its kind
pub record FirstBad (f : List ℕ) (a : ℕ) : Type 0 where
  pub edition : is_edition (head_at f 0) ≡ true
  pub front : List Setting
  pub within : a < length f
  pub bytes : take a f ≡ file_of front
  pub good : GoodFrom [] front
  pub bad : is_good (kinds_on [] front) (head_at f a) ≡ false

abbrev pub TooLong : List ℕ → ℕ → ℕ → Type 0
TooLong f n a = (settings_limit < length f) × (n ≡ too_long) × (a ≡ settings_limit)

abbrev pub NoEdition : List ℕ → ℕ → Type 0
NoEdition f a = (is_edition (head_at f 0) ≡ false) × (a ≡ 0)

-- a refused file is too long, or it is not and does not begin with an edition, or has a first bad record: the number and the place say which
abbrev pub Fault : List ℕ → ℕ → ℕ → Type 0
Fault f n a = TooLong f n a ⊎ ((length f ≤ settings_limit) × (n ≡ bad_settings) × (NoEdition f a ⊎ FirstBad f a))

abbrev pub FaultPlaced : Type 0
FaultPlaced = (f : List ℕ) (n a : ℕ) → Bytes f → settings_of f ≡ refused n a → Fault f n a

-- ---- what was written

-- the copy is a good file again: its settings are those of the file with y in its place, or at the end
abbrev pub CopyGood : Type 0
CopyGood =
    (f : List ℕ) (ys : List Setting) (y : Setting) (room : ℕ) (c : List ℕ) → Bytes f → settings_of f ≡ ok ys → y.kind < 2 ^ 16 → copy_of f y room ≡ ok c
    → settings_of c ≡ ok (replaced y ys)

-- the bytes of a value, without their place
abbrev pub value_in : ℕ → List ℕ → List ℕ → Sided (List ℕ)
value_in kind project house = each_sided (λ (v : Value). v.bytes) (look_up kind project house)

-- c is a copy of f with y written
pub record Copies (f : List ℕ) (y : Setting) (c : List ℕ) : Type 0 where
  pub bytes : Bytes f
  pub kind : y.kind < 2 ^ 16
  pub room : ℕ
  pub copy : copy_of f y room ≡ ok c

-- what was written into the project's file is what is looked up
abbrev pub WrittenProject : Type 0
WrittenProject = (f : List ℕ) (y : Setting) (c h : List ℕ) (hs : List Setting) → Copies f y c → settings_of h ≡ ok hs → value_in y.kind c h ≡ given Project y.value

-- and what was written into the house file, where the project does not set it
abbrev pub WrittenHouse : Type 0
WrittenHouse =
    (f : List ℕ) (y : Setting) (c p : List ℕ) (ps : List Setting) → Copies f y c → settings_of p ≡ ok ps → held_from y.kind 0 ps ≡ absent
    → value_in y.kind p c ≡ given House y.value

-- no other setting changes, whichever of the two files was written
abbrev pub OthersProject : Type 0
OthersProject = (f : List ℕ) (y : Setting) (c : List ℕ) (kind : ℕ) (h : List ℕ) → Copies f y c → (kind ≡ y.kind → ⊥) → value_in kind c h ≡ value_in kind f h

abbrev pub OthersHouse : Type 0
OthersHouse = (f : List ℕ) (y : Setting) (c : List ℕ) (kind : ℕ) (p : List ℕ) → Copies f y c → (kind ≡ y.kind → ⊥) → value_in kind p c ≡ value_in kind p f

-- a width that was written is the width, and a style name the style name: the project's, and the house's where the project does not set it
abbrev pub WidthWritten : Type 0
WidthWritten =
    (f : List ℕ) (w room : ℕ) (c h : List ℕ) (hs : List Setting) → Bytes f → w < 2 ^ 32 → copy_of f (width_setting w) room ≡ ok c → settings_of h ≡ ok hs
    → width_in c h ≡ given Project w

abbrev pub WidthBehind : Type 0
WidthBehind =
    (f : List ℕ) (w room : ℕ) (c p : List ℕ) (ps : List Setting) → Bytes f → w < 2 ^ 32 → copy_of f (width_setting w) room ≡ ok c → settings_of p ≡ ok ps
    → held_from width_kind 0 ps ≡ absent → width_in p c ≡ given House w

abbrev pub StyleWritten : Type 0
StyleWritten =
    (f name : List ℕ) (room : ℕ) (c h : List ℕ) (hs : List Setting) → Bytes f → copy_of f (style_setting name) room ≡ ok c → settings_of h ≡ ok hs → style_name_in c h ≡ name

abbrev pub StyleBehind : Type 0
StyleBehind =
    (f name : List ℕ) (room : ℕ) (c p : List ℕ) (ps : List Setting) → Bytes f → copy_of f (style_setting name) room ≡ ok c → settings_of p ≡ ok ps
    → held_from style_kind 0 ps ≡ absent → style_name_in p c ≡ name

-- what is set already, written again, makes the same file
abbrev pub WriteSame : Type 0
WriteSame =
    (f : List ℕ) (ys : List Setting) (y : Setting) (v : Value) (room : ℕ) (c : List ℕ) → Bytes f → settings_of f ≡ ok ys → held_from y.kind 0 ys ≡ held v
    → v.bytes ≡ y.value → copy_of f y room ≡ ok c → c ≡ f

-- ---- what is skipped

-- the settings that are not of a skipped kind
unfoldable pub known_of : List Setting → List Setting
known_of [] = []
known_of (y ∷ ys) = cond (ltb y.kind first_skipped) (y ∷ known_of ys) (known_of ys)

-- two files that differ only in what is skipped answer alike
abbrev pub Skipped : Type 0
Skipped =
    (f g : List ℕ) (ys zs : List Setting) (kind : ℕ) (h : List ℕ) → settings_of f ≡ ok ys → settings_of g ≡ ok zs → known_of ys ≡ known_of zs → kind < first_skipped
    → (value_in kind f h ≡ value_in kind g h) × (value_in kind h f ≡ value_in kind h g)
