-- Looking a setting up in the project's file, with the house file behind it (document 02, 5/12): both are checked whole, all of the project's before the house's.
use Rattle.std.specs.Prelude.{ℕ, ◌+◌, cond, List, [], ◌∷◌, eqb, length}
use Rattle.std.specs.Prelude.{Result as CodeResult, Ok, Err}
use Rattle.refusals.specs.Numbers.{not_set}
use Rattle.refusals.specs.declared.Refusal.{Refusal}
use Rattle.refusals.specs.Result.{Result, ok, refused}
use Rattle.records.specs.Records.{head_len}
use Rattle.wide.specs.Bytes.{number}
use Rattle.settings.specs.Kinds.{edition_kind, width_kind, style_kind}
use Rattle.settings.specs.Files.{Setting, bytes_of, settings_of}
pub use Rattle.settings.specs.declared.Side.{Side}
pub use Rattle.settings.specs.declared.Side.TheVariants.{Project, House, Neither}
pub use Rattle.settings.specs.declared.Span.{Span}
use Rattle.settings.specs.declared.Sided.{Sided as CodeSided}

-- a value: the place of its first byte, and its bytes
pub record Value : Type 0 where
  pub place : ℕ
  pub bytes : List ℕ

pub data Held : Type 0 where
  absent : Held
  held : Value → Held

-- the value of a kind among the settings that stand from a place on
unfoldable pub held_from : ℕ → ℕ → List Setting → Held
held_from kind at [] = absent
held_from kind at (y ∷ ys) = cond (eqb y.kind kind) (held (record { place = at + head_len; bytes = y.value })) (held_from kind (at + length (bytes_of y)) ys)

-- an answer, and whose file it comes from; or a refusal, and which file is at fault
pub data Sided (A : Type 0) : Type 0 where
  given : Side → A → Sided A
  faulty : Side → ℕ → ℕ → Sided A

abbrev pub each_sided : {A B : Type 0} → (A → B) → Sided A → Sided B
each_sided f (given s x) = given s (f x)
each_sided f (faulty s n a) = faulty s n a

-- goes on with the settings of a good file
abbrev pub checked : {A : Type 0} → Side → Result (List Setting) → (List Setting → Sided A) → Sided A
checked s (ok ys) k = k ys
checked s (refused n a) k = faulty s n a

-- the project's where it is set there, else the house's
abbrev pub chosen : Held → Held → Sided Value
chosen (held x) y = given Project x
chosen absent (held y) = given House y
chosen absent absent = faulty Neither not_set 0

unfoldable pub look_up : ℕ → List ℕ → List ℕ → Sided Value
look_up kind project house =
    checked Project (settings_of project) (λ ps.
    checked House (settings_of house) (λ hs.
    chosen (held_from kind 0 ps) (held_from kind 0 hs)))

-- ---- the answers

abbrev pub number_set : ℕ → List ℕ → List ℕ → Sided ℕ
number_set kind project house = each_sided (λ (v : Value). number v.bytes) (look_up kind project house)

abbrev pub edition_in : List ℕ → List ℕ → Sided ℕ
edition_in project house = number_set edition_kind project house

abbrev pub width_in : List ℕ → List ℕ → Sided ℕ
width_in project house = number_set width_kind project house

-- where a value stands, and how many bytes it has
abbrev pub span_in : ℕ → List ℕ → List ℕ → Sided Span
span_in kind project house = each_sided (λ (v : Value). record { place = v.place; len = length v.bytes }) (look_up kind project house)

abbrev pub style_in : List ℕ → List ℕ → Sided Span
style_in project house = span_in style_kind project house

-- the bytes of a value, or none where none is given
abbrev pub bytes_in : Sided Value → List ℕ
bytes_in (given s v) = v.bytes
bytes_in (faulty s n a) = []

abbrev pub style_name_in : List ℕ → List ℕ → List ℕ
style_name_in project house = bytes_in (look_up style_kind project house)

-- of two files, or of their places, that of a side; for neither, the project's
abbrev pub by_side : {A : Type 0} → Side → A → A → A
by_side Project p h = p
by_side House p h = h
by_side Neither p h = p

-- where the part begins that is handed out, by where the two files do: a block of memory, and a place in it
abbrev pub part_at : ℕ × ℕ → ℕ × ℕ → Sided Span → ℕ × ℕ
part_at p h (given Project x) = (p.0, x.place + p.1)
part_at p h (given House x) = (h.0, x.place + h.1)
part_at p h (given Neither x) = (p.0, 0 + p.1)
part_at p h (faulty s n a) = (p.0, 0 + p.1)

-- what the code's answers stand for
abbrev pub sided_of : {A : Type 0} → CodeResult (CodeSided A) (CodeSided Refusal) → Sided A
sided_of (Ok x) = given x.side x.value
sided_of (Err x) = faulty x.side x.value.number x.value.place

abbrev pub number_of : CodeResult (CodeSided ℕ) (CodeSided Refusal) → Sided ℕ
number_of r = sided_of r

abbrev pub part_of : CodeResult (CodeSided Span) (CodeSided Refusal) → Sided Span
part_of r = sided_of r
