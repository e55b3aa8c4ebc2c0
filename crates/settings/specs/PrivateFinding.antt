-- How the code finds a setting in one walk: what it answers, and the kinds that it has seen, as bits in words. Nothing here is promised to callers.
use Rattle.std.specs.Prelude.{ℕ, ◌-◌, ◌/◌, ◌%◌, ◌^◌, ◌≤◌, ◌<◌, ◌≡◌, ◌⊎◌, Bool, true, false, cond, List, ◌++◌, ltb, length, get_or, take, drop, Option, Some, None}
use Rattle.std.specs.Prelude.{Result as CodeResult, Ok, Err}
use Rattle.std.specs.Option.{option_or}
use Rattle.refusals.specs.Numbers.{bad_style_name}
use Rattle.refusals.specs.declared.Refusal.{Refusal}
use Rattle.refusals.specs.Result.{Result, ok, refused}
use Rattle.records.specs.Records.{record_of}
use Rattle.settings.specs.Kinds.{first_skipped, value_fits}
use Rattle.settings.specs.Files.{Setting, among}
use Rattle.settings.specs.LookUps.{Side, Span, Held, absent, held, held_from}
use Rattle.settings.specs.declared.Sided.{Sided as CodeSided}
use Rattle.settings.specs.Writing.{roomed}

-- where a value stands
abbrev pub found_at : Held → Option Span
found_at absent = None
found_at (held v) = Some (record { place = v.place; len = length v.bytes })

-- the same from a place on, behind one that may have been met before
abbrev pub found_from : ℕ → Option Span → ℕ → Result (List Setting) → CodeResult (Option Span) Refusal
found_from kind met at (ok ys) = Ok (option_or met (found_at (held_from kind at ys)))
found_from kind met at (refused n a) = Err (record { number = n; place = a })

abbrev pub found_in : ℕ → Result (List Setting) → CodeResult (Option Span) Refusal
found_in kind x = found_from kind None 0 x

-- the same, and whose file it is
abbrev pub on_side : Side → CodeResult (Option Span) Refusal → CodeResult (Option (CodeSided Span)) (CodeSided Refusal)
on_side s (Ok None) = Ok None
on_side s (Ok (Some x)) = Ok (Some (record { side = s; value = x }))
on_side s (Err r) = Err (record { side = s; value = r })

-- ---- the kinds seen

-- kinds below 64 have the first word's bits, those that are skipped the bits behind them; no other kind is marked
abbrev pub slot : ℕ → ℕ
slot kind = cond (ltb kind first_skipped) kind (kind - 32704)

abbrev pub Marked : ℕ → Type 0
Marked kind = (kind < 64) ⊎ ((first_skipped ≤ kind) × (kind < 2 ^ 16))

abbrev pub bit : List ℕ → ℕ → ℕ
bit words s = get_or words (s / 64) 0 / 2 ^ (s % 64) % 2

abbrev pub told : Bool → ℕ
told true = 1
told false = 0

-- the bits of the words are those of the kinds before
abbrev pub Tells : List ℕ → List ℕ → Type 0
Tells words before = (k : ℕ) → Marked k → bit words (slot k) ≡ told (among k before)

-- ---- a copy

-- the file up to a place, a record, the file from a later place on
abbrev pub splice_of : List ℕ → ℕ → ℕ → ℕ → List ℕ → ℕ → Result (List ℕ)
splice_of f at next kind value room =
    cond (value_fits kind (length value)) (roomed (take at f ++ (record_of kind value ++ drop next f)) room) (refused bad_style_name (length value))
