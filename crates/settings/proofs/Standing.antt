-- What is read from a settings file stands there and is good; where a value stands, and what replacing or adding a setting does to the bytes. Assumes nothing.
use Rattle.std.specs.Prelude.{Option, Some, None}
use Prim.Native.Nat.{ℕ, zero, suc, ◌+◌, ◌-◌, ◌^◌, ◌≤◌, ◌<◌}
use mathlib.Core.Path.{◌≡◌, refl, ap, sym, subst, ◌∙◌}
use mathlib.Core.Bool.{Bool, true, false, cond}
use mathlib.Core.List.{List, [], ◌∷◌, ◌++◌, append_assoc, append-nil}
use native.Mathlib.Omega.{arith}
use borrow.Author.Tests.{ltb-false, eqb-true}
use lib.Dec.{eqb, ltb}
use lib.ListN.{length, take, drop, drop_of_length-le}
use lib.Seq.{take-append-add, drop-append-add, drop_at}
use Rattle.refusals.specs.Result.{Result, ok, refused, and_then}
use Rattle.lists.proofs.Choice.{pick}
use Rattle.lists.proofs.Stands.{Stands, stands_right, stands_take, stands_length}
use Rattle.lists.proofs.Places.{past}
use Rattle.wide.specs.Bytes.{Bytes}
use Rattle.records.specs.declared.Head.{Head}
use Rattle.records.specs.Records.{head, head_len, head_of, record_of, payload, head_at}
use Rattle.records.proofs.Heads.{HeadIn, head_in, head_length, length_record, part_lt, payload_size, record_stands}
use Rattle.settings.specs.Kinds.{value_fits}
use Rattle.settings.specs.Files.{Setting, setting_is, bytes_of, file_of, among, GoodFrom, of_head, settings_at}
use Rattle.settings.specs.LookUps.{Value, Held, absent, held, held_from}
use Rattle.settings.specs.Writing.{replaced}

-- ---- what is read stands there

abbrev Sound : List ℕ → List ℕ → ℕ → Result (List Setting) → Type 0
Sound f before at (ok ys) = (drop at f ≡ file_of ys) × GoodFrom before ys
Sound f before at (refused n a) = Unit {0}

at_end : (f before : List ℕ) (at : ℕ) → length f ≤ at → Sound f before at (ok [])
unfolding file_of GoodFrom
at_end f before at h = (drop_of_length-le f {i = at} h, tt)

-- a record that is in the file whole: its length, and its value's
module _ (f : List ℕ) (at kind len : ℕ) (six : head_len ≤ len) (room : at + len ≤ length f) where
  pub read_length : length (record_of kind (payload f at len)) ≡ len
  read_length = length_record kind (payload f at len) ∙ payload_size f at len room six

  pub value_length : length (payload f at len) ≡ len - head_len
  value_length = omega (arith, payload_size f at len room six)

-- a head that was read: its record stands at the place, and is one more good setting before those behind it
module _ (f : List ℕ) (at kind len : ℕ) (hb : Bytes f) (h : HeadIn f at (Some (head kind len))) (room : at + len ≤ length f) where
  pub read_kind : kind < 2 ^ 16
  read_kind = subst (λ (k : ℕ). k < 2 ^ 16) h.0 (part_lt f (at + 4) 2 hb (omega (arith, h.2)))

  pub read_front : drop at f ≡ record_of kind (payload f at len) ++ drop (at + len) f
  read_front =
      record_stands f at kind len hb room h.2 h.1 h.0
      ∙ ap (λ (k : ℕ). record_of kind (payload f at len) ++ drop (at + k) f) (read_length f at kind len h.2 room)

  pub read_good : (before : List ℕ) (ys : List Setting) → value_fits kind (len - head_len) ≡ true → among kind before ≡ false → GoodFrom (kind ∷ before) ys
      → GoodFrom before (setting_is kind (payload f at len) ∷ ys)
  unfolding GoodFrom
  read_good before ys fits new g =
      (subst (λ (k : ℕ). value_fits kind k ≡ true) (sym (value_length f at kind len h.2 room)) fits, new, read_kind, g)

  sound_more : (before : List ℕ) → value_fits kind (len - head_len) ≡ true → among kind before ≡ false → (r : Result (List Setting)) → Sound f (kind ∷ before) (at + len) r
      → Sound f before at (and_then r (λ ys. ok (setting_is kind (payload f at len) ∷ ys)))
  unfolding file_of
  sound_more before fits new (ok ys) s = (read_front ∙ ap (λ (r : List ℕ). record_of kind (payload f at len) ++ r) s.0, read_good before ys fits new s.1)
  sound_more before fits new (refused n a) s = tt

sound_head : (f before : List ℕ) (at : ℕ) (rest : List ℕ → ℕ → Result (List Setting)) → Bytes f → at ≤ length f
    → ((before' : List ℕ) (at' : ℕ) → at' ≤ length f → at + head_len ≤ at' → Sound f before' at' (rest before' at')) → (x : Option Head) → HeadIn f at x
    → Sound f before at (of_head f before at x rest)
sound_head f before at rest hb ha later None h = tt
sound_head f before at rest hb ha later (Some x) h =
    let P : Result (List Setting) → Type 0 = Sound f before at in
    let kind : ℕ = x.kind in
    let len : ℕ = x.len in
    let room : at + len ≤ length f = omega (arith, h.2, h.3) in
    pick P (value_fits kind (len - head_len)) (λ fits.
    pick P (among kind before) (λ _. tt) (λ new.
    sound_more f at kind len hb h room before fits new (rest (kind ∷ before) (at + len)) (later (kind ∷ before) (at + len) room (omega (arith, h.2)))))
    (λ _. tt)

sound : (n : ℕ) (f before : List ℕ) (at : ℕ) → Bytes f → at ≤ length f → length f ≤ n + at → Sound f before at (settings_at n f before at)
unfolding settings_at
sound zero f before at hb ha hn = at_end f before at (omega arith)
sound (suc n) f before at hb ha hn =
    pick (Sound f before at) (ltb at (length f))
    (λ e. sound_head f before at (settings_at n f) hb ha (λ before' at' l m. sound n f before' at' hb l (omega arith)) (head_at f at) (head_in f at))
    (λ e. at_end f before at (ltb-false at (length f) e))

pub sound_from : (n : ℕ) (f before : List ℕ) (at : ℕ) (ys : List Setting) → Bytes f → at ≤ length f → length f ≤ n + at → settings_at n f before at ≡ ok ys
    → (drop at f ≡ file_of ys) × GoodFrom before ys
sound_from n f before at ys hb ha hn e = subst (Sound f before at) e (sound n f before at hb ha hn)

-- ---- where a setting stands, and its value

-- the first of the settings from a place on, and those behind it
module _ (f : List ℕ) (at : ℕ) (y : Setting) (ys : List Setting) (e : drop at f ≡ bytes_of y ++ file_of ys) where
  pub next_settings : drop (at + length (bytes_of y)) f ≡ file_of ys
  next_settings = past f (bytes_of y) (file_of ys) at e

  pub first_stands : Stands f at (bytes_of y)
  first_stands = e ∙ ap (λ (r : List ℕ). bytes_of y ++ r) (sym next_settings)

  pub first_room : at ≤ length f → at + length (bytes_of y) ≤ length f
  first_room h = stands_length f at (bytes_of y) h first_stands

abbrev HeldIn : List ℕ → ℕ → Held → Type 0
HeldIn f at absent = Unit {0}
HeldIn f at (held v) = (take (length v.bytes) (drop v.place f) ≡ v.bytes) × (v.place + length v.bytes ≤ length f) × (at + head_len ≤ v.place)

held_later : (f : List ℕ) (at k : ℕ) (x : Held) → HeldIn f (at + k) x → HeldIn f at x
held_later f at k absent h = tt
held_later f at k (held v) h = (h.0, h.1, omega (arith, h.2))

value_stands : (f : List ℕ) (at : ℕ) (y : Setting) → Stands f at (bytes_of y) → at + length (bytes_of y) ≤ length f → HeldIn f at (held (record { place = at + head_len; bytes = y.value }))
unfolding record_of
value_stands f at y s room =
    let n : ℕ = length y.value + head_len in
    let b : Stands f (at + head_len) y.value =
    subst (λ (k : ℕ). Stands f (at + k) y.value) (head_length y.kind n) (stands_right f at (head_of y.kind n) y.value s) in
    (stands_take f (at + head_len) y.value b (length y.value) refl, omega (arith, length_record y.kind y.value), omega arith)

held_stands : (f : List ℕ) (kind at : ℕ) (ys : List Setting) → drop at f ≡ file_of ys → at ≤ length f → HeldIn f at (held_from kind at ys)
unfolding held_from file_of
held_stands f kind at [] e h = tt
held_stands f kind at (y ∷ ys) e h =
    let place : ℕ = at + length (bytes_of y) in
    let room : place ≤ length f = first_room f at y ys e h in
    pick (HeldIn f at) (eqb y.kind kind) (λ _. value_stands f at y (first_stands f at y ys e) room)
    (λ _. held_later f at (length (bytes_of y)) (held_from kind place ys) (held_stands f kind place ys (next_settings f at y ys e) room))

pub held_in : (f : List ℕ) (kind at : ℕ) (ys : List Setting) (v : Value) → held_from kind at ys ≡ held v → drop at f ≡ file_of ys → at ≤ length f
    → (take (length v.bytes) (drop v.place f) ≡ v.bytes) × (v.place + length v.bytes ≤ length f) × (at + head_len ≤ v.place)
held_in f kind at ys v e s h = subst (HeldIn f at) e (held_stands f kind at ys s h)

abbrev FitsHeld : ℕ → Held → Type 0
FitsHeld kind absent = Unit {0}
FitsHeld kind (held v) = value_fits kind (length v.bytes) ≡ true

fits_all : (before : List ℕ) (kind at : ℕ) (ys : List Setting) → GoodFrom before ys → FitsHeld kind (held_from kind at ys)
unfolding held_from GoodFrom
fits_all before kind at [] g = tt
fits_all before kind at (y ∷ ys) g =
    pick (FitsHeld kind) (eqb y.kind kind)
    (λ e. subst (λ (k : ℕ). value_fits k (length y.value) ≡ true) (eqb-true y.kind kind e) g.0)
    (λ _. fits_all (y.kind ∷ before) kind (at + length (bytes_of y)) ys g.3)

pub held_fits : (before : List ℕ) (kind at : ℕ) (ys : List Setting) (v : Value) → GoodFrom before ys → held_from kind at ys ≡ held v
    → value_fits kind (length v.bytes) ≡ true
held_fits before kind at ys v g e = subst (FitsHeld kind) e (fits_all before kind at ys g)

-- ---- the bytes with y in the place of what was found, or at the end

abbrev Splices : ℕ → Setting → List ℕ → List ℕ → Held → Type 0
Splices at y f c absent = c ≡ f ++ bytes_of y
Splices at y f c (held v) = (at + head_len ≤ v.place) × (c ≡ take (v.place - (at + head_len)) f ++ (bytes_of y ++ drop (v.place + length v.bytes - at) f))

splices_later : (at : ℕ) (y : Setting) (a f c : List ℕ) (x : Held) → Splices (at + length a) y f c x → Splices at y (a ++ f) (a ++ c) x
splices_later at y a f c absent e = ap (λ (r : List ℕ). a ++ r) e ∙ sym (append_assoc a f (bytes_of y))
splices_later at y a f c (held v) e =
    let i : v.place - (at + head_len) ≡ length a + (v.place - (at + length a + head_len)) = omega (arith, e.0) in
    let j : v.place + length v.bytes - at ≡ length a + (v.place + length v.bytes - (at + length a)) = omega (arith, e.0) in (
      omega (arith, e.0),
      ap (λ (r : List ℕ). a ++ r) e.1
          ∙ rw (i, j, take-append-add, drop-append-add) (sym (append_assoc a _ _)),
    )

splices : (y : Setting) (at : ℕ) (ys : List Setting) → Splices at y (file_of ys) (file_of (replaced y ys)) (held_from y.kind at ys)
unfolding held_from file_of replaced
splices y at [] = append-nil (bytes_of y)
splices y at (x ∷ xs) = by (eqb x.kind y.kind) (splices_later at y (bytes_of x) (file_of xs) (file_of (replaced y xs)) later (splices y (at + length (bytes_of x)) xs))
  where
    value : Value
    value = record { place = at + head_len; bytes = x.value }

    later : Held
    later = held_from y.kind (at + length (bytes_of x)) xs

    by : (t : Bool) → Splices at y (file_of (x ∷ xs)) (bytes_of x ++ file_of (replaced y xs)) later
        → Splices at y (file_of (x ∷ xs)) (file_of (cond t (y ∷ xs) (x ∷ replaced y xs))) (cond t (held value) later)
    by true h =
        let i : at + head_len - (at + head_len) ≡ 0 = omega arith in
        let j : at + head_len + length x.value - at ≡ length (bytes_of x) = omega (arith, length_record x.kind x.value) in
        (omega arith, rw (i, j) (ap (λ (r : List ℕ). bytes_of y ++ r) (sym (drop_at (bytes_of x) (file_of xs) (length (bytes_of x)) refl))))
    by false h = h

pub spliced : (y : Setting) (ys : List Setting) (v : Value) → held_from y.kind 0 ys ≡ held v
    → file_of (replaced y ys) ≡ take (v.place - head_len) (file_of ys) ++ (bytes_of y ++ drop (v.place + length v.bytes) (file_of ys))
spliced y ys v e =
    let n : ℕ = v.place + length v.bytes in
    let j : n - 0 ≡ n = omega arith in
    (subst (Splices 0 y (file_of ys) (file_of (replaced y ys))) e (splices y 0 ys)).1
    ∙ ap (λ (k : ℕ). take (v.place - head_len) (file_of ys) ++ (bytes_of y ++ drop k (file_of ys))) j

pub appended : (y : Setting) (ys : List Setting) → held_from y.kind 0 ys ≡ absent → file_of (replaced y ys) ≡ file_of ys ++ bytes_of y
appended y ys e = subst (Splices 0 y (file_of ys) (file_of (replaced y ys))) e (splices y 0 ys)
