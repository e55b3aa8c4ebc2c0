-- What was found in one file, and in two: the settings behind it, the value's bytes in its file, and the copy that is made there. Assumes nothing.
use Rattle.std.specs.Prelude.{Result as CodeResult, Ok, Err, Option, Some, None}
use Prim.Native.Nat.{ℕ, ◌+◌, ◌-◌, ◌≤◌}
use mathlib.Core.Path.{◌≡◌, refl, sym, ap, subst, ◌∙◌}
use mathlib.Core.Bool.{true}
use mathlib.Core.List.{List, [], ◌++◌, append-nil}
use native.Mathlib.Omega.{arith}
use lib.ListN.{length, take, drop}
use lib.Seq.{take-length, drop-length}
use Rattle.refusals.specs.declared.Refusal.{Refusal}
use Rattle.refusals.specs.Numbers.{settings_limit, not_set}
use Rattle.refusals.specs.Result.{Result, ok, refused}
use Rattle.records.specs.Records.{head_len}
use Rattle.wide.specs.Bytes.{Bytes}
use Rattle.settings.specs.Kinds.{value_fits}
use Rattle.settings.specs.Files.{Setting, setting_is, bytes_of, file_of, settings_of, GoodFile}
use Rattle.settings.specs.LookUps.{Project, House, Neither, Value, Held, absent, held, held_from, given, faulty, look_up, Span}
use Rattle.settings.specs.Writing.{replaced, copy_of}
use Rattle.settings.specs.PrivateFinding.{found_at, found_in, splice_of}
use Rattle.settings.proofs.Standing.{held_in, held_fits, spliced, appended}
use Rattle.settings.proofs.Good.{good_sound}

-- ---- one file

-- a value of l bytes at p
pub record At (kind : ℕ) (x : Result (List Setting)) (p l : ℕ) : Type 0 where
  pub settings : List Setting
  pub value : Value
  pub good : x ≡ ok settings
  pub there : held_from kind 0 settings ≡ held value
  pub place_is : value.place ≡ p
  pub len_is : length value.bytes ≡ l

pub record NotAt (kind : ℕ) (x : Result (List Setting)) : Type 0 where
  pub settings : List Setting
  pub good : x ≡ ok settings
  pub none : held_from kind 0 settings ≡ absent

abbrev Back : ℕ → Result (List Setting) → CodeResult (Option Span) Refusal → Type 0
Back kind x (Err r) = x ≡ refused r.number r.place
Back kind x (Ok (Some s)) = At kind x s.place s.len
Back kind x (Ok None) = NotAt kind x

back : (kind : ℕ) (x : Result (List Setting)) → Back kind x (found_in kind x)
back kind (refused n a) = refl
back kind (ok ys) = by (held_from kind 0 ys) refl
  where
    by : (h : Held) → held_from kind 0 ys ≡ h → Back kind (ok ys) (Ok (found_at h))
    by absent e = record { settings = ys; good = refl; none = e }
    by (held v) e = record { settings = ys; value = v; good = refl; there = e; place_is = refl; len_is = refl }

-- the same of what was found, by the answer r
pub found_as : (kind : ℕ) (x : Result (List Setting)) (r : CodeResult (Option Span) Refusal) → r ≡ found_in kind x → Back kind x r
found_as kind x r e = subst (Back kind x) (sym e) (back kind x)

module _ (kind : ℕ) (x : Result (List Setting)) (r : Option Span) (e : Ok r ≡ found_in kind x) where
  pub at_found : (s : Span) → r ≡ Some s → At kind x s.place s.len
  at_found s q = found_as kind x (Ok (Some s)) (ap (λ (o : Option Span). Ok o) (sym q) ∙ e)

  pub not_found : r ≡ None → NotAt kind x
  not_found q = found_as kind x (Ok None) (ap (λ (o : Option Span). Ok o) (sym q) ∙ e)

-- the place of the record of a kind, or the end of the file: a record put there makes the copy
pub record Old (f : List ℕ) (kind place len : ℕ) : Type 0 where
  pub room : place + len ≤ length f
  pub limit : length f ≤ settings_limit
  pub copy : (value : List ℕ) (room : ℕ) → splice_of f place (place + len) kind value room ≡ copy_of f (setting_is kind value) room

module _ (kind : ℕ) (f : List ℕ) (hb : Bytes f) where
  module _ {p l : ℕ} (a : At kind (settings_of f) p l) where
    file : GoodFile a.settings f
    file = good_sound f a.settings hb a.good

    stands : (take (length a.value.bytes) (drop a.value.place f) ≡ a.value.bytes) × (a.value.place + length a.value.bytes ≤ length f) × (0 + head_len ≤ a.value.place)
    stands = held_in f kind 0 a.settings a.value a.there file.bytes (omega arith)

    pub at_bytes : take l (drop p f) ≡ a.value.bytes
    at_bytes = subst (λ (j : ℕ). take j (drop p f) ≡ a.value.bytes) a.len_is (subst (λ (j : ℕ). take (length a.value.bytes) (drop j f) ≡ a.value.bytes) a.place_is stands.0)

    pub at_room : p + l ≤ length f
    at_room = omega (arith, stands.1, a.place_is, a.len_is)

    pub at_head : head_len ≤ p
    at_head = omega (arith, stands.2, a.place_is)

    pub at_fits : value_fits kind l ≡ true
    at_fits = subst (λ (j : ℕ). value_fits kind j ≡ true) a.len_is (held_fits [] kind 0 a.settings a.value file.each a.there)

    -- the copy with another value there
    at_copy : (value : List ℕ) (room : ℕ) → splice_of f (p - head_len) (p + l) kind value room ≡ copy_of f (setting_is kind value) room
    unfolding copy_of
    at_copy value room =
        let y : Setting = setting_is kind value in
        let v : Value = a.value in
        let q : file_of (replaced y a.settings) ≡ take (p - head_len) f ++ (bytes_of y ++ drop (p + l) f) =
        spliced y a.settings v a.there
        ∙ rw (a.place_is, a.len_is, ← file.bytes) refl in
        rw (a.good, q) refl

    pub at_old : Old f kind (p - head_len) (l + head_len)
    at_old = record {
      room = omega (arith, at_room, at_head);
      limit = file.limit;
      copy = λ value room.
          let e : p - head_len + (l + head_len) ≡ p + l = omega (arith, at_head) in
          rw e (at_copy value room);
    }

  module _ (a : NotAt kind (settings_of f)) where
    whole : GoodFile a.settings f
    whole = good_sound f a.settings hb a.good

    not_copy : (value : List ℕ) (room : ℕ) → splice_of f (length f) (length f) kind value room ≡ copy_of f (setting_is kind value) room
    unfolding copy_of
    not_copy value room =
        let y : Setting = setting_is kind value in
        let q : file_of (replaced y a.settings) ≡ take (length f) f ++ (bytes_of y ++ drop (length f) f) =
        appended y a.settings a.none
        ∙ ap (λ (g : List ℕ). g ++ bytes_of y) (sym whole.bytes ∙ sym (take-length f))
        ∙ ap (λ (r : List ℕ). take (length f) f ++ r) (sym (append-nil (bytes_of y)) ∙ ap (λ (r : List ℕ). bytes_of y ++ r) (sym (drop-length f))) in
        rw (a.good, q) refl

    pub not_old : Old f kind (length f) 0
    not_old = record {
      room = omega arith;
      limit = whole.limit;
      copy = λ value room.
          let e : length f + 0 ≡ length f = omega arith in
          rw e (not_copy value room);
    }

-- a file at fault is not copied
pub bad_copy : (f : List ℕ) (y : Setting) (room n a : ℕ) → settings_of f ≡ refused n a → copy_of f y room ≡ refused n a
unfolding copy_of
bad_copy f y room n a e = rw e refl

-- ---- two files

module _ (kind : ℕ) (p h : List ℕ) where
  pub project_bad : (n a : ℕ) → settings_of p ≡ refused n a → look_up kind p h ≡ faulty Project n a
  unfolding look_up
  project_bad n a e = rw e refl

  pub house_bad : (ps : List Setting) (n a : ℕ) → settings_of p ≡ ok ps → settings_of h ≡ refused n a → look_up kind p h ≡ faulty House n a
  unfolding look_up
  house_bad ps n a e e' = rw (e, e') refl

  module _ (ps hs : List Setting) (e : settings_of p ≡ ok ps) (e' : settings_of h ≡ ok hs) where
    pub in_project : (v : Value) → held_from kind 0 ps ≡ held v → look_up kind p h ≡ given Project v
    unfolding look_up
    in_project v q = rw (e, e', q) refl

    pub in_house : (v : Value) → held_from kind 0 ps ≡ absent → held_from kind 0 hs ≡ held v → look_up kind p h ≡ given House v
    unfolding look_up
    in_house v q q' = rw (e, e', q, q') refl

    pub in_neither : held_from kind 0 ps ≡ absent → held_from kind 0 hs ≡ absent → look_up kind p h ≡ faulty Neither not_set 0
    unfolding look_up
    in_neither q q' = rw (e, e', q, q') refl
