-- A file is read exactly if it is good: THEOREMS good_sound, good_complete. Assumes nothing.
use Rattle.std.specs.Prelude.{Option, Some, None}
use Prim.Native.Nat.{ℕ, zero, suc, ◌+◌, ◌-◌, ◌^◌, ◌≤◌, ◌<◌}
use mathlib.Core.Path.{◌≡◌, refl, ap, sym, subst, ◌∙◌}
use mathlib.Core.Bool.{true}
use mathlib.Core.List.{List, [], ◌∷◌, ◌++◌}
use native.Mathlib.Omega.{arith}
use borrow.Author.Tests.{ltb-false, lt-ltb, le-ltb, eqb-true}
use lib.Dec.{eqb, ltb}
use lib.ListN.{length, drop, length-drop}
use Rattle.refusals.specs.Numbers.{settings_limit}
use Rattle.refusals.specs.Result.{Result, ok, refused, and_then}
use Rattle.lists.proofs.Choice.{pick, and_left, true_false}
use Rattle.wide.specs.Bytes.{Bytes}
use Rattle.records.specs.declared.Head.{Head}
use Rattle.records.specs.Records.{head_len, payload, head_at}
use Rattle.records.proofs.Heads.{HeadIn, head_in, length_record, Stood, stood, stood_head, stood_payload}
use Rattle.settings.specs.Kinds.{edition_kind, value_fits}
use Rattle.settings.specs.Files.{Setting, setting_is, bytes_of, file_of, among, GoodFrom, EditionFirst, GoodFile, of_head, settings_at, is_edition, settings_of}
use Rattle.settings.specs.Kept.{GoodSound, GoodComplete}
use Rattle.settings.proofs.Standing.{sound_from, next_settings, first_stands, first_room}

-- ---- what is read is good

abbrev First : Result (List Setting) → Type 0
First (ok ys) = EditionFirst ys
First (refused n a) = Unit {0}

first_more : (f : List ℕ) (kind len : ℕ) → kind ≡ edition_kind → (r : Result (List Setting)) → First (and_then r (λ ys. ok (setting_is kind (payload f 0 len) ∷ ys)))
first_more f kind len e (ok ys) = e
first_more f kind len e (refused n a) = tt

first_head : (f : List ℕ) (rest : List ℕ → ℕ → Result (List Setting)) (x : Option Head) → is_edition x ≡ true → First (of_head f [] 0 x rest)
unfolding among
first_head f rest None e = true_false (sym e)
first_head f rest (Some x) e =
    pick First (value_fits x.kind (x.len - head_len))
    (λ _. first_more f x.kind x.len (eqb-true x.kind edition_kind (and_left (eqb x.kind edition_kind) (eqb x.len 8) e)) (rest (x.kind ∷ []) (0 + x.len)))
    (λ _. tt)

not_empty : (f : List ℕ) (x : Option Head) → HeadIn f 0 x → is_edition x ≡ true → 0 < length f
not_empty f None h e = true_false (sym e)
not_empty f (Some x) h e = omega (arith, h.2, h.3)

first : (n : ℕ) (f : List ℕ) → is_edition (head_at f 0) ≡ true → length f ≤ n → First (settings_at n f [] 0)
unfolding settings_at
first zero f e h = absurd (omega (arith, not_empty f (head_at f 0) (head_in f 0) e))
first (suc n) f e h =
    pick First (ltb 0 (length f)) (λ _. first_head f (settings_at n f) (head_at f 0) e)
    (λ g. absurd (omega (arith, not_empty f (head_at f 0) (head_in f 0) e, ltb-false 0 (length f) g)))

abbrev Good : List ℕ → Result (List Setting) → Type 0
Good f (ok ys) = GoodFile ys f
Good f (refused n a) = Unit {0}

good_read : (f : List ℕ) → Bytes f → length f ≤ settings_limit → (r : Result (List Setting)) → settings_at (length f) f [] 0 ≡ r → First r → Good f r
good_read f hb hl (ok ys) e h =
    let s = sound_from (length f) f [] 0 ys hb (omega arith) (omega arith) e in
    record { bytes = s.0; limit = hl; edition = h; each = s.1 }
good_read f hb hl (refused n a) e h = tt

pub good_sound : GoodSound
unfolding settings_of
good_sound f ys hb e = subst (Good f) e (
    pick (Good f) (ltb settings_limit (length f)) (λ _. tt) (λ l.
    pick (Good f) (is_edition (head_at f 0))
    (λ i. good_read f hb (ltb-false settings_limit (length f) l) (settings_at (length f) f [] 0) refl (first (length f) f i (omega arith)))
    (λ _. tt)))

-- ---- what is good is read

module _ (f : List ℕ) (at : ℕ) (y : Setting) (ys : List Setting) (e : drop at f ≡ bytes_of y ++ file_of ys) (ha : at ≤ length f) where
  room : at + length y.value + head_len ≤ length f
  room = omega (arith, first_room f at y ys e ha, length_record y.kind y.value)

  read : y.kind < 2 ^ 16 → length f ≤ settings_limit → Stood f at y.kind y.value
  read hk hl = stood f at y.kind y.value ha hk (omega (arith, room)) (first_stands f at y ys e)

pub complete_from : (n : ℕ) (f before : List ℕ) (at : ℕ) (ys : List Setting) → at ≤ length f → length f ≤ settings_limit → length f ≤ n + at → drop at f ≡ file_of ys
    → GoodFrom before ys → settings_at n f before at ≡ ok ys
unfolding settings_at file_of GoodFrom
complete_from zero f before at [] ha hl hn e g = refl
complete_from (suc n) f before at [] ha hl hn e g = rw (le-ltb at (length f) (omega (arith, sym (length-drop at f) ∙ ap length e))) refl
complete_from zero f before at (y ∷ ys) ha hl hn e g = absurd (omega (arith, room f at y ys e ha))
complete_from (suc n) f before at (y ∷ ys) ha hl hn e g =
    let s = read f at y ys e ha g.2 hl in
    let k : length y.value + head_len - head_len ≡ length y.value = omega arith in
    let l : at + (length y.value + head_len) ≡ at + length (bytes_of y) = omega (arith, length_record y.kind y.value) in
    let r : settings_at n f (y.kind ∷ before) (at + (length y.value + head_len)) ≡ ok ys =
    ap (settings_at n f (y.kind ∷ before)) l ∙ complete_from n f (y.kind ∷ before) (at + length (bytes_of y)) ys (first_room f at y ys e ha) hl (omega (arith, length_record y.kind y.value)) (next_settings f at y ys e) g.3 in
    rw (lt-ltb at (length f) (omega (arith, room f at y ys e ha)), stood_head f at y.kind y.value s)
    (rw (r, k, g.0, g.1) (ap (λ (b : List ℕ). ok (setting_is y.kind b ∷ ys)) (rw k at (stood_payload f at y.kind y.value s))))

edition_two : (n : ℕ) → value_fits edition_kind n ≡ true → n ≡ 2
edition_two n e = eqb-true n 2 e

edition_read : (f : List ℕ) (ys : List Setting) → GoodFile ys f → is_edition (head_at f 0) ≡ true
unfolding file_of GoodFrom
edition_read f [] g = absurd g.edition
edition_read f (y ∷ ys) g =
    let n : length y.value ≡ 2 = edition_two (length y.value) (subst (λ (k : ℕ). value_fits k (length y.value) ≡ true) g.edition g.each.0) in
    let s = read f 0 y ys g.bytes (omega arith) g.each.2 g.limit in
    rw (stood_head f 0 y.kind y.value s, g.edition, n) refl

pub good_complete : GoodComplete
unfolding settings_of
good_complete f ys g =
    rw (le-ltb settings_limit (length f) g.limit, edition_read f ys g)
    (complete_from (length f) f [] 0 ys (omega arith) g.limit (omega arith) g.bytes g.each)
