-- Where a value stands in one of two files, and what that says of its bytes. Assumes nothing.
use Rattle.std.specs.Prelude.{Result as CodeResult, Ok, Err, Option, ok_or}
use Rattle.std.specs.Option.{option_or}
use Rattle.refusals.specs.declared.Refusal.{Refusal}
use Prim.Native.Nat.{ℕ, ◌+◌, ◌≤◌}
use mathlib.Core.Path.{◌≡◌, refl, sym, ap, subst, ◌∙◌}
use mathlib.Core.Logic.{◌⊎◌, inl, inr}
use mathlib.Core.Bool.{true}
use mathlib.Core.List.{List}
use native.Mathlib.Omega.{arith}
use lib.ListN.{length, take, drop, length-take, length-drop}
use borrow.Author.Tests.{eqb-true}
use Rattle.refusals.specs.Numbers.{not_set}
use Rattle.refusals.specs.Result.{Result, ok, refused}
use Rattle.wide.specs.Bytes.{Bytes, number}
use Rattle.settings.specs.Kinds.{value_fits, kind_number}
use Rattle.settings.specs.Files.{Setting, settings_of}
use Rattle.settings.specs.LookUps.{Side, Project, House, Neither, Value, Held, absent, held, held_from, Sided, given, faulty, each_sided, checked, chosen, look_up, span_in, number_set, bytes_in, by_side, part_at, part_of}
use Rattle.settings.specs.declared.Span.{Span}
use Rattle.settings.specs.PrivateFinding.{found_at, found_in, on_side}
use Rattle.settings.specs.declared.kinds.Kind.{Kind}
use Rattle.settings.specs.declared.kinds.Kind.TheVariants.{Edition, Width}
use Rattle.settings.specs.declared.Sided.{Sided as CodeSided}
use Rattle.settings.proofs.Looking.{At, at_bytes, at_room, at_fits, project_bad, house_bad, in_project, in_house, in_neither}

abbrev span_of : Value → Span
span_of v = record { place = v.place; len = length v.bytes }

-- ---- what the code answers, by what it found in the two files

abbrev OneFound : Type 0
OneFound = CodeResult (Option (CodeSided Span)) (CodeSided Refusal)

abbrev pub neither : CodeSided Refusal
neither = record { side = Neither; value = record { number = not_set; place = 0 } }

abbrev answer_of : OneFound → OneFound → CodeResult (CodeSided Span) (CodeSided Refusal)
answer_of (Err e) y = Err e
answer_of (Ok x) (Err e) = Err e
answer_of (Ok x) (Ok y) = ok_or (option_or x y) neither

module _ (kind : ℕ) (p h : List ℕ) where
  abbrev own : OneFound
  own = on_side Project (found_in kind (settings_of p))

  abbrev other : OneFound
  other = on_side House (found_in kind (settings_of h))

  answered : part_of (answer_of own other) ≡ span_in kind p h
  unfolding look_up
  answered = files (settings_of p) (settings_of h)
    where
      chosen_of : (x y : Held) → part_of (answer_of (on_side Project (Ok (found_at x))) (on_side House (Ok (found_at y)))) ≡ each_sided span_of (chosen x y)
      chosen_of (held v) absent = refl
      chosen_of (held v) (held w) = refl
      chosen_of absent (held w) = refl
      chosen_of absent absent = refl

      files : (x y : Result (List Setting))
          → part_of (answer_of (on_side Project (found_in kind x)) (on_side House (found_in kind y)))
          ≡ each_sided span_of (checked Project x (λ ps. checked House y (λ hs. chosen (held_from kind 0 ps) (held_from kind 0 hs))))
      files (refused n a) y = refl
      files (ok ps) (refused n a) = left (held_from kind 0 ps)
        where
          left : (x : Held) → part_of (answer_of (on_side Project (Ok (found_at x))) (on_side House (Err (record { number = n; place = a })))) ≡ faulty House n a
          left absent = refl
          left (held v) = refl
      files (ok ps) (ok hs) = chosen_of (held_from kind 0 ps) (held_from kind 0 hs)

  module _ (x : OneFound) (own_is : x ≡ own) where
    pub own_bad : (e : CodeSided Refusal) → x ≡ Err e → part_of (Err e) ≡ span_in kind p h
    own_bad e q = subst (λ (r : OneFound). part_of (answer_of r other) ≡ span_in kind p h) (sym own_is ∙ q) answered

    module _ (a : Option (CodeSided Span)) (good : x ≡ Ok a) (y : OneFound) (other_is : y ≡ other) where
      rest : part_of (answer_of (Ok a) y) ≡ span_in kind p h
      rest =
          subst (λ (r : OneFound). part_of (answer_of r y) ≡ span_in kind p h) (sym own_is ∙ good)
          (subst (λ (r : OneFound). part_of (answer_of own r) ≡ span_in kind p h) (sym other_is) answered)

      pub other_bad : (e : CodeSided Refusal) → y ≡ Err e → part_of (Err e) ≡ span_in kind p h
      other_bad e q = subst (λ (r : OneFound). part_of (answer_of (Ok a) r) ≡ span_in kind p h) q rest

      pub both_good : (b : Option (CodeSided Span)) → y ≡ Ok b → part_of (ok_or (option_or a b) neither) ≡ span_in kind p h
      both_good b q = subst (λ (r : OneFound). part_of (answer_of (Ok a) r) ≡ span_in kind p h) q rest

-- ---- what the answer says

-- a value that is read off its file: its bytes are there, and as many as its kind may have
pub record Read (kind : ℕ) (p h : List ℕ) (s : Side) (f : List ℕ) (x : Span) : Type 0 where
  pub looked : look_up kind p h ≡ given s (record { place = x.place; bytes = take x.len (drop x.place f) })
  pub room : x.place + x.len ≤ length f
  pub fits : value_fits kind x.len ≡ true

abbrev pub Spanned : ℕ → List ℕ → List ℕ → Sided Span → Type 0
Spanned kind p h (given Project x) = Read kind p h Project p x
Spanned kind p h (given House x) = Read kind p h House h x
Spanned kind p h (given Neither x) = ⊥
Spanned kind p h (faulty s n a) = look_up kind p h ≡ faulty s n a

module _ (kind : ℕ) (p h : List ℕ) (hp : Bytes p) (hh : Bytes h) where
  spanned : Spanned kind p h (span_in kind p h)
  unfolding look_up
  spanned = files (settings_of p) (settings_of h) refl refl
    where
      looked : (s : Side) (f : List ℕ) (v : Value) → take (length v.bytes) (drop v.place f) ≡ v.bytes → look_up kind p h ≡ given s v
          → look_up kind p h ≡ given s (record { place = v.place; bytes = take (length v.bytes) (drop v.place f) })
      looked s f v b e = e ∙ ap (λ (x : List ℕ). given s (record { place = v.place; bytes = x })) (sym b)

      found : (ps hs : List Setting) → settings_of p ≡ ok ps → settings_of h ≡ ok hs → (g g' : Held) → held_from kind 0 ps ≡ g → held_from kind 0 hs ≡ g'
          → Spanned kind p h (each_sided span_of (chosen g g'))
      found ps hs e e' (held v) g' q q' =
          let a : At kind (settings_of p) v.place (length v.bytes) = record { settings = ps; value = v; good = e; there = q; place_is = refl; len_is = refl } in record {
            looked = looked Project p v (at_bytes kind p hp a) (in_project kind p h ps hs e e' v q);
            room = at_room kind p hp a;
            fits = at_fits kind p hp a;
          }
      found ps hs e e' absent (held v) q q' =
          let a : At kind (settings_of h) v.place (length v.bytes) = record { settings = hs; value = v; good = e'; there = q'; place_is = refl; len_is = refl } in record {
            looked = looked House h v (at_bytes kind h hh a) (in_house kind p h ps hs e e' v q q');
            room = at_room kind h hh a;
            fits = at_fits kind h hh a;
          }
      found ps hs e e' absent absent q q' = in_neither kind p h ps hs e e' q q'

      files : (x y : Result (List Setting)) → settings_of p ≡ x → settings_of h ≡ y
          → Spanned kind p h (each_sided span_of (checked Project x (λ ps. checked House y (λ hs. chosen (held_from kind 0 ps) (held_from kind 0 hs)))))
      files (refused n a) y e e' = project_bad kind p h n a e
      files (ok ps) (refused n a) e e' = house_bad kind p h ps n a e e'
      files (ok ps) (ok hs) e e' = found ps hs e e' (held_from kind 0 ps) (held_from kind 0 hs) refl refl

  -- what is known of an answer
  pub spanned_as : (x : Sided Span) → x ≡ span_in kind p h → Spanned kind p h x
  spanned_as x e = subst (Spanned kind p h) (sym e) spanned

-- in the file of its side
pub sided : (kind : ℕ) (p h : List ℕ) (s : Side) (x : Span) → Spanned kind p h (given s x) → Read kind p h s (by_side s p h) x
sided kind p h Project x d = d
sided kind p h House x d = d
sided kind p h Neither x d = absurd d

-- ---- numbers and names

pub number_read : (kind : ℕ) (p h : List ℕ) (s : Side) (f : List ℕ) (x : Span) (r : ℕ) (v : List ℕ) → Read kind p h s f x → v ≡ take x.len (drop x.place f)
    → r ≡ number v → given s r ≡ number_set kind p h
number_read kind p h s f x r v d q e = ap (given s) (e ∙ ap number q) ∙ sym (ap (each_sided (λ (v : Value). number v.bytes)) d.looked)

-- a part of a file is as long as its span
pub part_len : (f v : List ℕ) (x : Span) → x.place + x.len ≤ length f → v ≡ take x.len (drop x.place f) → length v ≡ x.len
part_len f v x h e = ap length e ∙ simp (length-take, length-drop) (omega arith)

-- an edition has two bytes, a width four
pub number_len : (kind : Kind) (n : ℕ) → (kind ≡ Edition) ⊎ (kind ≡ Width) → value_fits (kind_number kind) n ≡ true → (n ≡ 2) ⊎ (n ≡ 4)
number_len kind n (inl e) f = inl (eqb-true n 2 (subst (λ (k : Kind). value_fits (kind_number k) n ≡ true) e f))
number_len kind n (inr e) f = inr (eqb-true n 4 (subst (λ (k : Kind). value_fits (kind_number k) n ≡ true) e f))

module _ (kind : ℕ) (p h : List ℕ) (pp hp : ℕ × ℕ) where
  -- the bytes of the value, at its place in the file of its side
  pub name_read : (s : Side) (x : Span) → Spanned kind p h (given s x)
      → (take x.len (drop x.place (by_side s p h)) ≡ bytes_in (look_up kind p h)) × (((by_side s pp hp).0, x.place + (by_side s pp hp).1) ≡ part_at pp hp (span_in kind p h))
  name_read s x d = (sym (ap bytes_in (sided kind p h s x d).looked), placed s d)
    where
      placed : (s : Side) → Spanned kind p h (given s x) → ((by_side s pp hp).0, x.place + (by_side s pp hp).1) ≡ part_at pp hp (span_in kind p h)
      placed Project d = sym (ap (λ (y : Sided Value). part_at pp hp (each_sided span_of y)) d.looked)
      placed House d = sym (ap (λ (y : Sided Value). part_at pp hp (each_sided span_of y)) d.looked)
      placed Neither d = absurd d
