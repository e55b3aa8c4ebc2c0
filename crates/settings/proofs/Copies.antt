-- A copy is a good file again, and writing what is set already makes the same file: THEOREMS copy_good, write_same. Assumes nothing.
use Prim.Native.Nat.{ℕ, ◌+◌, ◌^◌, ◌≤◌, ◌<◌}
use mathlib.Core.Path.{◌≡◌, refl, ap, sym, subst, ◌∙◌}
use mathlib.Core.Bool.{true, false, cond}
use mathlib.Core.List.{List, [], ◌∷◌}
use borrow.Author.Tests.{ltb-false, eqb-true}
use lib.Dec.{eqb, ltb}
use lib.ListN.{length}
use Rattle.refusals.specs.Numbers.{settings_limit, bad_style_name}
use Rattle.refusals.specs.Result.{Result, ok, refused, and_then}
use Rattle.lists.proofs.Choice.{pick, eqb_turn}
use Rattle.settings.specs.Kinds.{value_fits}
use Rattle.settings.specs.Files.{Setting, bytes_of, file_of, among, GoodFrom, EditionFirst, settings_of}
use Rattle.settings.specs.LookUps.{Held, absent, held, held_from}
use Rattle.settings.specs.Writing.{replaced, roomed, copy_of}
use Rattle.settings.specs.Kept.{CopyGood, WriteSame}
use Rattle.settings.proofs.Good.{good_sound, good_complete}

-- ---- what a copy comes from

pub record Copied (f : List ℕ) (y : Setting) (c : List ℕ) : Type 0 where
  pub settings : List Setting
  pub read : settings_of f ≡ ok settings
  pub fits : value_fits y.kind (length y.value) ≡ true
  pub limit : length c ≤ settings_limit
  pub bytes : c ≡ file_of (replaced y settings)

abbrev AsCopied : List ℕ → Setting → Result (List ℕ) → Type 0
AsCopied f y (ok c) = Copied f y c
AsCopied f y (refused n a) = Unit {0}

pub copied : (f : List ℕ) (y : Setting) (room : ℕ) (c : List ℕ) → copy_of f y room ≡ ok c → Copied f y c
unfolding copy_of
copied f y room c e = subst P e (by (settings_of f) refl)
  where
    P : Result (List ℕ) → Type 0
    P = AsCopied f y

    by : (r : Result (List Setting)) → settings_of f ≡ r
        → P (and_then r (λ ys. cond (value_fits y.kind (length y.value)) (roomed (file_of (replaced y ys)) room) (refused bad_style_name (length y.value))))
    by (ok ys) h =
        let o : List ℕ = file_of (replaced y ys) in
        pick P (value_fits y.kind (length y.value)) (λ fits.
        pick P (ltb settings_limit (length o)) (λ _. tt) (λ l.
        pick P (ltb room (length o)) (λ _. tt) (λ _. record { settings = ys; read = h; fits = fits; limit = ltb-false settings_limit (length o) l; bytes = refl })))
        (λ _. tt)
    by (refused n a) h = tt

-- the settings that were read are the only ones
pub only : (f : List ℕ) (xs ys : List Setting) → settings_of f ≡ ok xs → settings_of f ≡ ok ys → xs ≡ ys
only f xs ys e e' = cc

-- ---- with y in its place, good settings stay good

edition_stays : (y : Setting) (ys : List Setting) → EditionFirst ys → EditionFirst (replaced y ys)
unfolding replaced
edition_stays y [] h = absurd h
edition_stays y (x ∷ xs) h = pick EditionFirst (eqb x.kind y.kind) (λ e. sym (eqb-true x.kind y.kind e) ∙ h) (λ _. h)

good_stays : (y : Setting) → value_fits y.kind (length y.value) ≡ true → y.kind < 2 ^ 16 → (before : List ℕ) (ys : List Setting) → among y.kind before ≡ false
    → GoodFrom before ys → GoodFrom before (replaced y ys)
unfolding replaced GoodFrom among
good_stays y fits hk before [] new g = (fits, new, hk, tt)
good_stays y fits hk before (x ∷ xs) new g =
    pick (GoodFrom before) (eqb x.kind y.kind)
    (λ e. (fits, new, hk, subst (λ (k : ℕ). GoodFrom (k ∷ before) xs) (eqb-true x.kind y.kind e) g.3))
    (λ e. (g.0, g.1, g.2, good_stays y fits hk (x.kind ∷ before) xs (rw (eqb_turn y.kind x.kind, e) new) g.3))

pub copy_good : CopyGood
unfolding among
copy_good f ys y room c hb e hk ec =
    let k = copied f y room c ec in
    let g = good_sound f ys hb e in
    let s : k.settings ≡ ys = only f k.settings ys k.read e in
    good_complete c (replaced y ys) (record {
      bytes = k.bytes ∙ ap (λ (l : List Setting). file_of (replaced y l)) s;
      limit = k.limit;
      edition = edition_stays y ys g.edition;
      each = good_stays y k.fits hk [] ys refl g.each;
    })

-- ---- what is set already

abbrev Stays : Setting → List Setting → Held → Type 0
Stays y ys absent = Unit {0}
Stays y ys (held v) = v.bytes ≡ y.value → replaced y ys ≡ ys

stays_later : (x y : Setting) (xs : List Setting) (h : Held) → eqb x.kind y.kind ≡ false → Stays y xs h → Stays y (x ∷ xs) h
unfolding replaced
stays_later x y xs absent e s = tt
stays_later x y xs (held v) e s = λ q. rw e (ap (λ (l : List Setting). x ∷ l) (s q))

stays_here : (x y : Setting) (xs : List Setting) → eqb x.kind y.kind ≡ true → x.value ≡ y.value → replaced y (x ∷ xs) ≡ x ∷ xs
unfolding replaced
stays_here x y xs e q = rw e (λ i. record { kind = sym (eqb-true x.kind y.kind e) i; value = sym q i } ∷ xs)

stays : (y : Setting) (at : ℕ) (ys : List Setting) → Stays y ys (held_from y.kind at ys)
unfolding held_from
stays y at [] = tt
stays y at (x ∷ xs) =
    let later : ℕ = at + length (bytes_of x) in
    pick (Stays y (x ∷ xs)) (eqb x.kind y.kind) (stays_here x y xs) (λ e. stays_later x y xs (held_from y.kind later xs) e (stays y later xs))

pub write_same : WriteSame
write_same f ys y v room c hb e ev eb ec =
    let k = copied f y room c ec in
    let s : k.settings ≡ ys = only f k.settings ys k.read e in
    let same : replaced y ys ≡ ys = subst (Stays y ys) ev (stays y 0 ys) eb in
    k.bytes ∙ ap (λ (l : List Setting). file_of (replaced y l)) s ∙ ap file_of same ∙ sym (good_sound f ys hb e).bytes
