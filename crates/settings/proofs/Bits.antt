-- The kinds seen, as bits in words: a bit that is set, and the others that stay. Assumes nothing.
use Prim.Native.Nat.{ℕ, zero, suc, ◌+◌, ◌-◌, ◌*◌, ◌/◌, ◌%◌, ◌^◌, ◌≤◌, ◌<◌}
use mathlib.Core.Path.{◌≡◌, refl, sym, ap, subst, ◌∙◌}
use mathlib.Core.Logic.{inl, inr}
use mathlib.Core.Bool.{Bool, true, false, cond, ◌&&◌, ◌||◌}
use mathlib.Core.List.{List, [], ◌∷◌}
use native.Mathlib.Omega.{arith}
use lib.Dec.{eqb, leb, ltb}
use lib.ListN.{length, get_or, set, replicate}
use lib.Seq.{get_or-set_same, get_or-set_other}
use lib.Pow.{pow-add, pow-lt, shl_exact, shl-shr}
use lib.Bits.{bit_or, or_shr, or_mod, or_zero_r, shifted_even}
use native.Mathlib.Nat.{div-eq_of_lt, one-mul, zero-div}
use borrow.Author.Tests.{lt-ltb, le-ltb, ltb-true, ltb-false, eqb-true, eqb-false, leb-true}
use Rattle.settings.specs.Kinds.{edition_kind, width_kind, style_kind, first_skipped, value_fits}
use Rattle.settings.specs.Files.{among}
use Rattle.settings.specs.PrivateFinding.{slot, Marked, bit, told, Tells}

-- ---- one bit of a power of two

own_bit : (r : ℕ) → 1 * 2 ^ r / 2 ^ r % 2 ≡ 1
own_bit r = ap (λ (x : ℕ). x % 2) (shl-shr 1 r)

lower_bit : (r j : ℕ) → 1 * 2 ^ (suc j + r) / 2 ^ r % 2 ≡ 0
lower_bit r j =
    let e : 1 * 2 ^ (suc j + r) ≡ (1 * 2 ^ suc j) * 2 ^ r = rw (pow-add 2 (suc j) r, one-mul (2 ^ suc j), one-mul (2 ^ suc j * 2 ^ r)) refl in
    rw (e, shl-shr (1 * 2 ^ suc j) r) (shifted_even 1 j)

higher_bit : (r s : ℕ) → r < s → 1 * 2 ^ r / 2 ^ s % 2 ≡ 0
higher_bit r s h = rw (one-mul (2 ^ r), div-eq_of_lt (pow-lt h)) refl

other_bit : (r s : ℕ) → (s ≡ r → ⊥) → 1 * 2 ^ r / 2 ^ s % 2 ≡ 0
other_bit r s h = by (ltb r s) (ltb s r) refl refl
  where
    by : (t u : Bool) → ltb r s ≡ t → ltb s r ≡ u → 1 * 2 ^ r / 2 ^ s % 2 ≡ 0
    by true u e e' = higher_bit r s (ltb-true r s e)
    by false true e e' =
        let lt : s < r = ltb-true s r e' in
        let q : suc (r - s - 1) + s ≡ r = omega arith in
        subst (λ (k : ℕ). 1 * 2 ^ k / 2 ^ s % 2 ≡ 0) q (lower_bit s (r - s - 1))
    by false false e e' = absurd (h (omega (arith, ltb-false r s e, ltb-false s r e')))

-- ---- one bit set in a word

-- the bit s of a word in which the bit r was set
or_bit : (w r s : ℕ) → bit_or w (1 * 2 ^ r) / 2 ^ s % 2 ≡ bit_or (w / 2 ^ s % 2) (1 * 2 ^ r / 2 ^ s % 2)
or_bit w r s = ap (λ (x : ℕ). x % 2) (or_shr w (1 * 2 ^ r) s) ∙ or_mod (w / 2 ^ s) (1 * 2 ^ r / 2 ^ s) 1

one_or : (b : ℕ) → b < 2 → bit_or b 1 ≡ 1
one_or zero h = refl
one_or (suc zero) h = refl
one_or (suc (suc b)) h = absurd (omega arith)

or_own : (w r : ℕ) → bit_or w (1 * 2 ^ r) / 2 ^ r % 2 ≡ 1
or_own w r = or_bit w r r ∙ ap (bit_or (w / 2 ^ r % 2)) (own_bit r) ∙ one_or (w / 2 ^ r % 2) (omega arith)

or_other : (w r s : ℕ) → (s ≡ r → ⊥) → bit_or w (1 * 2 ^ r) / 2 ^ s % 2 ≡ w / 2 ^ s % 2
or_other w r s h = or_bit w r s ∙ ap (bit_or (w / 2 ^ s % 2)) (other_bit r s h) ∙ or_zero_r (w / 2 ^ s % 2)

-- ---- among the words

-- the words with the bit of s set
abbrev pub marking : List ℕ → ℕ → List ℕ
marking ws s = set ws (s / 64) (bit_or (get_or ws (s / 64) 0) (1 * 2 ^ (s % 64)))

marked_own : (ws : List ℕ) (s : ℕ) → s / 64 < length ws → bit (marking ws s) s ≡ 1
marked_own ws s h = rw (get_or-set_same ws (s / 64) (bit_or (get_or ws (s / 64) 0) (1 * 2 ^ (s % 64))) 0 h) (or_own (get_or ws (s / 64) 0) (s % 64))

marked_other : (ws : List ℕ) (s z : ℕ) → s / 64 < length ws → (z ≡ s → ⊥) → bit (marking ws s) z ≡ bit ws z
marked_other ws s z h ne = by (eqb (z / 64) (s / 64)) refl
  where
    v : ℕ
    v = bit_or (get_or ws (s / 64) 0) (1 * 2 ^ (s % 64))

    by : (t : Bool) → eqb (z / 64) (s / 64) ≡ t → bit (marking ws s) z ≡ bit ws z
    by true e =
        let q : z / 64 ≡ s / 64 = eqb-true (z / 64) (s / 64) e in
        rw (q, get_or-set_same ws (s / 64) v 0 h) (or_other (get_or ws (s / 64) 0) (s % 64) (z % 64) (λ m. ne (omega (arith, q, m))))
    by false e = rw (get_or-set_other ws (s / 64) (z / 64) v 0 (eqb-false (z / 64) (s / 64) e)) refl

-- ---- the slots of kinds

slot_low : (k : ℕ) → k < 64 → slot k ≡ k
slot_low k h = rw (lt-ltb k first_skipped (omega arith)) refl

slot_high : (k : ℕ) → first_skipped ≤ k → slot k ≡ k - 32704
slot_high k h = rw (le-ltb k first_skipped h) refl

pub slot_lt : (k : ℕ) → Marked k → slot k / 64 < 513
slot_lt k (inl h) = rw (slot_low k h) (omega arith)
slot_lt k (inr h) = rw (slot_high k h.0) (omega (arith, h.0, h.1))

slot_one : (k j : ℕ) → Marked k → Marked j → slot k ≡ slot j → k ≡ j
slot_one k j (inl h) (inl g) e = sym (slot_low k h) ∙ e ∙ slot_low j g
slot_one k j (inl h) (inr g) e = absurd (omega (arith, slot_low k h, slot_high j g.0, e, g.0))
slot_one k j (inr h) (inl g) e = absurd (omega (arith, slot_low j g, slot_high k h.0, e, h.0))
slot_one k j (inr h) (inr g) e = omega (arith, slot_high k h.0, slot_high j g.0, e, h.0, g.0)

-- a value that fits a kind is of one that is marked
pub fits_marked : (kind n : ℕ) → kind < 2 ^ 16 → value_fits kind n ≡ true → Marked kind
fits_marked kind n h = by (eqb kind edition_kind) (eqb kind width_kind) (eqb kind style_kind) refl refl refl
  where
    by : (a b c : Bool) → eqb kind edition_kind ≡ a → eqb kind width_kind ≡ b → eqb kind style_kind ≡ c
        → cond a (eqb n 2) (cond b (eqb n 4) (cond c (leb 1 n && leb n 32) (leb first_skipped kind))) ≡ true → Marked kind
    by true b c ea eb ec e = inl (omega (arith, eqb-true kind edition_kind ea))
    by false true c ea eb ec e = inl (omega (arith, eqb-true kind width_kind eb))
    by false false true ea eb ec e = inl (omega (arith, eqb-true kind style_kind ec))
    by false false false ea eb ec e = inr (leb-true first_skipped kind e, h)

-- ---- what the words tell

told_one : (b : Bool) → eqb (told b) 1 ≡ b
told_one true = refl
told_one false = refl

none_set : (n i : ℕ) → get_or {A = ℕ} (replicate n 0) i 0 ≡ 0
none_set zero i = refl
none_set (suc n) zero = refl
none_set (suc n) (suc i) = none_set n i

no_bit : (s : ℕ) → 0 / 2 ^ s % 2 ≡ 0
no_bit s = ap (λ (x : ℕ). x % 2) (zero-div (2 ^ s))

-- words of zeros tell no kind
pub none_seen : Tells (replicate 513 0) []
unfolding among
none_seen k m = rw (none_set 513 (slot k / 64)) (no_bit (slot k % 64))

-- a kind, and one more that was seen
seen_more : (k kind : ℕ) (before : List ℕ) (P : Bool → Type 0) → (k ≡ kind → P true) → ((k ≡ kind → ⊥) → P (among k before)) → P (among k (kind ∷ before))
unfolding among
seen_more k kind before P f g = by (eqb k kind) refl
  where
    by : (t : Bool) → eqb k kind ≡ t → P (t || among k before)
    by true e = f (eqb-true k kind e)
    by false e = g (eqb-false k kind e)

-- the words that the code leaves; a shift is reduced to 64 bits
abbrev marking64 : List ℕ → ℕ → List ℕ
marking64 ws s = set ws (s / 64) (bit_or (get_or ws (s / 64) 0) ((1 * 2 ^ (s % 64)) % 18446744073709551616))

all_64 : (ws : List ℕ) (s : ℕ) → marking64 ws s ≡ marking ws s
all_64 ws s =
    let h : 1 < 2 ^ 1 = omega arith in
    ap (λ (p : ℕ). set ws (s / 64) (bit_or (get_or ws (s / 64) 0) p)) (shl_exact 1 (s % 64) 64 h (omega arith))

-- the bit says whether the kind was seen, and once it is set the words tell the kind too
pub seen : (ws before : List ℕ) (kind s : ℕ) → Marked kind → s ≡ slot kind → length ws ≡ 513 → Tells ws before
    → (eqb (bit ws s) 1 ≡ among kind before) × Tells (marking64 ws s) (kind ∷ before)
seen ws before kind s m es l t =
    let h : s / 64 < length ws = rw es (omega (arith, slot_lt kind m, l)) in (
      ap (λ (b : ℕ). eqb b 1) (ap (bit ws) es ∙ t kind m) ∙ told_one (among kind before),
      subst (λ (w : List ℕ). Tells w (kind ∷ before)) (sym (all_64 ws s)) (λ k mk.
          seen_more k kind before (λ (b : Bool). bit (marking ws s) (slot k) ≡ told b)
          (λ q. ap (bit (marking ws s)) (ap slot q ∙ sym es) ∙ marked_own ws s h)
          (λ ne. marked_other ws s (slot k) h (λ q. ne (slot_one k kind mk m (q ∙ es))) ∙ t k mk)),
    )
