-- Counting digits and putting them from the last to the first: the laws of the loops. Assumes nothing.
use Rattle.std.proofs.Common.{◌≡◌, ℕ, zero, suc, ◌+◌, ◌-◌, ◌*◌, ◌/◌, ◌%◌, ◌^◌, ◌<◌, ◌≤◌, Bool, true, false, List, [], ◌∷◌, ◌++◌, length, drop, set, ℤ, pos, negsuc, nat_abs, sym, refl, ap, ◌∙◌, subst, append_assoc, ⊎_elim, lt_of_le_of_lt, div-le_self, pow-suc, lit<, arith, length-append, length-set, drop-cons, get_or-set_same, drop-set-lt, ltb-true}
use native.Mathlib.Nat.{one-le-pow}
use lib.Arith.{digits_lt}
use lib.Signed.{lt_z}
use Rattle.std.proofs.lemmas.Bool.{cases_lt}
use Rattle.lists.specs.Over.{over}
use Rattle.wide.specs.Text.{digits_of, decimal}
use Rattle.wide.proofs.Decimals.{text_one, text_more, text_low}

pub big : (hi lo : ℕ) → 0 < hi → 10 ≤ hi * 2 ^ 64 + lo
big hi lo h = omega arith

pub alone : (hi lo : ℕ) → hi ≤ 0 → hi * 2 ^ 64 + lo ≡ lo
alone hi lo h = omega arith

pub both : (hi lo : ℕ) → hi < 2 ^ 64 → lo < 2 ^ 64 → hi * 2 ^ 64 + lo < 2 ^ 128
both hi lo h l = digits_lt {q = hi} {m = 2 ^ 64} {r = lo} {c = 2 ^ 64} h l

pub low_lt : (lo : ℕ) → lo < 2 ^ 64 → lo < 2 ^ 128
low_lt lo h = subst (λ (x : ℕ). x < 2 ^ 128) (alone 0 lo (omega arith)) (both 0 lo (omega arith) h)

pub tenth_lt : (v q : ℕ) → v < 2 ^ 128 → q ≡ v / 10 → q < 2 ^ 128
tenth_lt v q l e = rw e (lt_of_le_of_lt (div-le_self v 10) l)

pub glyph_fits : (d v : ℕ) → d ≡ v % 10 → 48 + d < 2 ^ 8
glyph_fits d v e = omega arith

pub falls : (q v : ℕ) → 10 ≤ v → q ≡ v / 10 → q < v
falls q v h e = omega arith

-- ---- counting

pub one_less : (v q : ℕ) → 10 ≤ v → v < 2 ^ 128 → q ≡ v / 10 → length (digits_of v) ≡ length (digits_of q) + 1
one_less v q h l e = rw (e, text_more v h l) (length-append (digits_of (v / 10)) ((48 + v % 10) ∷ []))

pub count_one : (v : ℕ) → v < 10 → length (digits_of v) ≡ 1
count_one v h = ap length (text_one v h)

-- from a power of ten to the next
pub count_power : (k v : ℕ) → 10 ^ k ≤ v → v < 10 * 10 ^ k → v < 2 ^ 128 → length (digits_of v) ≡ k + 1
count_power zero v h l b = count_one v (omega arith)
count_power (suc k) v h l b =
    let h' : 10 ^ k * 10 ≤ v = rw (pow-suc 10 k) at h in
    let l' : v < 10 * (10 ^ k * 10) = rw (pow-suc 10 k) at l in
    let one : 0 < 10 ^ k = one-le-pow k 10 (lit< tt) in
    omega (arith, one_less v (v / 10) (omega arith) b refl, count_power k (v / 10) (omega arith) (omega arith) (tenth_lt v (v / 10) b refl))

-- k digits are counted of `all`, and v has the others
pub record Counted (all k v : ℕ) : Type 0 where
  pub bound : v < 2 ^ 128
  pub sum : k + length (digits_of v) ≡ all

pub count_more : (all k v q : ℕ) → Counted all k v → 10 ≤ v → q ≡ v / 10 → Counted all (k + 1) q
count_more all k v q c h e = record { bound = tenth_lt v q c.bound e; sum = omega (arith, c.sum, one_less v q h c.bound e) }

-- so that k stays small
pub count_small : {all k v : ℕ} → Counted all k v → all ≤ 40 → k < 40
count_small {v = v} c h = omega (arith, c.sum, text_low v)

-- ---- putting

-- v's digits, with what stands from place `at` on, make up what is wanted; n is the buffer's length
pub record Fill (want out : List ℕ) (n at v : ℕ) : Type 0 where
  pub bound : v < 2 ^ 128
  pub size : at ≡ length (digits_of v)
  pub room : at ≤ n
  pub long : length out ≡ n
  pub same : digits_of v ++ drop at out ≡ want

pub begin : (out : List ℕ) (at v : ℕ) → v < 2 ^ 128 → at ≡ length (digits_of v) → at ≤ length out → Fill (over (digits_of v) out) out (length out) at v
begin out at v l e h = record { bound = l; size = e; room = h; long = refl; same = ap (λ (k : ℕ). digits_of v ++ drop k out) e }

pub one_left : {want out : List ℕ} {n at v : ℕ} → Fill want out n at v → 1 ≤ at
one_left {v = v} f = omega (arith, f.size, text_low v)

-- a byte stored at a place heads what stands from there on
stored : (l : List ℕ) (i a : ℕ) → i < length l → drop i (set l i a) ≡ a ∷ drop (suc i) l
stored l i a h =
    let h' : i < length (set l i a) = rw length-set h in
    drop-cons (set l i a) i 0 h' ∙ ap (λ (x : ℕ). x ∷ drop (suc i) (set l i a)) (get_or-set_same l i a 0 h)
    ∙ ap (λ (t : List ℕ). a ∷ t) (drop-set-lt (suc i) l i a (omega arith))

-- one digit is split off
pub step : (want out : List ℕ) (n at v d q : ℕ) → Fill want out n at v → 10 ≤ v → d ≡ v % 10 → q ≡ v / 10
    → Fill want (set out (at - 1) (48 + d)) n (at - 1) q
step want out n at v d q f h e g =
    let l : v < 2 ^ 128 = f.bound in
    let s = one_less v q h l g in
    let c : suc (at - 1) ≡ at = omega (arith, one_left f) in
    record {
      bound = tenth_lt v q l g;
      size = omega (arith, f.size);
      room = omega (arith, f.room);
      long = length-set out (at - 1) (48 + d) ∙ f.long;
      same =
          ap (λ (t : List ℕ). digits_of q ++ t) (stored out (at - 1) (48 + d) (omega (arith, one_left f, f.room, f.long)))
          ∙ sym (append_assoc (digits_of q) ((48 + d) ∷ []) (drop (suc (at - 1)) out))
          ∙ rw (c, e, g, ← text_more v h l) f.same;
    }

-- the last one
pub last : (want out : List ℕ) (n at v : ℕ) → Fill want out n at v → v < 10 → set out 0 (48 + v) ≡ want
last want out n at v f h =
    let e : at ≡ 1 = f.size ∙ count_one v h in
    stored out 0 (48 + v) (omega (arith, f.room, f.long)) ∙ rw (e, text_one v h) at f.same

-- the last digit is left where one place is
pub more_left : {want out : List ℕ} {n at v : ℕ} → Fill want out n at v → 1 < at → 10 ≤ v
more_left {v = v} f h = ⊎_elim (λ k. absurd (omega (arith, f.size, count_one v k))) (λ k. k) (cases_lt v 10)

pub last_left : {want out : List ℕ} {n at v : ℕ} → Fill want out n at v → at ≤ 1 → v < 10
last_left {v = v} f h = ⊎_elim (λ k. k) (λ k. absurd (omega (arith, f.size, one_less v (v / 10) k f.bound refl, text_low (v / 10)))) (cases_lt v 10)

-- the digits left are those of the low limb
pub room_low : (want out : List ℕ) (n at hi lo : ℕ) → Fill want out n at (hi * 2 ^ 64 + lo) → hi ≤ 0 → (at ≡ length (digits_of lo)) × (at ≤ length out)
room_low want out n at hi lo f h = (f.size ∙ ap (λ (x : ℕ). length (digits_of x)) (alone hi lo h), omega (arith, f.room, f.long))

pub rest_low : (want out out' : List ℕ) (n at hi lo : ℕ) → Fill want out n at (hi * 2 ^ 64 + lo) → hi ≤ 0 → out' ≡ over (digits_of lo) out → out' ≡ want
rest_low want out out' n at hi lo f h e =
    e ∙ ap (λ (x : ℕ). over (digits_of x) out) (sym (alone hi lo h)) ∙ ap (λ (k : ℕ). digits_of (hi * 2 ^ 64 + lo) ++ drop k out) (sym f.size) ∙ f.same

-- ---- the sign

pub minus_text : (z : ℤ) (m : ℕ) (b : Bool) → m ≡ nat_abs z → b ≡ lt_z z (pos 0) → b ≡ true → decimal z ≡ 45 ∷ digits_of m
minus_text (pos n) m b e f g = let h : n < 0 = ltb-true n 0 (sym f ∙ g) in absurd (omega arith)
minus_text (negsuc n) m b e f g = ap (λ (x : ℕ). 45 ∷ digits_of x) (sym e)

pub plain_text : (z : ℤ) (m : ℕ) (b : Bool) → m ≡ nat_abs z → b ≡ lt_z z (pos 0) → b ≡ false → decimal z ≡ digits_of m
plain_text (pos n) m b e f g = ap digits_of (sym e)
plain_text (negsuc n) m b e f g = let z : ◌≡◌ {A = ℕ} 0 1 = cc in absurd (omega arith)
