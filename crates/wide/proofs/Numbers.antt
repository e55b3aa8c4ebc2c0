-- Little-endian numbers: there and back, in parts, and an integer's 16 bytes. Assumes nothing.
use Rattle.std.proofs.Common.{◌≡◌, ℕ, zero, suc, ◌+◌, ◌-◌, ◌*◌, ◌/◌, ◌%◌, ◌^◌, ◌<◌, ◌≤◌, Bool, cond, List, [], ◌∷◌, ◌++◌, length, get_or, take, drop, ℤ, pos, negsuc, nat_abs, sym, refl, ap, ◌∙◌, subst, mod-lt, mul_assoc, mul_comm, suc-add, pow-suc, div-add-mod', zero-add, div-one, add-one, arith, lit<, ap₂, le-leb, length-drop, drop-cons, w64, SFits, to_z, of_z}
use native.Mathlib.Nat.{pow-zero, pow-succ', one-le-pow, div-div-eq-div-mul}
use Rattle.std.specs.Int.{byte_at, byte_worth, bytes_low_first, sum_through, to_le_bytes, from_le_bytes}
use lib.Arith.{digits_div}
use lib.Seq.{take_all}
use borrow.Author.Tests.{lt-leb}
use mir.Syntax.{w128}
use mir.ValLaws.{of_z_fits, to_z-of_z, of_z-to_z}
use Rattle.lists.proofs.Stands.{part_size}
use Rattle.wide.specs.Bytes.{Bytes, le, number, number_at, number_in, wide_bytes, integer_at, wide_in}

-- the same by the list's structure
abbrev pub AllBytes : List ℕ → Type 0
AllBytes [] = Unit {0}
AllBytes (b ∷ l) = (b < 256) × AllBytes l

pub bytes_part : (t : List ℕ) → Bytes t → (k p : ℕ) → p + k ≤ length t → AllBytes (take k (drop p t))
bytes_part t h zero p l = tt
bytes_part t h (suc k) p l = subst (λ (r : List ℕ). AllBytes (take (suc k) r)) (sym (drop-cons t p 0 (omega arith))) (h p, bytes_part t h k (suc p) (omega arith))

pub le_length : (k n : ℕ) → length (le k n) ≡ k
unfolding le
le_length zero n = refl
le_length (suc k) n = ap suc (le_length k (n / 256))

pub le_bytes : (k n : ℕ) → AllBytes (le k n)
unfolding le
le_bytes zero n = tt
le_bytes (suc k) n = (mod-lt n (lit< tt), le_bytes k (n / 256))

-- the bytes of a number, and back
pub number_le : (k n : ℕ) → n < 256 ^ k → number (le k n) ≡ n
unfolding number le
number_le zero n h = omega (arith, rw (pow-zero 256) at h)
number_le (suc k) n h =
    let e : n < 256 ^ k * 256 = rw (pow-suc 256 k) at h in
    let l : n / 256 < 256 ^ k = omega arith in
    rw (number_le k (n / 256) l) (omega arith)

pub le_number : (l : List ℕ) → AllBytes l → le (length l) (number l) ≡ l
unfolding number le
le_number [] h = refl
le_number (b ∷ l) h =
    let b1 : b < 256 = h.0 in
    let m : (b + 256 * number l) % 256 ≡ b = omega arith in
    let d : (b + 256 * number l) / 256 ≡ number l = omega arith in
    rw (m, d, le_number l h.1) refl

pub le_number_of : (k : ℕ) (l : List ℕ) → AllBytes l → length l ≡ k → le k (number l) ≡ l
le_number_of k l h e = ap (λ (j : ℕ). le j (number l)) (sym e) ∙ le_number l h

-- a number is below the power of its bytes
pub number_lt : (l : List ℕ) → AllBytes l → number l < 256 ^ length l
unfolding number
number_lt [] h = lit< tt
number_lt (b ∷ l) h = rw (pow-suc 256 (length l)) (omega (arith, number_lt l h.1, h.0))

-- the low bytes do not see what is above them
pub le_above : (k q r : ℕ) → le k (q * 256 ^ k + r) ≡ le k r
unfolding le
le_above zero q r = refl
le_above (suc k) q r =
    let Q : ℕ = q * 256 ^ k in
    let e : q * 256 ^ suc k ≡ Q * 256 = ap (λ (x : ℕ). q * x) (pow-suc 256 k) ∙ sym (mul_assoc q (256 ^ k) 256) in
    let f : (Q * 256 + r) % 256 ≡ r % 256 = omega arith in
    let g : (Q * 256 + r) / 256 ≡ Q + r / 256 = omega arith in
    ap (λ (x : ℕ). (x + r) % 256 ∷ le k ((x + r) / 256)) e ∙ ap (λ (x : ℕ). x ∷ le k ((Q * 256 + r) / 256)) f
    ∙ ap (λ (x : ℕ). r % 256 ∷ le k x) g ∙ ap (λ (t : List ℕ). r % 256 ∷ t) (le_above k q (r / 256))

pub number_mod : (k n : ℕ) → number (le k n) ≡ n % 256 ^ k
number_mod k n =
    ap (λ (x : ℕ). number (le k x)) (sym (div-add-mod' n (256 ^ k))) ∙ ap number (le_above k (n / 256 ^ k) (n % 256 ^ k))
    ∙ number_le k (n % 256 ^ k) (mod-lt n (one-le-pow k 256 (lit< tt)))

-- j bytes, then k
pub le_add : (j k n : ℕ) → le (j + k) n ≡ le j n ++ le k (n / 256 ^ j)
unfolding le
le_add zero k n = ap (λ (m : ℕ). le m n) (zero-add k) ∙ ap (le k) (sym (ap (λ (d : ℕ). n / d) (pow-zero 256) ∙ div-one n))
le_add (suc j) k n =
    ap (λ (m : ℕ). le m n) (suc-add j k) ∙ ap (λ (t : List ℕ). n % 256 ∷ t)
    (le_add j k (n / 256) ∙ ap (λ (m : ℕ). le j (n / 256) ++ le k m) (div-div-eq-div-mul n 256 (256 ^ j) ∙ ap (λ (d : ℕ). n / d) (sym (pow-succ' 256 j))))

-- the lowest k bytes of more
le_take : (k j n : ℕ) → k ≤ j → take k (le j n) ≡ le k n
unfolding le
le_take zero j n h = refl
le_take (suc k) zero n h = absurd (omega arith)
le_take (suc k) (suc j) n h = ap (λ (t : List ℕ). n % 256 ∷ t) (le_take k j (n / 256) (omega arith))

-- the bytes of a limb, as the library takes them
low_first : (i k n : ℕ) → bytes_low_first i k n ≡ le k (n / 256 ^ i)
unfolding le
low_first i zero n = refl
low_first i (suc k) n =
    ap₂ (λ (b : ℕ) (t : List ℕ). b ∷ t) (byte_is i)
    (low_first (suc i) k n ∙ ap (le k) (sym (div-div-eq-div-mul n (256 ^ i) 256 ∙ ap (λ (d : ℕ). n / d) (sym (pow-suc 256 i)))))
  where
    byte_is : (i : ℕ) → byte_at i n ≡ n / 256 ^ i % 256
    byte_is zero = ap (λ (x : ℕ). x % 256) (sym (ap (λ (d : ℕ). n / d) (pow-zero 256) ∙ div-one n))
    byte_is (suc i) = refl

pub limb_bytes : (k n : ℕ) → k ≤ 8 → take k (to_le_bytes w64 n) ≡ le k n
limb_bytes k n h = ap (take k) (low_first 0 8 n ∙ ap (le 8) (ap (λ (d : ℕ). n / d) (pow-zero 256) ∙ div-one n)) ∙ le_take k 8 n h

pub two_limbs : (h l : ℕ) → l < 2 ^ 64 → le 16 (h * 2 ^ 64 + l) ≡ le 8 l ++ le 8 h
two_limbs h l k =
    le_add 8 8 (h * 2 ^ 64 + l) ∙ ap (λ (t : List ℕ). t ++ le 8 ((h * 2 ^ 64 + l) / 2 ^ 64)) (le_above 8 h l)
    ∙ ap (λ (x : ℕ). le 8 l ++ le 8 x) (digits_div h {m = 2 ^ 64} {r = l} k)

-- the number at a place: its first byte, and j bytes then k
pub number_none : (t : List ℕ) (p : ℕ) → number_at 0 t p ≡ 0
unfolding number
number_none t p = refl

pub number_front : (t : List ℕ) (p k : ℕ) → p < length t → number_at (suc k) t p ≡ get_or t p 0 + 256 * number_at k t (p + 1)
unfolding number
number_front t p k h = rw (drop-cons t p 0 h, add-one) refl

pub number_add : (t : List ℕ) (k j p : ℕ) → p + j ≤ length t → number_at (j + k) t p ≡ number_at j t p + 256 ^ j * number_at k t (p + j)
number_add t k zero p h =
    let a : 0 + k ≡ k = omega arith in
    let b : p + 0 ≡ p = omega arith in
    rw (a, b, number_none t p, pow-zero 256) (omega arith)
number_add t k (suc j) p h =
    let a : suc j + k ≡ suc (j + k) = omega arith in
    let b : p + suc j ≡ p + 1 + j = omega arith in
    let q : ℕ = number_at k t (p + 1 + j) in
    let m : 256 ^ j * 256 * q ≡ 256 * (256 ^ j * q) = ap (λ (x : ℕ). x * q) (mul_comm (256 ^ j) 256) ∙ mul_assoc 256 (256 ^ j) q in
    rw (a, b, number_front t p (j + k) (omega arith), number_front t p j (omega arith), pow-suc 256 j, number_add t k j (p + 1) (omega arith), m) (omega arith)

-- the number that the library reads in k + 1 bytes
summed : (b : List ℕ) (k : ℕ) → suc k ≤ length b → sum_through (λ i. byte_worth i (get_or b i 0)) k ≡ number_at (suc k) b 0
summed b zero h = sym (number_front b 0 0 (omega arith) ∙ rw (number_none b (0 + 1)) (omega arith))
summed b (suc k) h =
    let one : number_at 1 b (suc k) ≡ get_or b (suc k) 0 = number_front b (suc k) 0 (omega arith) ∙ rw (number_none b (suc k + 1)) (omega arith) in
    let more : number_at (suc k + 1) b 0 ≡ number_at (suc k) b 0 + 256 ^ suc k * number_at 1 b (0 + suc k) = number_add b 1 (suc k) 0 (omega arith) in
    let a : suc k + 1 ≡ suc (suc k) = omega arith in
    let z : 0 + suc k ≡ suc k = omega arith in
    sym (rw (a, z, one) at more ∙ ap₂ ◌+◌ (sym (summed b k (omega arith))) (mul_comm (256 ^ suc k) (get_or b (suc k) 0)))

pub read_at : (t b : List ℕ) (p k : ℕ) → p + suc k ≤ length t → b ≡ take (suc k) (drop p t) → sum_through (λ i. byte_worth i (get_or b i 0)) k ≡ number_at (suc k) t p
read_at t b p k h e =
    let size : length b ≡ suc k = ap length e ∙ part_size t p (suc k) h in
    summed b k (omega arith) ∙ ap number (take_all (suc k) b (omega arith) ∙ e)

pub number_sixteen : (t : List ℕ) (p : ℕ) → p + 16 ≤ length t → number_at 8 t (p + 8) * 2 ^ 64 + number_at 8 t p ≡ number_at 16 t p
number_sixteen t p h = omega (arith, number_add t 8 8 p (omega arith))

pub number_limbs : (t : List ℕ) (p h l : ℕ) → p + 16 ≤ length t → h ≡ number_at 8 t (p + 8) → l ≡ number_at 8 t p → h * 2 ^ 64 + l ≡ number_at 16 t p
number_limbs t p h l k e f = rw (e, f) (number_sixteen t p k)

-- the two limbs in sixteen bytes
pub limbs_read : (t b h l : List ℕ) (p : ℕ) → p + 16 ≤ length t → b ≡ take 16 (drop p t) → h ≡ drop (length b - 8) b → l ≡ take 8 b
    → from_le_bytes w64 h * 2 ^ 64 + from_le_bytes w64 l ≡ number_at 16 t p
limbs_read t b h l p k e eh el =
    let size : length b ≡ 16 = ap length e ∙ part_size t p 16 k in
    let at : length b - 8 ≡ 8 = omega arith in
    let high : h ≡ take 8 (drop 8 b) = eh ∙ ap (λ (i : ℕ). drop i b) at ∙ sym (take_all 8 (drop 8 b) (omega (arith, length-drop 8 b))) in
    number_limbs b 0 _ _ (omega arith) (read_at b h 8 7 (omega arith) high) (read_at b l 0 7 (omega arith) el)
    ∙ ap number (take_all 16 b (omega arith) ∙ e)

-- a reader that may be asked for bytes past the end
pub number_here : (k : ℕ) (t : List ℕ) (p r : ℕ) → p + k ≤ length t → r ≡ number_at k t p → r ≡ number_in k t p
number_here k t p r h e = e ∙ sym (ap (λ (x : Bool). cond x (number_at k t p) 0) (le-leb (p + k) (length t) h))

pub wide_here : (t : List ℕ) (p : ℕ) (z : ℤ) → p + 16 ≤ length t → z ≡ integer_at t p → z ≡ wide_in t p
wide_here t p z h e = e ∙ sym (ap (λ (x : Bool). cond x (integer_at t p) (pos 0)) (le-leb (p + 16) (length t) h))

pub wide_gone : (t : List ℕ) (p : ℕ) → length t < p + 16 → pos 0 ≡ wide_in t p
wide_gone t p h = sym (ap (λ (x : Bool). cond x (integer_at t p) (pos 0)) (lt-leb (p + 16) (length t) h))

-- the 16 bytes of an integer, and back
pub fits_of : (z : ℤ) → nat_abs z < 2 ^ 127 → SFits w128 z
fits_of (pos n) h = record { sfits = h }
fits_of (negsuc n) h = record { sfits = below (2 ^ 127) n h }
  where
    below : (N n : ℕ) → suc n < N → n < N
    below N n h = omega arith

pub wide_length : (z : ℤ) → length (wide_bytes z) ≡ 16
wide_length z = le_length 16 (of_z w128 z)

pub wide_back : (z : ℤ) → SFits w128 z → to_z w128 (number (wide_bytes z)) ≡ z
wide_back z f = ap (to_z w128) (number_le 16 (of_z w128 z) (of_z_fits w128 z f).fits) ∙ to_z-of_z w128 z f

pub bytes_back : (l : List ℕ) → AllBytes l → length l ≡ 16 → wide_bytes (to_z w128 (number l)) ≡ l
bytes_back l h e =
    ap (le 16) (of_z-to_z w128 (number l) (record { fits = subst (λ (k : ℕ). number l < 256 ^ k) e (number_lt l h) })) ∙ le_number_of 16 l h e
