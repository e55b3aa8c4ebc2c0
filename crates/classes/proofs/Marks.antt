-- Marks on the bytes of a word, from the lowest one on: a byte without a mark borrows nothing from those above it, so that their marks are the marks of the word
-- that they make. Assumes nothing.
use Rattle.std.proofs.Common.{◌≡◌, ℕ, zero, suc, ◌+◌, ◌-◌, ◌*◌, ◌/◌, ◌%◌, ◌^◌, ◌<◌, ◌≤◌, Bool, true, cond, not, ◌&&◌, eqb, leb, List, length, get_or, sym, refl, ap, ◌∙◌, ap₂, add-zero, mod-lt, mul_assoc, pow-suc, div-add-mod', arith, lit<, eq-eqb, leb-true}
use lib.Bits.{bit_and, bit_or, and_block, or_block, and_le_r, and_lt, or_lt}
use Rattle.lists.proofs.Choice.{and_left, and_right}
use Rattle.lists.proofs.Each.{all, each}
use Rattle.classes.specs.Classes.{class_of, line_end, symbol_other}
use Rattle.classes.specs.PrivateWords.{Marks, number}
use Rattle.classes.specs.Runs.{run_end, symbol_run, line_run}
use Rattle.classes.proofs.Goes.{run_go}

-- a byte n times
abbrev pub copies : ℕ → ℕ → ℕ
copies zero c = 0
copies (suc n) c = c + 256 * copies n c

-- the marks of a word w of n bytes, where d is w less n copies of the lowest byte that goes on
abbrev pub outside : ℕ → ℕ → ℕ → ℕ
outside n d w = bit_and (bit_or d w) (copies n 128)

abbrev pub below : ℕ → ℕ → ℕ → ℕ
below n d w = bit_and (bit_and d (copies n 255 - w)) (copies n 128)

-- so that a word may be taken from all ones
number_le : (s : List ℕ) → ((j : ℕ) → get_or s j 0 < 256) → (n i : ℕ) → number n s i ≤ copies n 255
unfolding number
number_le s h zero i = omega arith
number_le s h (suc n) i = omega (arith, h i, number_le s h n (i + 1))

-- the lowest byte's marks stand apart
abbrev Apart : (ℕ → ℕ → ℕ → ℕ) → Type 0
Apart marks =
    (n d e w b : ℕ) → e < 256 → b < 256 → w ≤ copies n 255
    → marks (suc n) (d * 256 + e) (w * 256 + b) ≡ marks n d w * 256 + marks 1 e b

module _
    (marks : ℕ → ℕ → ℕ → ℕ) (apart : Apart marks) (few : (e b : ℕ) → marks 1 e b < 256)
    (p : ℕ → Bool) (c : ℕ) (c-byte : c < 256) where
  -- a byte without a mark is not below c and answers yes
  abbrev told : ℕ → Bool
  told b = cond (eqb (marks 1 ((b + (256 - c)) % 256) b) 0) (leb c b && p b) true

  module _ (tested : all told 256 0 ≡ true) (s : List ℕ) (bytes : (j : ℕ) → get_or s j 0 < 256) where
    unmarked : (e b : ℕ) → b < 256 → e ≡ (b + (256 - c)) % 256 → marks 1 e b ≡ 0 → (leb c b && p b) ≡ true
    unmarked e b h q z =
        sym (ap (λ t. cond t (leb c b && p b) true) (eq-eqb _ 0 (ap (λ x. marks 1 x b) (sym q) ∙ z))) ∙ each told tested b h

    -- d is the difference, up to q times the power of n bytes; of the marks the k lowest bytes are 0
    goes : (n i d q x k : ℕ) → i + n ≤ length s → k ≤ n → d + copies n c ≡ number n s i + q * 256 ^ n
        → marks n d (number n s i) ≡ x * 256 ^ k → run_end p s i ≡ run_end p s (i + k)
    unfolding number
    goes n i d q x zero l k≤n f g = ap (run_end p s) (sym (add-zero i))
    goes zero i d q x (suc k) l k≤n f g = absurd (omega arith)
    goes (suc n) i d q x (suc k) l k≤n f g =
        let b : ℕ = get_or s i 0 in
        let w : ℕ = number n s (i + 1) in
        let e : ℕ = d % 256 in
        let X : ℕ = marks n (d / 256) w in
        let y : ℕ = marks 1 e b in
        let b< : b < 256 = bytes i in
        let y< : y < 256 = few e b in
        let f' : d + (c + 256 * copies n c) ≡ b + 256 * w + q * 256 ^ n * 256 =
        f ∙ ap (λ (z : ℕ). b + 256 * w + z) (ap (λ (z : ℕ). q * z) (pow-suc 256 n) ∙ sym (mul_assoc q (256 ^ n) 256)) in
        let g' : X * 256 + y ≡ x * 256 ^ k * 256 =
        sym (apart n (d / 256) e w b (mod-lt d (lit< tt)) b< (number_le s bytes n (i + 1)))
        ∙ ap₂ (marks (suc n)) (div-add-mod' d 256) (omega arith)
        ∙ g ∙ ap (λ (z : ℕ). x * z) (pow-suc 256 k) ∙ sym (mul_assoc x (256 ^ k) 256) in
        let u : (leb c b && p b) ≡ true = unmarked e b b< (omega arith) (omega arith) in
        let c≤b : c ≤ b = leb-true c b (and_left (leb c b) (p b) u) in
        run_go p s i (omega arith) (and_right (leb c b) (p b) u)
        ∙ goes n (i + 1) (d / 256) q x k (omega arith) (omega arith) (omega arith) (omega arith)
        ∙ ap (run_end p s) (omega arith)

  -- eight bytes, the difference as the code takes it
  eight : all told 256 0 ≡ true → (d w : ℕ) → (d + copies 8 c) % 2 ^ 64 ≡ w → Marks (run_end p) w (marks 8 d w)
  eight tested d w h s i bytes l e k k≤8 z =
      let m : ℕ = marks 8 d w in
      let t : ℕ = d + copies 8 c in
      goes tested s bytes 8 i d (t / 2 ^ 64) (m / 256 ^ k) k l k≤8 (omega (arith, div-add-mod' t (2 ^ 64)))
      (ap (marks 8 d) (sym e) ∙ sym (div-add-mod' m (256 ^ k)) ∙ ap (λ (y : ℕ). m / 256 ^ k * 256 ^ k + y) z ∙ add-zero (m / 256 ^ k * 256 ^ k))

-- as the laws of blocks have it
highs : (n : ℕ) → 128 + 256 * copies n 128 ≡ copies n 128 * 256 + 128
highs n = omega arith

outside_apart : Apart outside
outside_apart n d e w b he hb hw =
    ap₂ bit_and (or_block 8 d w e b he hb) (highs n) ∙ and_block 8 (bit_or d w) (copies n 128) (bit_or e b) 128 (or_lt 8 e b he hb) (lit< tt)

below_apart : Apart below
below_apart n d e w b he hb hw =
    let v : copies (suc n) 255 - (w * 256 + b) ≡ (copies n 255 - w) * 256 + (255 - b) = omega arith in
    ap₂ bit_and (ap (bit_and (d * 256 + e)) v ∙ and_block 8 d (copies n 255 - w) e (255 - b) he (omega arith)) (highs n)
    ∙ and_block 8 (bit_and d (copies n 255 - w)) (copies n 128) (bit_and e (255 - b)) 128 (and_lt 8 e (255 - b) he (omega arith)) (lit< tt)

-- the bytes from 65 to 127 go on in a symbol
pub symbol_marks : (d w : ℕ) → (d + copies 8 65) % 2 ^ 64 ≡ w → Marks symbol_run w (outside 8 d w)
unfolding class_of
symbol_marks = eight outside outside_apart (λ e b. omega (arith, and_le_r (bit_or e b) 128)) (λ b. symbol_other (class_of b)) 65 (lit< tt) refl

-- the bytes from 14 on go on in a line
pub line_marks : (d w : ℕ) → (d + copies 8 14) % 2 ^ 64 ≡ w → Marks line_run w (below 8 d w)
unfolding class_of
line_marks = eight below below_apart (λ e b. omega (arith, and_le_r (bit_and e (255 - b)) 128)) (λ b. not (line_end (class_of b))) 14 (lit< tt) refl
