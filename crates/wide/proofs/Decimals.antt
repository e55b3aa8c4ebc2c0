-- Decimal text: how long it is, that no zero leads it, and one digit more or less. Assumes nothing.
use Rattle.std.proofs.Common.{◌≡◌, ℕ, zero, suc, ◌+◌, ◌/◌, ◌%◌, ◌^◌, ◌<◌, ◌≤◌, true, false, ltb, List, [], ◌∷◌, ◌++◌, length, get_or, ℤ, pos, negsuc, sym, refl, ap, ◌∙◌, subst, ⊎_elim, lt_of_lt_of_le, div-lt_iff_lt-mul, pow-suc, arith, lit<, lit≤, length-append, le-ltb, lt-ltb}
use Rattle.lists.proofs.Choice.{pick}
use Rattle.wide.specs.Text.{digits, digits_of, decimal, is_lowest, lowest_text, integer_text}
use Rattle.wide.proofs.TwoLimbs.{which}

pub digits_one : (k n : ℕ) → n < 10 → digits (suc k) n ≡ (48 + n) ∷ []
unfolding digits
digits_one k n h = rw (lt-ltb n 10 h)

pub digits_more : (k n : ℕ) → 10 ≤ n → digits (suc k) n ≡ digits k (n / 10) ++ ((48 + n % 10) ∷ [])
unfolding digits
digits_more k n h = rw (le-ltb n 10 h)

few : (k n : ℕ) → n < 10 ^ suc k → 10 ≤ n → 1 ≤ k
few zero n h l = absurd (omega (arith, h))
few (suc k) n h l = omega arith

shorter : (k n : ℕ) → n < 10 ^ suc k → n / 10 < 10 ^ k
shorter k n h = (div-lt_iff_lt-mul {k = 10} {x = n} {y = 10 ^ k} (lit< tt)).1 (subst (λ (x : ℕ). n < x) (pow-suc 10 k) h)

front : (a b : List ℕ) → 49 ≤ get_or a 0 0 → 49 ≤ get_or (a ++ b) 0 0
front [] b h = absurd (omega arith)
front (x ∷ a) b h = h

-- once there is room for the digits, one place more changes nothing
pub digits_room : (k n : ℕ) → 1 ≤ k → n < 10 ^ k → digits (suc k) n ≡ digits k n
digits_room zero n h l = absurd (omega arith)
digits_room (suc k) n h l = ⊎_elim one (λ p. more p (digits_room k (n / 10) (few k n l p) (shorter k n l))) (which n 10)
  where
    one : n < 10 → digits (suc (suc k)) n ≡ digits (suc k) n
    one p = digits_one (suc k) n p ∙ sym (digits_one k n p)

    more : 10 ≤ n → digits (suc k) (n / 10) ≡ digits k (n / 10) → digits (suc (suc k)) n ≡ digits (suc k) n
    more p e = digits_more (suc k) n p ∙ ap (λ (t : List ℕ). t ++ ((48 + n % 10) ∷ [])) e ∙ sym (digits_more k n p)

-- the text of a number, from its last digit
pub text_one : (n : ℕ) → n < 10 → digits_of n ≡ (48 + n) ∷ []
text_one n h = digits_one 38 n h

pub text_more : (n : ℕ) → 10 ≤ n → n < 2 ^ 128 → digits_of n ≡ digits_of (n / 10) ++ ((48 + n % 10) ∷ [])
text_more n h l =
    digits_more 38 n h
    ∙ ap (λ (t : List ℕ). t ++ ((48 + n % 10) ∷ [])) (sym (digits_room 38 (n / 10) (lit≤ tt) (shorter 38 n (lt_of_lt_of_le l (lit≤ tt)))))

pub digits_top : (k n : ℕ) → length (digits k n) ≤ k
unfolding digits
digits_top zero n = omega arith
digits_top (suc k) n =
    pick (λ (l : List ℕ). length l ≤ suc k) (ltb n 10) (λ _. omega arith) (λ _. simp length-append (omega (arith, digits_top k (n / 10))))

pub digits_low : (k n : ℕ) → 1 ≤ length (digits (suc k) n)
unfolding digits
digits_low k n = pick (λ (l : List ℕ). 1 ≤ length l) (ltb n 10) (λ _. omega arith) (λ _. simp length-append (omega arith))

pub text_low : (n : ℕ) → 1 ≤ length (digits_of n)
text_low n = digits_low 38 n

pub text_top : (n : ℕ) → length (digits_of n) ≤ 39
text_top n = digits_top 39 n

decimal_top : (z : ℤ) → length (decimal z) ≤ 40
decimal_top (pos n) = omega (arith, text_top n)
decimal_top (negsuc n) = omega (arith, text_top (suc n))

pub integer_top : (z : ℤ) → length (integer_text z) ≤ 40
unfolding integer_text
integer_top z = pick (λ (l : List ℕ). length l ≤ 40) (is_lowest z) (λ _. lit≤ tt) (λ _. decimal_top z)

pub integer_low : (z : ℤ) → 1 ≤ length (integer_text z)
unfolding integer_text
integer_low z = pick (λ (l : List ℕ). 1 ≤ length l) (is_lowest z) (λ _. lit≤ tt) (λ _. by z)
  where
    by : (v : ℤ) → 1 ≤ length (decimal v)
    by (pos n) = text_low n
    by (negsuc n) = omega arith

-- -2^127 and every other integer
pub lowest_text_lem : (z : ℤ) → is_lowest z ≡ true → integer_text z ≡ lowest_text
unfolding integer_text
lowest_text_lem z e = rw e refl

pub other_text : (z : ℤ) → is_lowest z ≡ false → integer_text z ≡ decimal z
unfolding integer_text
other_text z e = rw e refl

-- no leading zero
pub digits_first : (k n : ℕ) → 0 < n → n < 10 ^ k → 49 ≤ get_or (digits k n) 0 0
digits_first zero n h l = absurd (omega (arith, l))
digits_first (suc k) n h l = ⊎_elim one (λ p. more p (digits_first k (n / 10) (omega arith) (shorter k n l))) (which n 10)
  where
    one : n < 10 → 49 ≤ get_or (digits (suc k) n) 0 0
    one p = rw (digits_one k n p) (omega arith)

    more : 10 ≤ n → 49 ≤ get_or (digits k (n / 10)) 0 0 → 49 ≤ get_or (digits (suc k) n) 0 0
    more p e = rw (digits_more k n p) (front (digits k (n / 10)) ((48 + n % 10) ∷ []) e)

pub text_first : (n : ℕ) → 0 < n → n < 2 ^ 128 → 49 ≤ get_or (digits_of n) 0 0
text_first n h l = digits_first 39 n h (lt_of_lt_of_le l (lit≤ tt))
