-- A printed integer's text is read back as its token. Assumes nothing.
use mathlib.Core.Path.{◌≡◌, refl, sym, ap, ◌∙◌, subst}
use mathlib.Core.List.{List, [], ◌∷◌, ◌++◌}
use mathlib.Core.Logic.{⊎_elim}
use mathlib.Core.Bool.{Bool, true, false, cond}
use Prim.Native.Nat.{ℕ, zero, suc, ◌+◌, ◌*◌, ◌-◌, ◌/◌, ◌%◌, ◌^◌, ◌≤◌, ◌<◌}
use native.Mathlib.Omega.{arith}
use native.Mathlib.Nat.{pow-suc, div-lt_iff_lt-mul, div-add-mod', mod-lt, mod-eq_of_lt, lt_of_lt_of_le}
use lib.Dec.{eqb, ltb, lit<, lit≤}
use lib.IntN.{ℤ, pos, negsuc, nat_abs}
use lib.ListN.{get_or, length, length-append}
use mir.Syntax.{w128}
use mir.ValLaws.{to_z_pos, to_z-neg}
use borrow.Author.Tests.{lt-ltb, ltb-true, ltb-false, lt-leb, eqb-false, ne_eqb}
use Rattle.lists.proofs.Choice.{pick}
use Rattle.refusals.specs.Result.{ok}
use Rattle.classes.specs.declared.Class.TheVariants.{Digit}
use Rattle.classes.specs.Classes.{class_of, semicolon, digit_of, literal_byte}
use Rattle.wide.specs.Value.{val, split, grown, is as is_integer, integer_of}
use Rattle.wide.specs.Text.{digits, digits_of, decimal, lowest_integer, is_lowest, lowest_text, integer_text}
use Rattle.wide.proofs.TwoLimbs.{which, split_val}
use Rattle.wide.proofs.Lowest.{lowest_is}
use Rattle.lexer.specs.declared.literal.Reading.{Reading}
use Rattle.lexer.specs.declared.literal.Reading.TheVariants.{Empty, Number}
use Rattle.lexer.specs.Tokens.{token, is, int}
use Rattle.lexer.specs.Literals.{taken, digit, grow, reading, literal_end, radix_of, signed, concluded, unsigned_in}
use Rattle.lexer.specs.Lexing.{Between, skip, lex_in}
use Rattle.table.specs.Trees.{InRange}

ten : (P : ℕ → Type 0) → P 0 → P 1 → P 2 → P 3 → P 4 → P 5 → P 6 → P 7 → P 8 → P 9 → (d : ℕ) → d < 10 → P d
ten P a b c d e f g h i j zero l = a
ten P a b c d e f g h i j (suc zero) l = b
ten P a b c d e f g h i j (suc (suc zero)) l = c
ten P a b c d e f g h i j (suc (suc (suc zero))) l = d
ten P a b c d e f g h i j (suc (suc (suc (suc zero)))) l = e
ten P a b c d e f g h i j (suc (suc (suc (suc (suc zero))))) l = f
ten P a b c d e f g h i j (suc (suc (suc (suc (suc (suc zero)))))) l = g
ten P a b c d e f g h i j (suc (suc (suc (suc (suc (suc (suc zero))))))) l = h
ten P a b c d e f g h i j (suc (suc (suc (suc (suc (suc (suc (suc zero)))))))) l = i
ten P a b c d e f g h i j (suc (suc (suc (suc (suc (suc (suc (suc (suc zero))))))))) l = j
ten P a b c d e f g h i j (suc (suc (suc (suc (suc (suc (suc (suc (suc (suc n)))))))))) l = absurd (omega arith)

-- the byte of a decimal digit: its class, that a literal runs on over it, and that behind `0` it names no other radix
record Decimal (b : ℕ) : Type 0 where
  class : class_of b ≡ Digit
  counts : literal_byte b ≡ true
  plain : radix_of 48 b ≡ 10

digit_byte : (d : ℕ) → d < 10 → Decimal (48 + d)
unfolding class_of literal_byte digit_of radix_of
digit_byte =
    let r : (b : ℕ) → class_of b ≡ Digit → literal_byte b ≡ true → radix_of 48 b ≡ 10 → Decimal b = λ b x y z. record { class = x; counts = y; plain = z } in
    ten (λ d. Decimal (48 + d)) (r 48 refl refl refl) (r 49 refl refl refl) (r 50 refl refl refl) (r 51 refl refl refl) (r 52 refl refl refl) (r 53 refl refl refl) (r 54 refl refl refl) (r 55 refl refl refl) (r 56 refl refl refl) (r 57 refl refl refl)

-- what a digit's byte counts, wherever it stands
grow_is : (x : Reading) (i d : ℕ) → d < 10 → grow 10 x (48 + d) i ≡ digit 10 x d i
unfolding grow digit_of
grow_is x i = ten (λ d. grow 10 x (48 + d) i ≡ digit 10 x d i) refl refl refl refl refl refl refl refl refl refl

taken_is : (m d i : ℕ) → d < 10 → m * 10 + d < 2 ^ 128 → taken 10 m d i ≡ Number (split (m * 10 + d))
unfolding taken grown
taken_is m d i h l = rw (lt-leb 10 d h, lt-ltb (m * 10 + d) (2 ^ 128) l) refl

abbrev grows : Reading → List ℕ → ℕ → Reading
grows x [] i = x
grows x (b ∷ ds) i = grows (grow 10 x b i) ds (suc i)

abbrev All : List ℕ → Type 0
All [] = Unit {0}
All (b ∷ ds) = Decimal b × All ds

grows_last : (x : Reading) (ds : List ℕ) (b i : ℕ) → grows x (ds ++ (b ∷ [])) i ≡ grow 10 (grows x ds i) b (length ds + i)
grows_last x [] b i = ap (grow 10 x b) (omega arith)
grows_last x (c ∷ ds) b i = grows_last (grow 10 x c i) ds b (suc i) ∙ ap (grow 10 (grows (grow 10 x c i) ds (suc i)) b) (omega arith)

all_last : (ds : List ℕ) (b : ℕ) → All ds → Decimal b → All (ds ++ (b ∷ []))
all_last [] b h k = (k, tt)
all_last (c ∷ ds) b h k = (h.0, all_last ds b h.1 k)

-- n's digits
record Spells (n : ℕ) (ds : List ℕ) : Type 0 where
  all : All ds
  some : 1 ≤ length ds
  counts : (i : ℕ) → grows Empty ds i ≡ Number (split n)

tenth : (N n : ℕ) → n < N → n / 10 < N
tenth N n h = omega arith

spells_one : (n : ℕ) → n < 10 → Spells n ((48 + n) ∷ [])
unfolding taken grown
spells_one n h =
    record {
      all = (digit_byte n h, tt);
      some = omega arith;
      counts = λ i. grow_is Empty i n h ∙ ten (λ d. taken 10 0 d i ≡ Number (split d)) refl refl refl refl refl refl refl refl refl refl n h;
    }

spells_more : (n : ℕ) (ds : List ℕ) → n < 2 ^ 128 → Spells (n / 10) ds → Spells n (ds ++ ((48 + n % 10) ∷ []))
spells_more n ds l s =
    let h : n % 10 < 10 = mod-lt n (lit< tt) in
    let e : n / 10 * 10 + n % 10 ≡ n = div-add-mod' n 10 in
    record {
      all = all_last ds (48 + n % 10) s.all (digit_byte (n % 10) h);
      some = omega (arith, length-append ds ((48 + n % 10) ∷ []));
      counts = λ i.
          grows_last Empty ds (48 + n % 10) i
          ∙ ap (λ (x : Reading). grow 10 x (48 + n % 10) (length ds + i)) (s.counts i)
          ∙ grow_is (Number (split (n / 10))) (length ds + i) (n % 10) h
          ∙ ap (λ (m : ℕ). taken 10 m (n % 10) (length ds + i)) (split_val (n / 10))
          ∙ taken_is (n / 10) (n % 10) (length ds + i) h (subst (λ (x : ℕ). x < 2 ^ 128) (sym e) l)
          ∙ ap (λ (m : ℕ). Number (split m)) e;
    }

spells_on : (k n : ℕ) (t : Bool) → ltb n 10 ≡ t → n < 2 ^ 128 → (10 ≤ n → Spells (n / 10) (digits k (n / 10)))
    → Spells n (cond t ((48 + n) ∷ []) (digits k (n / 10) ++ ((48 + n % 10) ∷ [])))
spells_on k n true e l ih = spells_one n (ltb-true n 10 e)
spells_on k n false e l ih = spells_more n (digits k (n / 10)) l (ih (ltb-false n 10 e))

spells : (k n : ℕ) → n < 10 ^ suc k → n < 2 ^ 128 → Spells n (digits (suc k) n)
unfolding digits
spells zero n h l = spells_on zero n (ltb n 10) refl l (λ g. absurd (omega arith))
spells (suc k) n h l =
    spells_on (suc k) n (ltb n 10) refl l
    (λ g. spells k (n / 10) ((div-lt_iff_lt-mul {k = 10} {x = n} {y = 10 ^ suc k} (lit< tt)).1 (subst (λ (x : ℕ). n < x) (pow-suc 10 (suc k)) h)) (tenth (2 ^ 128) n l))

spells_of : (n : ℕ) → n < 2 ^ 127 → Spells n (digits_of n)
spells_of n h = spells 38 n (lt_of_lt_of_le h (lit≤ tt)) (lt_of_lt_of_le h (lit≤ tt))

radix_ten : (b c : ℕ) (t : Bool) → eqb b 48 ≡ t → radix_of 48 c ≡ 10 → radix_of b c ≡ 10
unfolding radix_of
radix_ten b c true e h = rw e h
radix_ten b c false e h = rw e refl

-- digits before a byte c that ends a literal
module _ (c : ℕ) (r : List ℕ) (e : literal_byte c ≡ false) (f : radix_of 48 c ≡ 10) where
  read_all : (ds : List ℕ) (x : Reading) (p : ℕ) → All ds → reading 10 x (ds ++ (c ∷ r)) p ≡ grows x ds p
  unfolding reading
  read_all [] x p h = rw e refl
  read_all (b ∷ ds) x p h = rw h.0.counts (read_all ds (grow 10 x b p) (suc p) h.1)

  end_all : (ds : List ℕ) (p : ℕ) → All ds → literal_end (ds ++ (c ∷ r)) p ≡ p + length ds
  unfolding literal_end
  end_all [] p h = rw e (omega arith)
  end_all (b ∷ ds) p h = rw h.0.counts (end_all ds (suc p) h.1 ∙ omega arith)

  second : (b : ℕ) (ds : List ℕ) → All ds → radix_of b (get_or (ds ++ (c ∷ r)) 0 0) ≡ 10
  second b [] h = radix_ten b c (eqb b 48) refl f
  second b (d ∷ ds) h = radix_ten b d (eqb b 48) refl h.0.plain

  unsigned : (minus : Bool) (st p n : ℕ) (ds : List ℕ) → Spells n ds → unsigned_in minus st (ds ++ (c ∷ r)) p ≡ signed st (p + length ds) (integer_of minus n)
  unfolding unsigned_in concluded
  unsigned minus st p n [] s = absurd (omega (arith, s.some))
  unsigned minus st p n (b ∷ ds) s =
      rw (second b ds s.all.1, end_all (b ∷ ds) p s.all, read_all (b ∷ ds) Empty p s.all, s.counts p, split_val n) refl

  leads : (n p : ℕ) (ds : List ℕ) → Spells n ds → lex_in 0 Between (ds ++ (c ∷ r)) p ≡ unsigned_in false p (ds ++ (c ∷ r)) p
  unfolding lex_in skip
  leads n p [] s = absurd (omega (arith, s.some))
  leads n p (b ∷ ds) s = rw s.all.0.class refl

minus_leads : (p : ℕ) (l : List ℕ) → lex_in 0 Between (45 ∷ l) p ≡ unsigned_in true p l (suc p)
unfolding lex_in skip class_of
minus_leads p l = refl

smaller : (N n : ℕ) → suc n < N → n < N
smaller N n h = omega arith

differs : (N n : ℕ) → n < N → n ≡ N → ⊥
differs N n h e = omega arith

less : (N n : ℕ) → 0 < N → N - suc n < N
less N n h = omega arith

span : (p n : ℕ) → p + n - p ≡ n
span p n = omega arith

span_suc : (p n : ℕ) → suc p + n - p ≡ suc n
span_suc p n = omega arith

positive : (n : ℕ) → n < 2 ^ 127 → integer_of false n ≡ is_integer (pos n)
unfolding integer_of
positive n h = ap is_integer (to_z_pos w128 n h)

negative : (n : ℕ) → suc n < 2 ^ 127 → integer_of true (suc n) ≡ is_integer (negsuc n)
unfolding integer_of
negative n h =
    rw (ne_eqb (suc n) (2 ^ 127) (differs (2 ^ 127) (suc n) h), mod-eq_of_lt (less (2 ^ 128) n (lit< tt)))
    (ap is_integer (to_z-neg w128 n (smaller (2 ^ 127) n h)))

-- the decimals of an integer of a magnitude below 2^127
decimal_spelt : (c : ℕ) (r : List ℕ) → literal_byte c ≡ false → radix_of 48 c ≡ 10 → (z : ℤ) (p : ℕ) → nat_abs z < 2 ^ 127
    → lex_in 0 Between (decimal z ++ (c ∷ r)) p ≡ ok (is (token (int z) p (length (decimal z))))
decimal_spelt c r e f (pos n) p h =
    let s : Spells n (digits_of n) = spells_of n h in
    leads c r e f n p (digits_of n) s
    ∙ unsigned c r e f false p p n (digits_of n) s
    ∙ ap (signed p (p + length (digits_of n))) (positive n h)
    ∙ ap (λ (k : ℕ). ok (is (token (int (pos n)) p k))) (span p (length (digits_of n)))
decimal_spelt c r e f (negsuc n) p h =
    let s : Spells (suc n) (digits_of (suc n)) = spells_of (suc n) h in
    minus_leads p (digits_of (suc n) ++ (c ∷ r))
    ∙ unsigned c r e f true p (suc p) (suc n) (digits_of (suc n)) s
    ∙ ap (signed p (suc p + length (digits_of (suc n)))) (negative n h)
    ∙ ap (λ (k : ℕ). ok (is (token (int (negsuc n)) p k))) (span_suc p (length (digits_of (suc n))))

decimal_starts : (z : ℤ) (r : List ℕ) → nat_abs z < 2 ^ 127 → semicolon (class_of (get_or (decimal z ++ r) 0 0)) ≡ false
unfolding class_of
decimal_starts (pos n) r h = lead (digits_of n) (spells_of n h)
  where
    lead : (ds : List ℕ) → Spells n ds → semicolon (class_of (get_or (ds ++ r) 0 0)) ≡ false
    lead [] s = absurd (omega (arith, s.some))
    lead (b ∷ ds) s = ap semicolon s.all.0.class
decimal_starts (negsuc n) r h = refl

-- the hexadecimals of -2^127
lowest_spelt : (c : ℕ) (r : List ℕ) → literal_byte c ≡ false → (p : ℕ) → lex_in 0 Between (lowest_text ++ (c ∷ r)) p ≡ ok (is (token (int lowest_integer) p 34))
unfolding lex_in skip class_of unsigned_in radix_of reading literal_end literal_byte digit_of grow taken grown val concluded integer_of
lowest_spelt c r e p = rw e (ap (λ (k : ℕ). ok (is (token (int lowest_integer) p k))) (omega arith))

-- an integer in range that is not -2^127 has a magnitude below 2^127
above : (N n : ℕ) → n < N → (n ≡ N - 1 → ⊥) → suc n < N
above N n h d = ⊎_elim (λ l. l) (λ (l : N ≤ suc n). absurd (d (omega arith))) (which (suc n) N)

magnitude : (z : ℤ) → InRange z → is_lowest z ≡ false → nat_abs z < 2 ^ 127
unfolding is_lowest
magnitude (pos n) h e = h
magnitude (negsuc n) h e = above (2 ^ 127) n h (eqb-false n (2 ^ 127 - 1) e)

-- what holds of either text holds of the text of an integer in range
either : (P : List ℕ → Type 0) (z : ℤ) → InRange z → (z ≡ lowest_integer → P lowest_text) → (nat_abs z < 2 ^ 127 → P (decimal z)) → P (integer_text z)
unfolding integer_text
either P z h f g = pick P (is_lowest z) (λ e. f (lowest_is z e)) (λ e. g (magnitude z h e))

-- an integer's text, before a byte that ends a literal and names no radix, is its token
pub spelt : (c : ℕ) (r : List ℕ) → literal_byte c ≡ false → radix_of 48 c ≡ 10 → (z : ℤ) (p : ℕ) → InRange z
    → lex_in 0 Between (integer_text z ++ (c ∷ r)) p ≡ ok (is (token (int z) p (length (integer_text z))))
spelt c r e f z p h =
    either (λ (t : List ℕ). lex_in 0 Between (t ++ (c ∷ r)) p ≡ ok (is (token (int z) p (length t)))) z h
    (λ q. lowest_spelt c r e p ∙ ap (λ (x : ℤ). ok (is (token (int x) p 34))) (sym q))
    (decimal_spelt c r e f z p)

-- it begins with no `;`, which would open a comment behind `(`
pub starts : (z : ℤ) (r : List ℕ) → InRange z → semicolon (class_of (get_or (integer_text z ++ r) 0 0)) ≡ false
starts z r h = either (λ (t : List ℕ). semicolon (class_of (get_or (t ++ r) 0 0)) ≡ false) z h (λ _. unfold class_of in refl) (decimal_starts z r)
