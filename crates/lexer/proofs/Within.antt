-- THEOREMS: a token lies within the source (`within`), and of two integers in a row the second does not follow the first at once in one byte (`apart`).
use Prim.Native.Nat.{ℕ, zero, suc, ◌+◌, ◌-◌, ◌%◌, ◌^◌, ◌≤◌, ◌<◌}
use mathlib.Core.Path.{◌≡◌, refl, sym, ap, subst, ◌∙◌}
use mathlib.Core.List.{List, [], ◌∷◌}
use mathlib.Core.Bool.{Bool, true, false, cond}
use native.Mathlib.Nat.{mod-lt}
use native.Mathlib.Omega.{arith}
use lib.Dec.{eqb, ltb, lit<}
use lib.IntN.{ℤ}
use lib.ListN.{length, get_or, drop, length-drop}
use lib.Seq.{drop-drop}
use mir.Syntax.{w128}
use mir.Val.{SFits, to_z}
use mir.ValLaws.{to_z-Fits}
use borrow.Author.Tests.{ltb-true, ltb-false}
use Rattle.lists.proofs.Places.{next, first}
use Rattle.lists.proofs.Choice.{pick, true_false}
use Rattle.refusals.specs.Numbers.{source_limit, too_long, past_source}
use Rattle.refusals.specs.Result.{ok, refused}
use Rattle.classes.specs.declared.Class.{Class}
use Rattle.classes.specs.declared.Class.TheVariants.{Space, LineEnd, Semicolon, LParen, RParen, AtSign, FormFeed, Minus, Digit, Other}
use Rattle.classes.specs.Classes.{class_of, digit_of, literal_byte, symbol_other}
use Rattle.classes.proofs.Firsts.{digit_literal}
use Rattle.wide.specs.Value.{val, Integer, is as is_integer, none as no_integer, integer_of}
use Rattle.wide.proofs.TwoLimbs.{split_val}
use Rattle.lexer.specs.Tokens.{Kind, lparen, rparen, at_sign, symbol, int, Token, token, past, Answer, end, is}
use Rattle.lexer.specs.Literals.{Reading, Empty, Bad, Number, grow, reading, literal_end, radix_of, signed, concluded, digits_in, unsigned_in}
use Rattle.lexer.proofs.Digits.{of_grow}
use Rattle.lexer.specs.Lexing.{Skip, Between, InLine, InBlock, Skipping, Stop, One, Two, skip, symbol_end, token_in, skipped, lex_in, lex_at, next_token}

-- by the kind of a token that starts at st and has n bytes: one byte; a symbol's run; an integer in range that the next byte does not go on, and that has two
-- bytes if it does not begin with a digit
abbrev pub Shaped : List ℕ → ℕ → ℕ → Kind → Type 0
Shaped s st n lparen = n ≡ 1
Shaped s st n rparen = n ≡ 1
Shaped s st n at_sign = n ≡ 1
Shaped s st n symbol = (class_of (get_or s st 0) ≡ Other) × (st + n ≡ symbol_end (drop (suc st) s) (suc st))
Shaped s st n (int z) = SFits w128 z × (literal_byte (get_or s (st + n) 0) ≡ false) × (n ≡ 1 → class_of (get_or s st 0) ≡ Digit)

-- a token from p on
pub record Lies (s : List ℕ) (p : ℕ) (t : Token) : Type 0 where
  pub from : p ≤ t.start
  pub some : 1 ≤ t.size
  pub to : past t ≤ length s
  pub shaped : Shaped s t.start t.size t.kind

abbrev LiesIn : List ℕ → ℕ → Answer → Type 0
LiesIn s p (ok end) = Unit {0}
LiesIn s p (refused n a) = Unit {0}
LiesIn s p (ok (is t)) = Lies s p t

sooner : (s : List ℕ) (p q : ℕ) (a : Answer) → p ≤ q → LiesIn s q a → LiesIn s p a
sooner s p q (ok end) h l = tt
sooner s p q (refused n a) h l = tt
sooner s p q (ok (is t)) h l = record { from = omega (arith, l.from); some = l.some; to = l.to; shaped = l.shaped }

-- where the rest of a source begins with a byte, it has one
pub inside : (s : List ℕ) (p b : ℕ) (l : List ℕ) → drop p s ≡ b ∷ l → p + suc (length l) ≡ length s
inside s p b l e = let k : length s - p ≡ suc (length l) = sym (length-drop p s) ∙ ap length e in omega arith

pub byte : (s : List ℕ) (p b : ℕ) (l : List ℕ) → drop p s ≡ b ∷ l → get_or s p 0 ≡ b
byte s p b l e = sym (first s p) ∙ ap (λ (r : List ℕ). get_or r 0 0) e

nothing : (s : List ℕ) (p : ℕ) → drop p s ≡ [] → get_or s p 0 ≡ 0
nothing s p e = sym (first s p) ∙ ap (λ (r : List ℕ). get_or r 0 0) e

-- ---- the end of a run of bytes

symbol_within : (s l : List ℕ) (i : ℕ) → drop i s ≡ l → i ≤ length s → (i ≤ symbol_end l i) × (symbol_end l i ≤ length s)
unfolding symbol_end
symbol_within s [] i e h = (omega arith, h)
symbol_within s (b ∷ l) i e h = by (symbol_other (class_of b)) (symbol_within s l (suc i) (next s i b l e) (omega (arith, inside s i b l e)))
  where
    by : (t : Bool) → (suc i ≤ symbol_end l (suc i)) × (symbol_end l (suc i) ≤ length s)
        → (i ≤ cond t (symbol_end l (suc i)) i) × (cond t (symbol_end l (suc i)) i ≤ length s)
    by true k = (omega arith, k.1)
    by false k = (omega arith, h)

-- the byte there is none of a literal
abbrev Ends : List ℕ → ℕ → ℕ → Type 0
Ends s i e = (i ≤ e) × (e ≤ length s) × (literal_byte (get_or s e 0) ≡ false)

literal_within : (s l : List ℕ) (i : ℕ) → drop i s ≡ l → i ≤ length s → Ends s i (literal_end l i)
unfolding literal_end literal_byte digit_of
literal_within s [] i e h = (omega arith, h, ap literal_byte (nothing s i e))
literal_within s (b ∷ l) i e h = by (literal_byte b) refl (literal_within s l (suc i) (next s i b l e) (omega (arith, inside s i b l e)))
  where
    by : (t : Bool) → literal_byte b ≡ t → Ends s (suc i) (literal_end l (suc i)) → Ends s i (cond t (literal_end l (suc i)) i)
    by true f k = (omega arith, k.1, k.2)
    by false f k = (omega arith, h, ap literal_byte (byte s i b l e) ∙ f)

-- a number has a digit
digits_within : (s l : List ℕ) (i r : ℕ) (n : _) → drop i s ≡ l → reading r Empty l i ≡ Number n → Ends s (suc i) (literal_end l i)
unfolding reading literal_end
digits_within s [] i r n e k = let z : ◌≡◌ {A = ℕ} 0 1 = cc in absurd (omega arith)
digits_within s (b ∷ l) i r n e k = by (literal_byte b) k
  where
    by : (t : Bool) → cond t (reading r (grow r Empty b i) l (suc i)) Empty ≡ Number n → Ends s (suc i) (cond t (literal_end l (suc i)) i)
    by false k = let z : ◌≡◌ {A = ℕ} 0 1 = cc in absurd (omega arith)
    by true k = literal_within s l (suc i) (next s i b l e) (omega (arith, inside s i b l e))

-- ---- a number is below 2^128

abbrev Small : Reading → Type 0
Small Empty = Unit {0}
Small (Bad r) = Unit {0}
Small (Number n) = val n < 2 ^ 128

small_grow : (r : ℕ) (x : Reading) (b p : ℕ) → Small x → Small (grow r x b p)
small_grow r x b p h = of_grow Small p (λ v l. subst (λ (m : ℕ). m < 2 ^ 128) (sym (split_val v)) l) tt tt r x b h

small_reading : (r : ℕ) (l : List ℕ) (x : Reading) (i : ℕ) → Small x → Small (reading r x l i)
unfolding reading
small_reading r [] x i h = h
small_reading r (b ∷ l) x i h = pick Small (literal_byte b) (λ e. small_reading r l (grow r x b i) (suc i) (small_grow r x b i h)) (λ e. h)

-- ---- literals

below : (n : ℕ) → n < 2 ^ 128 → SFits w128 (to_z w128 n)
below n h = to_z-Fits w128 n (record { fits = h })

abbrev Ranged : Integer → Type 0
Ranged (is_integer z) = SFits w128 z
Ranged no_integer = Unit {0}

ranged : (minus : Bool) (n : ℕ) → n < 2 ^ 128 → Ranged (integer_of minus n)
unfolding integer_of
ranged false n h = below n h
ranged true n h = pick Ranged (eqb n (2 ^ 127)) (λ e. tt) (λ e. below ((2 ^ 128 - n) % 2 ^ 128) (mod-lt (2 ^ 128 - n) (lit< tt)))

signed_in : (s : List ℕ) (st e : ℕ) (x : Integer) → Ranged x → st < e → Ends s st e → (e ≡ st + 1 → class_of (get_or s st 0) ≡ Digit) → LiesIn s st (signed st e x)
signed_in s st e no_integer f h k d = tt
signed_in s st e (is_integer z) f h k d =
    let j : st + (e - st) ≡ e = omega arith in
    record {
      from = omega arith;
      some = omega arith;
      to = omega arith;
      shaped = (f, ap (λ (i : ℕ). literal_byte (get_or s i 0)) j ∙ k.2, λ g. d (omega arith));
    }

digits_in_lem : (s : List ℕ) (minus : Bool) (st r : ℕ) (l : List ℕ) (i : ℕ) → drop i s ≡ l → st ≤ i → (i ≡ st → class_of (get_or s st 0) ≡ Digit)
    → LiesIn s st (digits_in minus st r l i)
unfolding concluded
digits_in_lem s minus st r l i e h d = by (reading r Empty l i) refl
  where
    by : (x : Reading) → reading r Empty l i ≡ x → LiesIn s st (concluded minus st (literal_end l i) x)
    by Empty k = tt
    by (Bad q) k = tt
    by (Number n) k =
        let w = digits_within s l i r n e k in
        signed_in s st (literal_end l i) (integer_of minus (val n)) (ranged minus (val n) (subst Small k (small_reading r l Empty i tt)))
        (omega arith) (omega arith, w.1, w.2) (λ g. d (omega arith))

unsigned_in_lem : (s : List ℕ) (minus : Bool) (st : ℕ) (l : List ℕ) (i : ℕ) → drop i s ≡ l → st ≤ i → (i ≡ st → class_of (get_or s st 0) ≡ Digit)
    → LiesIn s st (unsigned_in minus st l i)
unfolding unsigned_in
unsigned_in_lem s minus st l i e h d =
    let two : drop (suc (suc i)) s ≡ drop 2 l = ap (λ (k : ℕ). drop k s) (let k : suc (suc i) ≡ i + 2 = omega arith in k) ∙ sym (drop-drop 2 i s) ∙ ap (drop 2) e in
    pick (LiesIn s st) (eqb (radix_of (get_or l 0 0) (get_or l 1 0)) 10) (λ _. digits_in_lem s minus st 10 l i e h d)
    (λ _. digits_in_lem s minus st (radix_of (get_or l 0 0) (get_or l 1 0)) (drop 2 l) (suc (suc i)) two (omega arith) (λ g. absurd (omega arith)))

-- ---- the next token

one_byte : (s : List ℕ) (k : Kind) (i b : ℕ) (l : List ℕ) → drop i s ≡ b ∷ l → Shaped s i 1 k → Lies s i (token k i 1)
one_byte s k i b l e h = record { from = omega arith; some = omega arith; to = omega (arith, inside s i b l e); shaped = h }

token_in_lem : (s : List ℕ) (i b : ℕ) (l : List ℕ) → drop i s ≡ b ∷ l → (c : Class) → class_of b ≡ c → LiesIn s i (token_in c b l i)
token_in_lem s i b l e Space f = tt
token_in_lem s i b l e LineEnd f = tt
token_in_lem s i b l e Semicolon f = tt
token_in_lem s i b l e FormFeed f = tt
token_in_lem s i b l e LParen f = one_byte s lparen i b l e refl
token_in_lem s i b l e RParen f = one_byte s rparen i b l e refl
token_in_lem s i b l e AtSign f = one_byte s at_sign i b l e refl
token_in_lem s i b l e Minus f = unsigned_in_lem s true i l (suc i) (next s i b l e) (omega arith) (λ g. absurd (omega arith))
token_in_lem s i b l e Digit f = unsigned_in_lem s false i (b ∷ l) i e (omega arith) (λ _. ap class_of (byte s i b l e) ∙ f)
token_in_lem s i b l e Other f =
    let w = symbol_within s l (suc i) (next s i b l e) (omega (arith, inside s i b l e)) in
    let j : i + (symbol_end l (suc i) - i) ≡ symbol_end l (suc i) = omega arith in
    record {
      from = omega arith;
      some = omega arith;
      to = omega arith;
      shaped = (ap class_of (byte s i b l e) ∙ f, j ∙ ap (λ (r : List ℕ). symbol_end r (suc i)) (sym (next s i b l e)));
    }

lex_in_lem : (s : List ℕ) (l : List ℕ) (n : ℕ) (m : Skip) (i : ℕ) → drop i s ≡ l → LiesIn s i (lex_in n m l i)
unfolding lex_in
lex_in_lem s [] n Between i e = tt
lex_in_lem s [] n InLine i e = tt
lex_in_lem s [] n (InBlock d p) i e = tt
lex_in_lem s (b ∷ l) (suc n) m i e = sooner s i (suc i) (lex_in n m l (suc i)) (omega arith) (lex_in_lem s l n m (suc i) (next s i b l e))
lex_in_lem s (b ∷ l) zero m i e = by (skip m (class_of b) (class_of (get_or l 0 0)) i) (λ n k. lex_in_lem s l n k (suc i) (next s i b l e))
  where
    by : (x : Skipping) → ((n : ℕ) (k : Skip) → LiesIn s (suc i) (lex_in n k l (suc i)))
        → LiesIn s i (skipped x (token_in (class_of b) b l i) (λ k. lex_in 0 k l (suc i)) (λ k. lex_in 1 k l (suc i)))
    by Stop h = token_in_lem s i b l e (class_of b) refl
    by (One k) h = sooner s i (suc i) (lex_in 0 k l (suc i)) (omega arith) (h 0 k)
    by (Two k) h = sooner s i (suc i) (lex_in 1 k l (suc i)) (omega arith) (h 1 k)

next_in : (s : List ℕ) (p : ℕ) → LiesIn s p (next_token s p)
unfolding next_token
next_in s p =
    pick (LiesIn s p) (ltb source_limit (length s)) (λ _. tt) (λ _. pick (LiesIn s p) (ltb (length s) p) (λ _. tt) (λ _. lex_in_lem s (drop p s) 0 Between p refl))

pub within : (s : List ℕ) (p : ℕ) (t : Token) → next_token s p ≡ ok (is t) → Lies s p t
within s p t e = subst (LiesIn s p) e (next_in s p)

-- a source with a token is not too long, and the place is not past it
pub limited : (s : List ℕ) (p : ℕ) (t : Token) → next_token s p ≡ ok (is t) → length s ≤ source_limit
unfolding next_token
limited s p t e = by (ltb source_limit (length s)) refl e
  where
    by : (b : Bool) → ltb source_limit (length s) ≡ b
        → cond b (refused too_long source_limit) (cond (ltb (length s) p) (refused past_source (length s)) (lex_at s p)) ≡ ok (is t) → length s ≤ source_limit
    by true f k = let z : ◌≡◌ {A = ℕ} 0 1 = cc in absurd (omega arith)
    by false f k = ltb-false source_limit (length s) f

-- ---- two integers in a row

pub apart : (s : List ℕ) (p : ℕ) (t u : Token) (y z : ℤ) → next_token s p ≡ ok (is t) → next_token s (past t) ≡ ok (is u) → t.kind ≡ int y → u.kind ≡ int z
    → past t + 2 ≤ past u
apart s p t u y z e f ky kz = by u.start u.size lu.from lu.some (subst (Shaped s u.start u.size) kz lu.shaped)
  where
    lt : Lies s p t
    lt = within s p t e

    lu : Lies s (past t) u
    lu = within s (past t) u f

    no : literal_byte (get_or s (past t) 0) ≡ false
    no = (subst (Shaped s t.start t.size) ky lt.shaped).1

    alone : (st : ℕ) → st ≡ past t → class_of (get_or s st 0) ≡ Digit → ⊥
    alone st k d = true_false (sym (digit_literal (get_or s st 0) d) ∙ ap (λ (i : ℕ). literal_byte (get_or s i 0)) k ∙ no)

    by : (st n : ℕ) → past t ≤ st → 1 ≤ n → Shaped s st n (int z) → past t + 2 ≤ st + n
    by st zero h k d = absurd (omega arith)
    by st (suc zero) h k d = far (ltb (past t) st) refl
      where
        far : (b : Bool) → ltb (past t) st ≡ b → past t + 2 ≤ st + 1
        far true g = let j = ltb-true (past t) st g in omega arith
        far false g = let j = ltb-false (past t) st g in absurd (alone st (omega arith) (d.2 refl))
    by st (suc (suc n)) h k d = omega arith
