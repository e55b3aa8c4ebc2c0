-- The symbol, blank and literal rules for each byte, by one computed test over all 256: the number in the table tells the class and whether a literal goes on, and
-- each test by comparisons answers as the class does. Assumes nothing.
use Rattle.std.proofs.Common.{◌≡◌, ℕ, ◌<◌, Bool, true, cond, not, ◌&&◌, ◌||◌, eqb, ltb, leb, List, [], ◌∷◌, sym, refl, ap, ◌∙◌, eqb-true}
use Rattle.lists.proofs.Choice.{and_left, and_right}
use Rattle.lists.proofs.Each.{each, same, same_eq}
use Rattle.classes.specs.Classes.{Class, Space, LineEnd, Semicolon, LParen, RParen, AtSign, FormFeed, Minus, Digit, Other, class_of, space, blank, line_end, semicolon, lparen, rparen, is_at_sign, decimal, symbol_first, symbol_other, digit_of, literal_byte}
use Rattle.classes.specs.Numbers.{numbered, number_of, named}

-- a byte by comparisons, in the order of the classes
abbrev blank_by : ℕ → Bool
blank_by b = eqb b 32 || eqb b 9 || eqb b 10 || eqb b 13

abbrev goes_on_by : ℕ → Bool
goes_on_by b = not (eqb b 9 || eqb b 10 || eqb b 12 || eqb b 13 || eqb b 32 || eqb b 40 || eqb b 41 || eqb b 59 || eqb b 64)

abbrev begins_by : ℕ → Bool
begins_by b = cond (ltb 64 b) true (symbol_other (class_of b) && not (eqb b 45 || (leb 48 b && leb b 57)))

-- answers that are to be one, in pairs
unfoldable all_same : List (Bool × Bool) → Bool
all_same [] = true
all_same (x ∷ xs) = same x.0 x.1 && all_same xs

-- what the number in the table tells, and what the comparisons tell, beside the rules
abbrev asked : ℕ → List (Bool × Bool)
asked b =
    (eqb (numbered (named (number_of b))) (numbered (class_of b)), true)
    ∷ (leb (number_of b) 1, blank (class_of b))
    ∷ (leb 9 (number_of b), symbol_first (class_of b))
    ∷ (leb 7 (number_of b), symbol_other (class_of b))
    ∷ (eqb (number_of b) 8 || eqb (number_of b) 10, literal_byte b)
    ∷ (eqb b 9 || eqb b 32, space (class_of b))
    ∷ (blank_by b, blank (class_of b))
    ∷ (eqb b 10 || eqb b 13, line_end (class_of b))
    ∷ (eqb b 59, semicolon (class_of b))
    ∷ (eqb b 40, lparen (class_of b))
    ∷ (eqb b 41, rparen (class_of b))
    ∷ (eqb b 64, is_at_sign (class_of b))
    ∷ (leb 48 b && leb b 57, decimal (class_of b))
    ∷ (begins_by b, symbol_first (class_of b))
    ∷ (goes_on_by b, symbol_other (class_of b))
    ∷ []

-- the one computed test
rules : (b : ℕ) → b < 256 → all_same (asked b) ≡ true
unfolding class_of digit_of literal_byte number_of named all_same
rules b h = each (λ b. all_same (asked b)) refl b h

-- the first pair, and the rest
one : (x y : Bool) (xs : List (Bool × Bool)) → all_same ((x, y) ∷ xs) ≡ true → x ≡ y
unfolding all_same
one x y xs e = same_eq x y (and_left (same x y) (all_same xs) e)

on : (x : Bool × Bool) (xs : List (Bool × Bool)) → all_same (x ∷ xs) ≡ true → all_same xs ≡ true
unfolding all_same
on x xs e = and_right (same x.0 x.1) (all_same xs) e

-- the rules one by one
pub record Rules (b : ℕ) : Type 0 where
  pub class : named (number_of b) ≡ class_of b
  pub number_blank : leb (number_of b) 1 ≡ blank (class_of b)
  pub number_begins : leb 9 (number_of b) ≡ symbol_first (class_of b)
  pub number_goes_on : leb 7 (number_of b) ≡ symbol_other (class_of b)
  pub number_literal : (eqb (number_of b) 8 || eqb (number_of b) 10) ≡ literal_byte b
  pub space_is : (eqb b 9 || eqb b 32) ≡ space (class_of b)
  pub blank_is : blank_by b ≡ blank (class_of b)
  pub line_end_is : (eqb b 10 || eqb b 13) ≡ line_end (class_of b)
  pub semicolon_is : eqb b 59 ≡ semicolon (class_of b)
  pub lparen_is : eqb b 40 ≡ lparen (class_of b)
  pub rparen_is : eqb b 41 ≡ rparen (class_of b)
  pub at_sign_is : eqb b 64 ≡ is_at_sign (class_of b)
  pub decimal_is : (leb 48 b && leb b 57) ≡ decimal (class_of b)
  pub begins_is : begins_by b ≡ symbol_first (class_of b)
  pub goes_on_is : goes_on_by b ≡ symbol_other (class_of b)

named_numbered : (c : Class) → named (numbered c) ≡ c
unfolding named
named_numbered c =
    elim c as (λ k. named (numbered k) ≡ k) [ Space ↦ refl | LineEnd ↦ refl | Semicolon ↦ refl | LParen ↦ refl | RParen ↦ refl | AtSign ↦ refl | FormFeed ↦ refl | Minus ↦ refl | Digit ↦ refl | Other ↦ refl ]

pub rules_of : (b : ℕ) → b < 256 → Rules b
rules_of b h =
    let r0 = rules b h in
    let r1 = on _ _ r0 in
    let r2 = on _ _ r1 in
    let r3 = on _ _ r2 in
    let r4 = on _ _ r3 in
    let r5 = on _ _ r4 in
    let r6 = on _ _ r5 in
    let r7 = on _ _ r6 in
    let r8 = on _ _ r7 in
    let r9 = on _ _ r8 in
    let r10 = on _ _ r9 in
    let r11 = on _ _ r10 in
    let r12 = on _ _ r11 in
    let r13 = on _ _ r12 in
    let r14 = on _ _ r13 in
    let e : numbered (named (number_of b)) ≡ numbered (class_of b) = eqb-true _ _ (one _ _ _ r0) in
    record {
      class = sym (named_numbered (named (number_of b))) ∙ ap named e ∙ named_numbered (class_of b);
      number_blank = one _ _ _ r1;
      number_begins = one _ _ _ r2;
      number_goes_on = one _ _ _ r3;
      number_literal = one _ _ _ r4;
      space_is = one _ _ _ r5;
      blank_is = one _ _ _ r6;
      line_end_is = one _ _ _ r7;
      semicolon_is = one _ _ _ r8;
      lparen_is = one _ _ _ r9;
      rparen_is = one _ _ _ r10;
      at_sign_is = one _ _ _ r11;
      decimal_is = one _ _ _ r12;
      begins_is = one _ _ _ r13;
      goes_on_is = one _ _ _ r14;
    }
