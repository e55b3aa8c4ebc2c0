-- A class by a question that it alone answers yes, and the first byte of a literal. Assumes nothing.
use Rattle.std.proofs.Common.{◌≡◌, ℕ, ◌-◌, ◌<◌, ◌≤◌, true, false, not, ◌&&◌, ◌||◌, eqb, leb, sym, refl, arith, le-leb, leb-true}
use Rattle.lists.proofs.Choice.{pick, and_right, or_right, true_false}
use Rattle.lists.proofs.Each.{each}
use Rattle.classes.specs.Classes.{Class, Space, LineEnd, Semicolon, LParen, RParen, AtSign, FormFeed, Minus, Digit, Other, class_of, semicolon, lparen, rparen, is_at_sign, symbol_first, high, digit_of, literal_byte}

-- what a question that one class alone answers yes tells of a class
no : {P : Type 0} → false ≡ true → P
no e = true_false (sym e)

pub semicolon_is : (c : Class) → semicolon c ≡ true → c ≡ Semicolon
semicolon_is c =
    elim c as (λ k. semicolon k ≡ true → k ≡ Semicolon) [ Space ↦ no | LineEnd ↦ no | Semicolon ↦ λ _. refl | LParen ↦ no | RParen ↦ no | AtSign ↦ no | FormFeed ↦ no | Minus ↦ no | Digit ↦ no | Other ↦ no ]

pub lparen_is : (c : Class) → lparen c ≡ true → c ≡ LParen
lparen_is c =
    elim c as (λ k. lparen k ≡ true → k ≡ LParen) [ Space ↦ no | LineEnd ↦ no | Semicolon ↦ no | LParen ↦ λ _. refl | RParen ↦ no | AtSign ↦ no | FormFeed ↦ no | Minus ↦ no | Digit ↦ no | Other ↦ no ]

pub rparen_is : (c : Class) → rparen c ≡ true → c ≡ RParen
rparen_is c =
    elim c as (λ k. rparen k ≡ true → k ≡ RParen) [ Space ↦ no | LineEnd ↦ no | Semicolon ↦ no | LParen ↦ no | RParen ↦ λ _. refl | AtSign ↦ no | FormFeed ↦ no | Minus ↦ no | Digit ↦ no | Other ↦ no ]

pub at_sign_is : (c : Class) → is_at_sign c ≡ true → c ≡ AtSign
at_sign_is c =
    elim c as (λ k. is_at_sign k ≡ true → k ≡ AtSign) [ Space ↦ no | LineEnd ↦ no | Semicolon ↦ no | LParen ↦ no | RParen ↦ no | AtSign ↦ λ _. refl | FormFeed ↦ no | Minus ↦ no | Digit ↦ no | Other ↦ no ]

pub first_other : (c : Class) → symbol_first c ≡ true → c ≡ Other
first_other c =
    elim c as (λ k. symbol_first k ≡ true → k ≡ Other) [ Space ↦ no | LineEnd ↦ no | Semicolon ↦ no | LParen ↦ no | RParen ↦ no | AtSign ↦ no | FormFeed ↦ no | Minus ↦ no | Digit ↦ no | Other ↦ λ _. refl ]

-- a byte above `@` begins a symbol, by one computed test over every byte
high_first : (b : ℕ) → b < 256 → (not (high b) || symbol_first (class_of b)) ≡ true
unfolding class_of
high_first b h = each (λ b. not (high b) || symbol_first (class_of b)) refl b h

pub high_other : (b : ℕ) → b < 256 → high b ≡ true → class_of b ≡ Other
high_other b h e = let f : symbol_first (class_of b) ≡ true = rw e at (high_first b h) in first_other (class_of b) f

decimal_literal : (b : ℕ) → (leb 48 b && leb b 57) ≡ true → literal_byte b ≡ true
unfolding literal_byte digit_of
decimal_literal b e =
    let h : b ≤ 57 = leb-true b 57 (and_right (leb 48 b) (leb b 57) e) in
    let k : leb (b - 48) 15 ≡ true = le-leb (b - 48) 15 (omega arith) in
    rw (e, k) (or_right (eqb b 95))

pub digit_literal : (b : ℕ) → class_of b ≡ Digit → literal_byte b ≡ true
unfolding class_of
digit_literal b =
    let P : Class → Type 0 = λ c. c ≡ Digit → literal_byte b ≡ true in
    pick P (eqb b 32 || eqb b 9) (λ _ f. cc)
    (λ _. pick P (eqb b 10 || eqb b 13) (λ _ f. cc)
    (λ _. pick P (eqb b 59) (λ _ f. cc)
    (λ _. pick P (eqb b 40) (λ _ f. cc)
    (λ _. pick P (eqb b 41) (λ _ f. cc)
    (λ _. pick P (eqb b 64) (λ _ f. cc)
    (λ _. pick P (eqb b 12) (λ _ f. cc)
    (λ _. pick P (eqb b 45) (λ _ f. cc)
    (λ _. pick P (leb 48 b && leb b 57) (λ e f. decimal_literal b e) (λ _ f. cc)))))))))
