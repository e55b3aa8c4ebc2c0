-- Between tokens at a place of the source, a law for each class of the byte there. Assumes nothing.
use Prim.Native.Nat.{ℕ, zero, suc, ◌+◌, ◌-◌, ◌≤◌, ◌<◌}
use mathlib.Core.Path.{◌≡◌, refl, sym, ap, ◌∙◌}
use mathlib.Core.List.{List, []}
use mathlib.Core.Bool.{Bool, true, false, cond, ◌&&◌}
use native.Mathlib.Numerals.{add-one}
use native.Mathlib.Omega.{arith}
use lib.Dec.{eqb}
use lib.ListN.{length, get_or, drop, drop_of_length-le}
use lib.Seq.{get_or-drop, drop-drop}
use Rattle.lists.proofs.Choice.{true_false}
use Rattle.lists.proofs.Places.{from, first, within}
use Rattle.refusals.specs.Numbers.{form_feed}
use Rattle.refusals.specs.Result.{ok, refused}
use Rattle.classes.specs.declared.Class.{Class}
use Rattle.classes.specs.declared.Class.TheVariants.{Semicolon, LParen, RParen, AtSign, FormFeed, Minus, Digit, Other}
use Rattle.classes.specs.Classes.{class_of, blank, lparen, semicolon, is_at_sign}
use Rattle.classes.proofs.Firsts.{semicolon_is, lparen_is, rparen_is, high_other}
use Rattle.lexer.specs.Tokens.{end, is, token, lparen as open_paren, rparen, at_sign, symbol}
use Rattle.lexer.specs.Literals.{radix_of, digits_in, unsigned_in}
use Rattle.lexer.specs.Lexing.{Between, InLine, InBlock, skip, symbol_end, lex_in, lex_at}
use Rattle.lexer.specs.Gaps.{before, skip_in, skip_at, gap_end}

-- a literal's prefix and digits by the source's places
pub unsigned_placed : (s : List ℕ) (minus : Bool) (st at : ℕ)
    → unsigned_in minus st (drop at s) at
    ≡ cond (eqb (radix_of (get_or s at 0) (get_or s (at + 1) 0)) 10) (digits_in minus st 10 (drop at s) at)
    (digits_in minus st (radix_of (get_or s at 0) (get_or s (at + 1) 0)) (drop (at + 2) s) (at + 2))
unfolding unsigned_in
unsigned_placed s minus st at =
    let two : suc (suc at) ≡ at + 2 = omega arith in
    rw (first s at, get_or-drop at s 1 0, drop-drop 2 at s, two) refl

-- a byte that is no 0 is within
semicolon_some : (b : ℕ) → semicolon (class_of b) ≡ true → 0 < b
unfolding class_of
semicolon_some zero e = true_false (sym e)
semicolon_some (suc b) e = omega arith

pub semicolon_within : (s : List ℕ) (i : ℕ) → semicolon (class_of (get_or s i 0)) ≡ true → i < length s
semicolon_within s i e = within s i (semicolon_some (get_or s i 0) e)

sign_some : (b : ℕ) → is_at_sign (class_of b) ≡ true → 0 < b
unfolding class_of
sign_some zero e = true_false (sym e)
sign_some (suc b) e = omega arith

pub sign_within : (s : List ℕ) (i : ℕ) → is_at_sign (class_of (get_or s i 0)) ≡ true → i < length s
sign_within s i e = within s i (sign_some (get_or s i 0) e)

module _ (s : List ℕ) (i : ℕ) where
  pub lex_past : length s ≤ i → lex_at s i ≡ ok end
  unfolding lex_in
  lex_past h = rw (drop_of_length-le s h)

  pub skip_past : length s ≤ i → skip_at s i ≡ before [] i
  unfolding skip_in
  skip_past h = rw (drop_of_length-le s h)

  module _ (h : i < length s) where
    -- blanks and comments
    pub skip_blank : blank (class_of (get_or s i 0)) ≡ true → skip_at s i ≡ skip_at s (i + 1)
    unfolding skip_in skip
    skip_blank e = rw (from s i h, e) (ap (skip_in 0 Between (drop (i + 1) s)) (sym (add-one i)))

    pub skip_semicolon : class_of (get_or s i 0) ≡ Semicolon → skip_at s i ≡ skip_in 0 InLine (drop (i + 1) s) (i + 1)
    unfolding skip_in skip
    skip_semicolon e = rw (from s i h, e) (ap (skip_in 0 InLine (drop (i + 1) s)) (sym (add-one i)))

    pub skip_block : class_of (get_or s i 0) ≡ LParen → i + 1 < length s → semicolon (class_of (get_or s (i + 1) 0)) ≡ true
        → skip_at s i ≡ skip_in 0 (InBlock 1 i) (drop (i + 2) s) (i + 2)
    unfolding skip_in skip
    skip_block e k f =
        let two : i + 1 + 1 ≡ i + 2 = omega arith in
        let places : suc (suc i) ≡ i + 2 = omega arith in
        rw (← two, from s i h, skip_in, e, first s (i + 1), f, from s (i + 1) k) (ap (skip_in 0 (InBlock 1 i) (drop (i + 1 + 1) s)) (places ∙ sym two))

    -- any other byte is what comes next
    pub skip_stop : (c : Class) → class_of (get_or s i 0) ≡ c → blank c ≡ false → semicolon c ≡ false → (lparen c && semicolon (class_of (get_or s (i + 1) 0))) ≡ false
        → gap_end s i ≡ i
    unfolding skip_in skip
    skip_stop c e f g k = rw (from s i h, skip_in, e, first s (i + 1), f, g, k) refl

    pub lex_lparen : class_of (get_or s i 0) ≡ LParen → semicolon (class_of (get_or s (i + 1) 0)) ≡ false → lex_at s i ≡ ok (is (token open_paren i 1))
    unfolding lex_in skip
    lex_lparen e f = rw (from s i h, lex_in, e, first s (i + 1), f) refl

    pub lex_rparen : class_of (get_or s i 0) ≡ RParen → lex_at s i ≡ ok (is (token rparen i 1))
    unfolding lex_in skip
    lex_rparen e = rw (from s i h, e) refl

    pub lex_at_sign : class_of (get_or s i 0) ≡ AtSign → lex_at s i ≡ ok (is (token at_sign i 1))
    unfolding lex_in skip
    lex_at_sign e = rw (from s i h, e) refl

    pub lex_form_feed : class_of (get_or s i 0) ≡ FormFeed → lex_at s i ≡ refused form_feed i
    unfolding lex_in skip
    lex_form_feed e = rw (from s i h, e) refl

    pub lex_minus : class_of (get_or s i 0) ≡ Minus → lex_at s i ≡ unsigned_in true i (drop (i + 1) s) (i + 1)
    unfolding lex_in skip
    lex_minus e = rw (from s i h, e) (ap (unsigned_in true i (drop (i + 1) s)) (sym (add-one i)))

    pub lex_digit : class_of (get_or s i 0) ≡ Digit → lex_at s i ≡ unsigned_in false i (drop i s) i
    unfolding lex_in skip
    lex_digit e = rw (from s i h, e) refl

    pub lex_other : class_of (get_or s i 0) ≡ Other → lex_at s i ≡ ok (is (token symbol i (symbol_end (drop (i + 1) s) (i + 1) - i)))
    unfolding lex_in skip
    lex_other e = rw (from s i h, e) (ap (λ (p : ℕ). ok (is (token symbol i (symbol_end (drop (i + 1) s) p - i)))) (sym (add-one i)))

-- the class that a test of a byte tells
pub ruleset told = (semicolon_is, lparen_is, rparen_is, high_other)

-- each outcome of a turn, for a loop over blanks and comments; and what comes next, by the class of its first byte
pub ruleset skips = (semicolon_within, skip_past, skip_blank, skip_semicolon, skip_block, skip_stop)

pub ruleset nexts = (lex_past, lex_lparen, lex_rparen, lex_at_sign, lex_form_feed, lex_minus, lex_digit, lex_other)
