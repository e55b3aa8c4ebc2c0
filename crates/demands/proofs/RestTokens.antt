-- The tokens of a rest of a source, built up from its end: a blank more in front changes nothing, a token more comes first. Assumes nothing.
use mathlib.Core.Path.{◌≡◌, refl, sym, ap, ◌∙◌}
use mathlib.Core.List.{List, [], ◌∷◌, ◌++◌}
use mathlib.Core.Bool.{true, false}
use Prim.Native.Nat.{ℕ, zero, suc, ◌+◌, ◌-◌, ◌≤◌, ◌<◌}
use native.Mathlib.Omega.{arith}
use lib.IntN.{ℤ}
use lib.ListN.{take, drop, get_or, length, replicate, length-append, length-drop}
use lib.Seq.{take_at}
use borrow.Author.Tests.{le-ltb}
use Rattle.refusals.specs.Numbers.{source_limit}
use Rattle.refusals.specs.Result.{ok}
use Rattle.lists.proofs.Places.{past as drop_past}
use Rattle.lists.proofs.Choice.{and_left, and_right, true_false}
use Rattle.classes.specs.declared.Class.TheVariants.{Other}
use Rattle.classes.specs.Classes.{class_of, semicolon, symbol_first, symbol_other, digit_of, literal_byte}
use Rattle.classes.proofs.Firsts.{first_other}
use Rattle.wide.proofs.Decimals.{integer_low}
use Rattle.wide.specs.Text.{integer_text}
use Rattle.lexer.specs.Tokens.{Kind, lparen, rparen, at_sign as at-token, symbol, int, token, Answer, is}
use Rattle.lexer.specs.Literals.{radix_of}
use Rattle.lexer.specs.Lexing.{Between, skip, symbol_end, lex_in, next_token}
use Rattle.lexer.specs.Streams.{Series, ends, then, onward, tokens_from}
use Rattle.lexer.specs.BareTokens.{Bare, open_paren, close_paren, at_sign, name, number, bare_of, bare_tokens}
use Rattle.table.specs.Trees.{runs_on, is_symbol, InRange}
use Rattle.demands.proofs.HeldTokens.{At, next}
use Rattle.demands.proofs.IntegerTokens.{spelt}

-- what stands behind a tree: a space, LF or `)`, any of which ends a symbol and a literal
pub data Sep : List ℕ → Type 0 where
  space : {r : List ℕ} → Sep (32 ∷ r)
  line : {r : List ℕ} → Sep (10 ∷ r)
  close : {r : List ℕ} → Sep (41 ∷ r)

-- l begins with no `;`: behind `(` it would open a comment
abbrev pub Clear : List ℕ → Type 0
Clear l = semicolon (class_of (get_or l 0 0)) ≡ false

-- ---- one token, by the uncut rules

pub first_byte : (b : ℕ) (n : List ℕ) → is_symbol (b ∷ n) ≡ true → class_of b ≡ Other
unfolding is_symbol
first_byte b n h = first_other (class_of b) (and_left (symbol_first (class_of b)) (runs_on n) h)

symbol_run_lem : (n r : List ℕ) (p : ℕ) → runs_on n ≡ true → Sep r → symbol_end (n ++ r) p ≡ p + length n
unfolding symbol_end class_of runs_on
symbol_run_lem [] r p h space = omega arith
symbol_run_lem [] r p h line = omega arith
symbol_run_lem [] r p h close = omega arith
symbol_run_lem (b ∷ n) r p h k =
    rw (and_left (symbol_other (class_of b)) (runs_on n) h) (symbol_run_lem n r (suc p) (and_right (symbol_other (class_of b)) (runs_on n) h) k ∙ omega arith)

pub symbol_token : (n r : List ℕ) (p : ℕ) → is_symbol n ≡ true → Sep r → lex_in 0 Between (n ++ r) p ≡ ok (is (token symbol p (length n)))
unfolding lex_in skip
symbol_token [] r p h k = unfold is_symbol in true_false (sym h)
symbol_token (b ∷ n) r p h k =
    let e : suc p + length n - p ≡ suc (length n) = omega arith in
    let o : class_of b ≡ Other = first_byte b n h in
    rw (o, symbol_run_lem n r (suc p) (unfold is_symbol in and_right (symbol_first (class_of b)) (runs_on n) h) k, e) refl

pub integer_token : (z : ℤ) (r : List ℕ) (p : ℕ) → InRange z → Sep r → lex_in 0 Between (integer_text z ++ r) p ≡ ok (is (token (int z) p (length (integer_text z))))
unfolding literal_byte digit_of radix_of
integer_token z r p h (space {r = r'}) = spelt 32 r' refl refl z p h
integer_token z r p h (line {r = r'}) = spelt 10 r' refl refl z p h
integer_token z r p h (close {r = r'}) = spelt 41 r' refl refl z p h

open_token : (l : List ℕ) (p : ℕ) → Clear l → lex_in 0 Between (40 ∷ l) p ≡ ok (is (token lparen p 1))
unfolding lex_in skip
open_token l p h = unfold class_of in rw h refl

close_token : (l : List ℕ) (p : ℕ) → lex_in 0 Between (41 ∷ l) p ≡ ok (is (token rparen p 1))
unfolding lex_in skip class_of
close_token l p = refl

at_token_is : (l : List ℕ) (p : ℕ) → lex_in 0 Between (64 ∷ l) p ≡ ok (is (token at-token p 1))
unfolding lex_in skip class_of
at_token_is l p = refl

space_skips : (l : List ℕ) (p : ℕ) → lex_in 0 Between (32 ∷ l) p ≡ lex_in 0 Between l (suc p)
unfolding lex_in skip class_of
space_skips l p = refl

line_skips : (l : List ℕ) (p : ℕ) → lex_in 0 Between (10 ∷ l) p ≡ lex_in 0 Between l (suc p)
unfolding lex_in skip class_of
line_skips l p = refl

-- ---- a rest of a source

-- from wherever l is left of the source, by any number of calls above its length, the tokens are x
pub Gives : List ℕ → Series Bare → List ℕ → Type 0
Gives s x l = (p n : ℕ) → At s p l → length l < n → bare_tokens s (tokens_from n s p) ≡ x

module _ (s : List ℕ) (limit : length s ≤ source_limit) where
  -- in a source within its limit, the next token is that of the rest
  rest_token : (p : ℕ) (l : List ℕ) → At s p l → next_token s p ≡ lex_in 0 Between l p
  unfolding next_token
  rest_token p l e = rw (le-ltb source_limit (length s) limit, le-ltb (length s) p e.bound, e.left) refl

  past : (p : ℕ) (n r : List ℕ) → At s p (n ++ r) → 1 ≤ length n → At s (p + length n) r
  past p n r e h =
      let k : length s - p ≡ length (n ++ r) = sym (length-drop p s) ∙ ap length e.left in
      record { left = drop_past s n r p e.left; bound = omega (arith, length-append n r) }

  -- a token, and what comes after it
  gives_token : (k : Kind) (n r : List ℕ) (x : Bare) (y : Series Bare) → 1 ≤ length n → ((p : ℕ) → lex_in 0 Between (n ++ r) p ≡ ok (is (token k p (length n))))
      → ((p : ℕ) → drop p s ≡ n ++ r → bare_of s p (length n) k ≡ x) → Gives s y r → Gives s (then x y) (n ++ r)
  unfolding Gives bare_tokens tokens_from
  gives_token k n r x y h t i g p zero e f = absurd (omega arith)
  gives_token k n r x y h t i g p (suc m) e f =
      ap (λ (a : Answer). bare_tokens s (onward a (λ u. tokens_from m s (u.start + u.size)))) (rest_token p (n ++ r) e ∙ t p)
      ∙ ap (λ (z : Bare). then z (bare_tokens s (tokens_from m s (p + length n)))) (i p e.left)
      ∙ ap (then x) (g (p + length n) m (past p n r e h) (omega (arith, length-append n r)))

  -- a byte that is skipped between tokens
  gives_skip : (b : ℕ) (l : List ℕ) (y : Series Bare) → ((p : ℕ) → lex_in 0 Between (b ∷ l) p ≡ lex_in 0 Between l (suc p)) → Gives s y l → Gives s y (b ∷ l)
  unfolding Gives tokens_from
  gives_skip b l y t g p zero e f = absurd (omega arith)
  gives_skip b l y t g p (suc m) e f =
      let d : At s (suc p) l = next s p b l e in
      ap (λ (a : Answer). bare_tokens s (onward a (λ u. tokens_from m s (u.start + u.size)))) (rest_token p (b ∷ l) e ∙ t p ∙ sym (rest_token (suc p) l d))
      ∙ g (suc p) (suc m) d (omega arith)

  pub gives_end : Gives s (ends (ok tt)) []
  unfolding Gives bare_tokens tokens_from lex_in
  gives_end p zero e f = absurd (omega arith)
  gives_end p (suc m) e f = ap (λ (a : Answer). bare_tokens s (onward a (λ u. tokens_from m s (u.start + u.size)))) (rest_token p [] e)

  some : (n : List ℕ) → is_symbol n ≡ true → 1 ≤ length n
  some [] h = unfold is_symbol in true_false (sym h)
  some (b ∷ n) h = omega arith

  pub gives_symbol : (n r : List ℕ) (y : Series Bare) → is_symbol n ≡ true → Sep r → Gives s y r → Gives s (then (name n) y) (n ++ r)
  gives_symbol n r y h k g =
      gives_token symbol n r (name n) y (some n h) (λ p. symbol_token n r p h k)
      (λ p e. ap (λ (l : List ℕ). name (take (length n) l)) e ∙ ap name (take_at n r (length n) refl)) g

  pub gives_integer : (z : ℤ) (r : List ℕ) (y : Series Bare) → InRange z → Sep r → Gives s y r → Gives s (then (number z) y) (integer_text z ++ r)
  gives_integer z r y h k g = gives_token (int z) (integer_text z) r (number z) y (integer_low z) (λ p. integer_token z r p h k) (λ p e. refl) g

  pub gives_open : (l : List ℕ) (y : Series Bare) → Clear l → Gives s y l → Gives s (then open_paren y) (40 ∷ l)
  gives_open l y h g = gives_token lparen (40 ∷ []) l open_paren y (omega arith) (λ p. open_token l p h) (λ p e. refl) g

  pub gives_close : (l : List ℕ) (y : Series Bare) → Gives s y l → Gives s (then close_paren y) (41 ∷ l)
  gives_close l y g = gives_token rparen (41 ∷ []) l close_paren y (omega arith) (close_token l) (λ p e. refl) g

  pub gives_at : (l : List ℕ) (y : Series Bare) → Gives s y l → Gives s (then at_sign y) (64 ∷ l)
  gives_at l y g = gives_token at-token (64 ∷ []) l at_sign y (omega arith) (at_token_is l) (λ p e. refl) g

  pub gives_space : (l : List ℕ) (y : Series Bare) → Gives s y l → Gives s y (32 ∷ l)
  gives_space l y g = gives_skip 32 l y (space_skips l) g

  pub gives_line : (l : List ℕ) (y : Series Bare) → Gives s y l → Gives s y (10 ∷ l)
  gives_line l y g = gives_skip 10 l y (line_skips l) g

  pub gives_spaces : (n : ℕ) (l : List ℕ) (y : Series Bare) → Gives s y l → Gives s y (replicate n 32 ++ l)
  gives_spaces zero l y g = g
  gives_spaces (suc n) l y g = gives_space (replicate n 32 ++ l) y (gives_spaces n l y g)

-- the source_gives source
pub source_gives : (s : List ℕ) (x : Series Bare) → Gives s x s → bare_tokens s (tokens_from (suc (length s)) s 0) ≡ x
unfolding Gives
source_gives s x g = g 0 (suc (length s)) (record { left = refl; bound = omega arith }) (omega arith)
