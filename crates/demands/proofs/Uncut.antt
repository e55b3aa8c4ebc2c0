-- The machine hands out the tokens of the uncut source. Assumes nothing.
use mathlib.Core.Path.{◌≡◌, refl, sym, ap, ◌∙◌, subst}
use mathlib.Core.List.{List, [], ◌∷◌}
use mathlib.Core.Bool.{Bool, true, false, cond}
use Prim.Native.Nat.{ℕ, zero, suc, ◌+◌, ◌-◌, ◌≤◌, ◌<◌}
use native.Mathlib.Omega.{arith}
use native.Mathlib.Numerals.{add-one}
use lib.Dec.{leb}
use lib.ListN.{drop, get_or, length, drop_of_length-le}
use borrow.Author.Tests.{lt-ltb, le-ltb}
use Rattle.refusals.specs.Numbers.{source_limit}
use Rattle.refusals.specs.Result.{ok, refused}
use Rattle.classes.specs.declared.Class.{Class}
use Rattle.classes.specs.declared.Class.TheVariants.{Space, LineEnd, Semicolon, LParen, RParen, AtSign, FormFeed, Minus, Digit, Other}
use Rattle.classes.specs.Classes.{class_of, line_end, semicolon, rparen}
use Rattle.classes.proofs.Firsts.{digit_literal}
use Rattle.lexer.specs.Tokens.{Token, token, past, lparen as open_paren, rparen as close_paren, at_sign, Answer, end, is}
use Rattle.lexer.specs.Lexing.{Skip, Between, InLine, InBlock, Stop, One, Two, leave, skip, skipped, token_in, lex_in, lex_at, next_token}
use Rattle.lexer.specs.Streams.{Stream, then, onward, tokens_from}
use Rattle.feeder.specs.declared.Mode.TheVariants.{Blank, Line, Opener, Block}
use Rattle.feeder.specs.declared.Half.TheVariants.{Clear, Semi, Paren}
use Rattle.feeder.specs.Machine.{closing, Go, Stay, half, out, deeper, in_blank, turn}
use Rattle.demands.proofs.Events.{events}
use Rattle.demands.proofs.HeldTokens.{At, inside, next, After, weaken, over, Ends, stays, lasts, in_symbol, begins, after_sign}

-- the limit of the depth is not felt below the source's limit
depth_on : (d : ℕ) → d < source_limit → deeper d ≡ d + 1
depth_on d h = rw (lt-ltb d source_limit h) refl

-- the answer at a byte of class c before l, where nothing is held but blanks and comments
abbrev pending : Skip → Class → Answer → List ℕ → ℕ → Answer
pending m c here l p = skipped (skip m c (class_of (get_or l 0 0)) p) here (λ k. lex_in 0 k l (suc p)) (λ k. lex_in 1 k l (suc p))

-- what holds wherever l is left; no more comments are open than bytes were passed. A first half of `(;` or `;)` was passed by the
-- machine, and not yet by the lexer, which looks ahead
record Skips (s l : List ℕ) : Type 0 where
  blank : (p : ℕ) → At s p l → After s p (lex_in 0 Between l p) (events Blank p l)
  line : (p : ℕ) → At s p l → After s p (lex_in 0 InLine l p) (events Line p l)
  block : (st d p : ℕ) → d ≤ p → At s p l → After s p (lex_in 0 (InBlock d st) l p) (events (Block st d Clear) p l)
  semi : (st d p : ℕ) (x : Answer) → d ≤ p → At s (suc p) l → After s (suc p) (pending (InBlock d st) Semicolon x l p) (events (Block st d Semi) (suc p) l)
  paren : (st d p : ℕ) (x : Answer) → d ≤ p → At s (suc p) l → After s (suc p) (pending (InBlock d st) LParen x l p) (events (Block st d Paren) (suc p) l)
  opener : (p : ℕ) → At s (suc p) l → After s (suc p) (pending Between LParen (ok (is (token open_paren p 1))) l p) (events (Opener p) (suc p) l)

skips_end : (s : List ℕ) → Skips s []
unfolding events closing lex_in skip class_of After Ends
skips_end s = record {
  blank = λ p e. refl;
  line = λ p e. refl;
  block = λ st d p h e. refl;
  semi = λ st d p x h e. refl;
  paren = λ st d p x h e. refl;
  opener = λ p e. lasts s (suc p) (ok (is (token open_paren p 1))) (add-one p) e;
}

module _ (s : List ℕ) (small : length s ≤ source_limit) where
  module _ (l : List ℕ) (ih : Skips s l) (b p : ℕ) (e : At s p (b ∷ l)) where
    rest : At s (suc p) l
    rest = next s p b l e

    line_on : (t : Bool) (x : Answer) → After s (suc p) (skipped (cond t (One Between) (One InLine)) x (λ k. lex_in 0 k l (suc p)) (λ k. lex_in 1 k l (suc p))) (events (cond t Blank Line) (suc p) l)
    line_on true x = ih.blank (suc p) rest
    line_on false x = ih.line (suc p) rest

    block_on : (st d : ℕ) → d ≤ p → (c : Class) (x : Answer) → After s (suc p) (pending (InBlock d st) c x l p) (events (Block st d (half c)) (suc p) l)
    unfolding skip
    block_on st d h Semicolon x = ih.semi st d p x h rest
    block_on st d h LParen x = ih.paren st d p x h rest
    block_on st d h LineEnd x = ih.block st d (suc p) (omega arith) rest
    block_on st d h Space x = ih.block st d (suc p) (omega arith) rest
    block_on st d h RParen x = ih.block st d (suc p) (omega arith) rest
    block_on st d h AtSign x = ih.block st d (suc p) (omega arith) rest
    block_on st d h FormFeed x = ih.block st d (suc p) (omega arith) rest
    block_on st d h Minus x = ih.block st d (suc p) (omega arith) rest
    block_on st d h Digit x = ih.block st d (suc p) (omega arith) rest
    block_on st d h Other x = ih.block st d (suc p) (omega arith) rest

    blank_on : (c : Class) → class_of b ≡ c → After s (suc p) (pending Between c (token_in c b l p) l p) (over (in_blank c p b) p b l)
    unfolding skip After
    blank_on Space f = ih.blank (suc p) rest
    blank_on LineEnd f = ih.blank (suc p) rest
    blank_on Semicolon f = ih.line (suc p) rest
    blank_on LParen f = ih.opener p rest
    blank_on RParen f = (omega arith, omega (arith, rest.bound), rw add-one (ap (λ (r : List ℕ). then (token close_paren p 1) (events Blank (suc p) r)) (sym rest.left)))
    blank_on AtSign f = (omega arith, omega (arith, rest.bound), rw add-one (ap (λ (r : List ℕ). then (token at_sign p 1) (events Blank (suc p) r)) (sym rest.left)))
    blank_on FormFeed f = refl
    blank_on Minus f = after_sign s p l (suc p) (omega arith) rest
    blank_on Digit f = begins s p false b l p (omega arith) rest (digit_literal b f)
    blank_on Other f = in_symbol s p l (suc p) (omega arith) rest

    leave_on : (st d : ℕ) → d ≤ p → (t : Bool) → After s (suc p) (lex_in 0 (cond t Between (InBlock d st)) l (suc p)) (events (cond t Blank (Block st d Clear)) (suc p) l)
    leave_on st d h true = ih.blank (suc p) rest
    leave_on st d h false = ih.block st d (suc p) (omega arith) rest

    -- the byte after a `;` or a `(` in a block comment, and after a `(` outside
    semi_on : (st d : ℕ) → d ≤ p → (t : Bool) (x : Answer)
        → After s (suc p) (skipped (cond t (Two (leave d st)) (One (InBlock d st))) x (λ k. lex_in 0 k (b ∷ l) p) (λ k. lex_in 1 k (b ∷ l) p)) (events (cond t (out st d) (Block st d (half (class_of b)))) (suc p) l)
    unfolding lex_in
    semi_on st d h true x = leave_on st (d - 1) (omega arith) (leb d 1)
    semi_on st d h false x = block_on st d h (class_of b) _

    paren_on : (st d : ℕ) → d ≤ p → (t : Bool) (x : Answer)
        → After s (suc p) (skipped (cond t (Two (InBlock (d + 1) st)) (One (InBlock d st))) x (λ k. lex_in 0 k (b ∷ l) p) (λ k. lex_in 1 k (b ∷ l) p)) (events (cond t (Block st (deeper d) Clear) (Block st d (half (class_of b)))) (suc p) l)
    unfolding lex_in
    paren_on st d h true x = rw (depth_on d (omega (arith, rest.bound))) (ih.block st (d + 1) (suc p) (omega arith) rest)
    paren_on st d h false x = block_on st d h (class_of b) _

  opener_on : (l : List ℕ) → Skips s l → (b p : ℕ) → At s (suc p) (b ∷ l) → (t : Bool)
      → After s (suc p) (skipped (cond t (Two (InBlock 1 p)) Stop) (ok (is (token open_paren p 1))) (λ k. lex_in 0 k (b ∷ l) (suc p)) (λ k. lex_in 1 k (b ∷ l) (suc p))) (over (cond t (ok (Go (Block p 1 Clear))) (ok (Stay (token open_paren p 1)))) (suc p) b l)
  unfolding lex_in Ends
  opener_on l ih b p e true = weaken s (suc p) _ _ (ih.block p 1 (suc (suc p)) (omega arith) (next s (suc p) b l e))
  opener_on l ih b p e false = stays s (suc p) (ok (is (token open_paren p 1))) b l (add-one p) e

  skips_on : (l : List ℕ) → Skips s l → (b : ℕ) → Skips s (b ∷ l)
  unfolding events turn lex_in skip
  skips_on l ih b = record {
    blank = λ p e. weaken s p _ _ (blank_on l ih b p e (class_of b) refl);
    line = λ p e. weaken s p _ _ (line_on l ih b p e (line_end (class_of b)) (token_in (class_of b) b l p));
    block = λ st d p h e. weaken s p _ _ (block_on l ih b p e st d h (class_of b) (token_in (class_of b) b l p));
    semi = λ st d p x h e. weaken s (suc p) _ _ (semi_on l ih b (suc p) e st d (omega arith) (rparen (class_of b)) x);
    paren = λ st d p x h e. weaken s (suc p) _ _ (paren_on l ih b (suc p) e st d (omega arith) (semicolon (class_of b)) x);
    opener = λ p e. opener_on l ih b p e (semicolon (class_of b));
  }

  skips : (l : List ℕ) → Skips s l
  skips [] = skips_end s
  skips (b ∷ l) = skips_on l (skips l) b

  -- from any place on, between tokens, the machine hands out what uncut lexing gives there, and goes on from that token's end, past a byte at least
  pub strict : (l : List ℕ) (p : ℕ) → At s p l → After s (suc p) (lex_in 0 Between l p) (events Blank p l)
  unfolding events turn lex_in closing After
  strict [] p e = refl
  strict (b ∷ l) p e = blank_on l (skips l) b p e (class_of b) refl

  -- so a token that the uncut rule gives at a place is handed out there
  pub first_token : (l : List ℕ) (p : ℕ) (t : Token) → drop p s ≡ l → lex_in 0 Between l p ≡ ok (is t) → events Blank p l ≡ then t (events Blank (past t) (drop (past t) s))
  unfolding After lex_in
  first_token [] p t e f = let z : ◌≡◌ {A = ℕ} 0 1 = cc in absurd (omega arith)
  first_token (b ∷ l) p t e f =
      let k : p < length s = inside s p b l e in
      (subst (λ (a : Answer). After s (suc p) a (events Blank p (b ∷ l))) f (strict (b ∷ l) p (record { left = e; bound = omega arith }))).2

  -- within the source 1 and 2 are not given
  pub next_is : (p : ℕ) → p ≤ length s → next_token s p ≡ lex_at s p
  unfolding next_token
  next_is p h = rw (le-ltb source_limit (length s) small, le-ltb (length s) p h) refl

  all_on : (p n : ℕ) (a : Answer) (x : Stream) → After s (suc p) a x
      → ((q : ℕ) → suc p ≤ q → q ≤ length s → events Blank q (drop q s) ≡ tokens_from n s q) → x ≡ onward a (λ t. tokens_from n s (past t))
  unfolding After
  all_on p n (ok end) x h ih = h
  all_on p n (refused k a) x h ih = h
  all_on p n (ok (is t)) x h ih = h.2 ∙ ap (then t) (ih (past t) h.0 h.1)

  -- THEOREM uncut: from any place on, the machine, fed to the end and closed, hands out the uncut source's tokens and its refusal or end
  pub uncut : (n p : ℕ) → p ≤ length s → length s ≤ n + p → events Blank p (drop p s) ≡ tokens_from (suc n) s p
  unfolding tokens_from events closing lex_in
  uncut zero p h k = rw (next_is p h) (let j : length s ≤ p = omega arith in rw (drop_of_length-le s j) refl)
  uncut (suc n) p h k =
      rw (next_is p h) (all_on p (suc n) (lex_at s p) _ (strict (drop p s) p (record { left = refl; bound = h })) (λ q i j. uncut n q j (omega arith)))
