-- A token seen at a glance is what a call hands out that begins outside of tokens and comments: a law for each way to see one. Assumes nothing.
use Prim.Native.Nat.{ℕ, zero, suc, ◌+◌, ◌-◌, ◌≤◌, ◌<◌}
use mathlib.Core.Path.{◌≡◌, refl, sym, ap, subst, ◌∙◌}
use mathlib.Core.List.{List}
use mathlib.Core.Bool.{Bool, true, false, not, ◌||◌}
use native.Mathlib.Omega.{arith}
use lib.ListN.{length, get_or}
use Rattle.std.specs.Prelude.{Option, Some, None, position}
use Rattle.std.proofs.lemmas.List.Quantifiers.{position-Some}
use Rattle.lists.proofs.Choice.{true_false}
use Rattle.refusals.specs.Numbers.{source_limit}
use Rattle.refusals.specs.Result.{ok}
use Rattle.classes.specs.declared.Class.{Class}
use Rattle.classes.specs.declared.Class.TheVariants.{Space, LineEnd, Semicolon, LParen, RParen, AtSign, FormFeed, Minus, Digit, Other}
use Rattle.classes.specs.Classes.{class_of, blank, semicolon, lparen, rparen, is_at_sign, high}
use Rattle.classes.proofs.Firsts.{lparen_is, rparen_is, at_sign_is, high_other}
use Rattle.lexer.specs.declared.Token.{Token as CodeToken}
use Rattle.lexer.specs.declared.Token.TheVariants as code
use Rattle.lexer.specs.Tokens.{token, token_of, lparen as open_paren}
use Rattle.feeder.specs.Machine.{Mode, Blank, Opener, Symbol, Go, Take, in_blank, turn}
use Rattle.feeder.specs.PrivateRuns.{call, moved, token_by, Ran, Shown}
use Rattle.feeder.specs.declared.glance.Seen.{Seen}
use Rattle.feeder.specs.declared.runs.Moved.TheVariants.{Give}
use Rattle.feeder.proofs.Calls.{call_go, call_stay, call_take}

-- the token of `(`, and of a byte that begins a symbol
paren_token : (b n : ℕ) → class_of b ≡ LParen → token_by b n ≡ code.LParen
paren_token b n e = rw e refl

symbol_token : (b n : ℕ) → class_of b ≡ Other → token_by b n ≡ code.Symbol n
symbol_token b n e = rw e refl

-- what a blank, `)` and `@` do outside of tokens and comments
blank_goes : (c : Class) (p b : ℕ) → blank c ≡ true → in_blank c p b ≡ ok (Go Blank)
blank_goes Space p b e = refl
blank_goes LineEnd p b e = refl
blank_goes Semicolon p b e = true_false (sym e)
blank_goes LParen p b e = true_false (sym e)
blank_goes RParen p b e = true_false (sym e)
blank_goes AtSign p b e = true_false (sym e)
blank_goes FormFeed p b e = true_false (sym e)
blank_goes Minus p b e = true_false (sym e)
blank_goes Digit p b e = true_false (sym e)
blank_goes Other p b e = true_false (sym e)

takes : (b n p : ℕ) → (rparen (class_of b) || is_at_sign (class_of b)) ≡ true → in_blank (class_of b) p b ≡ ok (Take (token_of (token_by b n) p))
takes b n p = by (rparen (class_of b)) refl
  where
    by : (t : Bool) → rparen (class_of b) ≡ t → (t || is_at_sign (class_of b)) ≡ true → in_blank (class_of b) p b ≡ ok (Take (token_of (token_by b n) p))
    by true f e = rw (rparen_is (class_of b) f) refl
    by false f e = rw (at_sign_is (class_of b) e) refl

-- no blank
abbrev mark : ℕ → Bool
mark b = not (blank (class_of b))

-- up to the first byte that is no blank there are blanks alone
module _ (q : List ℕ) (j : ℕ) (f : position mark q ≡ Some j) where
  pub within : j < length q
  within = (position-Some mark q j 0 f).0

  blank_at : (n : ℕ) → n < j → blank (class_of (get_or q n 0)) ≡ true
  blank_at n l = unmarked (blank (class_of (get_or q n 0))) ((position-Some mark q j 0 f).2 n l)
    where
      unmarked : (t : Bool) → not t ≡ false → t ≡ true
      unmarked true e = refl
      unmarked false e = true_false e

  passed : (p : ℕ) → p + length q ≤ source_limit → (n : ℕ) → n ≤ j → call q p n Blank ≡ call q p 0 Blank
  unfolding turn
  passed p l zero h = refl
  passed p l (suc n) h =
      let e : n + 1 ≡ suc n = omega arith in
      let b = get_or q n 0 in
      ap (λ (u : ℕ). call q p u Blank) (sym e) ∙ sym (call_go q p n Blank (omega (arith, within)) (omega (arith, within)) Blank (blank_goes (class_of b) (p + n) b (blank_at n (omega arith)))) ∙ passed p l n (omega arith)

  pub kept : (p : ℕ) → p + length q ≤ source_limit → call q p j Blank ≡ call q p 0 Blank
  kept p l = passed p l j (omega arith)

  -- what stands there
  goes : (m : Mode) (p : ℕ) → p + length q ≤ source_limit → in_blank (class_of (get_or q j 0)) (p + j) (get_or q j 0) ≡ ok (Go m) → call q p (j + 1) m ≡ call q p 0 Blank
  unfolding turn moved
  goes m p l e = sym (call_go q p j Blank (omega (arith, within)) (omega (arith, within)) m e) ∙ kept p l

  pub symbol_shown : get_or q j 0 < 256 → high (get_or q j 0) ≡ true → (x : Option Seen) → Ran q j x → Shown q x
  symbol_shown n a None t = tt
  symbol_shown n a (Some g) t =
      let o = high_other (get_or q j 0) n a in (
        omega (arith, t.0, t.1),
        t.2,
        λ (p : ℕ) (l : p + length q ≤ source_limit).
            subst (λ (s : ℕ). moved q p (Give (token_by (get_or q s 0) (g.end - s)) (p + s) g.end) ≡ call q p 0 Blank) (sym t.0)
            (ap (λ (k : CodeToken). moved q p (Give k (p + j) g.end)) (symbol_token (get_or q j 0) (g.end - j) o)
            ∙ t.3 p l
            ∙ goes (Symbol (p + j)) p l (ap (λ (c : Class). in_blank c (p + j) (get_or q j 0)) o)),
      )

  pub sign_shown : (rparen (class_of (get_or q j 0)) || is_at_sign (class_of (get_or q j 0))) ≡ true → Shown q (Some (record { start = j; end = j + 1 }))
  unfolding turn moved
  sign_shown e = (
    omega (arith, within),
    omega (arith, within),
    λ (p : ℕ) (l : p + length q ≤ source_limit).
        sym (call_take q p j Blank (omega (arith, within)) (omega (arith, within)) (token_of (token_by (get_or q j 0) (j + 1 - j)) (p + j)) (takes (get_or q j 0) (j + 1 - j) (p + j) e)) ∙ kept p l,
  )

  -- `(` before a byte that is no `;`
  pub paren_shown : lparen (class_of (get_or q j 0)) ≡ true → j + 1 < length q → semicolon (class_of (get_or q (j + 1) 0)) ≡ false → Shown q (Some (record { start = j; end = j + 1 }))
  unfolding turn moved
  paren_shown e n d =
      let o = lparen_is (class_of (get_or q j 0)) e in (
        omega (arith, within),
        omega (arith, within),
        λ (p : ℕ) (l : p + length q ≤ source_limit).
            ap (λ (k : CodeToken). moved q p (Give k (p + j) (j + 1))) (paren_token (get_or q j 0) (j + 1 - j) o)
            ∙ sym (call_stay q p (j + 1) (Opener (p + j)) (omega (arith, within)) (omega (arith, within)) (token open_paren (p + j) 1) (rw d refl))
            ∙ goes (Opener (p + j)) p l (ap (λ (c : Class). in_blank c (p + j) (get_or q j 0)) o),
      )
