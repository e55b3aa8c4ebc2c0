-- The tree that a token begins, a law for each kind of token. Assumes nothing.
use Prim.Native.Nat.{ℕ, zero, suc, ◌-◌}
use mathlib.Core.Path.{◌≡◌, refl, sym, ap, subst, ◌∙◌}
use mathlib.Core.Bool.{Bool, true, false, cond}
use mathlib.Core.List.{List}
use native.Mathlib.Omega.{arith}
use lib.IntN.{ℤ}
use lib.ListN.{length}
use Rattle.refusals.specs.Numbers.{no_symbol, too_deep}
use Rattle.refusals.specs.Result.{Result, ok, refused, and_then}
use Rattle.lexer.specs.Tokens.{Kind, lparen, rparen, at_sign, symbol, int, Token, Answer, end, is}
use Rattle.lexer.proofs.Skips.{NoSignKind, NoSign}
use Rattle.table.specs.Trees.{symbol as symbol_tree, integer}
use Rattle.reader.specs.Grammar.{name_of, after, One, got, closed, ended, Many, read_items, listed, bound, if_at, named, begun, read_tree}

module _ (s : List ℕ) where
  -- at a depth that is not 0, and at any depth
  abbrev inner : ℕ → Token → Kind → Result One
  inner d t k = begun s true (read_tree s (d - 1)) (read_items (read_tree s (d - 1)) (suc (length s))) t k

  deeper : (d : ℕ) (t : Token) (k : Kind) → t.kind ≡ k → (d ≡ 0 → ⊥) → read_tree s d (ok (is t)) ≡ inner d t k
  unfolding read_tree
  deeper zero t k e h = absurd (h refl)
  deeper (suc d) t k e h = let j : suc d - 1 ≡ d = omega arith in rw (j, e) refl

  flat : (d : ℕ) (t : Token) (k : Kind) → t.kind ≡ k → d ≡ 0 → read_tree s d (ok (is t)) ≡ begun s false (λ _. ok ended) (λ _. refused 0 0) t k
  unfolding read_tree
  flat zero t k e h = ap (begun s false (λ _. ok ended) (λ _. refused 0 0) t) e
  flat (suc d) t k e h = absurd (omega arith)

  any : (P : Result One → Type 0) (d : ℕ) (t : Token) (k : Kind) → t.kind ≡ k
      → ((b : Bool) (sub : Answer → Result One) (items : Answer → Result Many) → P (begun s b sub items t k)) → P (read_tree s d (ok (is t)))
  unfolding read_tree
  any P zero t k e h = subst (λ (k : Kind). P (begun s false (λ _. ok ended) (λ _. refused 0 0) t k)) (sym e) (h false (λ _. ok ended) (λ _. refused 0 0))
  any P (suc d) t k e h =
      subst (λ (k : Kind). P (begun s true (read_tree s d) (read_items (read_tree s d) (suc (length s))) t k)) (sym e)
      (h true (read_tree s d) (read_items (read_tree s d) (suc (length s))))

  pub read_end : (d : ℕ) → read_tree s d (ok end) ≡ ok ended
  unfolding read_tree
  read_end zero = refl
  read_end (suc d) = refl

  pub read_refused : (d n p : ℕ) → read_tree s d (refused n p) ≡ refused n p
  unfolding read_tree
  read_refused zero n p = refl
  read_refused (suc d) n p = refl

  pub read_rparen : (d : ℕ) (t : Token) → t.kind ≡ rparen → read_tree s d (ok (is t)) ≡ ok (closed t)
  read_rparen d t e = any (λ (x : Result One). x ≡ ok (closed t)) d t rparen e (λ b sub items. refl)

  pub read_at : (d : ℕ) (t : Token) → t.kind ≡ at_sign → read_tree s d (ok (is t)) ≡ refused no_symbol t.start
  read_at d t e = any (λ (x : Result One). x ≡ refused no_symbol t.start) d t at_sign e (λ b sub items. refl)

  pub read_int : (d : ℕ) (t : Token) (z : ℤ) → t.kind ≡ int z → read_tree s d (ok (is t)) ≡ ok (got (integer z) (after s t))
  read_int d t z e = any (λ (x : Result One). x ≡ ok (got (integer z) (after s t))) d t (int z) e (λ b sub items. refl)

  pub read_list : (d : ℕ) (t : Token) → t.kind ≡ lparen → (d ≡ 0 → ⊥)
      → read_tree s d (ok (is t)) ≡ and_then (read_items (read_tree s (d - 1)) (suc (length s)) (after s t)) (listed s t)
  read_list d t e h = deeper d t lparen e h

  pub read_deep : (d : ℕ) (t : Token) → t.kind ≡ lparen → d ≡ 0 → read_tree s d (ok (is t)) ≡ refused too_deep t.start
  read_deep d t e h = flat d t lparen e h

  -- by what follows a symbol
  named_other : (b : Bool) (sub : Answer → Result One) (t : Token) (a : Answer) → NoSign a → named s b sub t a ≡ ok (got (symbol_tree (name_of s t)) a)
  named_other b sub t (ok end) e = refl
  named_other b sub t (refused n p) e = refl
  named_other b sub t (ok (is u)) e = by u.kind e
    where
      by : (k : Kind) → NoSignKind k
          → if_at k (cond b (and_then (sub (after s u)) (bound s (name_of s t))) (refused too_deep t.start)) (ok (got (symbol_tree (name_of s t)) (ok (is u))))
          ≡ ok (got (symbol_tree (name_of s t)) (ok (is u)))
      by lparen e = refl
      by rparen e = refl
      by symbol e = refl
      by (int z) e = refl
      by at_sign e = absurd e

  named_at : (b : Bool) (sub : Answer → Result One) (t u : Token) (a : Answer) → a ≡ ok (is u) → u.kind ≡ at_sign
      → named s b sub t a ≡ cond b (and_then (sub (after s u)) (bound s (name_of s t))) (refused too_deep t.start)
  named_at b sub t u a e f =
      ap (named s b sub t) e
      ∙ ap (λ (k : Kind). if_at k (cond b (and_then (sub (after s u)) (bound s (name_of s t))) (refused too_deep t.start)) (ok (got (symbol_tree (name_of s t)) (ok (is u))))) f

  pub read_name : (d : ℕ) (t : Token) → t.kind ≡ symbol → NoSign (after s t) → read_tree s d (ok (is t)) ≡ ok (got (symbol_tree (name_of s t)) (after s t))
  read_name d t e f =
      any (λ (x : Result One). x ≡ ok (got (symbol_tree (name_of s t)) (after s t))) d t symbol e (λ b sub items. named_other b sub t (after s t) f)

  pub read_bind : (d : ℕ) (t u : Token) → t.kind ≡ symbol → after s t ≡ ok (is u) → u.kind ≡ at_sign → (d ≡ 0 → ⊥)
      → read_tree s d (ok (is t)) ≡ and_then (read_tree s (d - 1) (after s u)) (bound s (name_of s t))
  read_bind d t u e f g h = deeper d t symbol e h ∙ named_at true (read_tree s (d - 1)) t u (after s t) f g

  pub read_bind_deep : (d : ℕ) (t u : Token) → t.kind ≡ symbol → after s t ≡ ok (is u) → u.kind ≡ at_sign → d ≡ 0 → read_tree s d (ok (is t)) ≡ refused too_deep t.start
  read_bind_deep d t u e f g h = flat d t symbol e h ∙ named_at false (λ _. ok ended) t u (after s t) f g
