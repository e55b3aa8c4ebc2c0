-- The grammar as a relation: a tree is derived from one token up to another. What the reader reads is derived. Assumes nothing.
use Prim.Native.Nat.{ℕ, zero, suc, ◌-◌, ◌<◌}
use mathlib.Core.Path.{◌≡◌, refl, sym, subst⁻¹}
use mathlib.Core.Bool.{Bool, true, false, cond}
use mathlib.Core.List.{List}
use native.Mathlib.Omega.{arith}
use lib.ListN.{length}
use Rattle.lists.proofs.Choice.{pick, true_false}
use Rattle.refusals.specs.Numbers.{too_deep}
use Rattle.refusals.specs.Result.{Result, ok, refused, and_then}
use Rattle.lexer.specs.Tokens.{Kind, lparen, rparen, at_sign, symbol, int, Token, Answer, end, is}
use Rattle.table.specs.Trees.{Tree, Trees, symbol as symbol_tree, integer, binding, list, none, more}
use Rattle.reader.specs.Grammar.{name_of, after, One, got, closed, ended, Many, up_to, to_end, cons, onward, read_items, listed, bound, if_at, named, begun, of_token, read_tree}

-- from the token at hand, with d lists and bindings still to be opened, up to the token after the tree
unfoldable mutual
  pub Derives : Tree → List ℕ → ℕ → Answer → Answer → Type 0
  Derives (symbol_tree n) s d a b = (t : Token) × (a ≡ ok (is t)) × (t.kind ≡ symbol) × (n ≡ name_of s t) × (b ≡ after s t)
  Derives (integer z) s d a b = (t : Token) × (a ≡ ok (is t)) × (t.kind ≡ int z) × (b ≡ after s t)
  Derives (binding n x) s d a b =
      (t : Token) × (u : Token) × (a ≡ ok (is t)) × (t.kind ≡ symbol) × (n ≡ name_of s t) × (after s t ≡ ok (is u)) × (u.kind ≡ at_sign) × (0 < d)
      × Derives x s (d - 1) (after s u) b
  Derives (list xs) s d a b =
      (t : Token) × (u : Token) × (a ≡ ok (is t)) × (t.kind ≡ lparen) × (0 < d) × DerivesAll xs s (d - 1) (after s t) (ok (is u)) × (u.kind ≡ rparen)
      × (b ≡ after s u)

  pub DerivesAll : Trees → List ℕ → ℕ → Answer → Answer → Type 0
  DerivesAll none s d a b = a ≡ b
  DerivesAll (more x xs) s d a b = (c : Answer) × Derives x s d a c × DerivesAll xs s d c b

abbrev pub OneIs : List ℕ → ℕ → Answer → Result One → Type 0
OneIs s d a (ok (got x b)) = Derives x s d a b
OneIs s d a (ok (closed t)) = (a ≡ ok (is t)) × (t.kind ≡ rparen)
OneIs s d a (ok ended) = a ≡ ok end
OneIs s d a (refused n p) = Unit {0}

abbrev pub ManyIs : List ℕ → ℕ → Answer → Result Many → Type 0
ManyIs s d a (ok (up_to xs t)) = DerivesAll xs s d a (ok (is t)) × (t.kind ≡ rparen)
ManyIs s d a (ok (to_end xs)) = DerivesAll xs s d a (ok end)
ManyIs s d a (refused n p) = Unit {0}

abbrev OnesAre : List ℕ → ℕ → (Answer → Result One) → Type 0
OnesAre s d f = (a : Answer) → OneIs s d a (f a)

abbrev ManiesAre : List ℕ → ℕ → (Answer → Result Many) → Type 0
ManiesAre s d f = (a : Answer) → ManyIs s d a (f a)

and_then_is : (s : List ℕ) (d : ℕ) (a : Answer) (x : Result One) (rest : Answer → Result Many) → OneIs s d a x → ManiesAre s d rest
    → ManyIs s d a (and_then x (onward rest))
unfolding Derives
and_then_is s d a (refused n p) rest h hr = tt
and_then_is s d a (ok (closed t)) rest h hr = h
and_then_is s d a (ok ended) rest h hr = h
and_then_is s d a (ok (got x b)) rest h hr = last (rest b) (hr b)
  where
    last : (y : Result Many) → ManyIs s d b y → ManyIs s d a (and_then y (cons x))
    last (ok (up_to xs t)) hy = ((b, h, hy.0), hy.1)
    last (ok (to_end xs)) hy = (b, h, hy)
    last (refused n p) hy = tt

items_are : (s : List ℕ) (d : ℕ) (f : Answer → Result One) → OnesAre s d f → (k : ℕ) → ManiesAre s d (read_items f k)
unfolding read_items
items_are s d f hf zero a = tt
items_are s d f hf (suc k) a = and_then_is s d a (f a) (read_items f k) (hf a) (items_are s d f hf k)

-- one level further in there is a level left, and what is read there is derived
abbrev Deeper : List ℕ → ℕ → (Answer → Result One) → (Answer → Result Many) → Type 0
Deeper s d sub items = (0 < d) × OnesAre s (d - 1) sub × ManiesAre s (d - 1) items

module _ (s : List ℕ) (d : ℕ) (deeper : Bool) (sub : Answer → Result One) (items : Answer → Result Many) (h : deeper ≡ true → Deeper s d sub items) where
  listed_is : (t : Token) → t.kind ≡ lparen → 0 < d → (y : Result Many) → ManyIs s (d - 1) (after s t) y → OneIs s d (ok (is t)) (and_then y (listed s t))
  unfolding Derives
  listed_is t k hd (ok (up_to xs u)) hy = (t, u, refl, k, hd, hy.0, hy.1, refl)
  listed_is t k hd (ok (to_end xs)) hy = tt
  listed_is t k hd (refused n p) hy = tt

  bound_is : (t u : Token) → t.kind ≡ symbol → after s t ≡ ok (is u) → u.kind ≡ at_sign → 0 < d → (y : Result One) → OneIs s (d - 1) (after s u) y
      → OneIs s d (ok (is t)) (and_then y (bound s (name_of s t)))
  unfolding Derives
  bound_is t u k e ku hd (ok (got x b)) hy = (t, u, refl, k, refl, e, ku, hd, hy)
  bound_is t u k e ku hd (ok (closed v)) hy = tt
  bound_is t u k e ku hd (ok ended) hy = tt
  bound_is t u k e ku hd (refused n p) hy = tt

  alone : (t : Token) → t.kind ≡ symbol → (b : Answer) → after s t ≡ b → OneIs s d (ok (is t)) (ok (got (symbol_tree (name_of s t)) b))
  unfolding Derives
  alone t k b e = (t, refl, k, refl, sym e)

  signed_is : (t u : Token) → t.kind ≡ symbol → after s t ≡ ok (is u) → (k : Kind) → u.kind ≡ k
      → OneIs s d (ok (is t))
      (if_at k (cond deeper (and_then (sub (after s u)) (bound s (name_of s t))) (refused too_deep t.start)) (ok (got (symbol_tree (name_of s t)) (ok (is u)))))
  signed_is t u k e lparen ku = alone t k (ok (is u)) e
  signed_is t u k e rparen ku = alone t k (ok (is u)) e
  signed_is t u k e symbol ku = alone t k (ok (is u)) e
  signed_is t u k e (int z) ku = alone t k (ok (is u)) e
  signed_is t u k e at_sign ku =
      pick (OneIs s d (ok (is t))) deeper (λ g. let w = h g in bound_is t u k e ku w.0 (sub (after s u)) (w.1 (after s u))) (λ _. tt)

  named_is : (t : Token) → t.kind ≡ symbol → (b : Answer) → after s t ≡ b → OneIs s d (ok (is t)) (named s deeper sub t b)
  named_is t k (ok end) e = alone t k (ok end) e
  named_is t k (refused n p) e = alone t k (refused n p) e
  named_is t k (ok (is u)) e = signed_is t u k e u.kind refl

  begun_is : (t : Token) (k : Kind) → t.kind ≡ k → OneIs s d (ok (is t)) (begun s deeper sub items t k)
  unfolding Derives
  begun_is t lparen k =
      pick (OneIs s d (ok (is t))) deeper (λ g. let w = h g in listed_is t k w.0 (items (after s t)) (w.2 (after s t))) (λ _. tt)
  begun_is t rparen k = (refl, k)
  begun_is t at_sign k = tt
  begun_is t symbol k = named_is t k (after s t) refl
  begun_is t (int z) k = (t, refl, k, refl)

  of_token_is : (a : Answer) → OneIs s d a (of_token s deeper sub items a)
  of_token_is (ok end) = refl
  of_token_is (refused n p) = tt
  of_token_is (ok (is t)) = begun_is t t.kind refl

pub tree_is : (s : List ℕ) (d : ℕ) → OnesAre s d (read_tree s d)
unfolding read_tree
tree_is s zero a = of_token_is s zero false (λ _. ok ended) (λ _. refused 0 0) (λ g. true_false (sym g)) a
tree_is s (suc d) a =
    let j : suc d - 1 ≡ d = omega arith in
    of_token_is s (suc d) true (read_tree s d) (read_items (read_tree s d) (suc (length s)))
    (λ _. (
      omega arith,
      subst⁻¹ (λ (k : ℕ). OnesAre s k (read_tree s d)) j (tree_is s d),
      subst⁻¹ (λ (k : ℕ). ManiesAre s k (read_items (read_tree s d) (suc (length s)))) j (items_are s d (read_tree s d) (tree_is s d) (suc (length s))),
    )) a

pub items_is : (s : List ℕ) (d k : ℕ) → ManiesAre s d (read_items (read_tree s d) k)
items_is s d k = items_are s d (read_tree s d) (tree_is s d) k
