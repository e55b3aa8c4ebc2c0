-- THEOREM `read_tokens`: the tokens of what is read are the source's tokens in order.
use mathlib.Core.Path.{◌≡◌, refl, ap, sym, subst, ◌∙◌}
use mathlib.Core.List.{List}
use Prim.Native.Nat.{ℕ, zero, suc, ◌+◌, ◌-◌, ◌≤◌}
use native.Mathlib.Omega.{arith}
use lib.ListN.{length}
use Rattle.refusals.specs.Numbers.{depth_limit}
use Rattle.refusals.specs.Result.{ok, refused}
use Rattle.lexer.specs.Tokens.{Kind, lparen, rparen, at_sign, symbol, int, Token, past, Answer, end, is}
use Rattle.lexer.specs.Lexing.{next_token}
use Rattle.lexer.specs.Streams.{Series, ends, then, onward, tokens_from, tokens_of}
use Rattle.lexer.specs.BareTokens.{Bare, open_paren, close_paren, at_sign as bare-at, name, number, bare_of, bare_tokens}
use Rattle.table.specs.Trees.{Tree, Trees, symbol as symbol_tree, integer, binding, list, none, more, tree_tokens, trees_tokens}
use Rattle.reader.specs.Promised.{ReadTokens}
use Rattle.reader.specs.Grammar.{after}
use Rattle.reader.specs.PrivateWalk.{Lexes}
use Rattle.reader.proofs.Derivation.{Derives, DerivesAll}
use Rattle.reader.proofs.Bounds.{place, after_lies as goes_on, next_of, spans, spans_all}
use Rattle.reader.proofs.ReadGood.{first_of, file_derived}

-- what the token at hand and those after it say, by at most n more calls
abbrev heard_by : List ℕ → ℕ → Answer → Series Bare
heard_by s n a = bare_tokens s (onward a (λ t. tokens_from n s (past t)))

-- enough calls are enough
no_call : (s : List ℕ) (m : ℕ) (a : Answer) → Lexes s a → length s ≤ 0 + place (length s) a → heard_by s 0 a ≡ heard_by s m a
unfolding bare_tokens
no_call s m (ok end) h f = refl
no_call s m (refused k p) h f = refl
no_call s m (ok (is t)) h f = let o = goes_on s t h in absurd (omega (arith, o.some, o.to, o.top))

same_heard : (s : List ℕ) (n m : ℕ) (a : Answer) → Lexes s a → length s ≤ n + place (length s) a → length s ≤ m + place (length s) a
    → heard_by s n a ≡ heard_by s m a
unfolding tokens_from bare_tokens
same_heard s zero m a h f g = no_call s m a h f
same_heard s (suc n) zero a h f g = sym (no_call s (suc n) a h g)
same_heard s (suc n) (suc m) a h f g = step a h f g (same_heard s n m)
  where
    step : (a : Answer) → Lexes s a → length s ≤ suc n + place (length s) a → length s ≤ suc m + place (length s) a
        → ((b : Answer) → Lexes s b → length s ≤ n + place (length s) b → length s ≤ m + place (length s) b → heard_by s n b ≡ heard_by s m b)
        → heard_by s (suc n) a ≡ heard_by s (suc m) a
    step (ok end) h f g ih = refl
    step (refused k p) h f g ih = refl
    step (ok (is t)) h f g ih =
        let o = goes_on s t h in
        ap (then (bare_of s t.start t.size t.kind)) (ih (after s t) (next_of s t) (omega (arith, o.some, o.to)) (omega (arith, o.some, o.to)))

-- what the token at hand and all after it say
unfoldable pub heard : List ℕ → Answer → Series Bare
heard s a = heard_by s (length s) a

pub heard_all : (s : List ℕ) → bare_tokens s (tokens_of s) ≡ heard s (next_token s 0)
unfolding heard tokens_from
heard_all s = refl

pub heard_end : (s : List ℕ) → heard s (ok end) ≡ ends (ok tt)
unfolding heard bare_tokens
heard_end s = refl

pub heard_refused : (s : List ℕ) (n p : ℕ) → heard s (refused n p) ≡ ends (refused n p)
unfolding heard bare_tokens
heard_refused s n p = refl

pub heard_token : (s : List ℕ) (t : Token) → Lexes s (ok (is t)) → heard s (ok (is t)) ≡ then (bare_of s t.start t.size t.kind) (heard s (after s t))
unfolding heard bare_tokens tokens_from
heard_token s t h =
    same_heard s (length s) (suc (length s)) (ok (is t)) h (omega arith) (omega arith) ∙ one_call
  where
    one_call : heard_by s (suc (length s)) (ok (is t)) ≡ then (bare_of s t.start t.size t.kind) (heard_by s (length s) (after s t))
    one_call = refl

-- ---- trees

kind_heard : (s : List ℕ) (t : Token) (k : Kind) → Lexes s (ok (is t)) → t.kind ≡ k
    → heard s (ok (is t)) ≡ then (bare_of s t.start t.size k) (heard s (after s t))
kind_heard s t k h e = heard_token s t h ∙ ap (λ (k : Kind). then (bare_of s t.start t.size k) (heard s (after s t))) e

mutual
  unfolding Derives tree_tokens

  tree_heard : (x : Tree) (s : List ℕ) (d : ℕ) (a b : Answer) → Lexes s a → Derives x s d a b → heard s a ≡ tree_tokens x (heard s b)
  tree_heard (symbol_tree n) s d a b h w =
      ap (heard s) w.1 ∙ kind_heard s w.0 symbol (subst (Lexes s) w.1 h) w.2
      ∙ ap (λ (m : List ℕ). then (name m) (heard s (after s w.0))) (sym w.3) ∙ ap (λ (c : Answer). then (name n) (heard s c)) (sym w.4)
  tree_heard (integer z) s d a b h w =
      ap (heard s) w.1 ∙ kind_heard s w.0 (int z) (subst (Lexes s) w.1 h) w.2 ∙ ap (λ (c : Answer). then (number z) (heard s c)) (sym w.3)
  tree_heard (binding n x) s d a b h w =
      ap (heard s) w.2 ∙ kind_heard s w.0 symbol (subst (Lexes s) w.2 h) w.3
      ∙ ap (λ (m : List ℕ). then (name m) (heard s (after s w.0))) (sym w.4)
      ∙ ap (λ (c : Answer). then (name n) (heard s c)) w.5
      ∙ ap (then (name n)) (kind_heard s w.1 at_sign (subst (Lexes s) w.5 (next_of s w.0)) w.6
      ∙ ap (then bare-at) (tree_heard x s (d - 1) (after s w.1) b (next_of s w.1) w.8))
  tree_heard (list xs) s d a b h w =
      let q = spans_all xs s (d - 1) (after s w.0) (ok (is w.1)) (next_of s w.0) w.5 in
      ap (heard s) w.2 ∙ kind_heard s w.0 lparen (subst (Lexes s) w.2 h) w.3
      ∙ ap (then open_paren) (trees_heard xs s (d - 1) (after s w.0) (ok (is w.1)) (next_of s w.0) w.5
      ∙ ap (trees_tokens xs) (kind_heard s w.1 rparen q.lexes w.6 ∙ ap (λ (c : Answer). then close_paren (heard s c)) (sym w.7)))

  trees_heard : (xs : Trees) (s : List ℕ) (d : ℕ) (a b : Answer) → Lexes s a → DerivesAll xs s d a b → heard s a ≡ trees_tokens xs (heard s b)
  trees_heard none s d a b h w = ap (heard s) w
  trees_heard (more x xs) s d a b h w =
      tree_heard x s d a w.0 h w.1 ∙ ap (tree_tokens x) (trees_heard xs s d w.0 b (spans x s d a w.0 h w.1).lexes w.2)

pub read_tokens : ReadTokens
read_tokens s xs e =
    heard_all s ∙ trees_heard xs s depth_limit (next_token s 0) (ok end) (first_of s) (file_derived s xs e) ∙ ap (trees_tokens xs) (heard_end s)
