-- THEOREM `read_accepts`: a source whose tokens are those of some trees, nested at most 64 deep, is read as those trees.
use mathlib.Core.Path.{◌≡◌, refl, ap, sym, subst, subst⁻¹, ◌∙◌}
use mathlib.Core.List.{List}
use Prim.Native.Nat.{ℕ, zero, suc, ◌+◌, ◌-◌, ◌≤◌, ◌<◌}
use native.Mathlib.Omega.{arith}
use lib.ListN.{length, take, drop}
use Rattle.refusals.specs.Numbers.{depth_limit}
use Rattle.refusals.specs.Result.{Result, ok, refused, and_then}
use Rattle.lexer.specs.Tokens.{Kind, lparen, rparen, at_sign, symbol, int, Token, Answer, end, is}
use Rattle.lexer.specs.Lexing.{next_token}
use Rattle.lexer.specs.Streams.{Series, ends, then}
use Rattle.lexer.specs.BareTokens.{Bare, open_paren, close_paren, at_sign as bare-at, name, number, bare_of}
use Rattle.lexer.proofs.Skips.{NoSignKind, NoSign}
use Rattle.table.specs.Trees.{Tree, Trees, symbol as symbol_tree, integer, binding, list, none, more, tree_tokens, trees_tokens, Good, Goods}
use Rattle.reader.specs.Promised.{ReadAccepts}
use Rattle.reader.specs.Grammar.{name_of, after, One, got, Many, up_to, to_end, cons, onward, read_items, listed, bound, read_tree, whole, file_of}
use Rattle.reader.specs.PrivateWalk.{Lexes}
use Rattle.reader.specs.Nesting.{Nested, NestedAll}
use Rattle.reader.proofs.Bounds.{place, next_of}
use Rattle.reader.proofs.Walk.{got_spans}
use Rattle.reader.proofs.Begins.{read_end, read_rparen, read_int, read_list, read_name, read_bind}
use Rattle.reader.proofs.ReadGood.{first_of}
use Rattle.reader.proofs.ReadTokens.{heard, heard_all, heard_end, heard_refused, heard_token}

-- good trees are nested so
mutual
  unfolding Nested Good

  pub good_nested : (x : Tree) (d : ℕ) → Good x d → Nested x d
  good_nested (symbol_tree n) d g = tt
  good_nested (integer z) d g = tt
  good_nested (binding n x) d g = (g.0, good_nested x (d - 1) g.3)
  good_nested (list xs) d g = (g.0, goods_nested xs (d - 1) g.2)

  pub goods_nested : (xs : Trees) (d : ℕ) → Goods xs d → NestedAll xs d
  goods_nested none d g = tt
  goods_nested (more x xs) d g = (good_nested x d g.0, goods_nested xs d g.1)

-- ---- a token by what it then

-- an `@` is not said first: behind a symbol it would make a binding of it
abbrev NotAt : Bare → Type 0
NotAt open_paren = Unit {0}
NotAt close_paren = Unit {0}
NotAt bare-at = ⊥
NotAt (name n) = Unit {0}
NotAt (number z) = Unit {0}

abbrev NoAt : Series Bare → Type 0
NoAt (ends r) = Unit {0}
NoAt (then i k) = NotAt i

no_at : (x : Tree) (k : Series Bare) → NoAt (tree_tokens x k)
unfolding tree_tokens
no_at (symbol_tree n) k = tt
no_at (integer z) k = tt
no_at (binding n x) k = tt
no_at (list xs) k = tt

no_at_all : (xs : Trees) (k : Series Bare) → NoAt k → NoAt (trees_tokens xs k)
unfolding tree_tokens
no_at_all none k h = h
no_at_all (more x xs) k h = no_at x (trees_tokens xs k)

pub record Heard (s : List ℕ) (a : Answer) (i : Bare) (k : Series Bare) : Type 0 where
  pub token : Token
  pub is_it : a ≡ ok (is token)
  pub lexes : Lexes s (ok (is token))
  pub item : bare_of s token.start token.size token.kind ≡ i
  pub rest : heard s (after s token) ≡ k

hears : (s : List ℕ) (a : Answer) (i : Bare) (k : Series Bare) → Lexes s a → heard s a ≡ then i k → Heard s a i k
hears s (ok end) i k h e =
    let f : ends (ok tt) ≡ then i k = sym (heard_end s) ∙ e in
    let z : ◌≡◌ {A = ℕ} 0 1 = cc in absurd (omega arith)
hears s (refused n p) i k h e =
    let f : ends (refused n p) ≡ then i k = sym (heard_refused s n p) ∙ e in
    let z : ◌≡◌ {A = ℕ} 0 1 = cc in absurd (omega arith)
hears s (ok (is t)) i k h e =
    let f : then (bare_of s t.start t.size t.kind) (heard s (after s t)) ≡ then i k = sym (heard_token s t h) ∙ e in
    record { token = t; is_it = refl; lexes = h; item = cc; rest = cc }

ended_heard : (s : List ℕ) (a : Answer) → Lexes s a → heard s a ≡ ends (ok tt) → a ≡ ok end
ended_heard s (ok end) h e = refl
ended_heard s (refused n p) h e =
    let f : ends (refused n p) ≡ ends (ok tt) = sym (heard_refused s n p) ∙ e in
    let z : ◌≡◌ {A = ℕ} 0 1 = cc in absurd (omega arith)
ended_heard s (ok (is t)) h e =
    let f : then (bare_of s t.start t.size t.kind) (heard s (after s t)) ≡ ends (ok tt) = sym (heard_token s t h) ∙ e in
    let z : ◌≡◌ {A = ℕ} 0 1 = cc in absurd (omega arith)

-- the kind that an item has, and a symbol's bytes
abbrev KindOf : Bare → Kind → List ℕ → Type 0
KindOf open_paren k m = k ≡ lparen
KindOf close_paren k m = k ≡ rparen
KindOf bare-at k m = k ≡ at_sign
KindOf (name n) k m = (k ≡ symbol) × (m ≡ n)
KindOf (number z) k m = k ≡ int z

kind_of_lem : (s : List ℕ) (st n : ℕ) (k : Kind) → KindOf (bare_of s st n k) k (take n (drop st s))
kind_of_lem s st n lparen = refl
kind_of_lem s st n rparen = refl
kind_of_lem s st n at_sign = refl
kind_of_lem s st n symbol = (refl, refl)
kind_of_lem s st n (int z) = refl

heard_kind : {s : List ℕ} {a : Answer} {i : Bare} {k : Series Bare} (h : Heard s a i k) → KindOf i h.token.kind (name_of s h.token)
heard_kind {s} h =
    let t = h.token in
    subst (λ (j : Bare). KindOf j t.kind (name_of s t)) h.item (kind_of_lem s t.start t.size t.kind)

-- no `@` follows
sign_other : (s : List ℕ) (a : Answer) (k : Series Bare) → Lexes s a → heard s a ≡ k → NoAt k → NoSign a
sign_other s (ok end) k h e g = tt
sign_other s (refused n p) k h e g = tt
sign_other s (ok (is u)) k h e g = by u.kind (subst⁻¹ NoAt (sym (heard_token s u h) ∙ e) g)
  where
    by : (c : Kind) → NotAt (bare_of s u.start u.size c) → NoSignKind c
    by lparen g = tt
    by rparen g = tt
    by symbol g = tt
    by (int z) g = tt
    by at_sign g = g

-- ---- trees

-- trees in front of what is read after them
onto : Trees → Result Many → Result Many
onto none m = m
onto (more x xs) m = and_then (onto xs m) (cons x)

onto_close : (xs : Trees) (t : Token) → onto xs (ok (up_to none t)) ≡ ok (up_to xs t)
unfolding onto
onto_close none t = refl
onto_close (more x xs) t = ap (λ (m : Result Many). and_then m (cons x)) (onto_close xs t)

onto_end : (xs : Trees) → onto xs (ok (to_end none)) ≡ ok (to_end xs)
unfolding onto
onto_end none = refl
onto_end (more x xs) = ap (λ (m : Result Many). and_then m (cons x)) (onto_end xs)

items_more : (f : Answer → Result One) (j : ℕ) (a c : Answer) (x : Tree) → 1 ≤ j → f a ≡ ok (got x c) → read_items f (suc j) a ≡ and_then (read_items f (suc (j - 1)) c) (cons x)
unfolding read_items
items_more f zero a c x h e = absurd (omega arith)
items_more f (suc j) a c x h e =
    let k : suc j - 1 ≡ j = omega arith in
    ap (λ (y : Result One). and_then y (onward (read_items f (suc j)))) e ∙ ap (λ (i : ℕ). and_then (read_items f (suc i) c) (cons x)) (sym k)

-- a tree was read, and what follows it then k
record Accepted (s : List ℕ) (d : ℕ) (a : Answer) (x : Tree) (k : Series Bare) : Type 0 where
  next : Answer
  reads : read_tree s d a ≡ ok (got x next)
  rest : heard s next ≡ k

-- the trees xs were read, and with i + 1 items more to be read what follows them then k
record AcceptedAll (s : List ℕ) (d j : ℕ) (a : Answer) (xs : Trees) (k : Series Bare) : Type 0 where
  next : Answer
  left : ℕ
  lexes : Lexes s next
  reads : read_items (read_tree s d) (suc j) a ≡ onto xs (read_items (read_tree s d) (suc left) next)
  rest : heard s next ≡ k

closed_list : (s : List ℕ) (d : ℕ) (t : Token) (xs : Trees) (k : Series Bare) → t.kind ≡ lparen → 0 < d
    → AcceptedAll s (d - 1) (length s) (after s t) xs (then close_paren k) → Accepted s d (ok (is t)) (list xs) k
unfolding read_items
closed_list s d t xs k e h w =
    let c = hears s w.next close_paren k w.lexes w.rest in
    let u = c.token in
    let last : read_items (read_tree s (d - 1)) (suc w.left) w.next ≡ ok (up_to none u) =
    ap (λ (y : Result One). and_then y (onward (read_items (read_tree s (d - 1)) w.left)))
    (ap (read_tree s (d - 1)) c.is_it ∙ read_rparen s (d - 1) u (heard_kind c)) in
    let all : read_items (read_tree s (d - 1)) (suc (length s)) (after s t) ≡ ok (up_to xs u) = w.reads ∙ ap (onto xs) last ∙ onto_close xs u in
    record { next = after s u; reads = read_list s d t e (λ z. omega arith) ∙ ap (λ (y : Result Many). and_then y (listed s t)) all; rest = c.rest }

mutual
  unfolding tree_tokens Nested onto

  accept : (x : Tree) (s : List ℕ) (d : ℕ) (a : Answer) (k : Series Bare) → Nested x d → NoAt k → Lexes s a → heard s a ≡ tree_tokens x k → Accepted s d a x k
  accept (symbol_tree n) s d a k g f h e =
      let c = hears s a (name n) k h e in
      let t = c.token in
      let w = heard_kind c in
      record {
        next = after s t;
        reads = ap (read_tree s d) c.is_it ∙ read_name s d t w.0 (sign_other s (after s t) k (next_of s t) c.rest f)
            ∙ ap (λ (m : List ℕ). ok (got (symbol_tree m) (after s t))) w.1;
        rest = c.rest;
      }
  accept (integer z) s d a k g f h e =
      let c = hears s a (number z) k h e in
      record { next = after s c.token; reads = ap (read_tree s d) c.is_it ∙ read_int s d c.token z (heard_kind c); rest = c.rest }
  accept (binding n x) s d a k g f h e =
      let c = hears s a (name n) (then bare-at (tree_tokens x k)) h e in
      let t = c.token in
      let w = heard_kind c in
      let c' = hears s (after s t) bare-at (tree_tokens x k) (next_of s t) c.rest in
      let u = c'.token in
      let r = accept x s (d - 1) (after s u) k g.1 f (next_of s u) c'.rest in
      record {
        next = r.next;
        reads = ap (read_tree s d) c.is_it ∙ read_bind s d t u w.0 c'.is_it (heard_kind c') (λ z. omega (arith, g.0)) ∙ ap (λ (y : Result One). and_then y (bound s (name_of s t))) r.reads
            ∙ ap (λ (m : List ℕ). ok (got (binding m x) r.next)) w.1;
        rest = r.rest;
      }
  accept (list xs) s d a k g f h e =
      let c = hears s a open_paren (trees_tokens xs (then close_paren k)) h e in
      let t = c.token in
      let w = accept_all xs s (d - 1) (length s) (after s t) (then close_paren k) g.1 tt (next_of s t) (omega arith) c.rest in
      let r = closed_list s d t xs k (heard_kind c) g.0 w in
      record { next = r.next; reads = ap (read_tree s d) c.is_it ∙ r.reads; rest = r.rest }

  accept_all : (xs : Trees) (s : List ℕ) (d j : ℕ) (a : Answer) (k : Series Bare) → NestedAll xs d → NoAt k → Lexes s a → length s ≤ j + place (length s) a
      → heard s a ≡ trees_tokens xs k → AcceptedAll s d j a xs k
  accept_all none s d j a k g f h l e = record { next = a; left = j; lexes = h; reads = refl; rest = e }
  accept_all (more x xs) s d j a k g f h l e =
      let r = accept x s d a (trees_tokens xs k) g.0 (no_at_all xs k f) h e in
      let q = got_spans s d a r.next x h r.reads in
      let w = accept_all xs s d (j - 1) r.next k g.1 f q.lexes (omega (arith, q.on, q.top)) r.rest in
      record {
        next = w.next;
        left = w.left;
        lexes = w.lexes;
        reads = items_more (read_tree s d) j a r.next x (omega (arith, q.on, q.top)) r.reads ∙ ap (λ (m : Result Many). and_then m (cons x)) w.reads;
        rest = w.rest;
      }

pub read_accepts : ReadAccepts
unfolding file_of read_items
read_accepts s xs g e =
    let w = accept_all xs s depth_limit (length s) (next_token s 0) (ends (ok tt)) g tt (first_of s) (omega arith) (sym (heard_all s) ∙ e) in
    let last : read_items (read_tree s depth_limit) (suc w.left) w.next ≡ ok (to_end none) =
    ap (λ (y : Result One). and_then y (onward (read_items (read_tree s depth_limit) w.left)))
    (ap (read_tree s depth_limit) (ended_heard s w.next w.lexes w.rest) ∙ read_end s depth_limit) in
    ap (λ (m : Result Many). and_then m whole) (w.reads ∙ ap (onto xs) last ∙ onto_end xs)
