-- The walk over trees in a row: of the whole, what is read and what is left; what is written; and what each turn makes of them. Assumes nothing.
use mathlib.Core.Path.{◌≡◌, refl, ap, sym, subst, subst⁻¹, ◌∙◌}
use mathlib.Core.Bool.{Bool, true, false}
use mathlib.Core.List.{List, [], ◌++◌, append_assoc, append-nil}
use Prim.Native.Nat.{ℕ, suc, ◌+◌, ◌*◌, ◌-◌, ◌≤◌, ◌<◌}
use native.Mathlib.Omega.{arith}
use lib.Dec.{ltb}
use lib.ListN.{length, get_or, take, drop, length-drop}
use borrow.Author.Tests.{lt-ltb, le-ltb}
use Rattle.refusals.specs.Numbers.{source_limit, table_limit, no_tree, too_deep}
use Rattle.refusals.specs.Result.{Result, ok, refused, and_then}
use Rattle.lists.specs.Over.{over, fitted}
use Rattle.lists.proofs.Blocks.{fitted_over}
use Rattle.classes.specs.Classes.{class_of, is_at_sign}
use Rattle.lexer.specs.Tokens.{rparen, at_sign, symbol, token, Answer, end, is}
use Rattle.lexer.specs.Lexing.{next_token}
use Rattle.lexer.specs.Gaps.{gap_end}
use Rattle.lexer.proofs.Skips.{gap_sign}
use Rattle.lexer.proofs.Within.{limited}
use Rattle.records.specs.Records.{head_len, record_of}
use Rattle.records.proofs.Heads.{length_record}
use Rattle.table.specs.Kinds.{binding_kind}
use Rattle.table.specs.Trees.{Tree, Trees, count, cost, costs, records, records_of}
use Rattle.table.proofs.Costs.{cost_le}
use Rattle.reader.specs.Grammar.{One, got, closed, ended, Many, up_to, to_end, cons, onward, bound, name_of, after, read_items, read_tree}
use Rattle.lists.specs.Rooms.{Filled, Puts}
use Rattle.reader.specs.PrivateWalk.{Lexes, CostTold, TreeIs, ItemsAre}
use Rattle.reader.specs.declared.One.{One as OneRead}
use Rattle.reader.specs.declared.Stop.TheVariants as stop
use Rattle.reader.proofs.Behind.{puts_behind}
use Rattle.reader.proofs.Derivation.{OneIs, tree_is}
use Rattle.reader.proofs.Bounds.{place, place_top, weigh, Spans, spans, name_spans, name_length, past_top, weigh_top}
use Rattle.reader.proofs.Begins.{read_end, read_refused, read_rparen, read_bind, read_bind_deep}

-- ---- what is left

-- where a tree is due, a `)` or the end is refused
abbrev pub due : List ℕ → One → Result One
due s (got x a) = ok (got x a)
due s (closed t) = refused no_tree t.start
due s ended = refused no_tree (length s)

-- of the whole w, k trees whose records are o and whose costs come to v stand before y
abbrev Before : ℕ → List ℕ → ℕ → Result Many → Result Many → Type 0
Before k o v w (ok (up_to xs t)) =
    (ys : Trees) × (w ≡ ok (up_to ys t)) × (count ys ≡ k + count xs) × (records_of ys ≡ o ++ records_of xs) × (costs ys ≡ v + costs xs)
Before k o v w (ok (to_end xs)) =
    (ys : Trees) × (w ≡ ok (to_end ys)) × (count ys ≡ k + count xs) × (records_of ys ≡ o ++ records_of xs) × (costs ys ≡ v + costs xs)
Before k o v w (refused m p) = w ≡ refused m p

before_all : (w : Result Many) → Before 0 [] 0 w w
before_all (ok (up_to xs t)) = (xs, refl, omega arith, refl, omega arith)
before_all (ok (to_end xs)) = (xs, refl, omega arith, refl, omega arith)
before_all (refused m p) = refl

before_more : (k : ℕ) (o : List ℕ) (v : ℕ) (w : Result Many) (x : Tree) (y : Result Many) → Before k o v w (and_then y (cons x))
    → Before (k + 1) (o ++ records x) (v + cost x) w y
unfolding records cost
before_more k o v w x (ok (up_to xs t)) h =
    (h.0, h.1, omega (arith, h.2), h.3 ∙ sym (append_assoc o (records x) (records_of xs)), omega (arith, h.4))
before_more k o v w x (ok (to_end xs)) h =
    (h.0, h.1, omega (arith, h.2), h.3 ∙ sym (append_assoc o (records x) (records_of xs)), omega (arith, h.4))
before_more k o v w x (refused m p) h = h

-- the same, where y begins with the token at hand and f reads on behind it; o may end with the names of bindings whose tree y is, and v count them
abbrev Left : ℕ → List ℕ → ℕ → Result Many → (Answer → Result Many) → Result One → Type 0
Left k o v w f (ok (got x a)) = Before (k + 1) (o ++ records x) (v + cost x) w (f a)
Left k o v w f (ok (closed t)) = (ys : Trees) × (w ≡ ok (up_to ys t)) × (count ys ≡ k) × (records_of ys ≡ o) × (costs ys ≡ v)
Left k o v w f (ok ended) = (ys : Trees) × (w ≡ ok (to_end ys)) × (count ys ≡ k) × (records_of ys ≡ o) × (costs ys ≡ v)
Left k o v w f (refused m p) = w ≡ refused m p

left_of : (k : ℕ) (o : List ℕ) (v : ℕ) (w : Result Many) (f : Answer → Result Many) (y : Result One) → Before k o v w (and_then y (onward f)) → Left k o v w f y
unfolding records cost
left_of k o v w f (ok (got x a)) h = before_more k o v w x (f a) h
left_of k o v w f (ok (closed t)) h = (h.0, h.1, omega (arith, h.2), h.3 ∙ append-nil o, omega (arith, h.4))
left_of k o v w f (ok ended) h = (h.0, h.1, omega (arith, h.2), h.3 ∙ append-nil o, omega (arith, h.4))
left_of k o v w f (refused m p) h = h

left_bound : (k : ℕ) (o : List ℕ) (v : ℕ) (w : Result Many) (f : Answer → Result Many) (s n : List ℕ) (y : Result One) → Left k o v w f (and_then y (bound s n))
    → Left k (o ++ record_of binding_kind n) (v + (length n + 3)) w f (and_then y (due s))
unfolding records cost
left_bound k o v w f s n (ok (got x a)) h =
    let e : v + (length n + 3 + cost x) ≡ v + (length n + 3) + cost x = omega arith in
    subst (λ (i : ℕ). Before (k + 1) ((o ++ record_of binding_kind n) ++ records x) i w (f a)) e
    (subst (λ (r : List ℕ). Before (k + 1) r (v + (length n + 3 + cost x)) w (f a)) (sym (append_assoc o (record_of binding_kind n) (records x))) h)
left_bound k o v w f s n (ok (closed t)) h = h
left_bound k o v w f s n (ok ended) h = h
left_bound k o v w f s n (refused m p) h = h

-- y, where a tree is due or where none is
abbrev pub awaited : List ℕ → Bool → Result One → Result One
awaited s true y = and_then y (due s)
awaited s false y = y

awaited_got : (s : List ℕ) (d : Bool) (x : Tree) (a : Answer) → awaited s d (ok (got x a)) ≡ ok (got x a)
awaited_got s true x a = refl
awaited_got s false x a = refl

awaited_refused : (s : List ℕ) (d : Bool) (m p : ℕ) → awaited s d (refused m p) ≡ refused m p
awaited_refused s true m p = refl
awaited_refused s false m p = refl

-- a binding is got or refused
awaited_bound : (s : List ℕ) (d : Bool) (n : List ℕ) (y : Result One) → awaited s d (and_then y (bound s n)) ≡ and_then y (bound s n)
awaited_bound s false n y = refl
awaited_bound s true n (ok (got x a)) = refl
awaited_bound s true n (ok (closed t)) = refl
awaited_bound s true n (ok ended) = refl
awaited_bound s true n (refused m p) = refl

-- ---- the turns

pub got_spans : (s : List ℕ) (d : ℕ) (a b : Answer) (x : Tree) → Lexes s a → read_tree s d a ≡ ok (got x b) → Spans s a b (length (records x))
got_spans s d a b x h e = spans x s d a b h (subst (OneIs s d a) e (tree_is s d a))

-- the token at hand is a, j bindings wait for their tree, n trees are read, and with the names of those bindings their records are o and their costs u, told as v
pub record Going (s : List ℕ) (depth : ℕ) (w : Result Many) (a₀ : Answer) (b₀ : List ℕ) (a : Answer) (j n size v : ℕ) (b : List ℕ) : Type 0 where
  pub lexes : Lexes s a
  pub on : n + place (length s) a₀ ≤ place (length s) a
  pub deep : j ≤ depth
  pub weighs : 2 * size + weigh (length s) a₀ ≤ weigh (length s) a
  pub u : ℕ
  pub costly : 22 * (u + n) ≤ 41 * size
  pub counts : CostTold v u size (length b₀)
  pub o : List ℕ
  pub puts : Puts o size b₀ b
  pub same : length b ≡ length b₀
  pub left : Left n o u w (read_items (read_tree s depth) (length s - n)) (awaited s (ltb 0 j) (read_tree s (depth - j) a))

-- where a turn that began at the token a then stands, and how far it came
pub record Turn (s : List ℕ) (depth : ℕ) (w : Result Many) (a₀ : Answer) (b₀ : List ℕ) (a c : Answer) (j n size v : ℕ) (b : List ℕ) : Type 0 where
  pub going : Going s depth w a₀ b₀ c j n size v b
  pub on : place (length s) a < place (length s) c
  pub top : place (length s) c ≤ length s
  pub small : length s ≤ source_limit

-- the bytes read so far, in a source that is not too long; and what they cost
pub size_top : {s : List ℕ} {depth : ℕ} {w : Result Many} {a₀ : Answer} {b₀ : List ℕ} {a : Answer} {j n size v : ℕ} {b : List ℕ} → Going s depth w a₀ b₀ a j n size v b
    → length s ≤ source_limit → size ≤ table_limit
size_top {s} {a = a} g h = omega (arith, g.weighs, weigh_top s a g.lexes)

-- trees read so far
pub number_top : {s : List ℕ} {depth : ℕ} {w : Result Many} {a₀ : Answer} {b₀ : List ℕ} {a : Answer} {j n size v : ℕ} {b : List ℕ} → Going s depth w a₀ b₀ a j n size v b → n ≤ length s
number_top {s} {a = a} g = omega (arith, g.on, place_top s a g.lexes)

pub turn_small : {s : List ℕ} {depth : ℕ} {w : Result Many} {a₀ : Answer} {b₀ : List ℕ} {a c : Answer} {j n size v : ℕ} {b : List ℕ} → Turn s depth w a₀ b₀ a c j n size v b
    → (size ≤ table_limit) × (v ≤ 2 * table_limit)
turn_small q = let top = size_top q.going q.small in (top, omega (arith, q.going.costly, q.going.counts.0))

pub starts : (s : List ℕ) (depth : ℕ) (a : Answer) (b : List ℕ) → Lexes s a
    → Going s depth (read_items (read_tree s depth) (suc (length s)) a) a b a 0 0 0 0 b
unfolding read_items
starts s depth a b h =
    let f : Answer → Result One = read_tree s depth in
    let e : length s - 0 ≡ length s = omega arith in
    let d : depth - 0 ≡ depth = omega arith in
    record {
      lexes = h;
      on = omega arith;
      deep = omega arith;
      weighs = omega arith;
      u = 0;
      costly = omega arith;
      counts = (omega arith, λ _. refl);
      o = [];
      puts = (refl, λ _. refl);
      same = refl;
      left = rw (e, d) (left_of 0 [] 0 (read_items f (suc (length s)) a) (read_items f (length s)) (f a) (before_all (read_items f (suc (length s)) a)));
    }

module _ {s : List ℕ} {depth : ℕ} {w : Result Many} {a₀ : Answer} {b₀ : List ℕ} {a : Answer} {j n size v : ℕ} {b : List ℕ} (g : Going s depth w a₀ b₀ a j n size v b) where
  abbrev here : Result One
  here = awaited s (ltb 0 j) (read_tree s (depth - j) a)

  -- what was read next costs k more, and was told to cost i more; its records end at z
  more_told : (i k z : ℕ) → size ≤ z → i ≤ k → (z ≤ length b₀ → i ≡ k) → CostTold (v + i) (g.u + k) z (length b₀)
  more_told i k z h l e =
      (omega (arith, g.counts.0), λ r. let ev : v ≡ g.u = g.counts.1 (omega arith) in let ei : i ≡ k = e r in omega arith)

  -- a tree was read, and its records put behind what was there
  pub tree_turn : (a' : Answer) → a' ≡ a → (x : OneRead) (ys b' : List ℕ) → TreeIs s (read_tree s (depth - j) a') x (drop size b) ys
      → b' ≡ take size b ++ ys → length b' ≡ length b → Turn s depth w a₀ b₀ a (next_token s x.place) 0 (n + 1) (size + x.size) (v + x.cost) b'
  unfolding read_items
  tree_turn a' ea x ys b' h e l =
      let f : Answer → Result One = read_tree s depth in
      let c : Answer = next_token s x.place in
      let reads : read_tree s (depth - j) a ≡ ok (got h.tree c) = ap (read_tree s (depth - j)) (sym ea) ∙ h.reads in
      let q : Spans s a c (length (records h.tree)) = got_spans s (depth - j) a c h.tree g.lexes reads in
      let one : length s - n ≡ suc (length s - (n + 1)) = omega (arith, q.on, q.top, g.on) in
      let d : depth - 0 ≡ depth = omega arith in
      let got_it : here ≡ ok (got h.tree c) = ap (awaited s (ltb 0 j)) reads ∙ awaited_got s (ltb 0 j) h.tree c in
      let k : Before (n + 1) (g.o ++ records h.tree) (g.u + cost h.tree) w (read_items f (length s - n) c) = subst (Left n g.o g.u w (read_items f (length s - n))) got_it g.left in
      record {
        going = record {
          lexes = q.lexes;
          on = omega (arith, q.on, g.on);
          deep = omega arith;
          weighs = omega (arith, q.size, g.weighs, h.size);
          u = g.u + cost h.tree;
          costly = omega (arith, g.costly, cost_le h.tree, h.size);
          counts = more_told x.cost (cost h.tree) (size + x.size) (omega arith) h.told.0 (λ i. h.told.1 (omega (arith, length-drop size b, g.same, h.size)));
          o = g.o ++ records h.tree;
          puts = subst⁻¹ (Puts (g.o ++ records h.tree) (size + x.size) b₀) e (puts_behind g.o (records h.tree) b₀ b ys size x.size g.puts g.same (h.size, h.filled));
          same = l ∙ g.same;
          left = rw d (left_of (n + 1) (g.o ++ records h.tree) (g.u + cost h.tree) w (read_items f (length s - (n + 1))) (f c)
              (subst (λ (i : ℕ). Before (n + 1) (g.o ++ records h.tree) (g.u + cost h.tree) w (read_items f i c)) one k));
        };
        on = q.on;
        top = q.top;
        small = q.small;
      }

  -- what is awaited is refused; where a tree is due, so are a `)` and the end
  refused_turn : (m p : ℕ) → here ≡ refused m p → w ≡ refused m p
  refused_turn m p e = subst (Left n g.o g.u w (read_items (read_tree s depth) (length s - n))) e g.left

  pub no_tree_turn : (m p : ℕ) → read_tree s (depth - j) a ≡ refused m p → w ≡ refused m p
  no_tree_turn m p e = refused_turn m p (ap (awaited s (ltb 0 j)) e ∙ awaited_refused s (ltb 0 j) m p)

  pub no_token_turn : (m p : ℕ) → a ≡ refused m p → w ≡ refused m p
  no_token_turn m p e = no_tree_turn m p (ap (read_tree s (depth - j)) e ∙ read_refused s (depth - j) m p)

  awaits : (d : Bool) → ltb 0 j ≡ d → (c : Answer) → a ≡ c → here ≡ awaited s d (read_tree s (depth - j) c)
  awaits d f c e = ap (λ (d : Bool). awaited s d (read_tree s (depth - j) a)) f ∙ ap (λ (x : Answer). awaited s d (read_tree s (depth - j) x)) e

  pub due_close_turn : (p : ℕ) → a ≡ ok (is (token rparen p 1)) → 0 < j → w ≡ refused no_tree p
  due_close_turn p e f =
      refused_turn no_tree p (awaits true (lt-ltb 0 j f) (ok (is (token rparen p 1))) e ∙ ap (awaited s true) (read_rparen s (depth - j) (token rparen p 1) refl))

  pub due_end_turn : a ≡ ok end → 0 < j → w ≡ refused no_tree (length s)
  due_end_turn e f = refused_turn no_tree (length s) (awaits true (lt-ltb 0 j f) (ok end) e ∙ ap (awaited s true) (read_end s (depth - j)))

  -- the records of trees in a row are those that were written
  filled : (ys : Trees) → records_of ys ≡ g.o → Filled (records_of ys) b₀ b
  filled ys e l = g.puts.1 (omega (arith, ap length e)) ∙ ap (λ (r : List ℕ). over r b₀) (sym e)

  told_of : (ys : Trees) → records_of ys ≡ g.o → costs ys ≡ g.u → CostTold v (costs ys) (length (records_of ys)) (length b₀)
  told_of ys e f =
      let m : size ≡ length (records_of ys) = g.puts.0 ∙ sym (ap length e) in (omega (arith, g.counts.0), λ l. g.counts.1 (omega arith) ∙ sym f)

  none_due : j ≤ 0 → ltb 0 j ≡ false
  none_due f = le-ltb 0 j f

  pub close_turn : (p : ℕ) → a ≡ ok (is (token rparen p 1)) → j ≤ 0 → ItemsAre w (record { stop = stop.Close p; n = n; size = size; cost = v }) b₀ b
  close_turn p e f =
      let h : here ≡ ok (closed (token rparen p 1)) = awaits false (none_due f) (ok (is (token rparen p 1))) e ∙ read_rparen s (depth - j) (token rparen p 1) refl in
      let k = subst (Left n g.o g.u w (read_items (read_tree s depth) (length s - n))) h g.left in
      record {
        trees = k.0;
        stopped = (token rparen p 1, k.1, refl);
        number = sym k.2;
        size = g.puts.0 ∙ sym (ap length k.3);
        told = told_of k.0 k.3 k.4;
        filled = filled k.0 k.3;
      }

  pub end_turn : a ≡ ok end → j ≤ 0 → ItemsAre w (record { stop = stop.End; n = n; size = size; cost = v }) b₀ b
  end_turn e f =
      let h : here ≡ ok ended = awaits false (none_due f) (ok end) e ∙ read_end s (depth - j) in
      let k = subst (Left n g.o g.u w (read_items (read_tree s depth) (length s - n))) h g.left in
      record {
        trees = k.0;
        stopped = k.1;
        number = sym k.2;
        size = g.puts.0 ∙ sym (ap length k.3);
        told = told_of k.0 k.3 k.4;
        filled = filled k.0 k.3;
      }

  -- the token is a symbol of m bytes k, and behind the gap after it, at q, stands an `@`
  module _ (p m : ℕ) (e : a ≡ ok (is (token symbol p m))) (q : ℕ) (eq : q ≡ gap_end s (p + m)) (yes : is_at_sign (class_of (get_or s q 0)) ≡ true) where
    its_lexes : Lexes s (ok (is (token symbol p m)))
    its_lexes = subst (Lexes s) e g.lexes

    sign : after s (token symbol p m) ≡ ok (is (token at_sign q 1))
    sign = rw eq (gap_sign s (p + m) (limited s its_lexes.place (token symbol p m) its_lexes.gives) (ap (λ (i : ℕ). is_at_sign (class_of (get_or s i 0))) (sym eq) ∙ yes))

    pub deep_turn : j ≡ depth → w ≡ refused too_deep p
    deep_turn f =
        no_tree_turn too_deep p (ap (read_tree s (depth - j)) e
        ∙ read_bind_deep s (depth - j) (token symbol p m) (token at_sign q 1) refl sign refl (omega arith))

    pub bind_turn : (i : ℕ) (k b' : List ℕ) → k ≡ name_of s (token symbol p m) → (j ≡ depth → ⊥)
        → CostTold i (length k) (length k + head_len) (length b - size) × (b' ≡ take size b ++ fitted (record_of binding_kind k) (drop size b)) → length b' ≡ length b
        → Turn s depth w a₀ b₀ a (next_token s (q + 1)) (j + 1) n (size + (m + head_len)) (v + (i + 3)) b'
    bind_turn i k b' ek nd h l =
        let its : List ℕ = name_of s (token symbol p m) in
        let F : Answer → Result Many = read_items (read_tree s depth) (length s - n) in
        let y : Result One = read_tree s (depth - j - 1) (next_token s (q + 1)) in
        let begins : here ≡ and_then y (bound s its) =
        ap (awaited s (ltb 0 j)) (ap (read_tree s (depth - j)) e
        ∙ read_bind s (depth - j) (token symbol p m) (token at_sign q 1) refl sign refl (λ z. nd (omega (arith, g.deep)))) ∙ awaited_bound s (ltb 0 j) its y in
        let left : Left n (g.o ++ record_of binding_kind its) (g.u + (length its + 3)) w F (and_then y (due s)) =
        left_bound n g.o g.u w F s its y (subst (Left n g.o g.u w F) begins g.left) in
        let t : ltb 0 (j + 1) ≡ true = lt-ltb 0 (j + 1) (omega arith) in
        let dj : depth - (j + 1) ≡ depth - j - 1 = omega arith in
        let short : length k ≡ m = ap length ek ∙ name_length s (token symbol p m) (past_top s (token symbol p m) its_lexes) in
        let long : m + head_len ≡ length (record_of binding_kind k) = sym (length_record binding_kind k ∙ ap (λ (i : ℕ). i + head_len) short) in
        let z : Spans s a (next_token s (q + 1)) (length (record_of binding_kind its)) =
        subst⁻¹ (λ (x : Answer). Spans s x (next_token s (q + 1)) (length (record_of binding_kind its))) e (name_spans s (token symbol p m) (token at_sign q 1) its_lexes sign) in
        let same_long : length (record_of binding_kind its) ≡ m + head_len = ap (λ (x : List ℕ). length (record_of binding_kind x)) (sym ek) ∙ sym long in
        record {
          going = record {
            lexes = z.lexes;
            on = omega (arith, z.on, g.on);
            deep = omega (arith, g.deep, nd);
            weighs = omega (arith, z.size, g.weighs, same_long);
            u = g.u + (length k + 3);
            costly = omega (arith, g.costly, short);
            counts = more_told (i + 3) (length k + 3) (size + (m + head_len)) (omega arith) (omega (arith, h.0.0)) (λ f. ap (λ (i : ℕ). i + 3) (h.0.1 (omega (arith, short, g.same))));
            o = g.o ++ record_of binding_kind k;
            puts = subst⁻¹ (Puts (g.o ++ record_of binding_kind k) (size + (m + head_len)) b₀) h.1
                (puts_behind g.o (record_of binding_kind k) b₀ b (fitted (record_of binding_kind k) (drop size b)) size (m + head_len) g.puts g.same
                (long, λ f. fitted_over (record_of binding_kind k) (drop size b) f));
            same = l ∙ g.same;
            left = rw (t, dj, ek) left;
          };
          on = z.on;
          top = z.top;
          small = z.small;
        }
