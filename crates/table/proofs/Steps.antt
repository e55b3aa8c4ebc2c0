-- THE WALK, STATED ONCE: a tree is what its judged record comes to; the items of a list, one by one; trees up to the table's end.
-- A new walk cites `step_tree` at its records, `Gone` in its loop, and speaks of the tree that is found. Assumes nothing.
use Rattle.std.specs.Prelude.{Result as CodeResult, Ok, Err}
use mathlib.Core.Path.{◌≡◌, refl, ap, sym, subst, ◌∙◌}
use mathlib.Core.Bool.{Bool, true, false, cond}
use mathlib.Core.List.{List}
use Prim.Native.Nat.{ℕ, zero, suc, ◌+◌, ◌-◌, ◌≤◌, ◌<◌}
use native.Mathlib.Omega.{arith}
use lib.ListN.{length}
use lib.Dec.{ltb}
use borrow.Author.Tests.{lt-ltb, le-ltb}
use Rattle.refusals.specs.declared.Fault.{Fault}
use Rattle.refusals.specs.Numbers.{table_limit, depth_limit, too_long, number_of}
use Rattle.refusals.specs.Result.{Result, ok, refused}
use Rattle.records.specs.Records.{head_len, payload}
use Rattle.table.specs.Kinds.{integer_len, list_len}
use Rattle.table.specs.Trees.{Tree, Trees, symbol, none, more, count, is_symbol}
use Rattle.table.specs.Records.{Record, Symbol, Integer, Binding, ListOf, record_at}
use Rattle.table.specs.Decoding.{Found, found, and_then, items_at, step_of, step_at, of_step, tree_at, trees_at, shape_of, table_of}
use Rattle.table.specs.Past.{past_name, past_symbol}
use Rattle.table.proofs.Reading.{symbol_in, Ends, StepIn, judged_in, tree_step, tree_of_lem, tree_end}

-- ---- a record x that was judged good, and is y; and one that has a fault

pub step_tree : (t : List ℕ) (d at : ℕ) (x y : Record) → Ok x ≡ step_at t at (ltb 0 d) → x ≡ y → tree_at t d at ≡ of_step t at (tree_at t (d - 1)) (Ok y)
step_tree t d at x y e e' = tree_step t d at ∙ ap (of_step t at (tree_at t (d - 1))) (sym e ∙ ap Ok e')

pub step_in : (t : List ℕ) (d at : ℕ) (x y : Record) → Ok x ≡ step_at t at (ltb 0 d) → x ≡ y → StepIn t d at (Ok y)
step_in t d at x y e e' = subst (StepIn t d at) (sym e ∙ ap Ok e') (judged_in t d at)

pub fault_tree : (t : List ℕ) (d at : ℕ) (f : Fault) → Err f ≡ step_at t at (ltb 0 d) → tree_at t d at ≡ refused (number_of f) at
fault_tree t d at f e = tree_step t d at ∙ ap (of_step t at (tree_at t (d - 1))) (sym e)

-- ---- a record that was read as y, judged

pub then_is : {A : Type 0} (b b' : Bool) (x y : A) → b ≡ b' → b ≡ true → x ≡ cond b' x y
then_is b b' x y e h = rw (← e, h) refl

pub judged_is : (t : List ℕ) (at : ℕ) (o : Bool) (x y : Record) (s : CodeResult Record Fault) → Ok x ≡ record_at t at → x ≡ y → s ≡ step_of t at o (Ok y)
    → s ≡ step_at t at o
unfolding step_at
judged_is t at o x y s e e' f = f ∙ ap (step_of t at o) (ap Ok (sym e') ∙ e)

-- `past_symbol` never goes back
pub symbol_from : (t : List ℕ) (at q : ℕ) → q ≡ past_symbol t at → at ≤ q
unfolding past_symbol
symbol_from t at q e = rw e (by (record_at t at))
  where
    named : (b : Bool) (len : ℕ) → at ≤ cond b (at + len) at
    named true len = omega arith
    named false len = omega arith

    by : (x : CodeResult Record Fault) → at ≤ past_name t at x
    by (Ok (Symbol len)) = named (is_symbol (payload t at len)) len
    by (Ok Integer) = omega arith
    by (Ok (Binding len)) = omega arith
    by (Ok (ListOf n)) = omega arith
    by (Err f) = omega arith

-- where `past_symbol` goes on, a good symbol stands
pub symbol_there : (t : List ℕ) (d at q : ℕ) → q ≡ past_symbol t at → at < q
    → (head_len ≤ q - at) × (q - at ≤ length t - at) × (tree_at t d at ≡ ok (found (symbol (payload t at (q - at))) q))
unfolding past_symbol
symbol_there t d at q e l = by (record_at t at) refl e
  where
    named : (len : ℕ) (b : Bool) → record_at t at ≡ Ok (Symbol len) → is_symbol (payload t at len) ≡ b → q ≡ cond b (at + len) at
        → (head_len ≤ q - at) × (q - at ≤ length t - at) × (tree_at t d at ≡ ok (found (symbol (payload t at (q - at))) q))
    named len false f g k = absurd (omega arith)
    named len true f g k =
        let h = symbol_in t at len (Symbol len) (sym f) refl in
        let z : q - at ≡ len = omega arith in
        rw (z, k) (h.0, h.1, tree_of_lem t d at (Ok (Symbol len)) (sym f) ∙ rw g refl)

    by : (x : CodeResult Record Fault) → record_at t at ≡ x → q ≡ past_name t at x
        → (head_len ≤ q - at) × (q - at ≤ length t - at) × (tree_at t d at ≡ ok (found (symbol (payload t at (q - at))) q))
    by (Ok (Symbol len)) f k = named len (is_symbol (payload t at len)) f refl k
    by (Ok Integer) f k = absurd (omega arith)
    by (Ok (Binding len)) f k = absurd (omega arith)
    by (Ok (ListOf n)) f k = absurd (omega arith)
    by (Err n) f k = absurd (omega arith)

-- a tree that is found ends past its place and within the table
pub found_in : (t : List ℕ) (d p q : ℕ) (x : Tree) → p ≤ length t → tree_at t d p ≡ ok (found x q) → (p < q) × (q ≤ length t)
found_in t d p q x h e = let g = subst (Ends (p + 1) (length t)) e (tree_end t d p h) in (omega arith, g.1)

-- ---- the items of a list: k of the n from `at` are done, and p is past them

pub record Gone (f : ℕ → Result (Found Tree)) (n at k p : ℕ) : Type 0 where
  -- the items done, before those that are left
  pub pre : Trees → Trees
  pub whole : items_at f n at ≡ and_then (items_at f (n - k) p) (λ ys q. ok (found (pre ys) q))
  pub counted : (ys : Trees) → count (pre ys) ≡ k + count ys
  pub few : k ≤ n

pub all_of : (y : Result (Found Trees)) → y ≡ and_then y (λ ys q. ok (found ys q))
all_of (ok (found xs q)) = refl
all_of (refused n a) = refl

then_more : (x : Tree) (pre : Trees → Trees) (y : Result (Found Trees))
    → and_then (and_then y (λ xs r. ok (found (more x xs) r))) (λ ys q. ok (found (pre ys) q)) ≡ and_then y (λ ys q. ok (found (pre (more x ys)) q))
then_more x pre (ok (found xs q)) = refl
then_more x pre (refused n a) = refl

abbrev pub gone_begin : (f : ℕ → Result (Found Tree)) (n at : ℕ) → Gone f n at 0 at
gone_begin f n at =
    let z : n - 0 ≡ n = omega arith in
    record { pre = λ ys. ys; whole = rw z (all_of (items_at f n at)); counted = λ ys. omega arith; few = omega arith }

module _ (f : ℕ → Result (Found Tree)) (n at k p : ℕ) (g : Gone f n at k p) where
  pub one_more : (q : ℕ) (x : Tree) → k < n → f p ≡ ok (found x q)
      → items_at f n at ≡ and_then (items_at f (n - (k + 1)) q) (λ ys r. ok (found (g.pre (more x ys)) r))
  unfolding items_at
  one_more q x lt e =
      let z : n - k ≡ suc (n - (k + 1)) = omega arith in
      g.whole ∙ rw (z, e) (then_more x g.pre (items_at f (n - (k + 1)) q))

  abbrev pub gone_item : (q : ℕ) (x : Tree) → k < n → f p ≡ ok (found x q) → Gone f n at (k + 1) q
  gone_item q x lt e = record {
    pre = λ ys. g.pre (more x ys);
    whole = one_more q x lt e;
    counted = λ ys. g.counted (more x ys) ∙ omega arith;
    few = omega arith;
  }

  pub gone_stop : (b a : ℕ) → k < n → f p ≡ refused b a → items_at f n at ≡ refused b a
  unfolding items_at
  gone_stop b a lt e = let z : n - k ≡ suc (n - (k + 1)) = omega arith in g.whole ∙ rw (z, e) refl

  pub gone_end : n ≤ k → items_at f n at ≡ ok (found (g.pre none) p)
  unfolding items_at
  gone_end le = let z : n - k ≡ 0 = omega arith in g.whole ∙ rw z refl

-- ---- trees up to the table's end: those before p are done, and k is fuel enough

pub record Read (t : List ℕ) (p : ℕ) : Type 0 where
  pub k : ℕ
  pub enough : length t < k + p
  -- the trees done, before those that are left
  pub pre : Trees → Trees
  pub whole : shape_of t ≡ and_then (trees_at t k p) (λ ys q. ok (found (pre ys) q))
  pub within : p ≤ length t
  pub limit : length t ≤ table_limit

-- a table without a shape is refused for it
pub shapeless : (t : List ℕ) (n a : ℕ) → shape_of t ≡ refused n a → table_of t ≡ refused n a
unfolding table_of
shapeless t n a e = rw e refl

pub too_long_lem : (t : List ℕ) → table_limit < length t → table_of t ≡ refused too_long table_limit
unfolding shape_of
too_long_lem t h = shapeless t too_long table_limit (rw (lt-ltb table_limit (length t) h) refl)

pub read_whole : (t : List ℕ) → length t ≤ table_limit → shape_of t ≡ and_then (trees_at t (length t + 1) 0) (λ ys q. ok (found ys q))
unfolding shape_of
read_whole t h = rw (le-ltb table_limit (length t) h) (all_of (trees_at t (length t + 1) 0))

abbrev pub read_begin : (t : List ℕ) → length t ≤ table_limit → Read t 0
read_begin t h = record { k = length t + 1; enough = omega arith; pre = λ ys. ys; whole = read_whole t h; within = omega arith; limit = h }

module _ (t : List ℕ) (p : ℕ) (g : Read t p) where
  -- `pre` of what is left after one tree more, and where that ends
  pub record Onward (x : Tree) (q : ℕ) : Type 0 where
    pub past : p < q
    pub rest : Read t q
    pub pre_is : (ys : Trees) → rest.pre ys ≡ g.pre (more x ys)

  pub read_tree_lem : (q : ℕ) (x : Tree) → p < length t → tree_at t depth_limit p ≡ ok (found x q) → Onward x q
  unfolding trees_at
  read_tree_lem q x lt e = by g.k g.enough g.whole
    where
      by : (k : ℕ) → length t < k + p → shape_of t ≡ and_then (trees_at t k p) (λ ys q. ok (found (g.pre ys) q)) → Onward x q
      by zero h f = absurd (omega arith)
      by (suc k) h f =
          let i = found_in t depth_limit p q x g.within e in
          record {
            past = i.0;
            rest = record {
              k = k;
              enough = omega arith;
              pre = λ ys. g.pre (more x ys);
              whole = f ∙ rw (lt-ltb p (length t) lt, e) (then_more x g.pre (trees_at t k q));
              within = i.1;
              limit = g.limit;
            };
            pre_is = λ ys. refl;
          }

  pub read_stop : (b a : ℕ) → p < length t → tree_at t depth_limit p ≡ refused b a → table_of t ≡ refused b a
  unfolding trees_at
  read_stop b a lt e = shapeless t b a (by g.k g.enough g.whole)
    where
      by : (k : ℕ) → length t < k + p → shape_of t ≡ and_then (trees_at t k p) (λ ys q. ok (found (g.pre ys) q)) → shape_of t ≡ refused b a
      by zero h f = absurd (omega arith)
      by (suc k) h f = f ∙ rw (lt-ltb p (length t) lt, e) refl

  pub read_end : length t ≤ p → shape_of t ≡ ok (found (g.pre none) p)
  unfolding trees_at
  read_end le = by g.k g.whole
    where
      by : (k : ℕ) → shape_of t ≡ and_then (trees_at t k p) (λ ys q. ok (found (g.pre ys) q)) → shape_of t ≡ ok (found (g.pre none) p)
      by zero f = f
      by (suc k) f = f ∙ rw (le-ltb p (length t) le) refl

-- ---- the room of a good record x

module _ (t : List ℕ) (d at : ℕ) (x : Record) (e : Ok x ≡ step_at t at (ltb 0 d)) where
  pub symbol_room : (len : ℕ) → x ≡ Symbol len → (head_len ≤ len) × (at + len ≤ length t)
  symbol_room len e' = let h = step_in t d at x (Symbol len) e e' in (h.0, omega (arith, h.0, h.1))

  pub integer_room : x ≡ Integer → at + integer_len ≤ length t
  integer_room e' = omega (arith, (step_in t d at x Integer e e').0)

  pub binding_room : (len : ℕ) → x ≡ Binding len → (0 < d) × (head_len ≤ len) × (at + len ≤ length t)
  binding_room len e' = let h = step_in t d at x (Binding len) e e' in (h.2, h.0, omega (arith, h.0, h.1))

  pub list_room : (n : ℕ) → x ≡ ListOf n → (0 < d) × (at + list_len ≤ length t)
  list_room n e' = let h = step_in t d at x (ListOf n) e e' in (h.1, omega (arith, h.0))
