-- The walk that checks a table and measures it: a record, the items of a wrapped list one by one, and trees up to the table's end.
-- Assumes nothing.
use mathlib.Core.Path.{◌≡◌, refl, ap, sym, subst, subst⁻¹, ◌∙◌}
use mathlib.Core.Bool.{Bool, true, false, cond, ◌||◌}
use mathlib.Core.List.{List, [], ◌∷◌, ◌++◌}
use Prim.Native.Nat.{ℕ, zero, suc, ◌+◌, ◌*◌, ◌-◌, ◌≤◌, ◌<◌}
use native.Mathlib.Omega.{arith}
use native.Mathlib.Nat.{mul-le-mul_left}
use lib.ListN.{length, length-append}
use lib.IntN.{ℤ}
use lib.Dec.{ltb, eqb}
use borrow.Author.Tests.{lt-ltb, le-ltb, eq-eqb, ne_eqb}
use Rattle.refusals.specs.Numbers.{table_limit, depth_limit, wrong_cost, number_of, fault_at}
use Rattle.refusals.specs.Result.{Result, ok, refused}
use Rattle.wide.specs.Bytes.{number_in, wide_in, integer_at}
use Rattle.wide.specs.Text.{integer_text}
use Rattle.wide.proofs.Decimals.{integer_top}
use Rattle.records.specs.Records.{head_len, kind_at, payload}
use Rattle.records.proofs.Heads.{within_is}
use Rattle.table.specs.Kinds.{symbol_kind, integer_kind, binding_kind, list_kind, integer_len, list_len}
use Rattle.table.specs.Trees.{Tree, Trees, list, none, more, count, cost, records}
use Rattle.table.specs.Costs.{stored_cost, costed, costed_all}
use Rattle.table.specs.Decoding.{Found, found, and_then, items_at, step_at, of_step, tree_at, table_of}
use Rattle.refusals.specs.declared.Fault.{Fault}
use Rattle.table.specs.declared.Record.{Record}
use Rattle.table.specs.declared.Record.TheVariants.{Symbol, Integer, Binding, List as ListOf}
use Rattle.table.specs.Past.{past_symbol}
use Rattle.table.specs.Walking.{wrong_in, first_of, own_wrong, Walks}
use Rattle.table.specs.declared.walk.Walked.{Walked}
use Rattle.table.proofs.Costs.{list_records, cost_le, empties_le, both_right, list_right, first_none}
use Rattle.table.proofs.Reading.{StepIn, judged_in}
use Rattle.table.proofs.Spans.{tree_span}
use Rattle.table.proofs.Steps.{step_tree, step_in, fault_tree, gone_stop, read_stop}
use Rattle.table.proofs.Whole.{accepted_shape}
use Rattle.table.proofs.Walks.{Got, got_name, payload_is, small, walked_tree, walked_stop, integer_value}
use Rattle.table.proofs.Walks.{Walk, walk_begin, walk_item, is_all, all_count, all_cost, all_wrong, Checks, checks_begin, checks_tree, checks_good, checks_wrong}
use Rattle.printer.specs.Layout.{Wrap, SingleLine, bytes, column, put, next, named, nl, gap, inner, fits_in, fits, lay, items, page_from, page}
use Rattle.printer.specs.PrivateWriting.{line, laid}
use Rattle.printer.specs.PrivateMeasuring.{Straight, Sized, Summed}
use Rattle.printer.specs.declared.measure.Size.{Size}
use Rattle.std.specs.Prelude.{Option, Some, None, Result as CodeResult, Ok, Err}
use Rattle.refusals.specs.declared.Refusal.{Refusal}
use Rattle.printer.proofs.ListTexts.{sizes, broken, line_size, laid_binding, laid_fits, laid_size}
use Rattle.printer.proofs.LayoutBounds.{named_size, nl_len_le}

-- ---- what stands at a place, where it was measured as a tree

pub record Laid (t : List ℕ) (d p w i c q k : ℕ) (a : Option ℕ) (len : ℕ) : Type 0 where
  pub got : Got t d p q k a
  pub lays : costed t got.tree p ≡ ok tt → len ≡ length (laid w i c got.tree)
  pub bound : len + 300 ≤ 128 * (q - p)

pub laid_tree : (t : List ℕ) (d p w i c : ℕ) (m : Size) → Sized t p (tree_at t d p) w i c (Ok m) → Laid t d p w i c m.place m.cost m.wrong m.len
laid_tree t d p w i c m s = by (tree_at t d p) refl s
  where
    by : (y : Result (Found Tree)) → tree_at t d p ≡ y → Sized t p y w i c (Ok m) → Laid t d p w i c m.place m.cost m.wrong m.len
    by (ok (found x q)) e s = record {
      got = record { tree = x; is = e ∙ ap (λ (v : ℕ). ok (found x v)) (sym s.0.0); costs_it = s.0.1; wrong_it = s.0.2 };
      lays = s.1;
      bound = rw s.0.0 s.2;
    }
    by (refused n a) e s = absurd s

pub laid_name : (t : List ℕ) (d p w i c q : ℕ) → q ≡ past_symbol t p → p < q → Laid t d p w i c q (q - p - head_len) None (q - p - head_len)
unfolding lay cost got_name
laid_name t d p w i c q e l =
    let g = got_name t d p q e l in
    record { got = g.1; lays = λ _. g.1.costs_it; bound = omega (arith, g.0) }

-- what was refused there
stop_of : (t : List ℕ) (p : ℕ) (y : Result (Found Tree)) (w i c : ℕ) (m : Refusal) → Sized t p y w i c (Err m) → y ≡ refused m.number m.place
stop_of t p (ok (found x q)) w i c m s = absurd s
stop_of t p (refused n a) w i c m s = rw (s.0, s.1) refl

-- ---- on a single line

pub straight_stop : (t : List ℕ) (d p : ℕ) (m : Refusal) → Walks t p (tree_at t d p) (Err m) → Straight t p (tree_at t d p) (Err m)
straight_stop t d p m s = rw (walked_stop t p (tree_at t d p) m s) (refl, refl)

pub straight : (t : List ℕ) (d p : ℕ) (m : Walked) → Walks t p (tree_at t d p) (Ok m)
    → Straight t p (tree_at t d p) (Ok (record { place = m.place; cost = m.cost; wrong = m.wrong; len = m.cost + m.empty }))
straight t d p m s =
    let y = walked_tree t d p m s in
    rw y.0.is ((refl, y.0.costs_it, y.0.wrong_it), omega (arith, y.0.costs_it, y.1, line_size y.0.tree))

-- what is counted on a line does not wrap
pub straight_small : (t : List ℕ) (d p : ℕ) (m : Walked) → p ≤ length t → Walks t p (tree_at t d p) (Ok m) → 22 * (m.cost + m.empty) ≤ 82 * length t
straight_small t d p m hp s =
    let y = walked_tree t d p m s in
    let g = small t d p m.place m.cost m.wrong hp y.0 in
    omega (arith, g.bound, g.within, y.1, y.0.costs_it, empties_le y.0.tree)

-- what was told of a tree on a single line, where it is laid on one
line_sized : (t : List ℕ) (at : ℕ) (x : Tree) (q w i c : ℕ) (r : CodeResult Size Refusal) → (costed t x at ≡ ok tt → length (line x) ≡ length (laid w i c x))
    → length (line x) + 300 ≤ 128 * (q - at) → Straight t at (ok (found x q)) r → Sized t at (ok (found x q)) w i c r
line_sized t at x q w i c (Ok m) e l u = (u.0, (λ o. u.1 ∙ e o), omega (arith, u.1, l))
line_sized t at x q w i c (Err m) e l u = absurd u

line_stop : (t : List ℕ) (at n a w i c : ℕ) (r : CodeResult Size Refusal) → Straight t at (refused n a) r → Sized t at (refused n a) w i c r
line_stop t at n a w i c (Ok m) u = absurd u
line_stop t at n a w i c (Err m) u = u

-- a list on a single line is as it is laid: where it is empty, and where it fits by a cost that is its own
laid_none : (w i c : ℕ) → length (laid w i c (list none)) ≡ 2
unfolding lay
laid_none w i c = by (fits w c (list none))
  where
    by : (b : Bool) → length (bytes (next (put (40 ∷ []) c) (λ c1. items none true (cond b SingleLine Wrap) w i c1))) ≡ 2
    by true = refl
    by false = refl

line_laid : (xs : Trees) (w i c n k : ℕ) → count xs ≡ n → (eqb n 0 || fits_in w c k) ≡ true → k ≡ cost (list xs) → length (line (list xs)) ≡ length (laid w i c (list xs))
unfolding line
line_laid none w i c n k e f h = sym (laid_none w i c)
line_laid (more x xs) w i c n k e f h =
    let z : eqb n 0 ≡ false = ne_eqb n 0 (λ u. omega arith) in
    let g : fits_in w c k ≡ true = rw z at f in
    sym (ap length (laid_fits (more x xs) w i c (ap (fits_in w c) (sym h) ∙ g)))

pub empty_test : (n : ℕ) (f : Bool) → n ≡ 0 → (eqb n 0 || f) ≡ true
empty_test n f e = rw (eq-eqb n 0 e) refl

-- so many items are found as are looked for
abbrev Counts : ℕ → Result (Found Trees) → Type 0
Counts n (ok (found xs q)) = count xs ≡ n
Counts n (refused m a) = Unit {0}

items_count : (f : ℕ → Result (Found Tree)) (n p : ℕ) → Counts n (items_at f n p)
unfolding items_at
items_count f zero p = refl
items_count f (suc n) p = first (f p) (items_count f n)
  where
    last : (x : Tree) (y : Result (Found Trees)) → Counts n y → Counts (suc n) (and_then y (λ xs r. ok (found (more x xs) r)))
    last x (ok (found xs r)) h = ap suc h
    last x (refused m a) h = tt

    first : (y : Result (Found Tree)) → ((q : ℕ) → Counts n (items_at f n q)) → Counts (suc n) (and_then y (λ x q. and_then (items_at f n q) (λ xs r. ok (found (more x xs) r))))
    first (ok (found x q)) ih = last x (items_at f n q) (ih q)
    first (refused m a) ih = tt

-- ---- a judged record s, or its fault

pub at_fault : (t : List ℕ) (d at : ℕ) (f : Fault) → Err f ≡ step_at t at (ltb 0 d) → (w i c : ℕ) (r : Refusal) → r ≡ fault_at f at → Sized t at (tree_at t d at) w i c (Err r)
at_fault t d at f e w i c r k = rw (fault_tree t d at f e, k) (refl, refl)

module _ (t : List ℕ) (d at : ℕ) (s : Record) (e : Ok s ≡ step_at t at (ltb 0 d)) (w i c : ℕ) (r : CodeResult Size Refusal) where
  to : (y : Record) → s ≡ y → Sized t at (of_step t at (tree_at t (d - 1)) (Ok y)) w i c r → Sized t at (tree_at t d at) w i c r
  to y e' k = subst⁻¹ (λ (v : Result (Found Tree)). Sized t at v w i c r) (step_tree t d at s y e e') k

  pub at_symbol : (len : ℕ) → s ≡ Symbol len → r ≡ Ok (record { place = at + len; cost = len - head_len; wrong = None; len = len - head_len })
      → Sized t at (tree_at t d at) w i c r
  unfolding lay cost costed
  at_symbol len e' k =
      let a = step_in t d at s (Symbol len) e e' in
      to (Symbol len) e' (rw (k, payload_is t at len a.0 a.1) ((refl, refl, refl), (λ _. refl), omega (arith, a.0)))

  pub at_integer : (n : ℕ) (z : ℤ) → s ≡ Integer → n ≡ length (integer_text z) → z ≡ wide_in t (at + head_len)
      → r ≡ Ok (record { place = at + integer_len; cost = n; wrong = None; len = n }) → Sized t at (tree_at t d at) w i c r
  unfolding lay cost costed
  at_integer n z e' en ez k =
      let l : n + 300 ≤ 128 * (at + integer_len - at) = omega (arith, en, integer_top z) in
      let v = integer_value t at z (step_in t d at s Integer e e').0 ez in
      let f : n ≡ length (integer_text (integer_at t (at + head_len))) = en ∙ ap (λ (y : ℤ). length (integer_text y)) v in
      to Integer e' (rw k ((refl, f, refl), (λ _. f), l))

  -- m is what the tree below was measured as
  pub binding_stop : (len : ℕ) (m : Refusal) → s ≡ Binding len → Sized t (at + len) (tree_at t (d - 1) (at + len)) w i (c + (len - head_len + 3)) (Err m) → r ≡ Err m
      → Sized t at (tree_at t d at) w i c r
  binding_stop len m e' u k =
      to (Binding len) e' (rw (stop_of t (at + len) (tree_at t (d - 1) (at + len)) w i (c + (len - head_len + 3)) m u, k) (refl, refl))

  pub binding_good : (len : ℕ) (m : Size) → s ≡ Binding len → at ≤ length t → Sized t (at + len) (tree_at t (d - 1) (at + len)) w i (c + (len - head_len + 3)) (Ok m)
      → r ≡ Ok (record { place = m.place; cost = len - head_len + 3 + m.cost; wrong = m.wrong; len = len - head_len + 3 + m.len }) → Sized t at (tree_at t d at) w i c r
  unfolding cost costed
  binding_good len m e' hat u k =
      let y = laid_tree t (d - 1) (at + len) w i (c + (len - head_len + 3)) m u in
      let x : Tree = y.got.tree in
      let a = step_in t d at s (Binding len) e e' in
      let nm : List ℕ = payload t at len in
      let z : length nm ≡ len - head_len = payload_is t at len a.0 a.1 in
      let v : len - head_len + 3 ≡ length (named nm) = omega (arith, named_size nm, z) in
      let j : at + (length nm + head_len) ≡ at + len = omega (arith, z, a.0) in
      let g = ap length (laid_binding nm x w i c (len - head_len + 3) v) ∙ length-append (named nm) (laid w i (c + (len - head_len + 3)) x) in
      let q = small t (d - 1) (at + len) m.place m.cost m.wrong (omega (arith, a.0, a.1)) y.got in
      to (Binding len) e' (rw (y.got.is, k) (
        (refl, omega (arith, y.got.costs_it, z), y.got.wrong_it ∙ ap (λ (o : ℕ). wrong_in (costed t x o)) (sym j)),
        (λ f. omega (arith, y.lays (subst (λ (o : ℕ). costed t x o ≡ ok tt) j f), g, v)),
        omega (arith, y.bound, q.past, a.0),
      ))

  -- an empty list, or one that fits by the cost that it stores
  pub at_line : (n : ℕ) → s ≡ ListOf n → at ≤ length t → (eqb n 0 || fits_in w c (stored_cost t at)) ≡ true → Straight t at (tree_at t d at) r → Sized t at (tree_at t d at) w i c r
  at_line n e' hat f k = by (items_at (tree_at t (d - 1)) n (at + list_len)) (items_count (tree_at t (d - 1)) n (at + list_len)) refl
    where
      by : (y : Result (Found Trees)) → Counts n y → items_at (tree_at t (d - 1)) n (at + list_len) ≡ y → Sized t at (tree_at t d at) w i c r
      by (ok (found xs q)) h g =
          let z : tree_at t d at ≡ ok (found (list xs) q) = step_tree t d at s (ListOf n) e e' ∙ rw g refl in
          let l = tree_span t d at q (list xs) hat z in
          rw z (line_sized t at (list xs) q w i c r (λ o. line_laid xs w i c n (stored_cost t at) h f (list_right t xs at o).0)
          (omega (arith, line_size (list xs), cost_le (list xs), empties_le (list xs), list_records xs, l.0))
          (subst (λ (v : Result (Found Tree)). Straight t at v r) z k))
      by (refused m a) h g =
          let z : tree_at t d at ≡ refused m a = step_tree t d at s (ListOf n) e e' ∙ rw g refl in
          rw z (line_stop t at m a w i c r (subst (λ (v : Result (Found Tree)). Straight t at v r) z k))

  pub at_list : (n : ℕ) → s ≡ ListOf n → Sized t at (and_then (items_at (tree_at t (d - 1)) n (at + list_len)) (λ xs q. ok (found (list xs) q))) w i c r
      → Sized t at (tree_at t d at) w i c r
  at_list n e' k = to (ListOf n) e' k

-- a record whose kind is a list's, and which fits by what was read as its cost, by the code's test
module _ (t : List ℕ) (d at w : ℕ) where
  -- the kind that was read
  kind_read : (k kind : ℕ) → at + head_len ≤ length t → k ≡ number_in 2 t (at + 4) → kind_at t at ≡ kind → k ≡ kind
  kind_read k kind h e f = sym (within_is 2 t (at + 4) k (omega arith) e) ∙ f

  pub kind_line : (i c : ℕ) (r : CodeResult Size Refusal) (k j : ℕ) (f : Bool) → at ≤ length t → k ≡ number_in 2 t (at + 4) → j ≡ stored_cost t at → f ≡ fits_in w c j → k ≡ list_kind → f ≡ true
      → Straight t at (tree_at t d at) r → Sized t at (tree_at t d at) w i c r
  kind_line i c r k j f hat ek ej ef is h u = by (step_at t at (ltb 0 d)) refl (judged_in t d at)
    where
      fit : fits_in w c (stored_cost t at) ≡ true
      fit = sym (ef ∙ ap (fits_in w c) ej) ∙ h

      by : (s : CodeResult Record Fault) → s ≡ step_at t at (ltb 0 d) → StepIn t d at s → Sized t at (tree_at t d at) w i c r
      by (Err n) e g =
          let z : tree_at t d at ≡ refused (number_of n) at = fault_tree t d at n e in
          rw z (line_stop t at (number_of n) at w i c r (subst (λ (v : Result (Found Tree)). Straight t at v r) z u))
      by (Ok (Symbol len)) e g = absurd (omega (arith, is, kind_read k symbol_kind (omega (arith, g.0, g.1)) ek g.4))
      by (Ok Integer) e g = absurd (omega (arith, is, kind_read k integer_kind (omega (arith, g.0)) ek g.2))
      by (Ok (Binding len)) e g = absurd (omega (arith, is, kind_read k binding_kind (omega (arith, g.0, g.1)) ek g.5))
      by (Ok (ListOf n)) e g = at_line t d at (ListOf n) e w i c r n refl hat (rw fit (or_true (eqb n 0))) u
        where
          or_true : (b : Bool) → (b || true) ≡ true
          or_true true = refl
          or_true false = refl

  -- a list's kind is read as it is
  pub list_read : (n k : ℕ) → StepIn t d at (Ok (ListOf n)) → k ≡ number_in 2 t (at + 4) → k ≡ list_kind
  list_read n k g e = kind_read k list_kind (omega (arith, g.0)) e g.4

-- ---- the items of the wrapped list at `at`: j of them are done, and p is past them; len counts them, its parentheses and the line break before the last, if no cost is wrong

pub record Laying (t : List ℕ) (at n d w i c p j k : ℕ) (a : Option ℕ) (len : ℕ) : Type 0 where
  pub walk : Walk t at n d p j k a
  summed : (ys : Trees) → costed_all t (walk.gone.pre ys) (at + list_len) ≡ ok tt
      → (length (bytes (nl i)) + 2 + sizes (broken w i (c + 1)) (walk.gone.pre ys) true ≡ len + sizes (broken w i (c + 1)) ys (eqb j 0)) × (costed_all t ys p ≡ ok tt)
  pub bound : len + 300 * j ≤ 259 + 128 * (p - (at + list_len))

pub laying_begin : (t : List ℕ) (at n d w i c k : ℕ) → at + list_len ≤ length t → i ≤ depth_limit → k ≡ length (bytes (nl i))
    → Laying t at n d w i c (at + list_len) 0 (n + 1) None (k + 2)
laying_begin t at n d w i c k h hi e = rw e record {
  walk = walk_begin t at n d h;
  summed = λ ys f. (refl, f);
  bound = omega (arith, nl_len_le i (length (bytes (nl i))) hi refl);
}

module _ (t : List ℕ) (at n d w i c p j k : ℕ) (a : Option ℕ) (len : ℕ) (g : Laying t at n d w i c p j k a len) (lt : j < n) where
  -- the indent and the column of the item at p
  abbrev pub ind : ℕ
  ind = inner (eqb j 0) Wrap i

  abbrev pub col : ℕ
  col = column (gap (eqb j 0) Wrap i (c + 1))

  laying_item : (q k1 : ℕ) (a1 : Option ℕ) (l k' : ℕ) (a' : Option ℕ) (len' : ℕ) → Laid t d p w ind col q k1 a1 l → k' ≡ k + k1 → a' ≡ first_of a a1 → len' ≡ len + l
      → Laying t at n d w i c q (j + 1) k' a' len'
  unfolding sizes costed
  laying_item q k1 a1 l k' a' len' y ek ea el =
      let x : Tree = y.got.tree in
      let v = walk_item t at n d p j k a g.walk q k1 a1 k' a' lt y.got ek ea in
      let s = small t d p q k1 a1 g.walk.within y.got in
      let z : eqb (j + 1) 0 ≡ false = ne_eqb (j + 1) 0 (λ (u : j + 1 ≡ 0). omega arith) in
      record {
        walk = v.rest;
        summed =
            λ ys e.
            let h = g.summed (more x ys) (subst (λ (xs : Trees). costed_all t xs (at + list_len) ≡ ok tt) (v.pre_is ys) e) in
            let b = both_right (costed t x p) (λ _. costed_all t ys (p + length (records x))) h.1 in (
              ap (λ (xs : Trees). length (bytes (nl i)) + 2 + sizes (broken w i (c + 1)) xs true) (v.pre_is ys) ∙ h.0 ∙ rw z (omega (arith, y.lays b.0)),
              subst⁻¹ (λ (o : ℕ). costed_all t ys o ≡ ok tt) (tree_span t d p q x g.walk.within y.got.is).0 b.1,
            );
        bound = omega (arith, g.bound, g.walk.from, y.bound, s.past);
      }

  pub laying_name : (q p' k' : ℕ) (a' : Option ℕ) (len' : ℕ) → q ≡ past_symbol t p → p < q → p' ≡ q → k' ≡ k + (q - p - head_len) → a' ≡ a → len' ≡ len + (q - p - head_len)
      → Laying t at n d w i c p' (j + 1) k' a' len'
  laying_name q p' k' a' len' f l ep ek ea el =
      rw ep (laying_item q (q - p - head_len) None (q - p - head_len) k' a' len' (laid_name t d p w ind col q f l) ek (ea ∙ sym (first_none a)) el)

  pub laying_tree : (o u p' k' : ℕ) (a' : Option ℕ) (len' : ℕ) (m : Size) → o ≡ ind → u ≡ col → Sized t p (tree_at t d p) w o u (Ok m)
      → p' ≡ m.place → k' ≡ k + m.cost → a' ≡ first_of a m.wrong → len' ≡ len + m.len → Laying t at n d w i c p' (j + 1) k' a' len'
  laying_tree o u p' k' a' len' m eo eu s ep ek ea el =
      let s' : Sized t p (tree_at t d p) w ind col (Ok m) = subst (λ (v : ℕ). Sized t p (tree_at t d p) w ind v (Ok m)) eu (subst (λ (v : ℕ). Sized t p (tree_at t d p) w v u (Ok m)) eo s) in
      rw ep (laying_item m.place m.cost m.wrong m.len k' a' len' (laid_tree t d p w ind col m s') ek ea el)

  -- m is the refusal at p
  pub laying_stop : (o u : ℕ) (m : Refusal) → Sized t p (tree_at t d p) w o u (Err m)
      → Sized t at (and_then (items_at (tree_at t d) n (at + list_len)) (λ xs q. ok (found (list xs) q))) w i c (Err m)
  laying_stop o u m s = rw (gone_stop (tree_at t d) n (at + list_len) j p g.walk.gone m.number m.place lt (stop_of t p (tree_at t d p) w o u m s)) (refl, refl)

-- n line breaks of e bytes each
pub breaks_fit : (n e i : ℕ) → i ≤ depth_limit → e ≡ length (bytes (nl i)) → n * e ≤ n * 257
breaks_fit n e i l eq = mul-le-mul_left n (nl_len_le i e l eq)

module _ (t : List ℕ) (at n d w i c p j k : ℕ) (a : Option ℕ) (len : ℕ) (g : Laying t at n d w i c p j k a len) (le : n ≤ j) (some : 0 < n) where
  pub laying_end : (o v : Option ℕ) → i + 1 ≤ depth_limit → fits_in w c (stored_cost t at) ≡ false → o ≡ own_wrong t at k
      → v ≡ first_of o a → (l : ℕ) → l ≡ len + (n - 1) * length (bytes (nl (i + 1)))
      → Sized t at (and_then (items_at (tree_at t d) n (at + list_len)) (λ xs q. ok (found (list xs) q))) w i c (Ok (record { place = p; cost = k; wrong = v; len = l }))
  unfolding sizes
  laying_end o v hi nofit eo ev l el =
      let xs : Trees = g.walk.gone.pre none in
      let ec : count xs ≡ n = all_count t at n d p j k a g.walk le in
      let b = breaks_fit (n - 1) (length (bytes (nl (i + 1)))) (i + 1) hi refl in
      rw (is_all t at n d p j k a g.walk le) (
        (refl, all_cost t at n d p j k a g.walk le, all_wrong t at n d p j k a g.walk le o v eo ev),
        (λ f.
            let u = list_right t xs at f in
            let v = laid_size xs w i c (omega (arith, ec)) (ap (fits_in w c) (sym u.0) ∙ nofit) in
            el ∙ omega (arith, v, ap (λ (v : ℕ). (v - 1) * length (bytes (nl (i + 1)))) ec, (g.summed none u.1).0)),
        omega (arith, el, b, g.bound, g.walk.from, g.walk.gone.few),
      )

-- ---- trees up to the table's end: n bytes are those of the trees before p, if no cost is wrong

pub record Paged (t : List ℕ) (w p : ℕ) (a : Option ℕ) (n : ℕ) : Type 0 where
  pub checks : Checks t p a
  paged : (ys : Trees) → costed_all t (checks.read.pre ys) 0 ≡ ok tt → (length (page (checks.read.pre ys) w) ≡ n + length (page_from (ltb 0 p) ys w)) × (costed_all t ys p ≡ ok tt)
  pub size : n ≤ 128 * p

pub summed_no : (y : Result (Found Trees)) (w n a : ℕ) (r : Refusal) → y ≡ refused n a → r ≡ record { number = n; place = a } → Summed y w (Err r)
summed_no y w n a r e f = rw (e, f) (refl, refl)

pub paged_begin : (t : List ℕ) (w : ℕ) → length t ≤ table_limit → Paged t w 0 None 0
paged_begin t w h = record { checks = checks_begin t h; paged = λ ys e. (omega arith, e); size = omega arith }

-- the LF between two trees
abbrev lead : ℕ → List ℕ
lead p = cond (ltb 0 p) (10 ∷ []) []

pub lead_some : (p n n' : ℕ) → 0 < p → n' ≡ n + 1 → n' ≡ n + length (lead p)
lead_some p n n' h e = rw (lt-ltb 0 p h) e

pub lead_none : (p n n' : ℕ) → p ≤ 0 → n' ≡ n → n' ≡ n + length (lead p)
lead_none p n n' h e = rw (le-ltb 0 p h) (e ∙ omega arith)

lead_le : (b : Bool) → length {A = ℕ} (cond b (10 ∷ []) []) ≤ 1
lead_le true = omega arith
lead_le false = omega arith

more_size : (later : Bool) (x : Tree) (xs : Trees) (w : ℕ)
    → length (page_from later (more x xs) w) ≡ length {A = ℕ} (cond later (10 ∷ []) []) + length (bytes (lay x Wrap w 0 0)) + 1 + length (page_from true xs w)
unfolding page_from
more_size later x xs w =
    let o : List ℕ = cond later (10 ∷ []) [] in
    let l : List ℕ = bytes (lay x Wrap w 0 0) in
    let r : List ℕ = 10 ∷ page_from true xs w in
    let a = length-append o (l ++ r) in
    let b = length-append l r in
    omega arith

module _ (t : List ℕ) (w p : ℕ) (a : Option ℕ) (n : ℕ) (g : Paged t w p a n) where
  -- n' counts the LF before the tree
  pub paged_tree : (n' : ℕ) (a' : Option ℕ) (m : Size) → p < length t → Sized t p (tree_at t depth_limit p) w 0 0 (Ok m) → n' ≡ n + length (lead p)
      → a' ≡ first_of a m.wrong → (p < m.place) × Paged t w m.place a' (n' + (m.len + 1))
  unfolding costed
  paged_tree n' a' m h s en ea =
      let y = laid_tree t depth_limit p w 0 0 m s in
      let x : Tree = y.got.tree in
      let o = checks_tree t p a g.checks m.place m.cost m.wrong a' h y.got ea in (
        o.past,
        record {
          checks = o.rest;
          paged =
              λ ys e.
              let f = g.paged (more x ys) (subst (λ (xs : Trees). costed_all t xs 0 ≡ ok tt) (o.pre_is ys) e) in
              let b = both_right (costed t x p) (λ _. costed_all t ys (p + length (records x))) f.1 in (
                ap (λ (xs : Trees). length (page xs w)) (o.pre_is ys) ∙ f.0
                    ∙ rw (lt-ltb 0 m.place (omega (arith, o.past))) (omega (arith, more_size (ltb 0 p) x ys w, y.lays b.0, en)),
                subst⁻¹ (λ (q : ℕ). costed_all t ys q ≡ ok tt) (tree_span t depth_limit p m.place x g.checks.read.within y.got.is).0 b.1,
              );
          size = omega (arith, g.size, lead_le (ltb 0 p), y.bound, o.past, en);
        },
      )

  pub paged_stop : (m : Refusal) → p < length t → Sized t p (tree_at t depth_limit p) w 0 0 (Err m) → Summed (table_of t) w (Err m)
  paged_stop m h s = summed_no (table_of t) w m.number m.place m (read_stop t p g.checks.read m.number m.place h (stop_of t p (tree_at t depth_limit p) w 0 0 m s)) refl

  pub paged_wrong : (k : ℕ) (r : Refusal) → length t ≤ p → a ≡ Some k → r ≡ record { number = wrong_cost; place = k } → Summed (table_of t) w (Err r)
  paged_wrong k r h l e = summed_no (table_of t) w wrong_cost k r (checks_wrong t p a g.checks k h l) e

  pub paged_end : length t ≤ p → a ≡ None → Summed (table_of t) w (Ok n)
  unfolding page_from
  paged_end h l =
      let e = checks_good t p a g.checks h l in
      rw e (sym ((g.paged none (accepted_shape t (g.checks.read.pre none) p e).1).0 ∙ omega arith))
