-- The records that the fits test looks at for a list: none inside one that fits; for a wrapped one its own test, and what its items' tests look at, one after the other. Assumes nothing.
use mathlib.Core.Path.{◌≡◌, refl, ap, sym, subst, subst⁻¹, ◌∙◌}
use mathlib.Core.Bool.{Bool, true, false}
use mathlib.Core.List.{List}
use Prim.Native.Nat.{ℕ, ◌+◌, ◌-◌, ◌≤◌, ◌<◌}
use native.Mathlib.Omega.{arith}
use lib.Dec.{eqb}
use lib.ListN.{length}
use lib.IntN.{ℤ}
use borrow.Author.Tests.{ne_eqb}
use Rattle.refusals.specs.Result.{Result, ok}
use Rattle.table.specs.Kinds.{list_len}
use Rattle.table.specs.Trees.{Tree, Trees, symbol, integer, binding, list, none, more, records}
use Rattle.table.specs.Costs.{costed, costed_all}
use Rattle.table.specs.Decoding.{Found, found, items_at, tree_at}
use Rattle.table.proofs.Costs.{both_right}
use Rattle.table.proofs.Spans.{tree_span}
use Rattle.table.proofs.Steps.{Gone, gone_begin, gone_item, gone_end}
use Rattle.printer.specs.Layout.{Wrap, SingleLine, column, named, gap, inner, fits, lay}
use Rattle.printer.specs.Looking.{looks, looked, looked_of}
use Rattle.printer.specs.PrivateTrees.{Right, tree_of, trees_of, next_of}
use Rattle.printer.specs.PrivateWriting.{seen}
use Rattle.printer.proofs.CheckedRecords.{Made, right_is, found_end, items_left}

-- ---- on a single line nothing is tested

mutual
  unfolding looked

  single_none : (x : Tree) (w i c : ℕ) → looked x SingleLine w i c ≡ 0
  single_none (symbol n) w i c = refl
  single_none (integer z) w i c = refl
  single_none (binding n x) w i c = single_none x w i (c + length (named n))
  single_none (list xs) w i c = omega (arith, singles_none xs true w i (c + 1))

  singles_none : (xs : Trees) (first : Bool) (w i c : ℕ) → looked_of xs first SingleLine w i c ≡ 0
  singles_none none first w i c = refl
  singles_none (more x xs) first w i c =
      let c1 : ℕ = column (gap first SingleLine i c) in
      let j : ℕ = inner first SingleLine i in
      omega (arith, single_none x w j c1, singles_none xs false w i (column (lay x SingleLine w j c1)))

-- ---- a tree as it is laid where lists are tested

pub seen_symbol : (n : List ℕ) (w i c : ℕ) → seen w i c (symbol n) ≡ 0
unfolding looked
seen_symbol n w i c = refl

pub seen_integer : (z : ℤ) (w i c : ℕ) → seen w i c (integer z) ≡ 0
unfolding looked
seen_integer z w i c = refl

seen_binding : (n : List ℕ) (x : Tree) (w i c k : ℕ) → k ≡ length (named n) → seen w i c (binding n x) ≡ seen w i (c + k) x
unfolding looked
seen_binding n x w i c k e = rw e refl

seen_fits : (xs : Trees) (w i c : ℕ) → fits w c (list xs) ≡ true → seen w i c (list xs) ≡ looks w c
unfolding looked
seen_fits xs w i c e = rw e (omega (arith, singles_none xs true w i (c + 1)))

seen_list : (xs : Trees) (w i c : ℕ) → fits w c (list xs) ≡ false → seen w i c (list xs) ≡ looks w c + looked_of xs true Wrap w i (c + 1)
unfolding looked
seen_list xs w i c e = rw e refl

-- behind the first item a line break follows, and the column before it decides nothing
later_same : (xs : Trees) (w i c k : ℕ) → looked_of xs false Wrap w i c ≡ looked_of xs false Wrap w i k
unfolding looked
later_same none w i c k = refl
later_same (more x xs) w i c k = refl

more_seen : (x : Tree) (xs : Trees) (first : Bool) (w i c : ℕ)
    → looked_of (more x xs) first Wrap w i c ≡ seen w (inner first Wrap i) (column (gap first Wrap i c)) x + looked_of xs false Wrap w i c
unfolding looked
more_seen x xs first w i c =
    let c1 : ℕ = column (gap first Wrap i c) in
    let j : ℕ = inner first Wrap i in
    ap (λ (n : ℕ). looked x Wrap w j c1 + n) (later_same xs w i (column (lay x Wrap w j c1)) c)

none_seen : (first : Bool) (w i c : ℕ) → looked_of none first Wrap w i c ≡ 0
unfolding looked
none_seen first w i c = refl

-- ---- the same of what was found in a table

pub atom_seen : (y : Result (Found Tree)) (x : Tree) (q w i c : ℕ) → y ≡ ok (found x q) → seen w i c x ≡ 0 → 0 ≡ seen w i c (tree_of y)
atom_seen y x q w i c e z = sym (ap (λ (v : Result (Found Tree)). seen w i c (tree_of v)) e ∙ z)

pub binding_seen : (nm : List ℕ) (d : ℕ) (y z : Result (Found Tree)) (w i c k x : ℕ) → Made d (binding nm) tree_of y z → k ≡ length (named nm) → x ≡ seen w i (c + k) (tree_of z)
    → x ≡ seen w i c (tree_of y)
binding_seen nm d y z w i c k x h e f = f ∙ sym (ap (λ (v : Result (Found Tree)). seen w i c (tree_of v)) h.is ∙ seen_binding nm (tree_of z) w i c k e)

-- ---- a list that was tested: its own record is counted

module _ (d : ℕ) (y : Result (Found Tree)) (z : Result (Found Trees)) (w i c k : ℕ) (h : Made d list trees_of y z) (e : k ≡ looks w c) where
  pub fitting_seen : fits w c (tree_of y) ≡ true → k ≡ seen w i c (tree_of y)
  fitting_seen f =
      e ∙ sym (seen_fits (trees_of z) w i c (subst (λ (x : Tree). fits w c x ≡ true) (ap tree_of h.is) f)) ∙ sym (ap (λ (v : Result (Found Tree)). seen w i c (tree_of v)) h.is)

  pub wrapped_seen : fits w c (tree_of y) ≡ false → seen w i c (tree_of y) ≡ k + looked_of (trees_of z) true Wrap w i (c + 1)
  wrapped_seen f =
      ap (λ (v : Result (Found Tree)). seen w i c (tree_of v)) h.is ∙ seen_list (trees_of z) w i c (subst (λ (x : Tree). fits w c x ≡ false) (ap tree_of h.is) f)
      ∙ ap (λ (n : ℕ). n + looked_of (trees_of z) true Wrap w i (c + 1)) (sym e)

-- ---- the items of a wrapped list: k records were looked at, j of them by its own test, and the items from the i-th on are left

-- the n items behind the record at `at`
abbrev all : List ℕ → ℕ → ℕ → ℕ → Result (Found Trees)
all t at d n = items_at (tree_at t (d - 1)) n (at + list_len)

module _ (t : List ℕ) (at d n w ind c : ℕ) where
  pub record Counting (j k p i : ℕ) : Type 0 where
    gone : Gone (tree_at t (d - 1)) n (at + list_len) i p
    count : (ys : Trees) → j + looked_of (gone.pre ys) true Wrap w ind c ≡ k + looked_of ys (eqb i 0) Wrap w ind c
    costs : (ys : Trees) → costed_all t (gone.pre ys) (at + list_len) ≡ ok tt → costed_all t ys p ≡ ok tt
    right : Right (all t at d n)
    right_costs : costed_all t (trees_of (all t at d n)) (at + list_len) ≡ ok tt
    within : p ≤ length t
    few : j + looked_of (trees_of (all t at d n)) true Wrap w ind c ≤ 4294967296

  pub counting_begin : (j : ℕ) → Right (all t at d n) → costed_all t (trees_of (all t at d n)) (at + list_len) ≡ ok tt → at + list_len ≤ length t
      → j + looked_of (trees_of (all t at d n)) true Wrap w ind c ≤ 4294967296 → Counting j j (at + list_len) 0
  counting_begin j r k h l = record {
    gone = gone_begin (tree_at t (d - 1)) n (at + list_len);
    count = λ ys. refl;
    costs = λ ys e. e;
    right = r;
    right_costs = k;
    within = h;
    few = l;
  }

module _ {t : List ℕ} {at d n w ind c j k p i : ℕ} (h : Counting t at d n w ind c j k p i) where
  -- what is counted is no more than the whole
  pub counting_le : k ≤ 4294967296
  counting_le =
      let l : k ≤ j + looked_of (trees_of (all t at d n)) true Wrap w ind c =
      items_left h.gone h.right (λ (xs : Trees). k ≤ j + looked_of xs true Wrap w ind c) (λ ys. omega (arith, h.count ys)) in
      omega (arith, l, h.few)

  -- the item at p, before those after it
  module _ (l : i < n) (r : Right (tree_at t (d - 1) p)) where
    abbrev next : Gone (tree_at t (d - 1)) n (at + list_len) (i + 1) (next_of (tree_at t (d - 1) p))
    next = gone_item (tree_at t (d - 1)) n (at + list_len) i p h.gone _ (tree_of (tree_at t (d - 1) p)) l (right_is (tree_at t (d - 1) p) r)

    both : (ys : Trees) → costed_all t (h.gone.pre (more (tree_of (tree_at t (d - 1) p)) ys)) (at + list_len) ≡ ok tt
        → (costed t (tree_of (tree_at t (d - 1) p)) p ≡ ok tt) × (costed_all t ys (next_of (tree_at t (d - 1) p)) ≡ ok tt)
    unfolding costed
    both ys e =
        let y : Tree = tree_of (tree_at t (d - 1) p) in
        let b = both_right (costed t y p) (λ _. costed_all t ys (p + length (records y))) (h.costs (more y ys) e) in
        (b.0, subst⁻¹ (λ (q : ℕ). costed_all t ys q ≡ ok tt) (tree_span t (d - 1) p _ y h.within (right_is (tree_at t (d - 1) p) r)).0 b.1)

    -- its costs are right
    pub counting_cost : costed t (tree_of (tree_at t (d - 1) p)) p ≡ ok tt
    counting_cost =
        items_left next h.right (λ (xs : Trees). costed_all t xs (at + list_len) ≡ ok tt → costed t (tree_of (tree_at t (d - 1) p)) p ≡ ok tt) (λ ys e. (both ys e).0) h.right_costs

  -- one item more, at the indent and the column that it has
  module _ (l : i < n) (u v : ℕ) (eu : u ≡ inner (eqb i 0) Wrap ind) (ev : v ≡ column (gap (eqb i 0) Wrap ind c)) (r : Right (tree_at t (d - 1) p)) (q x z : ℕ)
      (eq : q ≡ next_of (tree_at t (d - 1) p)) (ex : x ≡ seen w u v (tree_of (tree_at t (d - 1) p))) (ez : z ≡ k + x) where
    pub counting_step : Counting t at d n w ind c j z q (i + 1)
    counting_step =
        let y : Tree = tree_of (tree_at t (d - 1) p) in
        let later : eqb (i + 1) 0 ≡ false = ne_eqb (i + 1) 0 (λ e. omega arith) in
        let es : seen w (inner (eqb i 0) Wrap ind) (column (gap (eqb i 0) Wrap ind c)) y ≡ x =
        ap (λ (a : ℕ). seen w a (column (gap (eqb i 0) Wrap ind c)) y) (sym eu) ∙ ap (λ (b : ℕ). seen w u b y) (sym ev) ∙ sym ex in
        rw (eq, ez)
        record {
          gone = next l r;
          count =
              λ ys.
              h.count (more y ys)
              ∙ ap (λ (b : ℕ). k + b) (more_seen y ys (eqb i 0) w ind c ∙ ap (λ (b : ℕ). b + looked_of ys false Wrap w ind c) es ∙ ap (λ (b : Bool). x + looked_of ys b Wrap w ind c) (sym later))
              ∙ omega arith;
          costs = λ ys e. (both l r ys e).1;
          right = h.right;
          right_costs = h.right_costs;
          within = (found_end t (d - 1) p h.within r).1;
          few = h.few;
        }

  pub counting_end : n ≤ i → k ≡ j + looked_of (trees_of (all t at d n)) true Wrap w ind c
  counting_end l =
      let e = gone_end (tree_at t (d - 1)) n (at + list_len) i p h.gone l in
      let f : j + looked_of (trees_of (all t at d n)) true Wrap w ind c ≡ k + looked_of none (eqb i 0) Wrap w ind c =
      ap (λ (v : Result (Found Trees)). j + looked_of (trees_of v) true Wrap w ind c) e ∙ h.count none in
      omega (arith, f, none_seen (eqb i 0) w ind c)
