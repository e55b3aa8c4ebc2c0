-- THEOREMS: the records of good trees are accepted as those trees (`complete`), and a table that is accepted is the records of the trees it is
-- accepted as (`sound`).
use mathlib.Core.Path.{◌≡◌, refl, ap, sym, subst, ◌∙◌}
use mathlib.Core.Bool.{Bool, true, false, cond}
use mathlib.Core.List.{List, ◌++◌, append-nil}
use Prim.Native.Nat.{ℕ, zero, suc, ◌+◌, ◌≤◌, ◌<◌}
use native.Mathlib.Omega.{arith}
use lib.ListN.{length, length-append, drop_of_length-le}
use lib.Dec.{ltb}
use borrow.Author.Tests.{lt-ltb, le-ltb, ltb-false}
use Rattle.refusals.specs.Numbers.{table_limit, depth_limit, too_long}
use Rattle.wide.specs.Bytes.{Bytes}
use Rattle.refusals.specs.Result.{Result, ok, refused}
use Rattle.table.specs.Trees.{Tree, Trees, none, more, Good, Goods, records, records_of}
use Rattle.table.specs.Decoding.{Found, found, and_then, tree_at, trees_at, shape_of, if_costed, table_of}
use Rattle.table.specs.Costs.{costed, costed_all}
use Rattle.table.specs.Accepted.{Accepted}
use Rattle.lists.proofs.Stands.{Stands, stands_left, stands_right, stands_join, stands_none, stands_length}
use Rattle.table.proofs.Heads.{some}
use Rattle.table.proofs.Costs.{both_right}
use Rattle.table.proofs.Encoded.{tree_is, trees_right}
use Rattle.table.proofs.Spans.{Spans, tree_spans}
use Rattle.table.proofs.Decoded.{Holds, tree_holds}

-- ---- from trees to the table and back

whole_none : (t : List ℕ) (k p : ℕ) → length t ≤ p → trees_at t k p ≡ ok (found none p)
unfolding trees_at
whole_none t zero p h = refl
whole_none t (suc k) p h = rw (le-ltb p (length t) h) refl

whole_more : (t : List ℕ) (k p q r : ℕ) (x : Tree) (xs : Trees) → p < length t → tree_at t depth_limit p ≡ ok (found x q)
    → trees_at t k q ≡ ok (found xs r) → trees_at t (suc k) p ≡ ok (found (more x xs) r)
unfolding trees_at
whole_more t k p q r x xs h e e' = rw (lt-ltb p (length t) h, e, e') refl

whole_is : (xs : Trees) (t : List ℕ) (k p : ℕ) → Goods xs depth_limit → p ≤ length t
    → Stands t p (records_of xs) → p + length (records_of xs) ≡ length t → length t < k + p → trees_at t k p ≡ ok (found xs (length t))
unfolding records Good
whole_is none t k p g hp s e h = whole_none t k p (omega arith) ∙ ap (λ (z : ℕ). ok (found none z)) (omega arith)
whole_is (more x xs) t zero p g hp s e h = absurd (omega arith)
whole_is (more x xs) t (suc k) p g hp s e h =
    let a = stands_left t p (records x) (records_of xs) s in
    let b = stands_right t p (records x) (records_of xs) s in
    let l = stands_length t p (records x) hp a in
    let e' : p + length (records x) + length (records_of xs) ≡ length t = omega (arith, simp length-append at e) in
    whole_more t k p (p + length (records x)) (length t) x xs (omega (arith, some x)) (tree_is x t depth_limit p g.0 hp a)
    (whole_is xs t k (p + length (records x)) g.1 l b e' (omega (arith, some x)))

pub complete : (xs : Trees) → Goods xs depth_limit → length (records_of xs) ≤ table_limit
    → table_of (records_of xs) ≡ ok (found xs (length (records_of xs)))
unfolding table_of shape_of
complete xs g h =
    let t : List ℕ = records_of xs in
    let all : Stands t 0 t = sym (ap (λ (r : List ℕ). t ++ r) (drop_of_length-le t {i = 0 + length t} (omega arith)) ∙ append-nil t) in
    rw (le-ltb table_limit (length (records_of xs)) h, whole_is xs t (length t + 1) 0 g (omega arith) all (omega arith) (omega arith), trees_right xs t 0 h (omega arith) all) refl

-- ---- from a table to its trees

abbrev AllOf : List ℕ → ℕ → Result (Found Trees) → Type 0
AllOf t p (ok (found xs q)) =
    (costed_all t xs p ≡ ok tt → Stands t p (records_of xs)) × (p + length (records_of xs) ≡ length t) × (q ≡ length t) × Goods xs depth_limit
AllOf t p (refused n a) = Unit {0}

whole_holds : (t : List ℕ) → Bytes t → (k p : ℕ) → p ≤ length t → length t < k + p → AllOf t p (trees_at t k p)
unfolding trees_at records Good costed
whole_holds t hb zero p hp h = absurd (omega arith)
whole_holds t hb (suc k) p hp h = at_end (ltb p (length t)) refl (whole_holds t hb k)
  where
    last : (x : Tree) (q : ℕ) → q ≡ p + length (records x) → Holds t depth_limit p (ok (found x q)) → (y : Result (Found Trees)) → AllOf t q y
        → AllOf t p (and_then y (λ xs r. ok (found (more x xs) r)))
    last x q l g (refused n a) hy = tt
    last x q l g (ok (found xs r)) hy = (
      (λ e.
          let b = both_right (costed t x p) (λ _. costed_all t xs (p + length (records x))) e in
          stands_join t p (records x) (records_of xs) (g.0 b.0)
          (subst (λ (k : ℕ). costed_all t xs k ≡ ok tt → Stands t k (records_of xs)) l hy.0 b.1)),
      simp length-append (omega (arith, hy.1)),
      hy.2,
      (g.1, hy.3),
    )

    first : (y : Result (Found Tree)) → Holds t depth_limit p y → Spans t p y → ((q : ℕ) → q ≤ length t → length t < k + q → AllOf t q (trees_at t k q))
        → AllOf t p (and_then y (λ x q. and_then (trees_at t k q) (λ xs r. ok (found (more x xs) r))))
    first (refused n a) hy s ih = tt
    first (ok (found x q)) hy s ih = last x q s.0 hy (trees_at t k q) (ih q s.1 (omega (arith, s.0, some x)))

    at_end : (b : Bool) → ltb p (length t) ≡ b → ((q : ℕ) → q ≤ length t → length t < k + q → AllOf t q (trees_at t k q))
        → AllOf t p (cond b (and_then (tree_at t depth_limit p) (λ x q. and_then (trees_at t k q) (λ xs r. ok (found (more x xs) r)))) (ok (found none p)))
    at_end false e ih = let l = ltb-false p (length t) e in ((λ _. stands_none t p), omega arith, omega arith, tt)
    at_end true e ih = first (tree_at t depth_limit p) (tree_holds t hb depth_limit p hp) (tree_spans t depth_limit p hp) ih

-- what is accepted has a shape, and right costs
pub accepted_shape : (t : List ℕ) (xs : Trees) (q : ℕ) → table_of t ≡ ok (found xs q) → (shape_of t ≡ ok (found xs q)) × (costed_all t xs 0 ≡ ok tt)
unfolding table_of
accepted_shape t xs q e = by (shape_of t) refl e
  where
    costs : (ys : Trees) (r : ℕ) (z : Result (Unit {0})) → shape_of t ≡ ok (found ys r) → costed_all t ys 0 ≡ z → if_costed z (found ys r) ≡ ok (found xs q)
        → (shape_of t ≡ ok (found xs q)) × (costed_all t xs 0 ≡ ok tt)
    costs ys r (ok u) f g k =
        let a : ys ≡ xs = cc in
        let b : r ≡ q = cc in (f ∙ k, subst (λ (zs : Trees). costed_all t zs 0 ≡ ok tt) a g)
    costs ys r (refused n a) f g k = let z : ◌≡◌ {A = ℕ} 0 1 = cc in absurd (omega arith)

    by : (y : Result (Found Trees)) → shape_of t ≡ y → and_then y (λ ys r. if_costed (costed_all t ys 0) (found ys r)) ≡ ok (found xs q)
        → (shape_of t ≡ ok (found xs q)) × (costed_all t xs 0 ≡ ok tt)
    by (ok (found ys r)) f k = costs ys r (costed_all t ys 0) f refl k
    by (refused n a) f k = let z : ◌≡◌ {A = ℕ} 0 1 = cc in absurd (omega arith)

pub sound : (t : List ℕ) (xs : Trees) (q : ℕ) → Bytes t → table_of t ≡ ok (found xs q) → Accepted t xs q
unfolding shape_of
sound t xs q hb e = let a = accepted_shape t xs q e in by (ltb table_limit (length t)) refl a.0 a.1
  where
    by : (b : Bool) → ltb table_limit (length t) ≡ b → cond b (refused too_long table_limit) (trees_at t (length t + 1) 0) ≡ ok (found xs q)
        → costed_all t xs 0 ≡ ok tt → Accepted t xs q
    by true f k r = let z : ◌≡◌ {A = ℕ} 0 1 = cc in absurd (omega arith)
    by false f k r =
        let h : AllOf t 0 (ok (found xs q)) = subst (AllOf t 0) k (whole_holds t hb (length t + 1) 0 (omega arith) (omega arith)) in
        record {
          is = h.0 r ∙ ap (λ (r : List ℕ). records_of xs ++ r) (drop_of_length-le t {i = 0 + length (records_of xs)} (omega (arith, h.1)))
              ∙ append-nil (records_of xs);
          past = h.2;
          good = h.3;
          small = ltb-false table_limit (length t) f;
        }

-- two files of good trees with one table are one
pub one_file : (xs ys : Trees) → Goods xs depth_limit → Goods ys depth_limit → length (records_of xs) ≤ table_limit → records_of xs ≡ records_of ys → xs ≡ ys
one_file xs ys g k h e =
    let l : length (records_of ys) ≤ table_limit = rw (← e) h in
    let f : ok (found xs (length (records_of xs))) ≡ ok (found ys (length (records_of ys))) =
    sym (complete xs g h) ∙ ap table_of e ∙ complete ys k l in
    cc
