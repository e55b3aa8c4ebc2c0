-- THEOREMS fault_placed and fault_numbered: where a table's faults are told, and their numbers. Assumes nothing.
use Prim.Native.Nat.{ℕ, zero, suc, ◌+◌, ◌≤◌, ◌<◌}
use mathlib.Core.Path.{◌≡◌, ap, sym, subst, ◌∙◌}
use mathlib.Core.Bool.{true}
use mathlib.Core.Logic.{◌⊎◌, inl, inr, ⊎_elim}
use mathlib.Core.List.{List}
use native.Mathlib.Omega.{arith}
use lib.Dec.{ltb}
use lib.ListN.{length}
use borrow.Author.Tests.{le-ltb}
use Rattle.lists.proofs.Choice.{pick}
use Rattle.refusals.specs.Numbers.{table_limit, depth_limit, too_long}
use Rattle.refusals.specs.Result.{Result, ok, refused}
use Rattle.table.specs.Trees.{Tree, Trees, more, records_of}
use Rattle.table.specs.Costs.{costed_all}
use Rattle.table.specs.Decoding.{Found, found, and_then, tree_at, trees_at, shape_of, if_costed, table_of}
use Rattle.table.specs.Faults.{FaultPlaced, is_fault, FaultNumbered}
use Rattle.wide.proofs.TwoLimbs.{which}
use Rattle.table.proofs.Reading.{Told, Ends, tree_end}
use Rattle.table.proofs.Steps.{too_long_lem}
use Rattle.table.proofs.Costs.{Within, all_in}
use Rattle.table.proofs.Spans.{SpanAll, trees_span}

-- what is refused of whole trees is told so, as it is of one
abbrev Answers : ℕ → Result (Found Trees) → Type 0
Answers len (ok x) = Unit {0}
Answers len (refused n a) = Told len n a

trees_told : (t : List ℕ) (k at : ℕ) → at ≤ length t → Answers (length t) (trees_at t k at)
unfolding trees_at
trees_told t zero at h = tt
trees_told t (suc k) at h =
    pick (Answers (length t)) (ltb at (length t)) (λ _. first (tree_at t depth_limit at) (tree_end t depth_limit at h) (trees_told t k)) (λ _. tt)
  where
    last : (x : Tree) (y : Result (Found Trees)) → Answers (length t) y → Answers (length t) (and_then y (λ xs r. ok (found (more x xs) r)))
    last x (ok (found xs r)) g = tt
    last x (refused n a) g = g

    first : (y : Result (Found Tree)) → Ends (at + 1) (length t) y → ((q : ℕ) → q ≤ length t → Answers (length t) (trees_at t k q))
        → Answers (length t) (and_then y (λ x q. and_then (trees_at t k q) (λ xs r. ok (found (more x xs) r))))
    first (ok (found x q)) e ih = last x (trees_at t k q) (ih q e.1)
    first (refused n a) e ih = e

told : (t : List ℕ) (n a : ℕ) → length t ≤ table_limit → table_of t ≡ refused n a → Told (length t) n a
unfolding table_of shape_of
told t n a h e =
    let z : and_then (trees_at t (length t + 1) 0) (λ xs q. if_costed (costed_all t xs 0) (found xs q)) ≡ refused n a = rw (le-ltb table_limit (length t) h) at e in
    by (trees_at t (length t + 1) 0) (trees_told t (length t + 1) 0 (omega arith)) (trees_span t (length t + 1) 0 (omega arith)) z
  where
    costs : (y : Result (Unit {0})) (w : Found Trees) (q : ℕ) → Within 0 q y → q ≤ length t → if_costed y w ≡ refused n a → Told (length t) n a
    costs (ok u) w q i l k = let z : ◌≡◌ {A = ℕ} 0 1 = cc in absurd (omega arith)
    costs (refused m b) w q i l k =
        let em : m ≡ n = cc in
        let eb : b ≡ a = cc in
        rw (← em, ← eb) (
          omega (arith, i.2),
          (λ u. absurd (omega (arith, u, i.0))),
          (λ u. absurd (omega (arith, u, i.2))),
          ap is_fault i.0,
        )

    by : (y : Result (Found Trees)) → Answers (length t) y → SpanAll t 0 y → and_then y (λ xs q. if_costed (costed_all t xs 0) (found xs q)) ≡ refused n a → Told (length t) n a
    by (ok (found xs q)) g s k = costs (costed_all t xs 0) (found xs q) (0 + length (records_of xs)) (all_in t xs 0) (omega (arith, s.0, s.1)) k
    by (refused m b) g s k = subst (Answers (length t)) k g

pub fault_placed : FaultPlaced
fault_placed t n a h e = let k = told t n a h e in (k.0, k.1, k.2)

pub fault_numbered : FaultNumbered
fault_numbered t n a e = ⊎_elim long (λ h. inr (told t n a h e).3) (which table_limit (length t))
  where
    long : table_limit < length t → (n ≡ too_long) ⊎ (is_fault n ≡ true)
    long h = let z : refused too_long table_limit ≡ refused n a = sym (too_long_lem t h) ∙ e in inl cc
