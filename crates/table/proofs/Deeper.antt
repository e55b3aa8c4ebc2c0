-- What was found is found again where more may be open: why `table::past` serves at any depth. Assumes nothing.
use Rattle.std.specs.Prelude.{Result as CodeResult, Ok, Err}
use mathlib.Core.Path.{◌≡◌, refl, ap, subst}
use mathlib.Core.Bool.{true, false}
use mathlib.Core.List.{List}
use Prim.Native.Nat.{ℕ, zero, suc, ◌+◌, ◌-◌, ◌≤◌}
use native.Mathlib.Omega.{arith}
use Rattle.refusals.specs.Numbers.{depth_limit, too_deep}
use Rattle.refusals.specs.Result.{Result, ok, refused}
use Rattle.refusals.specs.declared.Fault.{Fault}
use Rattle.records.specs.Records.{payload}
use Rattle.table.specs.Kinds.{list_len}
use Rattle.table.specs.Trees.{Tree, Trees, binding, list, more}
use Rattle.table.specs.Records.{Record, Symbol, Integer, Binding, ListOf, record_at}
use Rattle.table.specs.Decoding.{Found, found, and_then, items_at, step_of, step_at, of_step, tree_at}
use Rattle.table.specs.Past.{past_of}

-- g finds all that f finds
abbrev More : (ℕ → Result (Found Tree)) → (ℕ → Result (Found Tree)) → Type 0
More f g = (p : ℕ) (x : Tree) (q : ℕ) → f p ≡ ok (found x q) → g p ≡ ok (found x q)

module _ (f g : ℕ → Result (Found Tree)) (h : More f g) where
  items_again : (n p : ℕ) (xs : Trees) (q : ℕ) → items_at f n p ≡ ok (found xs q) → items_at g n p ≡ ok (found xs q)
  unfolding items_at
  items_again zero p xs q e = e
  items_again (suc n) p xs q e = first (f p) refl e (items_again n)
    where
      rest : (x : Tree) (r : ℕ) (y : Result (Found Trees)) → items_at f n r ≡ y → g p ≡ ok (found x r) → and_then y (λ xs r. ok (found (more x xs) r)) ≡ ok (found xs q)
          → ((p : ℕ) (xs : Trees) (q : ℕ) → items_at f n p ≡ ok (found xs q) → items_at g n p ≡ ok (found xs q))
          → and_then (g p) (λ x q. and_then (items_at g n q) (λ xs r. ok (found (more x xs) r))) ≡ ok (found xs q)
      rest x r (ok (found ys s)) u v k ih = rw (v, ih r ys s u) k
      rest x r (refused m a) u v k ih = let z : ◌≡◌ {A = ℕ} 0 1 = cc in absurd (omega arith)

      first : (y : Result (Found Tree)) → f p ≡ y → and_then y (λ x q. and_then (items_at f n q) (λ xs r. ok (found (more x xs) r))) ≡ ok (found xs q)
          → ((p : ℕ) (xs : Trees) (q : ℕ) → items_at f n p ≡ ok (found xs q) → items_at g n p ≡ ok (found xs q))
          → and_then (g p) (λ x q. and_then (items_at g n q) (λ xs r. ok (found (more x xs) r))) ≡ ok (found xs q)
      first (ok (found x r)) u k ih = rest x r (items_at f n r) refl (h p x r u) k ih
      first (refused m a) u k ih = let z : ◌≡◌ {A = ℕ} 0 1 = cc in absurd (omega arith)

  step_again : (t : List ℕ) (at : ℕ) (s : CodeResult Record Fault) (x : Tree) (q : ℕ) → of_step t at f s ≡ ok (found x q) → of_step t at g s ≡ ok (found x q)
  step_again t at (Err n) x q e = e
  step_again t at (Ok (Symbol len)) x q e = e
  step_again t at (Ok Integer) x q e = e
  step_again t at (Ok (Binding len)) x q e = by (f (at + len)) refl e
    where
      by : (y : Result (Found Tree)) → f (at + len) ≡ y → and_then y (λ z r. ok (found (binding (payload t at len) z) r)) ≡ ok (found x q)
          → and_then (g (at + len)) (λ z r. ok (found (binding (payload t at len) z) r)) ≡ ok (found x q)
      by (ok (found z r)) u k = rw (h (at + len) z r u) k
      by (refused m a) u k = let z : ◌≡◌ {A = ℕ} 0 1 = cc in absurd (omega arith)
  step_again t at (Ok (ListOf n)) x q e = by (items_at f n (at + list_len)) refl e
    where
      by : (y : Result (Found Trees)) → items_at f n (at + list_len) ≡ y → and_then y (λ xs r. ok (found (list xs) r)) ≡ ok (found x q)
          → and_then (items_at g n (at + list_len)) (λ xs r. ok (found (list xs) r)) ≡ ok (found x q)
      by (ok (found xs r)) u k = rw (items_again n (at + list_len) xs r u) k
      by (refused m a) u k = let z : ◌≡◌ {A = ℕ} 0 1 = cc in absurd (omega arith)

-- a record that has no fault where nothing more may be open has none where more may be
opened : (t : List ℕ) (at : ℕ) (f : ℕ → Result (Found Tree)) (x : Tree) (q : ℕ) → of_step t at f (step_at t at false) ≡ ok (found x q)
    → step_at t at true ≡ step_at t at false
unfolding step_at
opened t at f x q e = by (record_at t at) e
  where
    by : (y : CodeResult Record Fault) → of_step t at f (step_of t at false y) ≡ ok (found x q) → step_of t at true y ≡ step_of t at false y
    by (Err n) k = refl
    by (Ok (Symbol len)) k = refl
    by (Ok Integer) k = refl
    by (Ok (Binding len)) k = let z : ◌≡◌ {A = ℕ} 0 1 = cc in absurd (omega arith)
    by (Ok (ListOf n)) k = let z : ◌≡◌ {A = ℕ} 0 1 = cc in absurd (omega arith)

one_deeper : (t : List ℕ) (d : ℕ) → More (tree_at t d) (tree_at t (suc d))
unfolding tree_at
one_deeper t zero at x q e =
    rw (opened t at (refused too_deep) x q e) (step_again (refused too_deep) (tree_at t 0) (λ p y r u. absurd (none u)) t at (step_at t at false) x q e)
  where
    none : {m a r : ℕ} {y : Tree} → ◌≡◌ {A = Result (Found Tree)} (refused m a) (ok (found y r)) → ⊥
    none u = let z : ◌≡◌ {A = ℕ} 0 1 = cc in omega arith
one_deeper t (suc d) at x q e = step_again (tree_at t d) (tree_at t (suc d)) (one_deeper t d) t at (step_at t at true) x q e

pub tree_deeper : (t : List ℕ) (d k at q : ℕ) (x : Tree) → tree_at t d at ≡ ok (found x q) → tree_at t (k + d) at ≡ ok (found x q)
tree_deeper t d zero at q x e = let z : 0 + d ≡ d = omega arith in rw z e
tree_deeper t d (suc k) at q x e = let z : suc k + d ≡ suc (k + d) = omega arith in rw z (one_deeper t (k + d) at x q (tree_deeper t d k at q x e))

-- in a table without faults, `past` is the place past the tree at any place where one stands
pub past_found : (t : List ℕ) (d at q : ℕ) (x : Tree) → d ≤ depth_limit → tree_at t d at ≡ ok (found x q) → past_of at (tree_at t depth_limit at) ≡ q
past_found t d at q x h e =
    let z : depth_limit - d + d ≡ depth_limit = omega arith in
    let k : tree_at t depth_limit at ≡ ok (found x q) = subst (λ (j : ℕ). tree_at t j at ≡ ok (found x q)) z (tree_deeper t d (depth_limit - d) at q x e) in
    ap (past_of at) k
