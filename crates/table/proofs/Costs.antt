-- Costs are bounded by the records that they are of (THEOREM cost_fits), and a wrong one is told where its tree stands, the first of several. Assumes nothing.
use Rattle.std.specs.Prelude.{Option, Some, None}
use mathlib.Core.Path.{◌≡◌, refl, ap, ◌∙◌}
use mathlib.Core.Bool.{Bool, true, false, cond}
use mathlib.Core.List.{List, ◌++◌}
use Prim.Native.Nat.{ℕ, ◌+◌, ◌*◌, ◌≤◌, ◌<◌}
use native.Mathlib.Omega.{arith}
use lib.Dec.{eqb}
use lib.ListN.{length, length-append}
use borrow.Author.Tests.{eq-eqb, eqb-true}
use Rattle.lists.proofs.Choice.{pick}
use Rattle.refusals.specs.Numbers.{wrong_cost}
use Rattle.refusals.specs.Result.{Result, ok, refused, and_then}
use Rattle.wide.specs.Bytes.{le, wide_bytes}
use Rattle.wide.proofs.Numbers.{le_length, wide_length}
use Rattle.wide.proofs.Decimals.{integer_top}
use Rattle.records.specs.Records.{head_len, record_of}
use Rattle.records.proofs.Heads.{length_record}
use Rattle.table.specs.Kinds.{symbol_kind, integer_kind, binding_kind, list_kind, list_len}
use Rattle.table.specs.Trees.{Tree, Trees, symbol, integer, binding, list, none, more, count, cost, costs, records, records_of}
use Rattle.table.specs.Costs.{stored_cost, costed, costed_all, CostFits}
use Rattle.table.specs.Walking.{is_empty, empties, empties_of, wrong_in, first_of, own_wrong}

-- ---- a cost and its records

pub list_size : (n k : ℕ) → length (record_of list_kind (le 4 n ++ le 4 k)) ≡ list_len
list_size n k = length_record list_kind (le 4 n ++ le 4 k) ∙ simp (length-append, le_length) refl

pub named_record : (kind : ℕ) (n rest : List ℕ) → length (record_of kind n ++ rest) ≡ length n + head_len + length rest
named_record kind n rest = simp (length-append, length_record) refl

pub list_records : (xs : Trees) → length (records (list xs)) ≡ list_len + length (records_of xs)
unfolding records
list_records xs =
    length-append (record_of list_kind (le 4 (count xs) ++ le 4 (cost (list xs)))) (records_of xs)
    ∙ ap (λ (k : ℕ). k + length (records_of xs)) (list_size (count xs) (cost (list xs)))

-- an integer's record of 22 bytes costs at most 40, and in a list one more: that is the most for a byte
mutual
  unfolding cost records

  pub cost_le : (x : Tree) → 22 * (cost x + 1) ≤ 41 * length (records x)
  cost_le (symbol n) = rw (length_record symbol_kind n) (omega arith)
  cost_le (integer z) = rw (length_record integer_kind (wide_bytes z), wide_length z) (omega (arith, integer_top z))
  cost_le (binding n x) = rw (named_record binding_kind n (records x)) (omega (arith, cost_le x))
  cost_le (list xs) = omega (arith, list_records xs, costs_le xs)

  pub costs_le : (xs : Trees) → 22 * (costs xs + count xs) ≤ 41 * length (records_of xs)
  costs_le none = omega arith
  costs_le (more x xs) = omega (arith, length-append (records x) (records_of xs), cost_le x, costs_le xs)

pub cost_fits : CostFits
cost_fits x h = omega (arith, cost_le x)

mutual
  unfolding cost empties

  pub empties_le : (x : Tree) → empties x ≤ cost x
  empties_le (symbol n) = omega arith
  empties_le (integer z) = omega arith
  empties_le (binding n x) = omega (arith, empties_le x)
  empties_le (list xs) = omega (arith, empty_le xs, all_le xs)
    where
      empty_le : (ys : Trees) → is_empty ys ≤ 1
      empty_le none = omega arith
      empty_le (more y ys) = omega arith

  all_le : (xs : Trees) → empties_of xs ≤ costs xs
  all_le none = omega arith
  all_le (more x xs) = omega (arith, empties_le x, all_le xs)

-- ---- where a wrong cost is told

-- from p on, before q
abbrev pub Within : ℕ → ℕ → Result (Unit {0}) → Type 0
Within p q (ok u) = Unit {0}
Within p q (refused n a) = (n ≡ wrong_cost) × (p ≤ a) × (a < q)

wider : (p q p' q' : ℕ) (y : Result (Unit {0})) → p ≤ p' → q' ≤ q → Within p' q' y → Within p q y
wider p q p' q' (ok u) l h w = tt
wider p q p' q' (refused n a) l h w = (w.0, omega (arith, w.1), omega (arith, w.2))

mutual
  unfolding costed records

  pub costed_in : (t : List ℕ) (x : Tree) (p : ℕ) → Within p (p + length (records x)) (costed t x p)
  costed_in t (symbol n) p = tt
  costed_in t (integer z) p = tt
  costed_in t (binding n x) p =
      let s = named_record binding_kind n (records x) in
      wider p (p + length (records (binding n x))) (p + (length n + head_len)) (p + (length n + head_len) + length (records x)) (costed t x (p + (length n + head_len))) (omega arith) (omega arith)
      (costed_in t x (p + (length n + head_len)))
  costed_in t (list xs) p =
      let s = list_records xs in
      pick (Within p (p + length (records (list xs)))) (eqb (stored_cost t p) (cost (list xs)))
      (λ _. wider p (p + length (records (list xs))) (p + list_len) (p + list_len + length (records_of xs)) (costed_all t xs (p + list_len)) (omega arith) (omega arith) (all_in t xs (p + list_len)))
      (λ _. (refl, omega arith, omega arith))

  pub all_in : (t : List ℕ) (xs : Trees) (p : ℕ) → Within p (p + length (records_of xs)) (costed_all t xs p)
  all_in t none p = tt
  all_in t (more x xs) p =
      joined (costed t x p) (costed_all t xs (p + length (records x))) p (p + length (records x)) (p + length (records_of (more x xs))) (omega arith) (omega (arith, length-append (records x) (records_of xs)))
      (costed_in t x p)
      (wider (p + length (records x)) (p + length (records_of (more x xs))) (p + length (records x)) (p + length (records x) + length (records_of xs)) (costed_all t xs (p + length (records x))) (omega arith)
      (omega (arith, length-append (records x) (records_of xs))) (all_in t xs (p + length (records x))))
    where
      joined : (y z : Result (Unit {0})) (a b c : ℕ) → a ≤ b → b ≤ c → Within a b y → Within b c z → Within a c (and_then y (λ _. z))
      joined (ok u) z a b c l h v w = wider a c b c z l (omega arith) w
      joined (refused n k) z a b c l h v w = (v.0, v.1, omega (arith, v.2))

-- both parts are right where both together are
pub both_right : (y : Result (Unit {0})) (k : Unit {0} → Result (Unit {0})) → and_then y k ≡ ok tt → (y ≡ ok tt) × (k tt ≡ ok tt)
both_right (ok u) k e = (refl, e)
both_right (refused n a) k e = let z : ◌≡◌ {A = ℕ} 0 1 = cc in absurd (omega arith)

pub list_right : (t : List ℕ) (xs : Trees) (p : ℕ) → costed t (list xs) p ≡ ok tt → (stored_cost t p ≡ cost (list xs)) × (costed_all t xs (p + list_len) ≡ ok tt)
unfolding costed
list_right t xs p e = by (eqb (stored_cost t p) (cost (list xs))) refl e
  where
    by : (b : Bool) → eqb (stored_cost t p) (cost (list xs)) ≡ b → cond b (costed_all t xs (p + list_len)) (refused wrong_cost p) ≡ ok tt
        → (stored_cost t p ≡ cost (list xs)) × (costed_all t xs (p + list_len) ≡ ok tt)
    by true f k = (eqb-true (stored_cost t p) (cost (list xs)) f, k)
    by false f k = let z : ◌≡◌ {A = ℕ} 0 1 = cc in absurd (omega arith)

pub right_list : (t : List ℕ) (xs : Trees) (p : ℕ) → stored_cost t p ≡ cost (list xs) → costed_all t xs (p + list_len) ≡ ok tt → costed t (list xs) p ≡ ok tt
unfolding costed
right_list t xs p e k = rw (eq-eqb (stored_cost t p) (cost (list xs)) e) k

-- ---- the first of several

pub first_none : (a : Option ℕ) → first_of a None ≡ a
first_none None = refl
first_none (Some k) = refl

pub first_first : (a b c : Option ℕ) → first_of (first_of a b) c ≡ first_of a (first_of b c)
first_first None b c = refl
first_first (Some k) b c = refl

pub wrong_first : (y z : Result (Unit {0})) → wrong_in (and_then y (λ _. z)) ≡ first_of (wrong_in y) (wrong_in z)
wrong_first (ok u) z = refl
wrong_first (refused n a) z = refl

-- a list's own comes before those inside it
pub wrong_list : (t : List ℕ) (xs : Trees) (p : ℕ) → wrong_in (costed t (list xs) p) ≡ first_of (own_wrong t p (cost (list xs))) (wrong_in (costed_all t xs (p + list_len)))
unfolding costed
wrong_list t xs p = by (eqb (stored_cost t p) (cost (list xs)))
  where
    rest : Result (Unit {0})
    rest = costed_all t xs (p + list_len)

    by : (b : Bool) → wrong_in (cond b rest (refused wrong_cost p)) ≡ first_of (cond b None (Some p)) (wrong_in rest)
    by true = refl
    by false = refl
