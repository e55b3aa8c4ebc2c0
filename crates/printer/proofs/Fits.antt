-- The fits test by the cost that a list stores is the layout's, where that cost is right. Assumes nothing.
use mathlib.Core.Path.{◌≡◌, ap, subst, ◌∙◌}
use mathlib.Core.List.{List}
use Prim.Native.Nat.{ℕ, ◌+◌, ◌≤◌}
use native.Mathlib.Omega.{arith}
use lib.ListN.{length}
use Rattle.refusals.specs.Numbers.{table_limit}
use Rattle.refusals.specs.Result.{Result, ok}
use Rattle.lists.proofs.Stands.{Stands, stands_length}
use Rattle.records.specs.Records.{head_len, payload}
use Rattle.records.proofs.Heads.{payload_size}
use Rattle.table.specs.Kinds.{list_len}
use Rattle.table.specs.Trees.{Tree, Trees, binding, list, cost, records}
use Rattle.table.specs.Costs.{stored_cost, costed, costed_all}
use Rattle.table.specs.Decoding.{Found}
use Rattle.table.proofs.Costs.{list_right}
use Rattle.table.proofs.Encoded.{tree_right}
use Rattle.printer.specs.Layout.{fits_in, fits}
use Rattle.printer.specs.Looking.{looks}
use Rattle.printer.specs.Fitting.{Tested, tested, fits_at}
use Rattle.printer.specs.PrivateTrees.{tree_of, trees_of}
use Rattle.printer.proofs.CheckedRecords.{Made}

module _ (t : List ℕ) (p w c : ℕ) where
  -- a list stores its cost
  fits_stored : (x : Tree) → stored_cost t p ≡ cost x → fits_at t p w c ≡ tested (fits w c x) (looks w c)
  unfolding fits_at
  fits_stored x e = ap (λ (k : ℕ). tested (fits_in w c k) (looks w c)) e

  -- where a list stands
  pub fits_stands : (xs : Trees) → length t ≤ table_limit → p ≤ length t → Stands t p (records (list xs)) → fits_at t p w c ≡ tested (fits w c (list xs)) (looks w c)
  fits_stands xs small hp s =
      fits_stored (list xs) (list_right t xs p (tree_right (list xs) t p (omega (arith, stands_length t p (records (list xs)) hp s)) hp s)).0

  -- and where one was found
  pub fits_right : (d : ℕ) (y : Result (Found Tree)) (z : Result (Found Trees)) → Made d list trees_of y z → costed t (tree_of y) p ≡ ok tt → (x : Tested) → x ≡ fits_at t p w c
      → (x.fits ≡ fits w c (tree_of y)) × (x.looked ≡ looks w c)
  fits_right d y z h e x ex =
      let k : tree_of y ≡ list (trees_of z) = ap tree_of h.is in
      let f = ex ∙ fits_stored (list (trees_of z)) (list_right t (trees_of z) p (subst (λ (v : Tree). costed t v p ≡ ok tt) k e)).0 in
      rw k (ap (λ (v : Tested). v.fits) f, ap (λ (v : Tested). v.looked) f)

-- ---- the costs of what is in a list or a binding are right where its own are

pub list_cost : (t : List ℕ) (at d : ℕ) (y : Result (Found Tree)) (z : Result (Found Trees)) → Made d list trees_of y z → costed t (tree_of y) at ≡ ok tt
    → costed_all t (trees_of z) (at + list_len) ≡ ok tt
list_cost t at d y z h e = (list_right t (trees_of z) at (subst (λ (v : Tree). costed t v at ≡ ok tt) (ap tree_of h.is) e)).1

pub binding_cost : (t : List ℕ) (at len d : ℕ) (y z : Result (Found Tree)) → head_len ≤ len → at + len ≤ length t → Made d (binding (payload t at len)) tree_of y z
    → costed t (tree_of y) at ≡ ok tt → costed t (tree_of z) (at + len) ≡ ok tt
unfolding costed
binding_cost t at len d y z h6 hl h e =
    let k : costed t (tree_of z) (at + (length (payload t at len) + head_len)) ≡ ok tt = subst (λ (v : Tree). costed t v at ≡ ok tt) (ap tree_of h.is) e in
    subst (λ (n : ℕ). costed t (tree_of z) (at + n) ≡ ok tt) (payload_size t at len hl h6) k
