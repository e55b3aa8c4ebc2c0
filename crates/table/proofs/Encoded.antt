-- The records of good trees, where they stand, are found as those trees, and the costs in them are right. Assumes nothing.
use Rattle.std.specs.Prelude.{Ok}
use mathlib.Core.Path.{◌≡◌, refl, ap, subst, ◌∙◌}
use mathlib.Core.List.{List, ◌++◌}
use Prim.Native.Nat.{ℕ, suc, ◌+◌, ◌-◌, ◌≤◌}
use native.Mathlib.Omega.{arith}
use lib.ListN.{length, length-append}
use lib.Dec.{lit<}
use mir.Syntax.{w128}
use mir.Val.{of_z}
use mir.ValLaws.{of_z_fits, to_z-of_z}
use borrow.Author.Tests.{lt-ltb}
use Rattle.wide.specs.Bytes.{le, number_at, wide_bytes}
use Rattle.wide.proofs.Numbers.{number_le, wide_length}
use Rattle.refusals.specs.Numbers.{table_limit}
use Rattle.refusals.specs.Result.{Result, ok}
use Rattle.records.specs.Records.{head_len, record_of}
use Rattle.records.proofs.Heads.{stood, stood_payload, length_record}
use Rattle.table.specs.Kinds.{symbol_kind, integer_kind, binding_kind, list_kind, list_len}
use Rattle.table.specs.Trees.{Tree, Trees, symbol, integer, binding, list, none, more, count, Good, Goods, cost, records, records_of}
use Rattle.table.specs.Records.{Symbol, Integer, Binding, ListOf}
use Rattle.table.specs.Costs.{costed, costed_all}
use Rattle.table.specs.Decoding.{Found, found, items_at, tree_at}
use Rattle.table.proofs.Integers.{fits_range}
use Rattle.lists.proofs.Stands.{Stands, stands_left, stands_right, stands_length}
use Rattle.table.proofs.Reading.{tree_of_lem}
use Rattle.table.proofs.Heads.{symbol_read, binding_read, integer_read, list_read, integer_stood, list_stood, stored_read, bits_read}
use Rattle.table.proofs.Costs.{named_record, list_size, list_records, cost_fits, right_list}

past_record : (kind p : ℕ) (a b : List ℕ) → p + (length a + head_len) + length b ≡ p + length (record_of kind a ++ b)
past_record kind p a b = simp (length-append, length_record) (omega arith)

items_more : (f : ℕ → Result (Found Tree)) (n p : ℕ) (x : Tree) (q : ℕ) (xs : Trees) (r : ℕ) → f p ≡ ok (found x q) → items_at f n q ≡ ok (found xs r)
    → items_at f (suc n) p ≡ ok (found (more x xs) r)
unfolding items_at
items_more f n p x q xs r e e' = rw (e, e') refl

items_none : (f : ℕ → Result (Found Tree)) (p : ℕ) → items_at f 0 p ≡ ok (found none (p + 0))
unfolding items_at
items_none f p = ap (λ (z : ℕ). ok (found none z)) (omega arith)

mutual
  unfolding records Good

  pub tree_is : (x : Tree) (t : List ℕ) (d p : ℕ) → Good x d → p ≤ length t → Stands t p (records x)
      → tree_at t d p ≡ ok (found x (p + length (records x)))
  tree_is (symbol n) t d p g hp s =
      let h = stood t p symbol_kind n hp (lit< tt) g.1 s in
      tree_of_lem t d p (Ok (Symbol (length n + head_len))) (symbol_read t p n h)
      ∙ rw (stood_payload t p symbol_kind n h, g.0, stood_payload t p symbol_kind n h, length_record symbol_kind n) refl
  tree_is (integer z) t d p g hp s =
      let h = integer_stood t p z hp s in
      let n : number_at 16 t (p + head_len) ≡ of_z w128 z =
      bits_read z t p h ∙ number_le 16 (of_z w128 z) (of_z_fits w128 z (fits_range z g)).fits in
      tree_of_lem t d p (Ok Integer) (integer_read t p (wide_bytes z) (wide_length z) h)
      ∙ rw (n, to_z-of_z w128 z (fits_range z g), length_record integer_kind (wide_bytes z), wide_length z) refl
  tree_is (binding n x) t d p g hp s =
      let a = stands_left t p (record_of binding_kind n) (records x) s in
      let h = stood t p binding_kind n hp (lit< tt) g.2 a in
      let b : Stands t (p + (length n + head_len)) (records x) =
      subst (λ (k : ℕ). Stands t (p + k) (records x)) (length_record binding_kind n) (stands_right t p (record_of binding_kind n) (records x) s) in
      tree_of_lem t d p (Ok (Binding (length n + head_len))) (binding_read t p n h)
      ∙ rw (lt-ltb 0 d g.0, stood_payload t p binding_kind n h, g.1, stood_payload t p binding_kind n h, tree_is x t (d - 1) (p + (length n + head_len)) g.3 (omega (arith, h.room)) b)
      (ap (λ (z : ℕ). ok (found (binding n x) z)) (past_record binding_kind p n (records x)))
  tree_is (list xs) t d p g hp s =
      let c : List ℕ = le 4 (count xs) ++ le 4 (cost (list xs)) in
      let h = list_stood t p (count xs) (cost (list xs)) hp (stands_left t p (record_of list_kind c) (records_of xs) s) in
      let b : Stands t (p + list_len) (records_of xs) =
      subst (λ (k : ℕ). Stands t (p + k) (records_of xs)) (list_size (count xs) (cost (list xs))) (stands_right t p (record_of list_kind c) (records_of xs) s) in
      let l = stands_length t p (record_of list_kind c) hp (stands_left t p (record_of list_kind c) (records_of xs) s) in
      tree_of_lem t d p (Ok (ListOf (count xs))) (list_read t p (count xs) (cost (list xs)) g.1 h)
      ∙ rw (lt-ltb 0 d g.0, trees_are xs t (d - 1) (p + list_len) g.2 (omega (arith, l, list_size (count xs) (cost (list xs)))) b)
      (ap (λ (z : ℕ). ok (found (list xs) z)) (omega (arith, list_records xs)))

  pub trees_are : (xs : Trees) (t : List ℕ) (d p : ℕ) → Goods xs d → p ≤ length t
      → Stands t p (records_of xs) → items_at (tree_at t d) (count xs) p ≡ ok (found xs (p + length (records_of xs)))
  trees_are none t d p g hp s = items_none (tree_at t d) p
  trees_are (more x xs) t d p g hp s =
      let a = stands_left t p (records x) (records_of xs) s in
      let b = stands_right t p (records x) (records_of xs) s in
      let q : p + length (records x) + length (records_of xs) ≡ p + length (records x ++ records_of xs) = simp length-append (omega arith) in
      items_more (tree_at t d) (count xs) p x (p + length (records x)) xs _
      (tree_is x t d p g.0 hp a)
      (trees_are xs t d (p + length (records x)) g.1 (stands_length t p (records x) hp a) b)
      ∙ ap (λ (z : ℕ). ok (found (more x xs) z)) q

-- ---- and the costs that they store are right, where the records are no more than the limit

mutual
  unfolding records costed

  pub tree_right : (x : Tree) (t : List ℕ) (p : ℕ) → length (records x) ≤ table_limit → p ≤ length t → Stands t p (records x) → costed t x p ≡ ok tt
  tree_right (symbol n) t p small hp s = refl
  tree_right (integer z) t p small hp s = refl
  tree_right (binding n x) t p small hp s =
      let l = named_record binding_kind n (records x) in
      let e : p + length (record_of binding_kind n) ≡ p + (length n + head_len) = ap (λ (k : ℕ). p + k) (length_record binding_kind n) in
      tree_right x t (p + (length n + head_len)) (omega arith) (omega (arith, stands_length t p (records (binding n x)) hp s))
      (subst (λ (k : ℕ). Stands t k (records x)) e (stands_right t p (record_of binding_kind n) (records x) s))
  tree_right (list xs) t p small hp s =
      let k : ℕ = cost (list xs) in
      let c : List ℕ = record_of list_kind (le 4 (count xs) ++ le 4 k) in
      let l = list_records xs in
      let h = list_stood t p (count xs) k hp (stands_left t p c (records_of xs) s) in
      right_list t xs p (stored_read t p (count xs) k (cost_fits (list xs) small) h)
      (trees_right xs t (p + list_len) (omega arith) (omega (arith, stands_length t p (records (list xs)) hp s))
      (subst (λ (j : ℕ). Stands t (p + j) (records_of xs)) (list_size (count xs) k) (stands_right t p c (records_of xs) s)))

  pub trees_right : (xs : Trees) (t : List ℕ) (p : ℕ) → length (records_of xs) ≤ table_limit → p ≤ length t → Stands t p (records_of xs) → costed_all t xs p ≡ ok tt
  trees_right none t p small hp s = refl
  trees_right (more x xs) t p small hp s =
      let l = length-append (records x) (records_of xs) in
      let a = stands_left t p (records x) (records_of xs) s in
      rw (tree_right x t p (omega arith) hp a)
      (trees_right xs t (p + length (records x)) (omega arith) (stands_length t p (records x) hp a) (stands_right t p (records x) (records_of xs) s))
