-- What is found in a table is a good tree, and its records stand there if the costs that its lists store are right. Assumes that the table's elements are bytes.
use Rattle.std.specs.Prelude.{Result as CodeResult, Ok, Err}
use mathlib.Core.Path.{◌≡◌, refl, ap, sym, subst, ◌∙◌}
use mathlib.Core.List.{List, ◌++◌}
use Prim.Native.Nat.{ℕ, zero, suc, ◌+◌, ◌-◌, ◌^◌, ◌≤◌, ◌<◌}
use native.Mathlib.Omega.{arith}
use lib.ListN.{length, length-append, take, drop}
use mir.Syntax.{w128}
use mir.Val.{to_z}
use Rattle.wide.specs.Bytes.{Bytes, le, number_at, wide_bytes}
use Rattle.wide.proofs.Numbers.{bytes_part, le_length, bytes_back}
use Rattle.refusals.specs.Result.{Result, ok, refused}
use Rattle.records.specs.Records.{head_len, record_of, len_at, payload}
use Rattle.records.proofs.Heads.{length_record, payload_size, record_stands, within_is, part_is, part_lt}
use Rattle.table.specs.Kinds.{symbol_kind, integer_kind, binding_kind, list_kind, integer_len, list_len}
use Rattle.table.specs.Trees.{Tree, Trees, binding, list, more, count, Good, Goods, cost, records, records_of}
use Rattle.table.specs.Costs.{stored_cost, costed, costed_all}
use Rattle.refusals.specs.declared.Fault.{Fault}
use Rattle.table.specs.Records.{Record, Symbol, Integer, Binding, ListOf}
use Rattle.table.specs.Decoding.{Found, found, and_then, items_at, of_step, tree_at}
use Rattle.table.proofs.Integers.{range_bits}
use Rattle.lists.proofs.Stands.{Stands, stands_join, stands_none, stands_part, stands_take, part_size}
use Rattle.table.proofs.Reading.{StepIn, by_steps}
use Rattle.table.proofs.Costs.{list_size, both_right, list_right}
use Rattle.table.proofs.Spans.{Spans, tree_spans}

-- what was found, and, if the costs that are stored are right, that its records stand there
abbrev pub Holds : List ℕ → ℕ → ℕ → Result (Found Tree) → Type 0
Holds t d p (ok (found x q)) = (costed t x p ≡ ok tt → Stands t p (records x)) × Good x d
Holds t d p (refused n a) = Unit {0}

abbrev pub HoldAll : List ℕ → ℕ → ℕ → ℕ → Result (Found Trees) → Type 0
HoldAll t d n p (ok (found xs q)) =
    (costed_all t xs p ≡ ok tt → Stands t p (records_of xs)) × Goods xs d × (count xs ≡ n)
HoldAll t d n p (refused k a) = Unit {0}

pub items_hold : (t : List ℕ) (d : ℕ) → ((p : ℕ) → p ≤ length t → Holds t d p (tree_at t d p)) → (n p : ℕ) → p ≤ length t
    → HoldAll t d n p (items_at (tree_at t d) n p)
unfolding items_at records Good costed
items_hold t d hf zero p hp = ((λ _. stands_none t p), tt, refl)
items_hold t d hf (suc n) p hp = first (tree_at t d p) (hf p hp) (tree_spans t d p hp) (items_hold t d hf n)
  where
    last : (x : Tree) (q : ℕ) → q ≡ p + length (records x) → Holds t d p (ok (found x q)) → (y : Result (Found Trees)) → HoldAll t d n q y
        → HoldAll t d (suc n) p (and_then y (λ xs r. ok (found (more x xs) r)))
    last x q l g (ok (found xs r)) h = (
      (λ e.
          let b = both_right (costed t x p) (λ _. costed_all t xs (p + length (records x))) e in
          stands_join t p (records x) (records_of xs) (g.0 b.0)
          (subst (λ (k : ℕ). costed_all t xs k ≡ ok tt → Stands t k (records_of xs)) l h.0 b.1)),
      (g.1, h.1),
      ap suc h.2,
    )
    last x q l g (refused k a) h = tt

    first : (y : Result (Found Tree)) → Holds t d p y → Spans t p y → ((q : ℕ) → q ≤ length t → HoldAll t d n q (items_at (tree_at t d) n q))
        → HoldAll t d (suc n) p (and_then y (λ x q. and_then (items_at (tree_at t d) n q) (λ xs r. ok (found (more x xs) r))))
    first (ok (found x q)) h s ih = last x q s.0 h (items_at (tree_at t d) n q) (ih q s.1)
    first (refused k a) h s ih = tt

-- a record with a name
module _ (t : List ℕ) (p len : ℕ) (hb : Bytes t) (e : len ≡ len_at t p) (few : head_len ≤ len) (hl : len ≤ length t - p) (hp : p ≤ length t) where
  named_size : (kind : ℕ) → length (record_of kind (payload t p len)) ≡ len
  named_size kind = length_record kind (payload t p len) ∙ payload_size t p len (omega arith) few

  named_small : length (payload t p len) + head_len < 2 ^ 32
  named_small = rw (payload_size t p len (omega arith) few) (omega (arith, part_lt t p 4 hb (omega arith)))

step_hold : (t : List ℕ) → Bytes t → (d p : ℕ) → (0 < d → (q : ℕ) → q ≤ length t → Holds t (d - 1) q (tree_at t (d - 1) q))
    → (s : CodeResult Record Fault) → StepIn t d p s → p ≤ length t → Holds t d p (of_step t p (tree_at t (d - 1)) s)
unfolding records Good costed stored_cost
step_hold t hb d p hf (Err n) hx hp = tt
step_hold t hb d p hf (Ok (Symbol len)) hx hp = (
  (λ _. record_stands t p symbol_kind len hb (omega arith) hx.0 (sym hx.3) hx.4),
  (hx.2, named_small t p len hb hx.3 hx.0 hx.1 hp),
)
step_hold t hb d p hf (Ok Integer) hx hp =
    let n : ℕ = number_at 16 t (p + head_len) in
    let bits : n < 2 ^ 128 = part_lt t (p + head_len) 16 hb (omega arith) in
    let same : payload t p integer_len ≡ wide_bytes (to_z w128 n) =
    sym (bytes_back (payload t p integer_len) (bytes_part t hb 16 (p + head_len) (omega arith)) (part_size t (p + head_len) 16 (omega arith))) in (
      (λ _. subst (λ (bs : List ℕ). Stands t p (record_of integer_kind bs)) same (record_stands t p integer_kind integer_len hb (omega arith) (omega arith) hx.1 hx.2)),
      range_bits n bits,
    )
step_hold t hb d p hf (Ok (Binding len)) hx hp = sub (tree_at t (d - 1) (p + len)) (hf hx.2 (p + len) (omega arith))
  where
    size : length (record_of binding_kind (payload t p len)) ≡ len
    size = named_size t p len hb hx.4 hx.0 hx.1 hp binding_kind

    whole : length (payload t p len) + head_len ≡ len
    whole = payload_size t p len (omega arith) hx.0

    sub : (y : Result (Found Tree)) → Holds t (d - 1) (p + len) y → Holds t d p (and_then y (λ x q. ok (found (binding (payload t p len) x) q)))
    sub (refused n a) h = tt
    sub (ok (found x q)) h = (
      (λ e.
          stands_join t p (record_of binding_kind (payload t p len)) (records x) (record_stands t p binding_kind len hb (omega arith) hx.0 (sym hx.4) hx.5)
          (subst (λ (k : ℕ). Stands t (p + k) (records x)) (sym size) (h.0 (subst (λ (k : ℕ). costed t x (p + k) ≡ ok tt) whole e)))),
      (hx.2, hx.3, named_small t p len hb hx.4 hx.0 hx.1 hp, h.1),
    )
step_hold t hb d p hf (Ok (ListOf n)) hx hp =
    sub (items_at (tree_at t (d - 1)) n (p + list_len)) (items_hold t (d - 1) (hf hx.1) n (p + list_len) (omega arith))
  where
    -- the count, as it was read, and the cost, if it is what is stored
    eight : (k : ℕ) → stored_cost t p ≡ k → payload t p list_len ≡ le 4 n ++ le 4 k
    eight k e =
        let a : take 4 (drop (p + head_len) t) ≡ le 4 n = sym (ap (le 4) hx.2 ∙ part_is t (p + head_len) 4 hb (omega arith)) in
        let v : number_at 4 t (p + (head_len + 4)) ≡ k = within_is 4 t (p + (head_len + 4)) k (omega arith) (sym e) in
        let b : take 4 (drop (p + (head_len + 4)) t) ≡ le 4 k = sym (ap (le 4) (sym v) ∙ part_is t (p + (head_len + 4)) 4 hb (omega arith)) in
        let z : p + (head_len + 4) ≡ p + head_len + length (le 4 n) = rw (le_length 4 n) (omega arith) in
        let s = subst (Stands t (p + head_len)) a (stands_part t (p + head_len) 4 (omega arith)) in
        let u = subst (λ (j : ℕ). Stands t j (le 4 k)) z (subst (Stands t (p + (head_len + 4))) b (stands_part t (p + (head_len + 4)) 4 (omega arith))) in
        stands_take t (p + head_len) (le 4 n ++ le 4 k) (stands_join t (p + head_len) (le 4 n) (le 4 k) s u) 8 (simp (length-append, le_length) refl)

    sub : (y : Result (Found Trees)) → HoldAll t (d - 1) n (p + list_len) y → Holds t d p (and_then y (λ xs q. ok (found (list xs) q)))
    sub (refused k a) h = tt
    sub (ok (found xs q)) h = (
      (λ e.
          let g = list_right t xs p e in
          let k : ℕ = cost (list xs) in
          let s : Stands t p (record_of list_kind (le 4 (count xs) ++ le 4 k)) =
          subst (λ (j : ℕ). Stands t p (record_of list_kind (le 4 j ++ le 4 k))) (sym h.2)
          (subst (λ (bs : List ℕ). Stands t p (record_of list_kind bs)) (eight k g.0) (record_stands t p list_kind list_len hb (omega arith) (omega arith) hx.3 hx.4)) in
          stands_join t p (record_of list_kind (le 4 (count xs) ++ le 4 k)) (records_of xs) s
          (subst (λ (j : ℕ). Stands t (p + j) (records_of xs)) (sym (list_size (count xs) k)) (h.0 g.1))),
      (hx.1, subst (λ (k : ℕ). k < 2 ^ 32) (sym hx.2 ∙ sym h.2) (part_lt t (p + head_len) 4 hb (omega arith)), h.1),
    )

pub tree_holds : (t : List ℕ) → Bytes t → (d p : ℕ) → p ≤ length t → Holds t d p (tree_at t d p)
tree_holds t hb = by_steps t (λ d p y. p ≤ length t → Holds t d p y) (step_hold t hb)
