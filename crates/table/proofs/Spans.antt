-- Where a tree that is found ends: past its records, and within the table. Assumes nothing.
use Rattle.std.specs.Prelude.{Result as CodeResult, Ok, Err}
use mathlib.Core.Path.{◌≡◌, subst}
use mathlib.Core.List.{List}
use Prim.Native.Nat.{ℕ, zero, suc, ◌+◌, ◌-◌, ◌≤◌, ◌<◌}
use native.Mathlib.Omega.{arith}
use lib.ListN.{length, length-append}
use lib.Dec.{ltb}
use Rattle.lists.proofs.Choice.{pick}
use Rattle.refusals.specs.Numbers.{depth_limit}
use Rattle.refusals.specs.Result.{Result, ok, refused}
use Rattle.wide.specs.Bytes.{wide_bytes, integer_at}
use Rattle.wide.proofs.Numbers.{wide_length}
use Rattle.records.specs.Records.{head_len, payload}
use Rattle.records.proofs.Heads.{length_record, payload_size}
use Rattle.table.specs.Kinds.{symbol_kind, integer_kind, binding_kind, list_len}
use Rattle.table.specs.Trees.{Tree, Trees, binding, list, more, records, records_of}
use Rattle.refusals.specs.declared.Fault.{Fault}
use Rattle.table.specs.Records.{Record, Symbol, Integer, Binding, ListOf}
use Rattle.table.specs.Decoding.{Found, found, and_then, items_at, of_step, tree_at, trees_at}
use Rattle.table.proofs.Reading.{StepIn, by_steps}
use Rattle.table.proofs.Costs.{named_record, list_records}

abbrev pub Spans : List ℕ → ℕ → Result (Found Tree) → Type 0
Spans t p (ok (found x q)) = (q ≡ p + length (records x)) × (q ≤ length t)
Spans t p (refused n a) = Unit {0}

abbrev pub SpanAll : List ℕ → ℕ → Result (Found Trees) → Type 0
SpanAll t p (ok (found xs q)) = (q ≡ p + length (records_of xs)) × (q ≤ length t)
SpanAll t p (refused n a) = Unit {0}

-- a tree before others
pub span_more : (t : List ℕ) (p q : ℕ) (x : Tree) → q ≡ p + length (records x) → (y : Result (Found Trees)) → SpanAll t q y
    → SpanAll t p (and_then y (λ xs r. ok (found (more x xs) r)))
unfolding records
span_more t p q x e (ok (found xs r)) h = (omega (arith, h.0, length-append (records x) (records_of xs)), h.1)
span_more t p q x e (refused n a) h = tt

pub items_span : (t : List ℕ) (d : ℕ) → ((p : ℕ) → p ≤ length t → Spans t p (tree_at t d p)) → (n p : ℕ) → p ≤ length t → SpanAll t p (items_at (tree_at t d) n p)
unfolding items_at records
items_span t d hf zero p hp = (omega arith, hp)
items_span t d hf (suc n) p hp = first (tree_at t d p) (hf p hp) (items_span t d hf n)
  where
    first : (y : Result (Found Tree)) → Spans t p y → ((q : ℕ) → q ≤ length t → SpanAll t q (items_at (tree_at t d) n q))
        → SpanAll t p (and_then y (λ x q. and_then (items_at (tree_at t d) n q) (λ xs r. ok (found (more x xs) r))))
    first (ok (found x q)) h ih = span_more t p q x h.0 (items_at (tree_at t d) n q) (ih q h.1)
    first (refused k a) h ih = tt

step_span : (t : List ℕ) (d p : ℕ) → (0 < d → (q : ℕ) → q ≤ length t → Spans t q (tree_at t (d - 1) q))
    → (s : CodeResult Record Fault) → StepIn t d p s → p ≤ length t → Spans t p (of_step t p (tree_at t (d - 1)) s)
unfolding records
step_span t d p hf (Err n) hx hp = tt
step_span t d p hf (Ok (Symbol len)) hx hp =
    (omega (arith, length_record symbol_kind (payload t p len), payload_size t p len (omega (arith, hx.0, hx.1)) hx.0), omega (arith, hx.0, hx.1))
step_span t d p hf (Ok Integer) hx hp =
    let z = integer_at t (p + head_len) in (omega (arith, length_record integer_kind (wide_bytes z), wide_length z), omega (arith, hx.0))
step_span t d p hf (Ok (Binding len)) hx hp = sub (tree_at t (d - 1) (p + len)) (hf hx.2 (p + len) (omega (arith, hx.0, hx.1)))
  where
    sub : (y : Result (Found Tree)) → Spans t (p + len) y → Spans t p (and_then y (λ x q. ok (found (binding (payload t p len) x) q)))
    sub (refused n a) h = tt
    sub (ok (found x q)) h =
        (omega (arith, h.0, named_record binding_kind (payload t p len) (records x), payload_size t p len (omega (arith, hx.0, hx.1)) hx.0), h.1)
step_span t d p hf (Ok (ListOf n)) hx hp =
    sub (items_at (tree_at t (d - 1)) n (p + list_len)) (items_span t (d - 1) (hf hx.1) n (p + list_len) (omega (arith, hx.0)))
  where
    sub : (y : Result (Found Trees)) → SpanAll t (p + list_len) y → Spans t p (and_then y (λ xs q. ok (found (list xs) q)))
    sub (refused k a) h = tt
    sub (ok (found xs q)) h = (omega (arith, h.0, list_records xs), h.1)

pub tree_spans : (t : List ℕ) (d p : ℕ) → p ≤ length t → Spans t p (tree_at t d p)
tree_spans t = by_steps t (λ d p y. p ≤ length t → Spans t p y) (step_span t)

-- the same for a tree that was found
pub tree_span : (t : List ℕ) (d p q : ℕ) (x : Tree) → p ≤ length t → tree_at t d p ≡ ok (found x q) → (q ≡ p + length (records x)) × (q ≤ length t)
tree_span t d p q x h e = subst (Spans t p) e (tree_spans t d p h)

-- where whole trees end
pub trees_span : (t : List ℕ) (k at : ℕ) → at ≤ length t → SpanAll t at (trees_at t k at)
unfolding trees_at records
trees_span t zero at h = (omega arith, h)
trees_span t (suc k) at h =
    pick (SpanAll t at) (ltb at (length t)) (λ _. first (tree_at t depth_limit at) (tree_spans t depth_limit at h) (trees_span t k)) (λ _. (omega arith, h))
  where
    first : (y : Result (Found Tree)) → Spans t at y → ((q : ℕ) → q ≤ length t → SpanAll t q (trees_at t k q))
        → SpanAll t at (and_then y (λ x q. and_then (trees_at t k q) (λ xs r. ok (found (more x xs) r))))
    first (ok (found x q)) s ih = span_more t at q x s.0 (trees_at t k q) (ih q s.1)
    first (refused n a) s ih = tt
