-- What a checked table holds at a record that was read. Assumes nothing.
use mathlib.Core.Path.{◌≡◌, refl, ap, sym, subst, ◌∙◌}
use mathlib.Core.Bool.{Bool, true, false, cond}
use mathlib.Core.List.{List}
use Prim.Native.Nat.{ℕ, ◌+◌, ◌-◌, ◌^◌, ◌≤◌, ◌<◌}
use native.Mathlib.Omega.{arith}
use lib.ListN.{length}
use lib.Dec.{ltb}
use Rattle.refusals.specs.Result.{Result, ok, refused}
use Rattle.wide.specs.Bytes.{Bytes, number_in, integer_at}
use Rattle.table.specs.Trees.{Tree, Trees, symbol, integer, binding, list, is_symbol}
use Rattle.std.specs.Prelude.{Option, Some, None, Result as CodeResult, Ok, Err, IsOk}
use Rattle.refusals.specs.declared.Fault.{Fault}
use Rattle.refusals.specs.declared.Fault.TheVariants as fault
use Rattle.records.specs.Records.{head_len, kind_at, payload}
use Rattle.table.specs.Kinds.{symbol_kind, integer_len, list_len}
use Rattle.table.specs.declared.Record.{Record}
use Rattle.table.specs.declared.Record.TheVariants.{Symbol, Integer, Binding, List as ListOf}
use Rattle.table.specs.Records.{record_at}
use Rattle.table.specs.Decoding.{Found, found, and_then, items_at, step_of, step_at, of_step, tree_at}
use Rattle.table.proofs.Reading.{RecordAt, record_in, read_in, symbol_in, StepIn, tree_of_lem}
use Rattle.records.proofs.Heads.{within_is, part_lt}
use Rattle.table.proofs.Steps.{Gone, step_tree, step_in, found_in}
use Rattle.printer.specs.PrivateTrees.{Right, tree_of, trees_of, next_of, named_len}

-- the count of a list fits 4 bytes, in a table of bytes
pub list_small : (t : List ℕ) (at n : ℕ) (x : Record) → Bytes t → Ok x ≡ record_at t at → x ≡ ListOf n → n < 2 ^ 32
list_small t at n x hb e e' = let h = read_in t at x (ListOf n) e e' in omega (arith, part_lt t (at + head_len) 4 hb (omega arith), h.0)

-- a record that is found has no fault
module _ (t : List ℕ) (at : ℕ) (f : ℕ → Result (Found Tree)) where
  right_then : (b : Bool) (x : Record) (g : Fault) → Right (of_step t at f (cond b (Ok x) (Err g))) → cond b (Ok x) (Err g) ≡ Ok x
  right_then true x g r = refl
  right_then false x g r = absurd r

  plain_is : (o : Bool) (x : Record) → Right (of_step t at f (step_of t at o (Ok x))) → step_of t at o (Ok x) ≡ Ok x
  plain_is o (Symbol len) r = right_then (is_symbol (payload t at len)) (Symbol len) fault.BadSymbol r
  plain_is o Integer r = refl
  plain_is true (Binding len) r = right_then (is_symbol (payload t at len)) (Binding len) fault.BadSymbol r
  plain_is false (Binding len) r = absurd r
  plain_is o (ListOf n) r = right_then o (ListOf n) fault.TooDeep r

-- a found tree y is the binding or list of a found part z
pub record Made (d : ℕ) {A : Type 0} (make : A → Tree) (part : Result (Found A) → A) (y : Result (Found Tree)) (z : Result (Found A)) : Type 0 where
  pub deeper : 0 < d
  pub right : Right z
  pub is : y ≡ ok (found (make (part z)) (next_of z))

made : {A : Type 0} (d : ℕ) (make : A → Tree) (part : Result (Found A) → A) → ((x : A) (q : ℕ) → part (ok (found x q)) ≡ x) → (y : Result (Found Tree)) (z : Result (Found A)) → 0 < d
    → Right (and_then z (λ x q. ok (found (make x) q))) → y ≡ and_then z (λ x q. ok (found (make x) q)) → Made d make part y z
made {A} d make part f y (ok (found x q)) h r e = record { deeper = h; right = tt; is = e ∙ ap (λ (v : A). ok (found (make v) q)) (sym (f x q)) }
made d make part f y (refused n a) h r e = absurd r

pub good_found : (t : List ℕ) (d at : ℕ) (x : CodeResult Record Fault) → Right (tree_at t d at) → x ≡ record_at t at → IsOk x
good_found t d at (Ok x) r e = refl
good_found t d at (Err f) r e = absurd (subst Right (tree_of_lem t d at (Err f) e) r)

-- x is what was read at `at`
module _ (t : List ℕ) (d at : ℕ) (x : Record) (r : Right (tree_at t d at)) (e : Ok x ≡ record_at t at) where
  plainly : (y : Record) → x ≡ y → Ok y ≡ step_at t at (ltb 0 d)
  unfolding step_at
  plainly y e' =
      let k : Ok y ≡ record_at t at = ap Ok (sym e') ∙ e in
      sym (ap (step_of t at (ltb 0 d)) (sym k) ∙ plain_is t at (tree_at t (d - 1)) (ltb 0 d) y (subst Right (tree_of_lem t d at (Ok y) k) r))

  is_plain : (y : Record) → x ≡ y → tree_at t d at ≡ of_step t at (tree_at t (d - 1)) (Ok y)
  is_plain y e' = step_tree t d at y y (plainly y e') refl

  plain_in : (y : Record) → x ≡ y → StepIn t d at (Ok y)
  plain_in y e' = step_in t d at y y (plainly y e') refl

  pub symbol_found : (len : ℕ) → x ≡ Symbol len → tree_at t d at ≡ ok (found (symbol (payload t at len)) (at + len))
  symbol_found len e' = is_plain (Symbol len) e'

  pub integer_found : x ≡ Integer → tree_at t d at ≡ ok (found (integer (integer_at t (at + head_len))) (at + integer_len))
  integer_found e' = is_plain Integer e'

  pub binding_found : (len : ℕ) → x ≡ Binding len → Made d (binding (payload t at len)) tree_of (tree_at t d at) (tree_at t (d - 1) (at + len))
  binding_found len e' =
      made d (binding (payload t at len)) tree_of (λ y q. refl) (tree_at t d at) (tree_at t (d - 1) (at + len)) (plain_in (Binding len) e').2
      (subst Right (is_plain (Binding len) e') r) (is_plain (Binding len) e')

  pub list_found : (n : ℕ) → x ≡ ListOf n → Made d list trees_of (tree_at t d at) (items_at (tree_at t (d - 1)) n (at + list_len))
  list_found n e' =
      made d list trees_of (λ y q. refl) (tree_at t d at) (items_at (tree_at t (d - 1)) n (at + list_len)) (plain_in (ListOf n) e').1
      (subst Right (is_plain (ListOf n) e') r) (is_plain (ListOf n) e')

pub right_is : (y : Result (Found Tree)) → Right y → y ≡ ok (found (tree_of y) (next_of y))
right_is (ok (found x q)) r = refl
right_is (refused n a) r = absurd r

-- a found tree ends past its place and within the table
pub found_end : (t : List ℕ) (d p : ℕ) → p ≤ length t → Right (tree_at t d p) → (p < next_of (tree_at t d p)) × (next_of (tree_at t d p) ≤ length t)
found_end t d p h r = found_in t d p _ _ h (right_is (tree_at t d p) r)

-- the items of a list that is right are those done, and some that are left: what holds of every such list holds of them
pub items_left : {f : ℕ → Result (Found Tree)} {n at i p : ℕ} (g : Gone f n at i p) → Right (items_at f n at) → (P : Trees → Type 0) → ((ys : Trees) → P (g.pre ys)) → P (trees_of (items_at f n at))
items_left {f} {n} {at} {i} {p} g r P h = by (items_at f (n - i) p) g.whole
  where
    by : (y : Result (Found Trees)) → items_at f n at ≡ and_then y (λ ys q. ok (found (g.pre ys) q)) → P (trees_of (items_at f n at))
    by (ok (found ys q)) e = rw e (h ys)
    by (refused b a) e = absurd (subst Right e r)

-- ---- a symbol, by its kind and its length alone

-- n is what `symbol_at` answers on the record x
abbrev Told : CodeResult Record Fault → Option ℕ → Type 0
Told x n = IsOk x → n ≡ named_len x

module _ (t : List ℕ) (at k : ℕ) (e : k ≡ number_in 2 t (at + 4)) where
  pub symbol_yes : k ≡ symbol_kind → (n : ℕ) → n ≡ number_in 4 t at → Told (record_at t at) (Some n)
  symbol_yes e1 n en = by (record_at t at) (record_in t at)
    where
      kind_is : head_len ≤ length t - at → kind_at t at ≡ symbol_kind
      kind_is h = within_is 2 t (at + 4) k (omega arith) e ∙ e1

      by : (x : CodeResult Record Fault) → RecordAt t at x → Told x (Some n)
      by (Ok (Symbol l)) h g = ap Some (sym (within_is 4 t at n (omega arith) en) ∙ sym h.0)
      by (Ok Integer) h g = absurd (omega (arith, h.1, kind_is (omega arith)))
      by (Ok (Binding l)) h g = absurd (omega (arith, h.1, kind_is (omega arith)))
      by (Ok (ListOf m)) h g = absurd (omega (arith, h.2, kind_is (omega arith)))
      by (Err f) h g = cc

  pub symbol_no : (k ≡ symbol_kind → ⊥) → Told (record_at t at) None
  symbol_no e1 = by (record_at t at) (record_in t at)
    where
      by : (x : CodeResult Record Fault) → RecordAt t at x → Told x None
      by (Ok (Symbol l)) h g = absurd (e1 (sym (within_is 2 t (at + 4) k (omega arith) e) ∙ h.1))
      by (Ok Integer) h g = refl
      by (Ok (Binding l)) h g = refl
      by (Ok (ListOf m)) h g = refl
      by (Err f) h g = refl

-- what stands at p where `symbol_at` said that a symbol of len bytes does
abbrev pub Named : List ℕ → ℕ → ℕ → ℕ → Type 0
Named t d p len = (head_len ≤ len) × (p + len ≤ length t) × (tree_at t d p ≡ ok (found (symbol (payload t p len)) (p + len)))

pub symbol_named : (t : List ℕ) (d p len : ℕ) → p ≤ length t → Right (tree_at t d p) → Told (record_at t p) (Some len) → Named t d p len
symbol_named t d p len hp r g = by (record_at t p) refl (good_found t d p (record_at t p) r refl) g
  where
    by : (x : CodeResult Record Fault) → x ≡ record_at t p → IsOk x → Told x (Some len) → Named t d p len
    by (Ok (Symbol n)) e o f =
        let k = symbol_in t p n (Symbol n) e refl in
        let z : Some len ≡ Some n = f refl in
        let y : len ≡ n = cc in
        rw y (k.0, omega arith, symbol_found t d p (Symbol n) r e n refl)
    by (Ok Integer) e o f = let z : Some len ≡ None = f refl in cc
    by (Ok (Binding n)) e o f = let z : Some len ≡ None = f refl in cc
    by (Ok (ListOf n)) e o f = let z : Some len ≡ None = f refl in cc
    by (Err n) e o f = cc
