-- What a record that was read says of the table's bytes, and where a tree ends. Assumes nothing.
use Rattle.std.specs.Prelude.{Option, Some, None, Result as CodeResult, Ok, Err}
use mathlib.Core.Path.{◌≡◌, refl, ap, sym, subst, subst⁻¹, ◌∙◌}
use mathlib.Core.Bool.{Bool, true, false}
use mathlib.Core.List.{List}
use Prim.Native.Nat.{ℕ, zero, suc, ◌+◌, ◌-◌, ◌≤◌, ◌<◌}
use native.Mathlib.Omega.{arith}
use lib.ListN.{length}
use lib.Dec.{ltb, eqb}
use borrow.Author.Tests.{lt-ltb, ltb-true, ltb-false, eqb-true}
use Rattle.refusals.specs.declared.Fault.{Fault}
use Rattle.refusals.specs.declared.Fault.TheVariants as fault
use Rattle.refusals.specs.Numbers.{too_deep, missing_trees, number_of}
use Rattle.lists.proofs.Choice.{pick}
use Rattle.wide.specs.Bytes.{number_at}
use Rattle.refusals.specs.Result.{Result, ok, refused}
use Rattle.records.specs.declared.Head.{Head}
use Rattle.records.specs.Records.{head_len, len_at, kind_at, payload, head_at}
use Rattle.records.proofs.Heads.{HeadIn, head_in}
use Rattle.table.specs.Kinds.{Kind, kind_named, symbol_kind, integer_kind, binding_kind, list_kind, integer_len, list_len}
use Rattle.table.specs.Trees.{Tree, Trees, binding, list, more, is_symbol}
use Rattle.table.specs.Records.{Record, Symbol, Integer, Binding, ListOf, of_kind, kind_of, record_of, record_at}
use Rattle.table.specs.Decoding.{Found, found, and_then, items_at, step_of, step_at, of_step, tree_at}
use Rattle.table.specs.Faults.{is_fault}

-- the fault of a record that is due where so many bytes are left: 22 if none is, and another one if some are; and its number is one of a record's faults
abbrev pub FaultIn : ℕ → ℕ → Type 0
FaultIn left n = (n ≡ missing_trees → left ≡ 0) × (left ≡ 0 → n ≡ missing_trees) × (is_fault n ≡ true)

fault_of_lem : (left n : ℕ) → 0 < left → (n ≡ missing_trees → ⊥) → is_fault n ≡ true → FaultIn left n
fault_of_lem left n l g f = ((λ e. absurd (g e)), (λ e. absurd (omega arith)), f)

-- what each record says of the bytes left, its length, its kind and its item count
abbrev pub RecordIn : ℕ → ℕ → ℕ → ℕ → CodeResult Record Fault → Type 0
RecordIn left len kind items (Ok (Symbol l)) = (l ≡ len) × (kind ≡ symbol_kind) × (head_len ≤ l) × (l ≤ left)
RecordIn left len kind items (Ok Integer) = (len ≡ integer_len) × (kind ≡ integer_kind) × (integer_len ≤ left)
RecordIn left len kind items (Ok (Binding l)) = (l ≡ len) × (kind ≡ binding_kind) × (head_len ≤ l) × (l ≤ left)
RecordIn left len kind items (Ok (ListOf n)) = (n ≡ items) × (len ≡ list_len) × (kind ≡ list_kind) × (list_len ≤ left)
RecordIn left len kind items (Err f) = FaultIn left (number_of f)

abbrev pub RecordAt : List ℕ → ℕ → CodeResult Record Fault → Type 0
RecordAt t at = RecordIn (length t - at) (len_at t at) (kind_at t at) (number_at 4 t (at + head_len))

kind_in_lem : (left len items : ℕ) → head_len ≤ len → len ≤ left → (n : ℕ) → RecordIn left len n items (kind_of n len items)
kind_in_lem left len items few most n =
    let P : CodeResult Kind Fault → Type 0 = λ k. RecordIn left len n items (of_kind k len items) in
    let Q : CodeResult Record Fault → Type 0 = RecordIn left len n items in
    pick P (eqb n symbol_kind) (λ e. (refl, eqb-true n symbol_kind e, few, most)) (λ _.
    pick P (eqb n integer_kind)
    (λ e. pick Q (eqb len integer_len) (λ f. (eqb-true len integer_len f, eqb-true n integer_kind e, omega (arith, eqb-true len integer_len f)))
    (λ _. fault_of_lem left (number_of fault.WrongLength) (omega arith) (λ g. omega arith) refl)) (λ _.
    pick P (eqb n binding_kind) (λ e. (refl, eqb-true n binding_kind e, few, most)) (λ _.
    pick P (eqb n list_kind)
    (λ e. pick Q (eqb len list_len) (λ f. (refl, eqb-true len list_len f, eqb-true n list_kind e, omega (arith, eqb-true len list_len f)))
    (λ _. fault_of_lem left (number_of fault.WrongLength) (omega arith) (λ g. omega arith) refl))
    (λ _. fault_of_lem left (number_of fault.UnknownKind) (omega arith) (λ g. omega arith) refl))))

pub record_in : (t : List ℕ) (at : ℕ) → RecordAt t at (record_at t at)
unfolding record_at
record_in t at =
    pick (RecordAt t at) (ltb at (length t)) (λ e. by (ltb-true at (length t) e) (head_at t at) (head_in t at))
    (λ e. let g = ltb-false at (length t) e in ((λ _. omega arith), (λ _. refl), refl))
  where
    by : at < length t → (x : Option Head) → HeadIn t at x → RecordAt t at (record_of x (number_at 4 t (at + head_len)))
    by l None h = fault_of_lem (length t - at) (number_of fault.BadRecord) (omega arith) (λ g. omega arith) refl
    by l (Some x) h =
        rw (h.0, h.1) (kind_in_lem (length t - at) x.len (number_at 4 t (at + head_len)) h.2 h.3 x.kind)

module _ (t : List ℕ) (at : ℕ) where
  -- a record is due, and a head x stands there
  due : (x : Option Head) → at < length t → x ≡ head_at t at → record_of x (number_at 4 t (at + head_len)) ≡ record_at t at
  unfolding record_at
  due x l e = rw (lt-ltb at (length t) l, ← e) refl

  -- the record r by a head that was read
  pub record_is : (h : Head) (r : CodeResult Record Fault) → Some h ≡ head_at t at → r ≡ kind_of h.kind h.len (number_at 4 t (at + head_len)) → r ≡ record_at t at
  record_is h r e g =
      let i : HeadIn t at (Some h) = subst (HeadIn t at) (sym e) (head_in t at) in
      g ∙ due (Some h) (omega (arith, i.2, i.3)) e

  -- a head of an unknown kind
  pub kind_fault : (h : Head) (f : Fault) → Some h ≡ head_at t at → Err f ≡ kind_named h.kind → Err f ≡ record_at t at
  kind_fault h f e k = record_is h (Err f) e (ap (λ (j : CodeResult Kind Fault). of_kind j h.len (number_at 4 t (at + head_len))) k)

-- the room of a head that was read
pub head_room : (t : List ℕ) (at : ℕ) (h : Head) → Some h ≡ head_at t at → (head_len ≤ h.len) × (at + h.len ≤ length t)
head_room t at h e = let i : HeadIn t at (Some h) = subst (HeadIn t at) (sym e) (head_in t at) in (i.2, omega (arith, i.2, i.3))

-- what is said of a record x that was read as y
pub read_in : (t : List ℕ) (at : ℕ) (x y : Record) → Ok x ≡ record_at t at → x ≡ y → RecordAt t at (Ok y)
read_in t at x y e e' = subst (RecordAt t at) (sym e ∙ ap Ok e') (record_in t at)

pub symbol_in : (t : List ℕ) (at len : ℕ) (x : Record) → Ok x ≡ record_at t at → x ≡ Symbol len → (head_len ≤ len) × (len ≤ length t - at)
symbol_in t at len x e e' = let h = read_in t at x (Symbol len) e e' in (h.2, h.3)

pub binding_in : (t : List ℕ) (at len : ℕ) (x : Record) → Ok x ≡ record_at t at → x ≡ Binding len → (head_len ≤ len) × (len ≤ length t - at)
binding_in t at len x e e' = let h = read_in t at x (Binding len) e e' in (h.2, h.3)

pub integer_in : (t : List ℕ) (at : ℕ) (x : Record) → Ok x ≡ record_at t at → x ≡ Integer → integer_len ≤ length t - at
integer_in t at x e e' = (read_in t at x Integer e e').2

pub list_in : (t : List ℕ) (at n : ℕ) (x : Record) → Ok x ≡ record_at t at → x ≡ ListOf n → list_len ≤ length t - at
list_in t at n x e e' = (read_in t at x (ListOf n) e e').3

-- the room of a record x with a name
pub symbol_fits : (t : List ℕ) (at len : ℕ) (x : Record) → Ok x ≡ record_at t at → x ≡ Symbol len → (head_len ≤ len) × (at + len ≤ length t)
symbol_fits t at len x e e' = let h = symbol_in t at len x e e' in (h.0, omega (arith, h.0, h.1))

pub binding_fits : (t : List ℕ) (at len : ℕ) (x : Record) → Ok x ≡ record_at t at → x ≡ Binding len → (head_len ≤ len) × (at + len ≤ length t)
binding_fits t at len x e e' = let h = binding_in t at len x e e' in (h.0, omega (arith, h.0, h.1))

-- a fault is told within the table, at its length if it is 22, and with the number of one
abbrev pub Told : ℕ → ℕ → ℕ → Type 0
Told lim n a = (a ≤ lim) × (n ≡ missing_trees → a ≡ lim) × (a ≡ lim → n ≡ missing_trees) × (is_fault n ≡ true)

-- what is found lies past its place and within the table
abbrev pub Ends : {A : Type 0} → ℕ → ℕ → Result (Found A) → Type 0
Ends p lim (ok (found x q)) = (p ≤ q) × (q ≤ lim)
Ends p lim (refused n a) = Told lim n a

abbrev pub Ending : ℕ → (ℕ → Result (Found Tree)) → Type 0
Ending lim f = (p : ℕ) → p ≤ lim → Ends (p + 1) lim (f p)

pub items_end : (lim : ℕ) (f : ℕ → Result (Found Tree)) → Ending lim f → (n p : ℕ) → p ≤ lim → Ends p lim (items_at f n p)
unfolding items_at
items_end lim f hf zero p hp = (omega arith, hp)
items_end lim f hf (suc n) p hp = first (f p) (hf p hp) (items_end lim f hf n)
  where
    last : (x : Tree) (q : ℕ) → p ≤ q → (y : Result (Found Trees)) → Ends q lim y → Ends p lim (and_then y (λ xs r. ok (found (more x xs) r)))
    last x q h (ok (found xs r)) hy = (omega arith, hy.1)
    last x q h (refused k a) hy = hy

    first : (y : Result (Found Tree)) → Ends (p + 1) lim y → ((q : ℕ) → q ≤ lim → Ends q lim (items_at f n q))
        → Ends p lim (and_then y (λ x q. and_then (items_at f n q) (λ xs r. ok (found (more x xs) r))))
    first (ok (found x q)) hy ih = last x q (omega arith) (items_at f n q) (ih q hy.1)
    first (refused k a) hy ih = hy

end_map : {A B : Type 0} (g : A → B) (p p' lim : ℕ) → p ≤ p' → (y : Result (Found A)) → Ends p' lim y → Ends p lim (and_then y (λ x q. ok (found (g x) q)))
end_map g p p' lim h (ok (found x q)) hy = (omega arith, hy.1)
end_map g p p' lim h (refused n a) hy = hy

-- what a judged record says of the table's bytes, of the depth, and of what it names or holds
abbrev pub StepIn : List ℕ → ℕ → ℕ → CodeResult Record Fault → Type 0
StepIn t d at (Err f) = FaultIn (length t - at) (number_of f)
StepIn t d at (Ok (Symbol len)) =
    (head_len ≤ len) × (len ≤ length t - at) × (is_symbol (payload t at len) ≡ true) × (len ≡ len_at t at) × (kind_at t at ≡ symbol_kind)
StepIn t d at (Ok Integer) = (integer_len ≤ length t - at) × (len_at t at ≡ integer_len) × (kind_at t at ≡ integer_kind)
StepIn t d at (Ok (Binding len)) =
    (head_len ≤ len) × (len ≤ length t - at) × (0 < d) × (is_symbol (payload t at len) ≡ true) × (len ≡ len_at t at) × (kind_at t at ≡ binding_kind)
StepIn t d at (Ok (ListOf n)) =
    (list_len ≤ length t - at) × (0 < d) × (n ≡ number_at 4 t (at + head_len)) × (len_at t at ≡ list_len) × (kind_at t at ≡ list_kind)

of_in : (t : List ℕ) (d at : ℕ) (x : CodeResult Record Fault) → RecordAt t at x → StepIn t d at (step_of t at (ltb 0 d) x)
of_in t d at (Err f) h = h
of_in t d at (Ok (Symbol len)) h =
    let some : 0 < length t - at = omega (arith, h.2, h.3) in
    pick (StepIn t d at) (is_symbol (payload t at len)) (λ e. (h.2, h.3, e, h.0, h.1)) (λ _. fault_of_lem (length t - at) (number_of fault.BadSymbol) some (λ g. omega arith) refl)
of_in t d at (Ok Integer) h = (h.2, h.0, h.1)
of_in t d at (Ok (Binding len)) h =
    let some : 0 < length t - at = omega (arith, h.2, h.3) in
    pick (StepIn t d at) (ltb 0 d)
    (λ l. pick (StepIn t d at) (is_symbol (payload t at len)) (λ e. (h.2, h.3, ltb-true 0 d l, e, h.0, h.1))
    (λ _. fault_of_lem (length t - at) (number_of fault.BadSymbol) some (λ g. omega arith) refl))
    (λ _. fault_of_lem (length t - at) (number_of fault.TooDeep) some (λ g. omega arith) refl)
of_in t d at (Ok (ListOf n)) h =
    pick (StepIn t d at) (ltb 0 d) (λ l. (h.3, ltb-true 0 d l, h.0, h.1, h.2))
    (λ _. fault_of_lem (length t - at) (number_of fault.TooDeep) (omega (arith, h.3)) (λ g. omega arith) refl)

pub judged_in : (t : List ℕ) (d at : ℕ) → StepIn t d at (step_at t at (ltb 0 d))
unfolding step_at
judged_in t d at = of_in t d at (record_at t at) (record_in t at)

-- where nothing deeper is allowed, nothing deeper is asked
none_deeper : (t : List ℕ) (at : ℕ) (f g : ℕ → Result (Found Tree)) (s : CodeResult Record Fault) → StepIn t 0 at s → of_step t at f s ≡ of_step t at g s
none_deeper t at f g (Err n) h = refl
none_deeper t at f g (Ok (Symbol len)) h = refl
none_deeper t at f g (Ok Integer) h = refl
none_deeper t at f g (Ok (Binding len)) h = absurd (omega (arith, h.2))
none_deeper t at f g (Ok (ListOf n)) h = absurd (omega (arith, h.1))

-- THE STEP: a tree is what its judged record comes to
pub tree_step : (t : List ℕ) (d at : ℕ) → tree_at t d at ≡ of_step t at (tree_at t (d - 1)) (step_at t at (ltb 0 d))
unfolding tree_at
tree_step t zero at = none_deeper t at (refused too_deep) (tree_at t (0 - 1)) (step_at t at false) (judged_in t 0 at)
tree_step t (suc d) at =
    let k : suc d - 1 ≡ d = omega arith in
    rw k (ap (λ (o : Bool). of_step t at (tree_at t d) (step_at t at o)) (sym (lt-ltb 0 (suc d) (omega arith))))

pub tree_of_lem : (t : List ℕ) (d at : ℕ) (x : CodeResult Record Fault) → x ≡ record_at t at
    → tree_at t d at ≡ of_step t at (tree_at t (d - 1)) (step_of t at (ltb 0 d) x)
unfolding step_at
tree_of_lem t d at x e = tree_step t d at ∙ ap (λ (y : CodeResult Record Fault). of_step t at (tree_at t (d - 1)) (step_of t at (ltb 0 d) y)) (sym e)

-- what holds of every judged record that the trees below it meet, holds of every tree
pub by_steps : (t : List ℕ) (P : ℕ → ℕ → Result (Found Tree) → Type 0)
    → ((d at : ℕ) → (0 < d → (q : ℕ) → P (d - 1) q (tree_at t (d - 1) q)) → (s : CodeResult Record Fault) → StepIn t d at s → P d at (of_step t at (tree_at t (d - 1)) s))
    → (d at : ℕ) → P d at (tree_at t d at)
by_steps t P f zero at = subst⁻¹ (P 0 at) (tree_step t 0 at) (f 0 at (λ l. absurd (omega arith)) (step_at t at (ltb 0 0)) (judged_in t 0 at))
by_steps t P f (suc d) at =
    let k : suc d - 1 ≡ d = omega arith in
    subst⁻¹ (P (suc d) at) (tree_step t (suc d) at)
    (f (suc d) at (λ l. subst (λ (j : ℕ). (q : ℕ) → P j q (tree_at t j q)) (sym k) (by_steps t P f d)) (step_at t at (ltb 0 (suc d))) (judged_in t (suc d) at))

pub tree_end : (t : List ℕ) (d : ℕ) → Ending (length t) (tree_at t d)
tree_end t = by_steps t (λ d at y. at ≤ length t → Ends (at + 1) (length t) y) by
  where
    by : (d at : ℕ) → (0 < d → Ending (length t) (tree_at t (d - 1))) → (s : CodeResult Record Fault) → StepIn t d at s → at ≤ length t
        → Ends (at + 1) (length t) (of_step t at (tree_at t (d - 1)) s)
    by d at hf (Err f) hs h = (h, (λ e. omega (arith, hs.0 e)), (λ e. hs.1 (omega arith)), hs.2)
    by d at hf (Ok (Symbol len)) hs h = (omega (arith, hs.0), omega (arith, hs.1))
    by d at hf (Ok Integer) hs h = (omega arith, omega (arith, hs.0))
    by d at hf (Ok (Binding len)) hs h =
        end_map (binding (payload t at len)) (at + 1) (at + len + 1) (length t) (omega arith) (tree_at t (d - 1) (at + len))
        (hf hs.2 (at + len) (omega (arith, hs.1)))
    by d at hf (Ok (ListOf n)) hs h =
        end_map list (at + 1) (at + list_len) (length t) (omega arith) (items_at (tree_at t (d - 1)) n (at + list_len))
        (items_end (length t) (tree_at t (d - 1)) (hf hs.1) n (at + list_len) (omega (arith, hs.0)))
