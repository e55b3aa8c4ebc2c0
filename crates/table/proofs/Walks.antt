-- The walk that checks a tree and adds up what it costs: a record, the items of a list one by one, and trees up to the table's end. A walk that tells more
-- cites `Walk` in the loop over a list, and `Checks` in the loop over a table. Assumes nothing but, in `list_few`, that the table's elements are bytes.
use Rattle.std.specs.Prelude.{Option, Some, None, Result as CodeResult, Ok, Err}
use Rattle.std.specs.Int.{from_bool}
use mathlib.Core.Path.{◌≡◌, refl, ap, sym, subst⁻¹, ◌∙◌}
use mathlib.Core.Bool.{Bool, true, false}
use mathlib.Core.List.{List}
use Prim.Native.Nat.{ℕ, ◌+◌, ◌*◌, ◌-◌, ◌≤◌, ◌<◌}
use native.Mathlib.Omega.{arith}
use lib.ListN.{length}
use lib.IntN.{ℤ}
use lib.Dec.{eqb, ltb, eqb-suc-zero}
use borrow.Author.Tests.{le-leb, lt-ltb}
use Rattle.refusals.specs.Numbers.{table_limit, depth_limit, wrong_cost, number_of, fault_at}
use Rattle.refusals.specs.declared.Fault.{Fault}
use Rattle.refusals.specs.declared.Fault.TheVariants as fault
use Rattle.refusals.specs.declared.Refusal.{Refusal}
use Rattle.refusals.specs.Result.{Result, ok, refused}
use Rattle.wide.specs.Bytes.{Bytes, wide_in, integer_at}
use Rattle.wide.specs.Text.{integer_text}
use Rattle.records.specs.Records.{head_len, payload}
use Rattle.records.proofs.Heads.{part_lt, payload_size}
use Rattle.table.specs.Kinds.{integer_len, list_len}
use Rattle.table.specs.Trees.{Tree, Trees, symbol, binding, list, none, more, count, is_symbol, cost, costs, records, records_of}
use Rattle.table.specs.Records.{Record, Symbol, Integer, Binding, ListOf, record_at}
use Rattle.table.specs.Costs.{costed, costed_all}
use Rattle.table.specs.Decoding.{Found, found, and_then, items_at, step_at, of_step, tree_at, if_costed, table_of}
use Rattle.table.specs.Past.{past_symbol}
use Rattle.table.specs.Walking.{is_empty, empties, empties_of, wrong_in, first_of, own_wrong, Walks}
use Rattle.table.specs.declared.walk.Walked.{Walked}
use Rattle.table.proofs.Steps.{symbol_room, integer_room, binding_room, list_room}
use Rattle.table.proofs.Steps.{then_is, judged_is, step_tree, step_in, fault_tree, symbol_there, found_in, Gone, gone_begin, gone_item, gone_stop, gone_end}
use Rattle.table.proofs.Steps.{too_long_lem, Read, read_begin, read_tree_lem, read_stop, read_end}
use Rattle.table.proofs.Costs.{cost_le, empties_le, Within, all_in, first_none, first_first, wrong_first, wrong_list}
use Rattle.table.proofs.Spans.{tree_span}

-- ---- the number of a fault is not 0

pub some_number : (f : Fault) → 0 < number_of f
some_number fault.TooLong = omega arith
some_number fault.PastSource = omega arith
some_number fault.FormFeed = omega arith
some_number fault.OpenComment = omega arith
some_number fault.NoDigits = omega arith
some_number fault.ForeignDigit = omega arith
some_number fault.TooLarge = omega arith
some_number fault.MinusLowest = omega arith
some_number fault.NoListOpen = omega arith
some_number fault.ListOpen = omega arith
some_number fault.NoSymbol = omega arith
some_number fault.NoTree = omega arith
some_number fault.TooDeep = omega arith
some_number fault.TableRoom = omega arith
some_number fault.BadRecord = omega arith
some_number fault.BadSymbol = omega arith
some_number fault.PrintRoom = omega arith
some_number fault.FedAfterClose = omega arith
some_number fault.UnknownKind = omega arith
some_number fault.WrongLength = omega arith
some_number fault.MissingTrees = omega arith
some_number fault.BadSettings = omega arith
some_number fault.NotSet = omega arith
some_number fault.WrongCost = omega arith
some_number fault.BadStyleName = omega arith

-- ---- what stands at a place, where it was walked over as a tree: its end, its cost, and the place of its first wrong cost

pub record Got (t : List ℕ) (d p q k : ℕ) (w : Option ℕ) : Type 0 where
  pub tree : Tree
  pub is : tree_at t d p ≡ ok (found tree q)
  pub costs_it : k ≡ cost tree
  pub wrong_it : w ≡ wrong_in (costed t tree p)

pub payload_is : (t : List ℕ) (at len : ℕ) → head_len ≤ len → len ≤ length t - at → length (payload t at len) ≡ len - head_len
payload_is t at len h6 hl = omega (arith, payload_size t at len (omega arith) h6)

unfoldable pub got_name : (t : List ℕ) (d p q : ℕ) → q ≡ past_symbol t p → p < q → (head_len ≤ q - p) × Got t d p q (q - p - head_len) None
unfolding cost costed
got_name t d p q e l =
    let n = symbol_there t d p q e l in
    (n.0, record { tree = symbol (payload t p (q - p)); is = n.2; costs_it = sym (payload_is t p (q - p) n.0 n.1); wrong_it = refl })

-- its end and its cost are bounded
pub record Small (t : List ℕ) (p q k : ℕ) : Type 0 where
  pub past : p < q
  pub within : q ≤ length t
  pub bound : 22 * (k + 1) ≤ 41 * (q - p)

pub small : (t : List ℕ) (d p q k : ℕ) (w : Option ℕ) → p ≤ length t → Got t d p q k w → Small t p q k
small t d p q k w hp g =
    let e = found_in t d p q g.tree hp g.is in
    record { past = e.0; within = e.1; bound = omega (arith, cost_le g.tree, g.costs_it, tree_span t d p q g.tree hp g.is) }

-- what the walk answered
pub walked_tree : (t : List ℕ) (d p : ℕ) (m : Walked) → Walks t p (tree_at t d p) (Ok m) → (g : Got t d p m.place m.cost m.wrong) × (m.empty ≡ empties g.tree)
walked_tree t d p m s = by (tree_at t d p) refl s
  where
    by : (y : Result (Found Tree)) → tree_at t d p ≡ y → Walks t p y (Ok m) → (g : Got t d p m.place m.cost m.wrong) × (m.empty ≡ empties g.tree)
    by (ok (found x q)) e s =
        (record { tree = x; is = e ∙ ap (λ (v : ℕ). ok (found x v)) (sym s.0); costs_it = s.1; wrong_it = s.3 }, s.2)
    by (refused n a) e s = absurd s

pub walked_stop : (t : List ℕ) (p : ℕ) (y : Result (Found Tree)) (r : Refusal) → Walks t p y (Err r) → y ≡ refused r.number r.place
walked_stop t p (ok (found x q)) r s = absurd s
walked_stop t p (refused n a) r s = rw (s.0, s.1) refl

-- no refusal has the number 0
pub stop_number : (t : List ℕ) (p : ℕ) (y : Result (Found Tree)) (r : Refusal) → Walks t p y (Err r) → 0 < r.number
stop_number t p (ok (found x q)) r s = absurd s
stop_number t p (refused n a) r s = rw s.0 s.2

told_walk : (m : Walked) (p k e : ℕ) (w : Option ℕ) → m.place ≡ p → m.cost ≡ k → m.empty ≡ e → m.wrong ≡ w → m ≡ record { place = p; cost = k; empty = e; wrong = w }
told_walk m p k e w ep ek ee ew = rw (← ep, ← ek, ← ee, ← ew) refl

told_refusal : (r : Refusal) (n a : ℕ) → r.number ≡ n → r.place ≡ a → r ≡ record { number = n; place = a }
told_refusal r n a en ea = rw (← en, ← ea) refl

-- two walks that tell what is promised tell the same
pub one_walk : (t : List ℕ) (p : ℕ) (y : Result (Found Tree)) (m r : CodeResult Walked Refusal) → Walks t p y m → Walks t p y r → m ≡ r
one_walk t p (ok (found x q)) (Ok m) (Ok r) s u = ap Ok (told_walk m _ _ _ _ s.0 s.1 s.2 s.3 ∙ sym (told_walk r _ _ _ _ u.0 u.1 u.2 u.3))
one_walk t p (ok (found x q)) (Ok m) (Err r) s u = absurd u
one_walk t p (ok (found x q)) (Err m) r s u = absurd s
one_walk t p (refused n a) (Err m) (Err r) s u = ap Err (told_refusal m _ _ s.0 s.1 ∙ sym (told_refusal r _ _ u.0 u.1))
one_walk t p (refused n a) (Err m) (Ok r) s u = absurd u
one_walk t p (refused n a) (Ok m) r s u = absurd s

-- ---- a record x that was read, judged

module _ (t : List ℕ) (d at : ℕ) (x : Record) (e : Ok x ≡ record_at t at) where
  pub symbol_good : (len : ℕ) (b : Bool) → x ≡ Symbol len → b ≡ is_symbol (payload t at len) → b ≡ true → Ok (Symbol len) ≡ step_at t at (ltb 0 d)
  symbol_good len b e' f g = judged_is t at (ltb 0 d) x (Symbol len) (Ok (Symbol len)) e e' (then_is b _ _ _ f g)

  pub symbol_bad : (len : ℕ) (b : Bool) → x ≡ Symbol len → b ≡ is_symbol (payload t at len) → b ≡ false → Err fault.BadSymbol ≡ step_at t at (ltb 0 d)
  symbol_bad len b e' f g = judged_is t at (ltb 0 d) x (Symbol len) (Err fault.BadSymbol) e e' (rw (← f, g) refl)

  -- where more may be open
  pub list_good : (n : ℕ) → x ≡ ListOf n → 0 < d → Ok (ListOf n) ≡ step_at t at (ltb 0 d)
  list_good n e' l = judged_is t at (ltb 0 d) x (ListOf n) (Ok (ListOf n)) e e' (rw (lt-ltb 0 d l) refl)

-- ---- a judged record: one with a fault, and a good one x

pub at_fault : (t : List ℕ) (d at : ℕ) (f : Fault) (r : Refusal) → Err f ≡ step_at t at (ltb 0 d) → r ≡ fault_at f at → Walks t at (tree_at t d at) (Err r)
at_fault t d at f r e k = rw (fault_tree t d at f e, k) (refl, refl, some_number f)

-- the integer that was read where the record has its 16 bytes
pub integer_value : (t : List ℕ) (at : ℕ) (z : ℤ) → integer_len ≤ length t - at → z ≡ wide_in t (at + head_len) → z ≡ integer_at t (at + head_len)
integer_value t at z h e = e ∙ rw (le-leb (at + head_len + 16) (length t) (omega arith)) refl

module _ (t : List ℕ) (d at : ℕ) (x : Record) (e : Ok x ≡ step_at t at (ltb 0 d)) where
  to : (y : Record) (r : CodeResult Walked Refusal) → x ≡ y → Walks t at (of_step t at (tree_at t (d - 1)) (Ok y)) r → Walks t at (tree_at t d at) r
  to y r e' k = subst⁻¹ (λ (v : Result (Found Tree)). Walks t at v r) (step_tree t d at x y e e') k

  pub at_list : (n : ℕ) (r : CodeResult Walked Refusal) → x ≡ ListOf n
      → Walks t at (and_then (items_at (tree_at t (d - 1)) n (at + list_len)) (λ xs q. ok (found (list xs) q))) r → Walks t at (tree_at t d at) r
  at_list n r e' k = to (ListOf n) r e' k

  pub at_symbol : (len : ℕ) (r : Walked) → x ≡ Symbol len → r ≡ record { place = at + len; cost = len - head_len; empty = 0; wrong = None }
      → Walks t at (tree_at t d at) (Ok r)
  unfolding cost empties costed
  at_symbol len r e' k =
      let a = step_in t d at x (Symbol len) e e' in
      to (Symbol len) (Ok r) e' (rw (k, payload_is t at len a.0 a.1) (refl, refl, refl, refl))

  pub at_integer : (n : ℕ) (z : ℤ) (r : Walked) → x ≡ Integer → n ≡ length (integer_text z) → z ≡ wide_in t (at + head_len)
      → r ≡ record { place = at + integer_len; cost = n; empty = 0; wrong = None } → Walks t at (tree_at t d at) (Ok r)
  unfolding cost empties costed
  at_integer n z r e' en ez k =
      to Integer (Ok r) e' (rw (k, en, integer_value t at z (step_in t d at x Integer e e').0 ez) (refl, refl, refl, refl))

  pub at_binding : (len : ℕ) (r : CodeResult Walked Refusal) → x ≡ Binding len
      → Walks t at (and_then (tree_at t (d - 1) (at + len)) (λ x q. ok (found (binding (payload t at len) x) q))) r → Walks t at (tree_at t d at) r
  at_binding len r e' k = to (Binding len) r e' k

-- ---- the tree below the binding at `at` was walked

module _ (t : List ℕ) (d at len : ℕ) where
  pub binding_stop : (r : Refusal) → Walks t (at + len) (tree_at t d (at + len)) (Err r)
      → Walks t at (and_then (tree_at t d (at + len)) (λ x q. ok (found (binding (payload t at len) x) q))) (Err r)
  binding_stop r u = let y = tree_at t d (at + len) in rw (walked_stop t (at + len) y r u) (refl, refl, stop_number t (at + len) y r u)

  pub binding_good : (m r : Walked) → head_len ≤ len → len ≤ length t - at → Walks t (at + len) (tree_at t d (at + len)) (Ok m)
      → (r.place ≡ m.place) × (r.cost ≡ len - head_len + 3 + m.cost) × (r.empty ≡ m.empty) × (r.wrong ≡ m.wrong)
      → Walks t at (and_then (tree_at t d (at + len)) (λ x q. ok (found (binding (payload t at len) x) q))) (Ok r)
  unfolding cost empties costed
  binding_good m r h6 hl u k =
      let y = walked_tree t d (at + len) m u in
      let z : length (payload t at len) ≡ len - head_len = payload_is t at len h6 hl in
      let v : at + len ≡ at + (length (payload t at len) + head_len) = omega (arith, z, h6) in
      rw y.0.is (
        k.0,
        k.1 ∙ omega (arith, y.0.costs_it, z),
        k.2 ∙ y.1,
        k.3 ∙ y.0.wrong_it ∙ ap (λ (j : ℕ). wrong_in (costed t y.0.tree j)) v,
      )

-- the count of a list fits 4 bytes
pub list_few : (t : List ℕ) (d at n : ℕ) (x : Record) → Bytes t → Ok x ≡ step_at t at (ltb 0 d) → x ≡ ListOf n → n < 4294967296
list_few t d at n x hb e e' =
    let h = step_in t d at x (ListOf n) e e' in omega (arith, part_lt t (at + head_len) 4 hb (omega arith), h.2)

-- ---- the items of the list at `at`: i of them are done, and p is past them

pub record Walk (t : List ℕ) (at n d p i k : ℕ) (w : Option ℕ) : Type 0 where
  pub gone : Gone (tree_at t d) n (at + list_len) i p
  pub costing : (ys : Trees) → n + 1 + costs (gone.pre ys) ≡ k + costs ys
  pub wronged : (ys : Trees) → wrong_in (costed_all t (gone.pre ys) (at + list_len)) ≡ first_of w (wrong_in (costed_all t ys p))
  pub from : at + list_len ≤ p
  pub within : p ≤ length t
  pub bound : 22 * k ≤ 22 * (n + 1) + 41 * (p - at)

abbrev pub walk_begin : (t : List ℕ) (at n d : ℕ) → at + list_len ≤ length t → Walk t at n d (at + list_len) 0 (n + 1) None
walk_begin t at n d h = record {
  gone = gone_begin (tree_at t d) n (at + list_len);
  costing = λ ys. refl;
  wronged = λ ys. refl;
  from = omega arith;
  within = h;
  bound = omega arith;
}

-- a tree done before others that are left
pub more_wrong : (t : List ℕ) (d p q k : ℕ) (a w : Option ℕ) (ys : Trees) → p ≤ length t → (y : Got t d p q k a)
    → first_of w (wrong_in (costed_all t (more y.tree ys) p)) ≡ first_of (first_of w a) (wrong_in (costed_all t ys q))
unfolding costed
more_wrong t d p q k a w ys hp y =
    let s = tree_span t d p q y.tree hp y.is in
    let z = costed_all t ys (p + length (records y.tree)) in
    ap (first_of w) (wrong_first (costed t y.tree p) z ∙ ap (λ (v : Option ℕ). first_of v (wrong_in z)) (sym y.wrong_it))
    ∙ sym (first_first w a (wrong_in z))
    ∙ ap (λ (j : ℕ). first_of (first_of w a) (wrong_in (costed_all t ys j))) (sym s.0)

module _ (t : List ℕ) (at n d p i k : ℕ) (w : Option ℕ) (g : Walk t at n d p i k w) where
  -- one item more, and what is left after it
  pub record Onward (q k' : ℕ) (w' : Option ℕ) (x : Tree) : Type 0 where
    pub rest : Walk t at n d q (i + 1) k' w'
    pub pre_is : (ys : Trees) → rest.gone.pre ys ≡ g.gone.pre (more x ys)

  pub walk_item : (q j : ℕ) (a : Option ℕ) (k' : ℕ) (w' : Option ℕ) → i < n → (y : Got t d p q j a) → k' ≡ k + j → w' ≡ first_of w a → Onward q k' w' y.tree
  unfolding cost
  walk_item q j a k' w' lt y ek ew =
      let s = small t d p q j a g.within y in
      record {
        rest = record {
          gone = gone_item (tree_at t d) n (at + list_len) i p g.gone q y.tree lt y.is;
          costing = λ ys. g.costing (more y.tree ys) ∙ omega (arith, y.costs_it);
          wronged = λ ys. g.wronged (more y.tree ys) ∙ more_wrong t d p q j a w ys g.within y
              ∙ ap (λ (v : Option ℕ). first_of v (wrong_in (costed_all t ys q))) (sym ew);
          from = omega (arith, g.from, s.past);
          within = s.within;
          bound = omega (arith, g.bound, g.from, s.bound, s.past);
        };
        pre_is = λ ys. refl;
      }

  module _ (le : n ≤ i) where
    abbrev pub walked : Trees
    walked = g.gone.pre none

    pub is_all : items_at (tree_at t d) n (at + list_len) ≡ ok (found walked p)
    is_all = gone_end (tree_at t d) n (at + list_len) i p g.gone le

    pub all_count : count walked ≡ n
    all_count = g.gone.counted none ∙ omega (arith, g.gone.few)

    pub all_cost : k ≡ cost (list walked)
    unfolding cost
    all_cost = omega (arith, all_count, g.costing none)

    pub all_wrong : (o v : Option ℕ) → o ≡ own_wrong t at k → v ≡ first_of o w → v ≡ wrong_in (costed t (list walked) at)
    unfolding costed
    all_wrong o v eo e =
        let f : wrong_in (costed_all t walked (at + list_len)) ≡ w = g.wronged none ∙ first_none w in
        let h : o ≡ own_wrong t at (cost (list walked)) = eo ∙ ap (own_wrong t at) all_cost in
        e ∙ ap (λ (j : Option ℕ). first_of j w) h
        ∙ sym (wrong_list t walked at ∙ ap (first_of (own_wrong t at (cost (list walked)))) f)

-- ---- the same with the empty lists, the list itself among them

empty_is : (xs : Trees) → is_empty xs ≡ from_bool (eqb (count xs) 0)
empty_is none = refl
empty_is (more x xs) = rw (eqb-suc-zero (count xs)) refl

empty_few : (b : Bool) → from_bool b ≤ 1
empty_few true = omega arith
empty_few false = omega arith

pub record Counted (t : List ℕ) (at n d p i k e : ℕ) (w : Option ℕ) : Type 0 where
  pub walk : Walk t at n d p i k w
  pub emptied : (ys : Trees) → from_bool (eqb n 0) + empties_of (walk.gone.pre ys) ≡ e + empties_of ys
  pub few : e ≤ k

pub counted_begin : (t : List ℕ) (at n d e : ℕ) → at + list_len ≤ length t → e ≡ from_bool (eqb n 0) → Counted t at n d (at + list_len) 0 (n + 1) e None
counted_begin t at n d e h f = record { walk = walk_begin t at n d h; emptied = λ ys. omega (arith, f); few = omega (arith, f, empty_few (eqb n 0)) }

module _ (t : List ℕ) (at n d p i k e : ℕ) (w : Option ℕ) (g : Counted t at n d p i k e w) where
  pub counted_tree : (m : Walked) (p' k' e' : ℕ) (w' : Option ℕ) → i < n → Walks t p (tree_at t d p) (Ok m) → p' ≡ m.place → k' ≡ k + m.cost → e' ≡ e + m.empty
      → w' ≡ first_of w m.wrong → Counted t at n d p' (i + 1) k' e' w'
  unfolding empties
  counted_tree m p' k' e' w' lt s ep ek ee ew =
      let y = walked_tree t d p m s in
      let x : Tree = y.0.tree in
      let v = walk_item t at n d p i k w g.walk m.place m.cost m.wrong k' w' lt y.0 ek ew in
      rw ep (record {
        walk = v.rest;
        emptied = λ ys. ap (λ (zs : Trees). from_bool (eqb n 0) + empties_of zs) (v.pre_is ys) ∙ g.emptied (more x ys) ∙ omega (arith, y.1);
        few = omega (arith, g.few, y.1, y.0.costs_it, empties_le x);
      })

  pub counted_name : (len p' k' e' : ℕ) (w' : Option ℕ) → i < n → Ok (Symbol len) ≡ step_at t p (ltb 0 d) → p' ≡ p + len → k' ≡ k + (len - head_len) → e' ≡ e → w' ≡ w
      → Counted t at n d p' (i + 1) k' e' w'
  counted_name len p' k' e' w' lt f ep ek ee ew =
      let m : Walked = record { place = p + len; cost = len - head_len; empty = 0; wrong = None } in
      counted_tree m p' k' e' w' lt (at_symbol t d p (Symbol len) f len m refl refl) ep ek (omega (arith, ee)) (ew ∙ sym (first_none w))

  -- the item at p is refused
  pub counted_stop : (r : Refusal) → i < n → Walks t p (tree_at t d p) (Err r)
      → Walks t at (and_then (items_at (tree_at t d) n (at + list_len)) (λ xs q. ok (found (list xs) q))) (Err r)
  counted_stop r lt h =
      let y = tree_at t d p in
      rw (gone_stop (tree_at t d) n (at + list_len) i p g.walk.gone r.number r.place lt (walked_stop t p y r h)) (refl, refl, stop_number t p y r h)

  pub counted_end : (o : Option ℕ) (r : Walked) → n ≤ i → o ≡ own_wrong t at k → (r.place ≡ p) × (r.cost ≡ k) × (r.empty ≡ e) × (r.wrong ≡ first_of o w)
      → Walks t at (and_then (items_at (tree_at t d) n (at + list_len)) (λ xs q. ok (found (list xs) q))) (Ok r)
  unfolding empties
  counted_end o r le eo h =
      rw (is_all t at n d p i k w g.walk le) (
        h.0,
        h.1 ∙ all_cost t at n d p i k w g.walk le,
        h.2 ∙ omega (arith, g.emptied none, own_empty),
        all_wrong t at n d p i k w g.walk le o r.wrong eo h.3,
      )
    where
      own_empty : is_empty (g.walk.gone.pre none) ≡ from_bool (eqb n 0)
      own_empty = empty_is (g.walk.gone.pre none) ∙ ap (λ (j : ℕ). from_bool (eqb j 0)) (all_count t at n d p i k w g.walk le)

-- a list of no items, by itself and as the item at p
pub none_walked : (t : List ℕ) (at n d : ℕ) (r : Walked) → at + list_len ≤ length t → n ≡ 0
    → (r.place ≡ at + list_len) × (r.cost ≡ 1) × (r.empty ≡ 1) × (r.wrong ≡ own_wrong t at 1)
    → Walks t at (and_then (items_at (tree_at t d) n (at + list_len)) (λ xs q. ok (found (list xs) q))) (Ok r)
none_walked t at n d r h e k =
    let o = own_wrong t at 1 in
    rw e (counted_end t at 0 d (at + list_len) 0 1 1 None (counted_begin t at 0 d 1 h refl) o r (omega arith) refl (k.0, k.1, k.2, k.3 ∙ sym (first_none o)))

module _ (t : List ℕ) (at n d p i k e : ℕ) (w : Option ℕ) (g : Counted t at n d p i k e w) where
  pub counted_empty : (m p' k' e' : ℕ) (w' o : Option ℕ) → i < n → p + list_len ≤ length t → Ok (ListOf m) ≡ step_at t p (ltb 0 d) → m ≡ 0 → o ≡ own_wrong t p 1
      → p' ≡ p + list_len → k' ≡ k + 1 → e' ≡ e + 1 → w' ≡ first_of w o → Counted t at n d p' (i + 1) k' e' w'
  counted_empty m p' k' e' w' o lt h f z eo ep ek ee ew =
      let r : Walked = record { place = p + list_len; cost = 1; empty = 1; wrong = o } in
      counted_tree t at n d p i k e w g r p' k' e' w' lt (at_list t d p (ListOf m) f m (Ok r) refl (none_walked t p m (d - 1) r h z (refl, refl, refl, eo))) ep ek ee ew

-- ---- trees up to the table's end: those before p are done, and w is the place of their first wrong cost

pub record Checks (t : List ℕ) (p : ℕ) (w : Option ℕ) : Type 0 where
  pub read : Read t p
  pub wronged : (ys : Trees) → wrong_in (costed_all t (read.pre ys) 0) ≡ first_of w (wrong_in (costed_all t ys p))

abbrev pub checks_begin : (t : List ℕ) → length t ≤ table_limit → Checks t 0 None
checks_begin t h = record { read = read_begin t h; wronged = λ ys. refl }

module _ (t : List ℕ) (p : ℕ) (w : Option ℕ) (g : Checks t p w) where
  -- one tree more, and what is left after it
  pub record Next (q : ℕ) (w' : Option ℕ) (x : Tree) : Type 0 where
    pub past : p < q
    pub rest : Checks t q w'
    pub pre_is : (ys : Trees) → rest.read.pre ys ≡ g.read.pre (more x ys)

  pub checks_tree : (q k : ℕ) (a w' : Option ℕ) → p < length t → (y : Got t depth_limit p q k a) → w' ≡ first_of w a → Next q w' y.tree
  checks_tree q k a w' lt y ew =
      let o = read_tree_lem t p g.read q y.tree lt y.is in
      record {
        past = o.past;
        rest = record {
          read = o.rest;
          wronged = λ ys. ap (λ (xs : Trees). wrong_in (costed_all t xs 0)) (o.pre_is ys) ∙ g.wronged (more y.tree ys)
              ∙ more_wrong t depth_limit p q k a w ys g.read.within y ∙ ap (λ (v : Option ℕ). first_of v (wrong_in (costed_all t ys q))) (sym ew);
        };
        pre_is = o.pre_is;
      }

  -- the costs of all trees, at the end
  pub checks_end : length t ≤ p → (y : Result (Unit {0})) → costed_all t (g.read.pre none) 0 ≡ y → table_of t ≡ if_costed y (found (g.read.pre none) p)
  unfolding table_of
  checks_end le y e = rw (read_end t p g.read le, e) refl

  all_wrongs : wrong_in (costed_all t (g.read.pre none) 0) ≡ w
  unfolding costed
  all_wrongs = g.wronged none ∙ first_none w

  pub checks_good : length t ≤ p → w ≡ None → table_of t ≡ ok (found (g.read.pre none) p)
  checks_good le l = by (costed_all t (g.read.pre none) 0) refl
    where
      by : (y : Result (Unit {0})) → costed_all t (g.read.pre none) 0 ≡ y → table_of t ≡ ok (found (g.read.pre none) p)
      by (ok u) e = checks_end le (ok u) e
      by (refused n a) e =
          let k : Some a ≡ None = ap wrong_in (sym e) ∙ all_wrongs ∙ l in
          let z : ◌≡◌ {A = ℕ} 0 1 = cc in
          absurd (omega arith)

  pub checks_wrong : (a : ℕ) → length t ≤ p → w ≡ Some a → table_of t ≡ refused wrong_cost a
  checks_wrong a le l = by (costed_all t (g.read.pre none) 0) refl (all_in t (g.read.pre none) 0)
    where
      by : (y : Result (Unit {0})) → costed_all t (g.read.pre none) 0 ≡ y → Within 0 (0 + length (records_of (g.read.pre none))) y → table_of t ≡ refused wrong_cost a
      by (ok u) e i =
          let k : None ≡ Some a = ap wrong_in (sym e) ∙ all_wrongs ∙ l in
          let z : ◌≡◌ {A = ℕ} 0 1 = cc in
          absurd (omega arith)
      by (refused n b) e i =
          let k : Some b ≡ Some a = ap wrong_in (sym e) ∙ all_wrongs ∙ l in
          let z : b ≡ a = cc in
          checks_end le (refused n b) e ∙ rw (i.0, z) refl

-- ---- what the goals at a tree's record need

pub ruleset at_record = (symbol_room, integer_room, binding_room, list_room, at_fault, at_symbol, at_integer, at_binding, at_list, list_few)

-- and at a table

pub ruleset at_table = (too_long_lem, read_stop, walked_stop, checks_begin)
