-- How the first record of a tree is read where it stands. Assumes nothing.
use Rattle.std.specs.Prelude.{Ok}
use mathlib.Core.Path.{◌≡◌, refl, ap, sym, subst, ◌∙◌}
use mathlib.Core.List.{List, ◌++◌}
use Prim.Native.Nat.{ℕ, ◌+◌, ◌-◌, ◌^◌, ◌≤◌, ◌<◌}
use native.Mathlib.Omega.{arith}
use lib.ListN.{length, length-append}
use lib.Dec.{lit<}
use lib.IntN.{ℤ}
use mir.Syntax.{w128}
use mir.Val.{to_z}
use borrow.Author.Tests.{le-leb}
use Rattle.lists.proofs.Stands.{Stands, stands_left, stands_right, stands_take}
use Rattle.wide.specs.Bytes.{le, number, number_at, wide_bytes, integer_at}
use Rattle.wide.proofs.Numbers.{le_length, number_le, wide_length, wide_back}
use Rattle.records.specs.Records.{head, head_len, record_of}
use Rattle.records.proofs.Heads.{Stood, stood, stood_head, length_record}
use Rattle.table.specs.Kinds.{symbol_kind, integer_kind, binding_kind, list_kind}
use Rattle.table.specs.Trees.{Tree, Trees, symbol, integer, binding, list, none, more, count, InRange, Good, Goods, cost, records, records_of}
use Rattle.table.specs.Records.{Record, Symbol, Integer, Binding, ListOf, kind_of, record_at}
use Rattle.table.specs.Costs.{stored_cost}
use Rattle.table.proofs.Integers.{fits_range}
use Rattle.table.proofs.Reading.{record_is}

record_by : (t : List ℕ) (p kind : ℕ) (bs : List ℕ) → Stood t p kind bs → record_at t p ≡ kind_of kind (length bs + head_len) (number_at 4 t (p + head_len))
record_by t p kind bs h = sym (record_is t p (head kind (length bs + head_len)) _ (sym (stood_head t p kind bs h)) refl)

pub symbol_read : (t : List ℕ) (p : ℕ) (n : List ℕ) → Stood t p symbol_kind n → Ok (Symbol (length n + head_len)) ≡ record_at t p
symbol_read t p n h = sym (record_by t p symbol_kind n h)

pub binding_read : (t : List ℕ) (p : ℕ) (n : List ℕ) → Stood t p binding_kind n → Ok (Binding (length n + head_len)) ≡ record_at t p
binding_read t p n h = sym (record_by t p binding_kind n h)

pub integer_read : (t : List ℕ) (p : ℕ) (bs : List ℕ) → length bs ≡ 16 → Stood t p integer_kind bs → Ok Integer ≡ record_at t p
integer_read t p bs e h = sym (record_by t p integer_kind bs h ∙ rw e refl)

pub list_read : (t : List ℕ) (p n k : ℕ) → n < 2 ^ 32 → Stood t p list_kind (le 4 n ++ le 4 k) → Ok (ListOf n) ≡ record_at t p
list_read t p n k lt h =
    let z : length (le 4 n ++ le 4 k) ≡ 8 = simp (length-append, le_length) refl in
    let v : number_at 4 t (p + head_len) ≡ n =
    ap number (stands_take t (p + head_len) (le 4 n) (stands_left t (p + head_len) (le 4 n) (le 4 k) h.body) 4 (le_length 4 n)) ∙ number_le 4 n lt in
    sym (record_by t p list_kind (le 4 n ++ le 4 k) h ∙ rw (v, z) refl)

-- and the cost that it stores
pub stored_read : (t : List ℕ) (p n k : ℕ) → k < 2 ^ 32 → Stood t p list_kind (le 4 n ++ le 4 k) → stored_cost t p ≡ k
unfolding stored_cost
stored_read t p n k lt h =
    let z : length (le 4 n ++ le 4 k) ≡ 8 = simp (length-append, le_length) refl in
    let s : Stands t (p + head_len + 4) (le 4 k) =
    subst (λ (j : ℕ). Stands t (p + head_len + j) (le 4 k)) (le_length 4 n) (stands_right t (p + head_len) (le 4 n) (le 4 k) h.body) in
    let e : p + head_len + 4 ≡ p + (head_len + 4) = omega arith in
    let v : number_at 4 t (p + (head_len + 4)) ≡ k =
    ap number (stands_take t (p + (head_len + 4)) (le 4 k) (subst (λ (j : ℕ). Stands t j (le 4 k)) e s) 4 (le_length 4 k)) ∙ number_le 4 k lt in
    rw (le-leb (p + (head_len + 4) + 4) (length t) (omega (arith, h.room))) v

-- the two kinds whose payload has a fixed length
pub integer_stood : (t : List ℕ) (p : ℕ) (z : ℤ) → p ≤ length t → Stands t p (record_of integer_kind (wide_bytes z)) → Stood t p integer_kind (wide_bytes z)
integer_stood t p z hp s = stood t p integer_kind (wide_bytes z) hp (lit< tt) (rw (wide_length z) (lit< tt)) s

pub list_stood : (t : List ℕ) (p n k : ℕ) → p ≤ length t → Stands t p (record_of list_kind (le 4 n ++ le 4 k)) → Stood t p list_kind (le 4 n ++ le 4 k)
list_stood t p n k hp s = stood t p list_kind (le 4 n ++ le 4 k) hp (lit< tt) (simp (length-append, le_length) (lit< tt)) s

-- ---- how the first record of a tree is read, whatever the depth: lengths and counts fit their bytes, and integers are in range

unfoldable mutual
  pub Sized : Tree → Type 0
  Sized (symbol n) = length n + head_len < 2 ^ 32
  Sized (integer z) = InRange z
  Sized (binding n x) = (length n + head_len < 2 ^ 32) × Sized x
  Sized (list xs) = (count xs < 2 ^ 32) × Sizeds xs

  pub Sizeds : Trees → Type 0
  Sizeds none = Unit {0}
  Sizeds (more x xs) = Sized x × Sizeds xs

mutual
  unfolding Sized Good

  pub good_sized : (x : Tree) (d : ℕ) → Good x d → Sized x
  good_sized (symbol n) d g = g.1
  good_sized (integer z) d g = g
  good_sized (binding n x) d g = (g.2, good_sized x (d - 1) g.3)
  good_sized (list xs) d g = (g.1, goods_sized xs (d - 1) g.2)

  pub goods_sized : (xs : Trees) (d : ℕ) → Goods xs d → Sizeds xs
  goods_sized none d g = tt
  goods_sized (more x xs) d g = (good_sized x d g.0, goods_sized xs d g.1)

abbrev pub shape : Tree → Record
shape (symbol n) = Symbol (length n + head_len)
shape (integer z) = Integer
shape (binding n x) = Binding (length n + head_len)
shape (list xs) = ListOf (count xs)

pub reads : (x : Tree) (t : List ℕ) (p : ℕ) → Sized x → p ≤ length t → Stands t p (records x) → Ok (shape x) ≡ record_at t p
unfolding records Sized
reads (symbol n) t p g hp s = symbol_read t p n (stood t p symbol_kind n hp (lit< tt) g s)
reads (integer z) t p g hp s = integer_read t p (wide_bytes z) (wide_length z) (integer_stood t p z hp s)
reads (binding n x) t p g hp s = binding_read t p n (stood t p binding_kind n hp (lit< tt) g.0 (stands_left t p (record_of binding_kind n) (records x) s))
reads (list xs) t p g hp s =
    list_read t p (count xs) (cost (list xs)) g.0
    (list_stood t p (count xs) (cost (list xs)) hp (stands_left t p (record_of list_kind (le 4 (count xs) ++ le 4 (cost (list xs)))) (records_of xs) s))

-- and the 16 bytes of an integer's record
pub bits_read : (z : ℤ) (t : List ℕ) (p : ℕ) → Stood t p integer_kind (wide_bytes z) → number_at 16 t (p + head_len) ≡ number (wide_bytes z)
bits_read z t p h = ap number (stands_take t (p + head_len) (wide_bytes z) h.body 16 (wide_length z))

pub value_read : (z : ℤ) (t : List ℕ) (p : ℕ) → InRange z → p ≤ length t → Stands t p (records (integer z)) → integer_at t (p + head_len) ≡ z
unfolding records
value_read z t p g hp s = ap (to_z w128) (bits_read z t p (integer_stood t p z hp s)) ∙ wide_back z (fits_range z g)

pub some : (x : Tree) → head_len ≤ length (records x)
unfolding records
some (symbol n) = rw (length_record symbol_kind n) (omega arith)
some (integer z) = rw (length_record integer_kind) (omega arith)
some (binding n x) = simp (length-append, length_record) (omega arith)
some (list xs) = simp (length-append, length_record) (omega arith)
