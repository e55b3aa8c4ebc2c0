-- The fits test looks at most at the lists of a table, since each is tested at most once: THEOREM looked_bound. Assumes nothing but, in `looked_small`, that the table's elements are bytes.
use mathlib.Core.Path.{◌≡◌, ap}
use mathlib.Core.Bool.{Bool, true, false, cond}
use mathlib.Core.List.{List}
use Prim.Native.Nat.{ℕ, ◌+◌, ◌*◌, ◌-◌, ◌^◌, ◌≤◌, ◌<◌}
use native.Mathlib.Omega.{arith}
use lib.ListN.{length, length-append}
use lib.Dec.{leb}
use Rattle.refusals.specs.Result.{ok}
use Rattle.wide.specs.Bytes.{Bytes}
use Rattle.table.specs.Kinds.{binding_kind, list_len}
use Rattle.table.specs.Trees.{Tree, Trees, symbol, integer, binding, list, none, more, records, records_of}
use Rattle.table.specs.Decoding.{found, tree_at, table_of}
use Rattle.table.proofs.Costs.{named_record, list_records}
use Rattle.table.proofs.Spans.{tree_span}
use Rattle.table.proofs.Whole.{sound}
use Rattle.printer.specs.Layout.{Wrapping, Wrap, SingleLine, column, named, gap, inner, wrapped, lay}
use Rattle.printer.specs.Looking.{looks, tests, looked, looked_of, page_looked, lists, lists_of, LookedBound}
use Rattle.printer.specs.PrivateTrees.{Right, tree_of, next_of}
use Rattle.printer.specs.PrivateWriting.{seen}
use Rattle.printer.proofs.CheckedRecords.{right_is}

tests_le : (m : Wrapping) (w c : ℕ) → tests m w c ≤ 1
unfolding looks
tests_le SingleLine w c = omega arith
tests_le Wrap w c = by (leb c w)
  where
    by : (z : Bool) → cond z 1 0 ≤ 1
    by true = omega arith
    by false = omega arith

mutual
  unfolding looked lists

  looked_le : (x : Tree) (m : Wrapping) (w i c : ℕ) → looked x m w i c ≤ lists x
  looked_le (symbol n) m w i c = omega arith
  looked_le (integer z) m w i c = omega arith
  looked_le (binding n x) m w i c = looked_le x m w i (c + length (named n))
  looked_le (list xs) m w i c = omega (arith, tests_le m w c, looked_of_le xs true (wrapped m w c (list xs)) w i (c + 1))

  looked_of_le : (xs : Trees) (first : Bool) (m : Wrapping) (w i c : ℕ) → looked_of xs first m w i c ≤ lists_of xs
  looked_of_le none first m w i c = omega arith
  looked_of_le (more x xs) first m w i c =
      let c1 : ℕ = column (gap first m i c) in
      omega (arith, looked_le x m w (inner first m i) c1, looked_of_le xs false m w i (column (lay x m w (inner first m i) c1)))

pub looked_bound : LookedBound
unfolding page_looked lists
looked_bound none w = omega arith
looked_bound (more x xs) w = omega (arith, looked_le x Wrap w 0 0, looked_bound xs w)

mutual
  unfolding lists records

  -- each list has a record
  lists_le : (x : Tree) → list_len * lists x ≤ length (records x)
  lists_le (symbol n) = omega arith
  lists_le (integer z) = omega arith
  lists_le (binding n x) = omega (arith, named_record binding_kind n (records x), lists_le x)
  lists_le (list xs) = omega (arith, list_records xs, lists_of_le xs)

  lists_of_le : (xs : Trees) → list_len * lists_of xs ≤ length (records_of xs)
  lists_of_le none = omega arith
  lists_of_le (more x xs) = omega (arith, length-append (records x) (records_of xs), lists_le x, lists_of_le xs)

-- so that the number is far below what 32 bits hold
pub looked_small : (t : List ℕ) (w : ℕ) (xs : Trees) (q : ℕ) → Bytes t → table_of t ≡ ok (found xs q) → page_looked xs w < 2 ^ 32
looked_small t w xs q hb e =
    let a = sound t xs q hb e in
    omega (arith, looked_bound xs w, lists_of_le xs, ap length a.is, a.small)

-- a tree that a table is right in
pub right_looked : (t : List ℕ) (d p w i c : ℕ) → p ≤ length t → Right (tree_at t d p) → seen w i c (tree_of (tree_at t d p)) ≤ next_of (tree_at t d p) - p
right_looked t d p w i c hp r =
    let x : Tree = tree_of (tree_at t d p) in
    omega (arith, looked_le x Wrap w i c, lists_le x, tree_span t d p (next_of (tree_at t d p)) x hp (right_is (tree_at t d p) r))
