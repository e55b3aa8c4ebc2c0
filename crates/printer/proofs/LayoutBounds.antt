-- A layout is at most 128 times as long as its records, and the column of an item no more than the bytes before it: why no sum wraps.
-- Assumes that the table's elements are bytes.
use mathlib.Core.Path.{◌≡◌, sym, subst}
use mathlib.Core.Bool.{Bool, true, false}
use mathlib.Core.List.{List, [], ◌∷◌, ◌++◌}
use Prim.Native.Nat.{ℕ, ◌+◌, ◌*◌, ◌-◌, ◌≤◌, ◌<◌}
use native.Mathlib.Omega.{arith}
use lib.ListN.{length, length-append, length-replicate}
use lib.Dec.{lit≤}
use Rattle.refusals.specs.Numbers.{depth_limit}
use Rattle.refusals.specs.Result.{ok}
use Rattle.wide.specs.Bytes.{Bytes, wide_bytes}
use Rattle.wide.proofs.Numbers.{wide_length}
use Rattle.wide.proofs.Decimals.{integer_top}
use Rattle.records.specs.Records.{record_of}
use Rattle.records.proofs.Heads.{length_record}
use Rattle.table.specs.Kinds.{symbol_kind, integer_kind, binding_kind}
use Rattle.table.specs.Trees.{Tree, Trees, symbol, integer, binding, list, none, more, records, records_of, Good, Goods}
use Rattle.table.specs.Decoding.{found, tree_at}
use Rattle.table.proofs.Costs.{list_records}
use Rattle.table.proofs.Spans.{tree_span}
use Rattle.table.proofs.Decoded.{Holds, tree_holds}
use Rattle.printer.specs.Layout.{Wrapping, Wrap, SingleLine, bytes, column, break_column, named, nl, wrapped, gap, inner, back, lay, items}
use Rattle.printer.specs.PrivateTrees.{Right, tree_of, next_of}
use Rattle.printer.specs.PrivateWriting.{line}
use Rattle.printer.proofs.CheckedRecords.{right_is, found_end}
use Rattle.printer.proofs.ListTexts.{line_is}

-- a line break's column is no more than the spaces that it writes
break_column_le : (i : ℕ) → break_column i ≤ 4 * i
unfolding break_column
break_column_le i = omega arith

pub item_column_le : (first : Bool) (i c : ℕ) → column (gap first Wrap i c) ≤ c + length (bytes (gap first Wrap i 0))
item_column_le true i c = omega arith
item_column_le false i c = simp length-replicate (omega (arith, break_column_le (i + 1)))

pub item_column_within : (first : Bool) (i c m : ℕ) → c ≤ m → 4 * (i + 1) ≤ m → column (gap first Wrap i c) ≤ m
item_column_within true i c m h l = h
item_column_within false i c m h l = omega (arith, break_column_le (i + 1))

pub named_size : (n : List ℕ) → length (named n) ≡ length n + 3
named_size n = length-append n (32 ∷ 64 ∷ 32 ∷ [])

pub nl_len_le : (i e : ℕ) → i ≤ depth_limit → e ≡ length (bytes (nl i)) → e ≤ 257
nl_len_le i e h eq = omega (arith, eq, length-replicate {0} {A = ℕ} (4 * i) 32)

gap_len : (first : Bool) (m : Wrapping) (i c : ℕ) → i + 1 ≤ depth_limit → length (bytes (gap first m i c)) ≤ 257
gap_len true m i c h = lit≤ tt
gap_len false SingleLine i c h = lit≤ tt
gap_len false Wrap i c h = simp length-replicate (omega arith)

back_len : (first : Bool) (m : Wrapping) (i c : ℕ) → i ≤ depth_limit → length (bytes (back first m i c)) ≤ 257
back_len true m i c h = lit≤ tt
back_len false SingleLine i c h = lit≤ tt
back_len false Wrap i c h = simp length-replicate (omega arith)

pub inner_le : (first : Bool) (m : Wrapping) (i : ℕ) → inner first m i ≤ i + 1
inner_le true m i = omega arith
inner_le false SingleLine i = omega arith
inner_le false Wrap i = omega arith

mutual
  unfolding lay records Good

  lay_len : (x : Tree) (d : ℕ) (m : Wrapping) (w i c : ℕ) → Good x d → i + d ≤ depth_limit → length (bytes (lay x m w i c)) + 300 ≤ 128 * length (records x)
  lay_len (symbol n) d m w i c g h = rw (length_record symbol_kind n) (omega arith)
  lay_len (integer z) d m w i c g h = rw (length_record integer_kind (wide_bytes z), wide_length z) (omega (arith, integer_top z))
  lay_len (binding n x) d m w i c g h =
      let k : ℕ = c + length (named n) in
      rw (length-append (named n) (bytes (lay x m w i k)), length-append (record_of binding_kind n) (records x), length_record binding_kind n)
      (omega (arith, named_size n, lay_len x (d - 1) m w i k g.3 (omega (arith, g.0))))
  lay_len (list xs) d m w i c g h =
      let s : Wrapping = wrapped m w c (list xs) in
      rw (list_records xs)
      (omega (arith, items_len xs (d - 1) true s w i (c + 1) g.2 (omega (arith, g.0))))

  items_len : (xs : Trees) (d : ℕ) (first : Bool) (m : Wrapping) (w i c : ℕ) → Goods xs d → i + 1 + d ≤ depth_limit → length (bytes (items xs first m w i c)) ≤ 128 * length (records_of xs) + 258
  items_len none d first m w i c g h = rw (length-append (bytes (back first m i c)) (41 ∷ [])) (omega (arith, back_len first m i c (omega arith)))
  items_len (more x xs) d first m w i c g h =
      let c1 : ℕ = column (gap first m i c) in
      let j : ℕ = inner first m i in
      let c2 : ℕ = column (lay x m w j c1) in
      rw (length-append (bytes (gap first m i c)) (bytes (lay x m w j c1) ++ bytes (items xs false m w i c2)), length-append (bytes (lay x m w j c1)) (bytes (items xs false m w i c2)), length-append (records x) (records_of xs))
      (omega (arith, gap_len first m i c (omega arith), lay_len x d m w j c1 g.0 (omega (arith, inner_le first m i)), items_len xs d false m w i c2 g.1 h))

-- a tree that is found in a table
pub found_len : (t : List ℕ) (d p q : ℕ) (x : Tree) (m : Wrapping) (w i c : ℕ) → Bytes t → p ≤ length t → i + d ≤ depth_limit → tree_at t d p ≡ ok (found x q)
    → length (bytes (lay x m w i c)) + 300 ≤ 128 * (q - p)
found_len t d p q x m w i c hb hp h e =
    let k = subst (Holds t d p) e (tree_holds t hb d p hp) in
    let z : q - p ≡ length (records x) = omega (arith, tree_span t d p q x hp e) in
    rw z (lay_len x d m w i c k.1 h)

pub line_len : (t : List ℕ) (d p q : ℕ) (x : Tree) → Bytes t → p ≤ length t → d ≤ depth_limit → tree_at t d p ≡ ok (found x q) → length (line x) + 300 ≤ 128 * (q - p)
line_len t d p q x hb hp h e = rw (sym (line_is x 0 0 0)) (found_len t d p q x SingleLine 0 0 0 hb hp (omega arith) e)

-- the same of what a table is right in, and that it goes forward
pub right_len : (t : List ℕ) (d p : ℕ) (m : Wrapping) (w i c : ℕ) → Bytes t → p ≤ length t → i + d ≤ depth_limit → Right (tree_at t d p)
    → (length (bytes (lay (tree_of (tree_at t d p)) m w i c)) + 300 ≤ 128 * (next_of (tree_at t d p) - p)) × (p < next_of (tree_at t d p)) × (next_of (tree_at t d p) ≤ length t)
right_len t d p m w i c hb hp h r =
    let e = right_is (tree_at t d p) r in
    let f = found_end t d p hp r in
    (found_len t d p _ _ m w i c hb hp h e, f.0, f.1)

pub right_line : (t : List ℕ) (d p : ℕ) → Bytes t → p ≤ length t → d ≤ depth_limit → Right (tree_at t d p) → length (line (tree_of (tree_at t d p))) ≤ 128 * length t
right_line t d p hb hp h r = omega (arith, line_len t d p _ _ hb hp h (right_is (tree_at t d p) r), found_end t d p hp r)
