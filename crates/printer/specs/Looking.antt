-- How many records the fits test looks at (document 02, 3/12 and 7/12): in one test, over the layout of a tree, and over a page. THEOREM looked_bound.
use Rattle.std.specs.Prelude.{ℕ, ◌+◌, ◌≤◌, Bool, true, false, cond, length, leb}
use Rattle.table.specs.Trees.{Tree, Trees, symbol, integer, binding, list, none, more}
use Rattle.printer.specs.Layout.{Wrapping, Wrap, SingleLine, column, named, gap, inner, wrapped, lay}

-- a list tested at column c: its own record, which stores its cost, and none if the column is past the width
unfoldable pub looks : ℕ → ℕ → ℕ
looks w c = cond (leb c w) 1 0

-- a list is tested unless it is inside one that fitted
abbrev pub tests : Wrapping → ℕ → ℕ → ℕ
tests SingleLine w c = 0
tests Wrap w c = looks w c

-- over the layout of a tree, at the columns and indents that the layout has
unfoldable mutual
  pub looked : Tree → Wrapping → ℕ → ℕ → ℕ → ℕ
  looked (symbol n) m w i c = 0
  looked (integer z) m w i c = 0
  looked (binding n x) m w i c = looked x m w i (c + length (named n))
  looked (list xs) m w i c = tests m w c + looked_of xs true (wrapped m w c (list xs)) w i (c + 1)

  pub looked_of : Trees → Bool → Wrapping → ℕ → ℕ → ℕ → ℕ
  looked_of none first m w i c = 0
  looked_of (more x xs) first m w i c =
      let c1 : ℕ = column (gap first m i c) in
      looked x m w (inner first m i) c1 + looked_of xs false m w i (column (lay x m w (inner first m i) c1))

-- over a page
unfoldable pub page_looked : Trees → ℕ → ℕ
page_looked none w = 0
page_looked (more x xs) w = looked x Wrap w 0 0 + page_looked xs w

-- the lists in a tree, and in trees
unfoldable mutual
  pub lists : Tree → ℕ
  lists (symbol n) = 0
  lists (integer z) = 0
  lists (binding n x) = lists x
  lists (list xs) = lists_of xs + 1

  pub lists_of : Trees → ℕ
  lists_of none = 0
  lists_of (more x xs) = lists x + lists_of xs

-- at most the lists in the table
abbrev pub LookedBound : Type 0
LookedBound = (xs : Trees) (w : ℕ) → page_looked xs w ≤ lists_of xs
