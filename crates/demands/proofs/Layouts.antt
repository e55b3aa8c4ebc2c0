-- Document 01, 'Worked by hand': the layouts marked P, and lists that hold empty lists; with the records that the fits test looks at (document 02, 7/12). Assumes nothing.
use Prim.Native.Nat.{ℕ}
use mathlib.Core.Path.{◌≡◌, refl}
use mathlib.Core.List.{List, [], ◌∷◌, map}
use lib.IntN.{pos, negsuc}
use lib.ListN.{length, replicate}
use Rattle.refusals.specs.Result.{ok}
use Rattle.classes.specs.Classes.{class_of}
use Rattle.wide.specs.Text.{digits, is_lowest, integer_text}
use Rattle.wide.specs.Bytes.{le, number}
use Rattle.records.specs.Records.{record_of, head_at}
use Rattle.table.specs.Costs.{costed, stored_cost}
use Rattle.table.specs.Trees.{Tree, Trees, symbol, integer, binding, list, none, more, runs_on, is_symbol, records, records_of, cost}
use Rattle.table.specs.Records.{record_at}
use Rattle.table.specs.Decoding.{items_at, step_at, tree_at, trees_at, table_of, shape_of}
use Rattle.printer.specs.Layout.{break_column, fits_in, lay, page_from, page}
use Rattle.printer.specs.Looking.{looks, looked, page_looked}
use Rattle.printer.specs.Printing.{text, printing, printed_into}

pub record Case : Type 0 where
  pub trees : Trees
  pub width : ℕ
  pub looked : ℕ
  pub size : ℕ
  pub bytes : List ℕ

abbrev layout : Trees → ℕ → ℕ → ℕ → List ℕ → Case
layout xs w k n o = record { trees = xs; width = w; looked = k; size = n; bytes = o }

abbrev empty : Tree
empty = list none

abbrev a : Tree
a = symbol (97 ∷ [])

-- `(a b)`
abbrev a_b : Tree
a_b = list (more a (more (symbol (98 ∷ [])) none))

-- `x @ (a)`
abbrev x_a : Tree
x_a = binding (120 ∷ []) (list (more a none))

-- `(rule (a b) c)`
abbrev pub rule_tree : Tree
rule_tree = list (more (symbol (114 ∷ 117 ∷ 108 ∷ 101 ∷ [])) (more a_b (more (symbol (99 ∷ [])) none)))

-- `(()()()(a b))`
abbrev empties : Tree
empties = list (more empty (more empty (more empty (more a_b none))))

-- `(()()()x @ (a))`
abbrev bound : Tree
bound = list (more empty (more empty (more empty (more x_a none))))

unfoldable pub layouts : List Case
layouts =
    -- at 14 `(rule (a b) c)`, which alone is tested; at 13 `(rule`, `    (a b)`, `    c`, `)`, and `(a b)` is tested too
    layout (more rule_tree none) 14 1 15 (40 ∷ 114 ∷ 117 ∷ 108 ∷ 101 ∷ 32 ∷ 40 ∷ 97 ∷ 32 ∷ 98 ∷ 41 ∷ 32 ∷ 99 ∷ 41 ∷ 10 ∷ [])
    ∷ layout (more rule_tree none) 13 2 24 (40 ∷ 114 ∷ 117 ∷ 108 ∷ 101 ∷ 10 ∷ 32 ∷ 32 ∷ 32 ∷ 32 ∷ 40 ∷ 97 ∷ 32 ∷ 98 ∷ 41 ∷ 10 ∷ 32 ∷ 32 ∷ 32 ∷ 32 ∷ 99 ∷ 10 ∷ 41 ∷ 10 ∷ [])
    -- `()`, which does not fit and stays on its line
    ∷ layout (more empty none) 0 1 3 (40 ∷ 41 ∷ 10 ∷ [])
    -- `(() () () (a b))` costs 13 and fits; `(a b)` in it, at column 10, would not, and is not tested; nor is the tree of a binding
    ∷ layout (more empties none) 13 1 17 (40 ∷ 40 ∷ 41 ∷ 32 ∷ 40 ∷ 41 ∷ 32 ∷ 40 ∷ 41 ∷ 32 ∷ 40 ∷ 97 ∷ 32 ∷ 98 ∷ 41 ∷ 41 ∷ 10 ∷ [])
    ∷ layout (more bound none) 15 1 19 (40 ∷ 40 ∷ 41 ∷ 32 ∷ 40 ∷ 41 ∷ 32 ∷ 40 ∷ 41 ∷ 32 ∷ 120 ∷ 32 ∷ 64 ∷ 32 ∷ 40 ∷ 97 ∷ 41 ∷ 41 ∷ 10 ∷ [])
    -- at 12 each item but the first is on its own line: `(()`, `    ()`, `    ()`, `    (a b)`, `)`
    ∷ layout (more empties none) 12 5 30 (40 ∷ 40 ∷ 41 ∷ 10 ∷ 32 ∷ 32 ∷ 32 ∷ 32 ∷ 40 ∷ 41 ∷ 10 ∷ 32 ∷ 32 ∷ 32 ∷ 32 ∷ 40 ∷ 41 ∷ 10 ∷ 32 ∷ 32 ∷ 32 ∷ 32 ∷ 40 ∷ 97 ∷ 32 ∷ 98 ∷ 41 ∷ 10 ∷ 41 ∷ 10 ∷ [])
    -- `((a))`, which does not fit; the list in it begins past the width, and is not looked at: `((a`, `)`, `)`
    ∷ layout (more (list (more (list (more a none)) none)) none) 0 1 8 (40 ∷ 40 ∷ 97 ∷ 10 ∷ 41 ∷ 10 ∷ 41 ∷ 10 ∷ [])
    -- `x @ (a)` twice: the list behind a binding is tested, in each tree
    ∷ layout (more x_a (more x_a none)) 100 2 17 (120 ∷ 32 ∷ 64 ∷ 32 ∷ 40 ∷ 97 ∷ 41 ∷ 10 ∷ 10 ∷ 120 ∷ 32 ∷ 64 ∷ 32 ∷ 40 ∷ 97 ∷ 41 ∷ 10 ∷ [])
    -- nothing of an empty table; `16` and `-7`, with an empty line between
    ∷ layout none 100 0 0 []
    ∷ layout (more (integer (pos 16)) (more (integer (negsuc 6)) none)) 100 0 7 (49 ∷ 54 ∷ 10 ∷ 10 ∷ 45 ∷ 55 ∷ 10 ∷ [])
    ∷ []

pub pages : map (λ (c : Case). page c.trees c.width) layouts ≡ map (λ (c : Case). c.bytes) layouts
unfolding layouts break_column fits_in cost lay page_from is_lowest integer_text digits
pages = refl

pub sizes : map (λ (c : Case). length (page c.trees c.width)) layouts ≡ map (λ (c : Case). c.size) layouts
unfolding layouts break_column fits_in cost lay page_from is_lowest integer_text digits
sizes = refl

-- the same of their tables: the answer of `print`, and a buffer of that size after it
pub answers : map (λ (c : Case). printing (records_of c.trees) c.width c.size) layouts ≡ map (λ (c : Case). ok (text c.size c.looked)) layouts
unfolding layouts break_column fits_in cost lay page_from looks looked page_looked is_lowest integer_text digits printing table_of shape_of costed stored_cost trees_at tree_at items_at record_at head_at step_at number is_symbol runs_on class_of records record_of le
answers = refl

pub buffers : map (λ (c : Case). printed_into (records_of c.trees) c.width (replicate c.size 0)) layouts ≡ map (λ (c : Case). c.bytes) layouts
unfolding layouts break_column fits_in cost lay page_from is_lowest integer_text digits printed_into table_of shape_of costed stored_cost trees_at tree_at items_at record_at head_at step_at number is_symbol runs_on class_of records record_of le
buffers = refl
