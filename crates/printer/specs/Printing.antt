-- The answer of `print`, and the lent buffer after it (document 01, 'Numbers given instead of an answer').
use Rattle.std.specs.Prelude.{ℕ, cond, List, length, leb, Result as CodeResult, Ok, Err}
use Rattle.refusals.specs.declared.Refusal.{Refusal}
use Rattle.refusals.specs.Numbers.{print_room}
use Rattle.refusals.specs.Result.{Result, ok, refused, refused_by}
use Rattle.lists.specs.Over.{fitted}
use Rattle.table.specs.Trees.{Trees}
use Rattle.table.specs.Decoding.{Found, found, table_of}
use Rattle.printer.specs.Layout.{page}
use Rattle.printer.specs.Looking.{page_looked}
use Rattle.printer.specs.declared.Text.{Text as CodeText}

-- a text's length, and the records that the fits test looked at (document 02, 3/12)
pub data Text : Type 0 where
  text : ℕ → ℕ → Text

-- 18 last, with the bytes needed
abbrev pub roomed : List ℕ → ℕ → ℕ → Result Text
roomed o n k = cond (leb (length o) k) (ok (text (length o) n)) (refused print_room (length o))

-- what is told of the text, or a refusal's number and place
abbrev pub answered : Result (Found Trees) → ℕ → ℕ → Result Text
answered (ok (found xs q)) w k = roomed (page xs w) (page_looked xs w) k
answered (refused n a) w k = refused n a

-- no refusal changes a byte, and bytes after the text stay
abbrev pub leaves : Result (Found Trees) → ℕ → List ℕ → List ℕ
leaves (ok (found xs q)) w b = fitted (page xs w) b
leaves (refused n a) w b = b

-- printing a table at a width into a buffer of k bytes; and what the buffer b then holds
unfoldable pub printing : List ℕ → ℕ → ℕ → Result Text
printing t w k = answered (table_of t) w k

unfoldable pub printed_into : List ℕ → ℕ → List ℕ → List ℕ
printed_into t w b = leaves (table_of t) w b

-- document 01's number and values for the code's answer
abbrev pub print_of : CodeResult CodeText Refusal → Result Text
print_of (Ok t) = ok (text t.len t.looked)
print_of (Err r) = refused_by r
