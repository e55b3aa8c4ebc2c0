-- The answer of `read`, and the lent room after it (document 01, 'Trees and their table', 'Numbers given instead of an answer').
use Rattle.std.specs.Prelude.{ℕ, cond, List, leb, length, Result as CodeResult, Ok, Err}
use Rattle.refusals.specs.Numbers.{table_room}
use Rattle.refusals.specs.Result.{Result, ok, refused, refused_by, and_then}
use Rattle.refusals.specs.declared.Refusal.{Refusal}
use Rattle.lists.specs.Over.{fitted}
use Rattle.table.specs.Trees.{Trees, records_of}
use Rattle.reader.specs.Grammar.{file_of}

-- the table's length; 14 last, with the bytes needed
abbrev pub answered : ℕ → Trees → Result ℕ
answered k xs = cond (leb (length (records_of xs)) k) (ok (length (records_of xs))) (refused table_room (length (records_of xs)))

-- no refusal changes a byte, and bytes after the table stay
abbrev pub leaves : Result Trees → List ℕ → List ℕ
leaves (ok xs) b = fitted (records_of xs) b
leaves (refused n a) b = b

-- reading a source into a room of k bytes; and what the room b then holds
unfoldable pub reading : List ℕ → ℕ → Result ℕ
reading s k = and_then (file_of s) (answered k)

unfoldable pub read_into : List ℕ → List ℕ → List ℕ
read_into s b = leaves (file_of s) b

-- document 01's number and values for each case of the code's answer
abbrev pub read_of : CodeResult ℕ Refusal → Result ℕ
read_of (Ok n) = ok n
read_of (Err r) = refused_by r
