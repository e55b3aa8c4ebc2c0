-- THEOREMS: wrong readers, refuted on a given source: one that refuses everything, and one that leaves the room untouched.
use mathlib.Core.Path.{◌≡◌, refl, ap, ◌∙◌}
use mathlib.Core.List.{List, [], ◌∷◌}
use Prim.Native.Nat.{ℕ}
use native.Mathlib.Omega.{arith}
use lib.ListN.{replicate, get_or}
use Rattle.refusals.specs.Result.{Result, ok, refused}
use Rattle.classes.specs.Classes.{class_of}
use Rattle.wide.specs.Bytes.{le}
use Rattle.lexer.specs.Lexing.{skip, symbol_end, lex_in, next_token}
use Rattle.records.specs.Records.{record_of}
use Rattle.table.specs.Trees.{cost, records}
use Rattle.reader.specs.Grammar.{read_items, read_tree, file_of}
use Rattle.reader.specs.Reading.{reading, read_into}

-- `(a)`
unfoldable sample : List ℕ
sample = 40 ∷ 97 ∷ 41 ∷ []

sample_read : reading sample 21 ≡ ok 21
unfolding sample reading file_of read_items read_tree cost records record_of le next_token lex_in skip symbol_end class_of
sample_read = refl

-- whatever number and place it gives
pub refuses_all_lem : (n p : List ℕ → ℕ) → ((s : List ℕ) (k : ℕ) → refused (n s) (p s) ≡ reading s k) → ⊥
refuses_all_lem n p h =
    let e : ◌≡◌ {A = Result ℕ} (refused (n sample) (p sample)) (ok 21) = h sample 21 ∙ sample_read in
    let z : ◌≡◌ {A = ℕ} 0 1 = cc in omega arith

pub untouched_room : ((s t : List ℕ) → t ≡ read_into s t) → ⊥
unfolding sample read_into file_of read_items read_tree cost records record_of le next_token lex_in skip symbol_end class_of
untouched_room h = let e : ◌≡◌ {A = ℕ} 0 14 = ap (λ (l : List ℕ). get_or l 0 0) (h sample (replicate 21 0)) in omega arith
