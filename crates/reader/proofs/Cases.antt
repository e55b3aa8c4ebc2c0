-- Document 01, 'Worked by hand' (`x @ (a)` as document 02, 7/12, has it): the reading cases marked P, and others that fix the order of the refusals.
use Prim.Native.Nat.{ℕ}
use mathlib.Core.Path.{◌≡◌, refl}
use mathlib.Core.List.{List, [], ◌∷◌, ◌++◌, map}
use lib.ListN.{replicate}
use Rattle.refusals.specs.Result.{Result, ok, refused}
use Rattle.classes.specs.Classes.{class_of, digit_of, literal_byte}
use Rattle.wide.specs.Value.{val, grown, integer_of}
use Rattle.wide.specs.Bytes.{le}
use Rattle.lexer.specs.Literals.{taken, grow, reading as digits_read, literal_end, radix_of, concluded, unsigned_in}
use Rattle.lexer.specs.Lexing.{skip, symbol_end, lex_in, next_token}
use Rattle.records.specs.Records.{record_of}
use Rattle.table.specs.Trees.{cost, records}
use Rattle.reader.specs.Grammar.{read_items, read_tree, file_of}
use Rattle.reader.specs.Reading.{reading, read_into}

-- what is answered for a room of zeros, and the room after it
pub record Answered : Type 0 where
  pub answer : Result ℕ
  pub room : List ℕ

pub record Case : Type 0 where
  pub source : List ℕ
  pub size : ℕ
  pub answered : Answered

abbrev case : List ℕ → ℕ → Result ℕ → List ℕ → Case
case s k a b = record { source = s; size = k; answered = record { answer = a; room = b } }

-- a not_read leaves the room as it was
abbrev not_read : List ℕ → ℕ → ℕ → Case
not_read s n a = case s 30 (refused n a) (replicate 30 0)

abbrev run : Case → Answered
run c = record { answer = reading c.source c.size; room = read_into c.source (replicate c.size 0) }

abbrev bound_table : List ℕ
bound_table = 7 ∷ 0 ∷ 0 ∷ 0 ∷ 3 ∷ 0 ∷ 120 ∷ 14 ∷ 0 ∷ 0 ∷ 0 ∷ 5 ∷ 0 ∷ 1 ∷ 0 ∷ 0 ∷ 0 ∷ 3 ∷ 0 ∷ 0 ∷ 0 ∷ 7 ∷ 0 ∷ 0 ∷ 0 ∷ 1 ∷ 0 ∷ 97 ∷ []

unfoldable pub cases : List Case
cases =
    -- `x @ (a)` into rooms of 30, 28 and 27 bytes
    case (120 ∷ 32 ∷ 64 ∷ 32 ∷ 40 ∷ 97 ∷ 41 ∷ []) 30 (ok 28) (bound_table ++ replicate 2 0)
    ∷ case (120 ∷ 32 ∷ 64 ∷ 32 ∷ 40 ∷ 97 ∷ 41 ∷ []) 28 (ok 28) bound_table
    ∷ case (120 ∷ 32 ∷ 64 ∷ 32 ∷ 40 ∷ 97 ∷ 41 ∷ []) 27 (refused 14 28) (replicate 27 0)
    -- the empty source, `a @ b @ c`, `x (;;) @ y`
    ∷ case [] 0 (ok 0) []
    ∷ case (97 ∷ 32 ∷ 64 ∷ 32 ∷ 98 ∷ 32 ∷ 64 ∷ 32 ∷ 99 ∷ []) 0 (refused 14 21) []
    ∷ case (120 ∷ 32 ∷ 40 ∷ 59 ∷ 59 ∷ 41 ∷ 32 ∷ 64 ∷ 32 ∷ 121 ∷ []) 0 (refused 14 14) []
    -- `x @ )`, `x @ @`, `x @ (;`, `x @ 12ab`, `(x @`
    ∷ not_read (120 ∷ 32 ∷ 64 ∷ 32 ∷ 41 ∷ []) 12 4
    ∷ not_read (120 ∷ 32 ∷ 64 ∷ 32 ∷ 64 ∷ []) 11 4
    ∷ not_read (120 ∷ 32 ∷ 64 ∷ 32 ∷ 40 ∷ 59 ∷ []) 4 4
    ∷ not_read (120 ∷ 32 ∷ 64 ∷ 32 ∷ 49 ∷ 50 ∷ 97 ∷ 98 ∷ []) 6 6
    ∷ not_read (40 ∷ 120 ∷ 32 ∷ 64 ∷ []) 12 4
    -- `((a)`, `)`, `@`, `1 @ a`
    ∷ not_read (40 ∷ 40 ∷ 97 ∷ 41 ∷ []) 10 0
    ∷ not_read (41 ∷ []) 9 0
    ∷ not_read (64 ∷ []) 11 0
    ∷ not_read (49 ∷ 32 ∷ 64 ∷ 32 ∷ 97 ∷ []) 11 2
    -- 65 times `(`; 64 times `(` and then `x @`, `x`, form feed
    ∷ not_read (replicate 65 40) 13 64
    ∷ not_read (replicate 64 40 ++ (120 ∷ 32 ∷ 64 ∷ [])) 13 64
    ∷ not_read (replicate 64 40 ++ (120 ∷ 12 ∷ [])) 3 65
    ∷ []

pub worked : map run cases ≡ map (λ (c : Case). c.answered) cases
unfolding cases reading read_into file_of read_items read_tree cost records record_of le next_token lex_in skip symbol_end class_of literal_byte digit_of taken grow digits_read literal_end radix_of concluded unsigned_in val grown integer_of
worked = refl
