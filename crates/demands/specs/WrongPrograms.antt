-- Programs that document 01 wants the promises to catch ('How little a promise may leave open'), and what each of them breaks: THEOREM wrong_programs.
use Rattle.std.specs.Prelude.{◌≡◌, List, [], ◌∷◌, ◌++◌, cond, ℕ, ◌+◌, ◌-◌, ◌^◌, eqb, length}
use Rattle.refusals.specs.Result.{ok, refused}
use Rattle.lists.specs.Over.{over}
use Rattle.lexer.specs.Tokens.{Answer}
use Rattle.lexer.specs.Lexing.{next_token}
use Rattle.lexer.specs.Streams.{tokens_of}
use Rattle.feeder.specs.declared.State.{State}
use Rattle.feeder.specs.Feeding.{more, Fed, fed, fresh_state, feed_of, close_of}
use Rattle.wide.specs.Bytes.{le}
use Rattle.records.specs.Records.{record_of}
use Rattle.table.specs.Kinds.{list_kind}
use Rattle.table.specs.Trees.{Trees}
use Rattle.table.specs.Decoding.{table_of, judged}
use Rattle.printer.specs.Layout.{page}
use Rattle.printer.specs.Looking.{page_looked, lists_of}
use Rattle.printer.specs.Printing.{printed_into}
use Rattle.demands.specs.Driver.{drive_by}

-- a lexer that refuses everything, with any number and any place
abbrev pub refuses_all : (number place : List ℕ → ℕ → ℕ) → List ℕ → ℕ → Answer
refuses_all number place s i = refused (number s i) (place s i)

-- a feeder that lexes the first piece and answers "more" to the rest; one that invents the bytes consumed, always the whole piece
abbrev pub first_piece : State → List ℕ → Fed
first_piece s q = cond (eqb s.place 0) (feed_of s q) (fed (ok more) (length q) (record { phase = s.phase; place = s.place + length q }))

abbrev pub whole_piece : State → List ℕ → Fed
whole_piece s q = fed (feed_of s q).reply (length q) (feed_of s q).state

-- what a printer leaves in the lent buffer, from the table, the width and what the buffer held; and its promise
abbrev pub Printer : Type 0
Printer = List ℕ → ℕ → List ℕ → List ℕ

abbrev pub Keeps : Printer → Type 0
Keeps f = (t : List ℕ) (w : ℕ) (b : List ℕ) → f t w b ≡ printed_into t w b

-- the width of the longest lines
abbrev pub widest : ℕ
widest = 2 ^ 32 - 1

-- a printer that always writes one line, one that always writes the same bytes, and one that leaves the buffer untouched
abbrev pub one_line : Printer
one_line t w b = printed_into t widest b

abbrev pub same_bytes : List ℕ → Printer
same_bytes o t w b = over o b

abbrev pub untouched : Printer
untouched t w b = b

-- the record of `()` that stores the cost n
abbrev pub empty_list : ℕ → List ℕ
empty_list n = record_of list_kind (le 4 0 ++ le 4 n)

pub record WrongPrograms : Type 0 where
  -- `a` is a symbol
  pub refuses_all_lem : (number place : List ℕ → ℕ → ℕ) → refuses_all number place (97 ∷ []) 0 ≡ next_token (97 ∷ []) 0 → ⊥
  -- the promise is broken at the `)` of ` )`, cut before it; and a host that feeds ` ` and `)` gets no token
  pub first_piece_lem : first_piece (feed_of fresh_state (32 ∷ [])).state (41 ∷ []) ≡ feed_of (feed_of fresh_state (32 ∷ [])).state (41 ∷ []) → ⊥
  pub first_piece_cut : drive_by first_piece close_of 9 fresh_state ((32 ∷ []) ∷ (41 ∷ []) ∷ []) ≡ tokens_of (32 ∷ 41 ∷ []) → ⊥
  -- the promise is broken at `))`, of which one byte is consumed; and a host loses the second token
  pub whole_piece_lem : whole_piece fresh_state (41 ∷ 41 ∷ []) ≡ feed_of fresh_state (41 ∷ 41 ∷ []) → ⊥
  pub whole_piece_cut : drive_by whole_piece close_of 9 fresh_state ((41 ∷ 41 ∷ []) ∷ []) ≡ tokens_of (41 ∷ 41 ∷ []) → ⊥
  -- as what the lent buffer holds
  pub one_line_lem : Keeps one_line → ⊥
  pub same_bytes_lem : (o : List ℕ) → Keeps (same_bytes o) → ⊥
  pub leaves_all : Keeps untouched → ⊥
  -- as texts of trees
  pub one_line_text : ((xs : Trees) (w : ℕ) → page xs widest ≡ page xs w) → ⊥
  pub same_text : (o : List ℕ) → ((xs : Trees) (w : ℕ) → o ≡ page xs w) → ⊥
  -- as the number of records that is reported (document 02, 7/12): always the same; each list once, though none is tested inside one that fits; none
  pub same_count : (k : ℕ) → ((xs : Trees) (w : ℕ) → k ≡ page_looked xs w) → ⊥
  pub counts_all : ((xs : Trees) (w : ℕ) → lists_of xs ≡ page_looked xs w) → ⊥
  pub counts_none : ((xs : Trees) (w : ℕ) → 0 ≡ page_looked xs w) → ⊥
  -- as what is told of a table whose list stores any cost (document 02, 7/12): that it is good
  pub any_cost : ((n : ℕ) → judged (table_of (empty_list n)) ≡ ok tt) → ⊥
