-- A machine that puts the text of a table piece by piece (document 02, 2/12): what is put next, and the state after it. Total on any bytes and any state.
use Rattle.std.specs.Prelude.{ℕ, ◌+◌, ◌-◌, ◌*◌, ◌/◌, ◌%◌, ◌^◌, Bool, true, false, cond, List, [], ◌∷◌, length, replicate, ◌==◌, eqb, nat_lt, slice_index, slice_set, Result as CodeResult, Ok, Err}
use Rattle.refusals.specs.Numbers.{depth_limit}
use Rattle.refusals.specs.declared.Fault.{Fault}
use Rattle.wide.specs.Bytes.{integer_at}
use Rattle.wide.specs.Text.{integer_text}
use Rattle.records.specs.Records.{head_len, payload}
use Rattle.table.specs.Kinds.{integer_len, list_len}
use Rattle.table.specs.declared.Record.{Record}
use Rattle.table.specs.declared.Record.TheVariants.{Symbol, Integer, Binding, List as ListOf}
use Rattle.table.specs.Records.{record_at}
use Rattle.printer.specs.Layout.{Wrapping, Wrap, SingleLine, bytes, break_column, nl}
use Rattle.printer.specs.declared.cost.Tested.{Tested}
use Rattle.printer.specs.Fitting.{tested, fits_at}
pub use Rattle.windows.specs.declared.Phase.{Phase}
pub use Rattle.windows.specs.declared.Phase.TheVariants.{Fresh, Node, Sign, Gap, Back, Close, Line, Between, Done}
pub use Rattle.windows.specs.declared.Cursor.{Cursor}
pub use Rattle.windows.specs.declared.State.{State}

abbrev pub state : Cursor → List ℕ → State
state c s = record { cursor = c; stack = s }

abbrev pub is_done : Phase → Bool
is_done Fresh = false
is_done Node = false
is_done Sign = false
is_done Gap = false
is_done Back = false
is_done Close = false
is_done Line = false
is_done Between = false
is_done Done = true

abbrev pub is_fresh : Phase → Bool
is_fresh Fresh = true
is_fresh Node = false
is_fresh Sign = false
is_fresh Gap = false
is_fresh Back = false
is_fresh Close = false
is_fresh Line = false
is_fresh Between = false
is_fresh Done = false

-- what column c leaves of a line of width w, and one more: 0 past the width
abbrev pub leaves : ℕ → ℕ → ℕ
leaves w c = w + 1 - c

-- the same after a line break to indent i: the layout says which column it sets
abbrev pub broken : ℕ → ℕ → ℕ
broken w i = leaves w (break_column i)

-- a list's margin is its indent, or this on a single line
abbrev pub single_margin : ℕ
single_margin = 255

abbrev pub mode_of : ℕ → Wrapping
mode_of g = cond (g == single_margin) SingleLine Wrap

-- ---- what is put

abbrev pub node_put : List ℕ → ℕ → CodeResult Record Fault → List ℕ
node_put t at (Ok (Symbol len)) = payload t at len
node_put t at (Ok Integer) = integer_text (integer_at t (at + head_len))
node_put t at (Ok (Binding len)) = payload t at len
node_put t at (Ok (ListOf n)) = 40 ∷ []
node_put t at (Err f) = []

abbrev pub gap_put : Wrapping → ℕ → List ℕ
gap_put SingleLine g = 32 ∷ []
gap_put Wrap g = bytes (nl (g + 1))

abbrev pub phase_put : List ℕ → Cursor → Phase → List ℕ
phase_put t c Fresh = []
phase_put t c Node = node_put t c.at (record_at t c.at)
phase_put t c Sign = 32 ∷ 64 ∷ 32 ∷ []
phase_put t c Gap = gap_put (mode_of c.margin) c.margin
phase_put t c Back = bytes (nl c.margin)
phase_put t c Close = 41 ∷ []
phase_put t c Line = 10 ∷ []
phase_put t c Between = 10 ∷ []
phase_put t c Done = []

unfoldable pub put_of : List ℕ → Cursor → List ℕ
put_of t c = phase_put t c c.phase

-- ---- the state after it

-- of a cursor all but its phase, its place and what is left of the line; of the next put nothing is given
abbrev pub moved : Cursor → Phase → ℕ → ℕ → Cursor
moved c f p l = record c { phase = f; at = p; left = l; given = 0 }

-- after a tree: its LF, the gap before the next item, or the end of the list
abbrev pub close_phase : Wrapping → Phase
close_phase SingleLine = Close
close_phase Wrap = Back

abbrev pub after_phase : Cursor → Phase
after_phase c = cond (c.depth == 0) Line (cond (c.due == 0) (close_phase (mode_of c.margin)) Gap)

abbrev pub past : Cursor → ℕ → ℕ → Cursor
past c p l = moved c (after_phase c) p l

-- the test of a list: inside one that is on a single line there is none, and it is on that line too; what a column leaves of the line leaves that column, or one past the width
abbrev pub test_for : List ℕ → ℕ → Cursor → Wrapping → Tested
test_for t w c SingleLine = tested true 0
test_for t w c Wrap = fits_at t c.at w (leaves w c.left)

abbrev pub margin_for : Bool → ℕ → ℕ
margin_for single i = cond single single_margin i

-- a count in a state is held in 32 bits; what calls come to is below 2^32
abbrev pub plus : ℕ → ℕ → ℕ
plus a b = (a + b) % 2 ^ 32

-- what the stack holds of a list, and its two parts
abbrev pub held : ℕ → ℕ → ℕ
held d g = d + 4294967296 * g

abbrev pub held_due : ℕ → ℕ
held_due x = x % 4294967296

abbrev pub held_margin : ℕ → ℕ
held_margin x = x / 4294967296 % 256

-- behind the `(` of a list of n items that was tested
abbrev pub opened : Cursor → ℕ → Tested → Cursor
opened c n x = record c {
  phase = cond (n == 0) Close Node;
  at = c.at + list_len;
  depth = c.depth + 1;
  due = n - 1;
  looked = plus c.looked x.looked;
  margin = margin_for x.fits c.indent;
  left = c.left - 1;
  given = 0;
}

-- the list around it goes to the stack
abbrev pub list_next : List ℕ → ℕ → State → ℕ → State
list_next t w s n =
    cond (nat_lt s.cursor.depth depth_limit)
    (state (opened s.cursor n (test_for t w s.cursor (mode_of s.cursor.margin))) (slice_set s.stack s.cursor.depth (held s.cursor.due s.cursor.margin)))
    (state (moved s.cursor Done s.cursor.at s.cursor.left) s.stack)

-- of a state the cursor alone changes
abbrev pub at_cursor : State → Cursor → State
at_cursor s c = state c s.stack

abbrev pub node_next : List ℕ → ℕ → State → CodeResult Record Fault → State
node_next t w s (Ok (Symbol len)) = at_cursor s (past s.cursor (s.cursor.at + len) (s.cursor.left - (len - head_len)))
node_next t w s (Ok Integer) = at_cursor s (past s.cursor (s.cursor.at + integer_len) (s.cursor.left - length (integer_text (integer_at t (s.cursor.at + head_len)))))
node_next t w s (Ok (Binding len)) = at_cursor s (moved s.cursor Sign (s.cursor.at + len) (s.cursor.left - (len - head_len)))
node_next t w s (Ok (ListOf n)) = list_next t w s n
node_next t w s (Err f) = at_cursor s (moved s.cursor Done s.cursor.at s.cursor.left)

-- an item fewer is due; on a new line the indent is the list's and one more
abbrev pub taken : Cursor → ℕ → ℕ → Cursor
taken c l i = record c { phase = Node; due = c.due - 1; left = l; indent = i; given = 0 }

abbrev pub gap_for : Cursor → ℕ → Wrapping → Cursor
gap_for c w SingleLine = taken c (c.left - 1) c.indent
gap_for c w Wrap = taken c (broken w (c.margin + 1)) (c.margin + 1)

abbrev pub gap_next : Cursor → ℕ → Cursor
gap_next c w = gap_for c w (mode_of c.margin)

-- the list around the innermost comes back from the stack
abbrev pub popped : Cursor → List ℕ → Cursor
popped c s = record c {
  phase = Close;
  depth = c.depth - 1;
  due = held_due (slice_index s (c.depth - 1));
  margin = held_margin (slice_index s (c.depth - 1));
  given = 0;
}

-- each tree begins at column 0 and indent 0
abbrev pub begin : Cursor → ℕ → Cursor
begin c w = record c { phase = Node; left = leaves w 0; indent = 0; given = 0 }

abbrev pub phase_next : List ℕ → ℕ → State → Phase → State
phase_next t w s Fresh = s
phase_next t w s Node = node_next t w s (record_at t s.cursor.at)
phase_next t w s Sign = at_cursor s (moved s.cursor Node s.cursor.at (s.cursor.left - 3))
phase_next t w s Gap = at_cursor s (gap_next s.cursor w)
phase_next t w s Back = at_cursor s (moved s.cursor Close s.cursor.at (broken w s.cursor.margin))
phase_next t w s Close = at_cursor s (past (popped s.cursor s.stack) s.cursor.at (s.cursor.left - 1))
phase_next t w s Line = at_cursor s (moved s.cursor (cond (nat_lt s.cursor.at (length t)) Between Done) s.cursor.at s.cursor.left)
phase_next t w s Between = at_cursor s (begin s.cursor w)
phase_next t w s Done = s

unfoldable pub next_of : List ℕ → ℕ → State → State
next_of t w s = phase_next t w s s.cursor.phase

-- g bytes of the next put are given
abbrev pub regiven : Cursor → ℕ → Cursor
regiven c g = record c { given = g }

-- ---- where it begins

abbrev pub fresh_state : State
fresh_state = state (record {
  phase = Fresh;
  at = 0;
  depth = 0;
  due = 0;
  looked = 0;
  margin = 0;
  left = 0;
  indent = 0;
  given = 0;
}) (replicate 64 0)

abbrev pub first_phase : ℕ → Phase
first_phase n = cond (n == 0) Done Node

-- before the first tree of a table of n bytes
abbrev pub start_cursor : ℕ → ℕ → Cursor
start_cursor n w = record {
  phase = first_phase n;
  at = 0;
  depth = 0;
  due = 0;
  looked = 0;
  margin = 0;
  left = leaves w 0;
  indent = 0;
  given = 0;
}

abbrev pub started : List ℕ → ℕ → State → State
started t w s = at_cursor s (start_cursor (length t) w)

-- ---- a phase in a state of words: its number, and the phase of any number

abbrev pub phase_word : Phase → ℕ
phase_word Fresh = 0
phase_word Node = 1
phase_word Sign = 2
phase_word Gap = 3
phase_word Back = 4
phase_word Close = 5
phase_word Line = 6
phase_word Between = 7
phase_word Done = 8

-- one past the last is the last
unfoldable pub phase_in : ℕ → Phase
phase_in k =
    cond (eqb k 0) Fresh
    (cond (eqb k 1) Node
    (cond (eqb k 2) Sign
    (cond (eqb k 3) Gap
    (cond (eqb k 4) Back
    (cond (eqb k 5) Close
    (cond (eqb k 6) Line
    (cond (eqb k 7) Between Done)))))))
