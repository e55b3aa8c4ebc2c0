-- Calls one after the other on a table and a width that stay (document 02, 2/12): THEOREMS windows_joined, windows_end, windows_refused, windows_printed, print_refused.
use Rattle.std.specs.Prelude.{◌≡◌, ℕ, ◌≤◌, true, List, length, take, drop, ◌≢◌}
use Rattle.refusals.specs.Numbers.{depth_limit, print_room}
use Rattle.refusals.specs.Result.{ok, refused}
use Rattle.lists.specs.Over.{over}
use Rattle.wide.specs.Bytes.{Bytes}
use Rattle.table.specs.Trees.{Trees}
use Rattle.table.specs.Decoding.{found, table_of}
use Rattle.printer.specs.Layout.{page}
use Rattle.printer.specs.Looking.{page_looked}
use Rattle.printer.specs.Printing.{text, printing, printed_into}
use Rattle.windows.specs.Machine.{State, is_fresh}
use Rattle.windows.specs.Filling.{end, call, fill_of, calls, answer_for, room}

-- a state that has not begun, with a stack for as many lists as may be open: of the rest of it nothing matters
pub record Begins (s : State) : Type 0 where
  pub fresh : is_fresh s.cursor.phase ≡ true
  pub size : depth_limit ≤ length s.stack

-- the windows bs were filled from the text o, for which the fits test looks at k records: what they were given, joined, and what a further call with any window answers and gives
pub record Windowed (t : List ℕ) (w : ℕ) (s : State) (bs : List (List ℕ)) (o : List ℕ) (k : ℕ) : Type 0 where
  pub joined : (calls t w s bs).out ≡ take (room bs) o
  pub answer : (b : List ℕ) → (fill_of t w (calls t w s bs).state b).answer ≡ answer_for (drop (room bs) o) k (length b)
  pub window : (b : List ℕ) → (fill_of t w (calls t w s bs).state b).window ≡ over (take (length b) (drop (room bs) o)) b

-- for a good table the windows, whatever their lengths and what they held, joined are the front of its text
abbrev pub WindowsJoined : Type 0
WindowsJoined =
    (t : List ℕ) (w : ℕ) (xs : Trees) (q : ℕ) (s : State) → Bytes t → table_of t ≡ ok (found xs q) → Begins s → (bs : List (List ℕ)) → Windowed t w s bs (page xs w) (page_looked xs w)

-- all of the text o was given: every later call answers the end, with the number k, and changes no byte, and after the first of them no state changes
pub record Ended (t : List ℕ) (w : ℕ) (s : State) (bs : List (List ℕ)) (o : List ℕ) (k : ℕ) : Type 0 where
  pub all : (calls t w s bs).out ≡ o
  pub answer : (b : List ℕ) → (fill_of t w (calls t w s bs).state b).answer ≡ ok (end k)
  pub window : (b : List ℕ) → (fill_of t w (calls t w s bs).state b).window ≡ b
  pub stays : (b b' : List ℕ) → fill_of t w (fill_of t w (calls t w s bs).state b).state b' ≡ call (ok (end k)) (fill_of t w (calls t w s bs).state b).state b'

-- once the lengths suffice
abbrev pub WindowsEnd : Type 0
WindowsEnd =
    (t : List ℕ) (w : ℕ) (xs : Trees) (q : ℕ) (s : State) → Bytes t → table_of t ≡ ok (found xs q) → Begins s → (bs : List (List ℕ)) → length (page xs w) ≤ room bs
    → Ended t w s bs (page xs w) (page_looked xs w)

-- a table that is refused changes no byte, and the state is given back as it came
abbrev pub WindowsRefused : Type 0
WindowsRefused = (t : List ℕ) (w n a : ℕ) (s : State) (b : List ℕ) → is_fresh s.cursor.phase ≡ true → table_of t ≡ refused n a → fill_of t w s b ≡ call (refused n a) s b

-- the text is what an ordinary print of the table writes into a buffer that has room for it, and the number is what it tells
abbrev pub WindowsPrinted : Type 0
WindowsPrinted =
    (t : List ℕ) (w n k : ℕ) (b : List ℕ) (s : State) → Bytes t → printing t w (length b) ≡ ok (text n k) → Begins s → (bs : List (List ℕ)) → Windowed t w s bs (take n (printed_into t w b)) k

-- and what an ordinary print refuses, but for room, the first call refuses
abbrev pub PrintRefused : Type 0
PrintRefused =
    (t : List ℕ) (w k n a : ℕ) (s : State) (b : List ℕ) → is_fresh s.cursor.phase ≡ true → printing t w k ≡ refused n a → (n ≢ print_room)
    → fill_of t w s b ≡ call (refused n a) s b
