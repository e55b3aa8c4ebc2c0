-- A call on any table, width, state and window (document 02, 2/12): THEOREMS given_within, no_room, end_stays, refused_at_first, never_room.
use Rattle.std.specs.Prelude.{◌≡◌, ℕ, ◌≤◌, true, List, length, drop, ◌≢◌}
use Rattle.refusals.specs.Numbers.{print_room}
use Rattle.refusals.specs.Result.{ok, refused}
use Rattle.table.specs.Decoding.{table_of}
use Rattle.windows.specs.Machine.{State, is_fresh}
use Rattle.windows.specs.Filling.{part, end, Call, call, fill_of, given_by}

-- a call reports no more bytes than its window has, and past those it reports the window stays as it was
pub record Within (c : Call) (b : List ℕ) : Type 0 where
  pub few : given_by c.answer ≤ length b
  pub past : drop (given_by c.answer) c.window ≡ drop (given_by c.answer) b
  pub size : length c.window ≡ length b

abbrev pub GivenWithin : Type 0
GivenWithin = (t : List ℕ) (w : ℕ) (s : State) (b : List ℕ) → Within (fill_of t w s b) b

-- with no room, where the end is not answered, 0 bytes are given and nothing is moved
abbrev pub NoRoom : Type 0
NoRoom = (t : List ℕ) (w : ℕ) (s : State) (b : List ℕ) (n : ℕ) → length b ≡ 0 → (fill_of t w s b).answer ≡ ok (part n) → fill_of t w s b ≡ call (ok (part 0)) s b

-- the end is answered for good: each later call, whatever its window, answers it with the same number and changes nothing
abbrev pub EndStays : Type 0
EndStays =
    (t : List ℕ) (w : ℕ) (s : State) (b b' : List ℕ) (k : ℕ) → (fill_of t w s b).answer ≡ ok (end k)
    → fill_of t w (fill_of t w s b).state b' ≡ call (ok (end k)) (fill_of t w s b).state b'

-- only the first call refuses, for a fault of the table, and then it changes no byte and gives the state back as it came
abbrev pub RefusedAtFirst : Type 0
RefusedAtFirst =
    (t : List ℕ) (w : ℕ) (s : State) (b : List ℕ) (n a : ℕ) → (fill_of t w s b).answer ≡ refused n a
    → (is_fresh s.cursor.phase ≡ true) × (table_of t ≡ refused n a) × (fill_of t w s b ≡ call (refused n a) s b)

-- and never for room
abbrev pub NeverRoom : Type 0
NeverRoom = (t : List ℕ) (w : ℕ) (s : State) (b : List ℕ) (n a : ℕ) → (fill_of t w s b).answer ≡ refused n a → n ≢ print_room
