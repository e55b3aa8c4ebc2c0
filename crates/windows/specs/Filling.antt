-- A call: the bytes that it gives, the state after it, and the window (document 02, 2/12).
use Rattle.std.specs.Prelude.{ℕ, zero, suc, ◌+◌, ◌-◌, cond, ◌||◌, List, [], ◌∷◌, ◌++◌, length, take, drop, ◌==◌, nat_le, Result as CodeResult, Ok, Err}
use Rattle.refusals.specs.Result.{Result, ok, refused, refused_by}
use Rattle.refusals.specs.declared.Refusal.{Refusal}
use Rattle.lists.specs.Over.{over}
use Rattle.table.specs.Trees.{Trees}
use Rattle.table.specs.Decoding.{Found, found, table_of}
use Rattle.windows.specs.Machine.{State, state, at_cursor, is_done, is_fresh, put_of, next_of, regiven, started}
use Rattle.windows.specs.declared.Answer.{Answer as CodeAnswer}
use Rattle.windows.specs.declared.Answer.TheVariants as code
use Rattle.windows.specs.declared.Filled.{Filled as CodeFilled}
use Rattle.windows.specs.declared.Moved.{Moved as CodeMoved}

-- bytes given, and the state after them
pub record Ran : Type 0 where
  pub out : List ℕ
  pub state : State

abbrev pub ran : List ℕ → State → Ran
ran o s = record { out = o; state = s }

-- what is left of the next put
abbrev pub rest : List ℕ → State → List ℕ
rest t s = drop s.cursor.given (put_of t s.cursor)

abbrev pub more_given : State → ℕ → State
more_given s n = at_cursor s (regiven s.cursor (s.cursor.given + n))

-- one put into a room of n bytes, or as much of it as there is room for
abbrev pub turn : List ℕ → ℕ → State → ℕ → Ran
turn t w s n = cond (nat_le (length (rest t s)) n) (ran (rest t s) (next_of t w s)) (ran (take n (rest t s)) (more_given s n))

-- k turns, or up to the end or the last byte of a room of n bytes
abbrev pub before : Ran → (State → Ran) → Ran
before r k = let x : Ran = k r.state in ran (r.out ++ x.out) x.state

unfoldable pub run : ℕ → List ℕ → ℕ → State → ℕ → Ran
run zero t w s n = ran [] s
run (suc k) t w s n = cond (is_done s.cursor.phase || n == 0) (ran [] s) (before (turn t w s n) (λ s'. run k t w s' (n - length (turn t w s n).out)))

-- a call that does not refuse gives the next bytes, so many of them, or answers the end, with the records that the fits test looked at (document 02, 3/12)
pub data Part : Type 0 where
  part : ℕ → Part
  end : ℕ → Part

abbrev pub Answer : Type 0
Answer = Result Part

-- always with the new state and the window
pub record Call : Type 0 where
  pub answer : Answer
  pub state : State
  pub window : List ℕ

abbrev pub call : Answer → State → List ℕ → Call
call a s b = record { answer = a; state = s; window = b }

-- into a window that has room: the bytes, and the rest of the window as it was
abbrev pub filled : Ran → List ℕ → Call
filled r b = call (ok (part (length r.out))) r.state (over r.out b)

-- a call that came with the state s and goes on from the state at: with no room it moves nothing
abbrev pub go_on : List ℕ → ℕ → State → State → List ℕ → Call
go_on t w s at b =
    cond (is_done at.cursor.phase) (call (ok (end at.cursor.looked)) at b)
    (cond (length b == 0) (call (ok (part 0)) s b) (filled (run (length b) t w at (length b)) b))

-- the first call refuses as the printer does but for room, and then gives the state back as it came
abbrev pub first : List ℕ → ℕ → State → List ℕ → Result (Found Trees) → Call
first t w s b (ok (found xs q)) = go_on t w s (started t w s) b
first t w s b (refused n a) = call (refused n a) s b

unfoldable pub fill_of : List ℕ → ℕ → State → List ℕ → Call
fill_of t w s b = cond (is_fresh s.cursor.phase) (first t w s b (table_of t)) (go_on t w s s b)

-- document 01's number and values for each case of the code's answer, and what a call returned, its stack by value or lent
abbrev pub answer_of : CodeResult CodeAnswer Refusal → Answer
answer_of (Ok (code.Bytes n)) = ok (part n)
answer_of (Ok (code.End k)) = ok (end k)
answer_of (Err r) = refused_by r

abbrev pub call_of : CodeFilled → List ℕ → Call
call_of f b = call (answer_of f.answer) f.state b

abbrev pub call_at : CodeMoved → List ℕ → List ℕ → Call
call_at m s b = call (answer_of m.answer) (state m.cursor s) b

-- ---- calls one after the other on a table and a width that stay, each with its window: the bytes given, joined, and the state after them

abbrev pub given_by : Answer → ℕ
given_by (ok (part n)) = n
given_by (ok (end k)) = 0
given_by (refused n a) = 0

abbrev pub handed : Call → Ran
handed c = ran (take (given_by c.answer) c.window) c.state

unfoldable pub calls : List ℕ → ℕ → State → List (List ℕ) → Ran
calls t w s [] = ran [] s
calls t w s (b ∷ bs) = before (handed (fill_of t w s b)) (λ s'. calls t w s' bs)

-- what a call with a window of n bytes answers where the bytes o are left of a print whose fits test looks at k records
abbrev pub answer_for : List ℕ → ℕ → ℕ → Answer
answer_for [] k n = ok (end k)
answer_for (b ∷ o) k n = ok (part (length (take n (b ∷ o))))

-- the bytes that the windows hold together
unfoldable pub room : List (List ℕ) → ℕ
room [] = 0
room (b ∷ bs) = length b + room bs
