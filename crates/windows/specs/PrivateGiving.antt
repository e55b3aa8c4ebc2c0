-- Private, for contracts of the code's own functions: what is put into a window, and where a call goes on from.
use Rattle.std.specs.Prelude.{◌≡◌, ℕ, ◌+◌, cond, List, length, take, drop, nat_le, min, Some, None, Result as CodeResult, Ok, Err}
use Rattle.refusals.specs.Result.{Result, ok, refused_by, and_then}
use Rattle.refusals.specs.declared.Refusal.{Refusal}
use Rattle.lists.specs.Over.{over}
use Rattle.table.specs.Decoding.{table_of, judged}
use Rattle.windows.specs.Machine.{Cursor, state, is_fresh, start_cursor}
use Rattle.windows.specs.Filling.{Ran}
use Rattle.windows.specs.declared.give.Gave.{Gave}
use Rattle.windows.specs.declared.Ran.{Ran as CodeRan}

-- of `rest` bytes from the place `from` on as many as a room of n bytes holds, and where what is then left begins
abbrev pub part_of : ℕ → ℕ → ℕ → Gave
part_of rest from n = record { n = min rest n; left = cond (nat_le rest n) None (Some (from + n)) }

-- of a put from the place `from` on, as many bytes as there is room for, at the front of the window
abbrev pub Given : List ℕ → ℕ → List ℕ → List ℕ → Gave → Type 0
Given p from b b' r = (r ≡ part_of (length (drop from p)) from (length b)) × (b' ≡ over (take (length b) (drop from p)) b)

-- the bytes of a run, at the front of the window, and the state after it, whose stack was lent
abbrev pub Runs : Ran → List ℕ → List ℕ → List ℕ → CodeRan → Type 0
Runs x b b' s r = (r.n ≡ length x.out) × (state r.cursor s ≡ x.state) × (b' ≡ over x.out b)

-- a call goes on where the last one ended, and the first one before the first tree of a good table
unfoldable pub begins : List ℕ → ℕ → Cursor → Result Cursor
begins t w c = cond (is_fresh c.phase) (and_then (judged (table_of t)) (λ u. ok (start_cursor (length t) w))) (ok c)

abbrev pub begun_of : CodeResult Cursor Refusal → Result Cursor
begun_of (Ok c) = ok c
begun_of (Err r) = refused_by r
