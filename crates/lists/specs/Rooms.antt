-- A room that may be too short for what is put there.
use Rattle.std.specs.Prelude.{ℕ, ◌≤◌, ◌≡◌, List, length}
use Rattle.lists.specs.Over.{over}

-- a room that has the bytes o holds them at its front afterwards; a shorter one may hold anything
abbrev pub Filled : List ℕ → List ℕ → List ℕ → Type 0
Filled o b b' = length o ≤ length b → b' ≡ over o b

-- the n bytes o were put into a room
abbrev pub Puts : List ℕ → ℕ → List ℕ → List ℕ → Type 0
Puts o n b b' = (n ≡ length o) × Filled o b b'
