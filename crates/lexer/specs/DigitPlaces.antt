-- The place that a refused digit has (document 02, 1/12), without the walk that finds it. THEOREM digit_named: a literal that is refused for a digit names the
-- first such digit from the left.
use Rattle.std.specs.Prelude.{ℕ, suc, ◌+◌, ◌-◌, ◌≤◌, ◌<◌, ◌≡◌, List, true, length, get_or, take}
use Rattle.refusals.specs.declared.Refusal.{Refusal}
use Rattle.classes.specs.Classes.{literal_byte}
use Rattle.lexer.specs.Literals.{Reading, Empty, Bad, Number, reading}

-- no digit was refused
abbrev pub Unrefused : Reading → Type 0
Unrefused Empty = Unit {0}
Unrefused (Bad q) = ⊥
Unrefused (Number n) = Unit {0}

-- the digits l stand at i and are read in radix r, after x: the place named is that of one of them; those before it are not refused; with it they are, as they are
-- whatever follows
pub record Named (r : ℕ) (x : Reading) (l : List ℕ) (i : ℕ) (q : Refusal) : Type 0 where
  pub from : i ≤ q.place
  pub within : q.place < i + length l
  pub one : literal_byte (get_or l (q.place - i) 0) ≡ true
  pub before : Unrefused (reading r x (take (q.place - i) l) i)
  pub with : reading r x (take (suc (q.place - i)) l) i ≡ Bad q

abbrev pub DigitNamed : Type 0
DigitNamed = (r : ℕ) (l : List ℕ) (i : ℕ) (q : Refusal) → reading r Empty l i ≡ Bad q → Named r Empty l i q
