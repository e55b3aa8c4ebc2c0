-- Trees that have a text which the lexer reads back: valid symbols and integers in range, at any depth and of any size. Assumes nothing.
use mathlib.Core.Path.{◌≡◌}
use mathlib.Core.Bool.{true}
use Prim.Native.Nat.{ℕ, ◌-◌}
use Rattle.table.specs.Trees.{Tree, Trees, symbol, integer, binding, list, none, more, is_symbol, InRange, Good, Goods}

unfoldable mutual
  pub Spellable : Tree → Type 0
  Spellable (symbol n) = is_symbol n ≡ true
  Spellable (integer z) = InRange z
  Spellable (binding n x) = (is_symbol n ≡ true) × Spellable x
  Spellable (list xs) = Spellables xs

  pub Spellables : Trees → Type 0
  Spellables none = Unit {0}
  Spellables (more x xs) = Spellable x × Spellables xs

-- good trees, as a table that is printed holds them
mutual
  unfolding Spellable Good

  pub spellable : (x : Tree) (d : ℕ) → Good x d → Spellable x
  spellable (symbol n) d g = g.0
  spellable (integer z) d g = g
  spellable (binding n x) d g = (g.1, spellable x (d - 1) g.3)
  spellable (list xs) d g = spellables xs (d - 1) g.2

  pub spellables : (xs : Trees) (d : ℕ) → Goods xs d → Spellables xs
  spellables none d g = tt
  spellables (more x xs) d g = (spellable x d g.0, spellables xs d g.1)
