-- Trees nested at most so deep (document 01, 'What is ported and what is added': at most 64 lists and bindings open at once).
use Rattle.std.specs.Prelude.{ℕ, ◌-◌, ◌<◌}
use Rattle.table.specs.Trees.{Tree, Trees, symbol, integer, binding, list, none, more}

-- with d lists and bindings still to be opened
unfoldable mutual
  pub Nested : Tree → ℕ → Type 0
  Nested (symbol n) d = Unit {0}
  Nested (integer z) d = Unit {0}
  Nested (binding n x) d = (0 < d) × Nested x (d - 1)
  Nested (list xs) d = (0 < d) × NestedAll xs (d - 1)

  pub NestedAll : Trees → ℕ → Type 0
  NestedAll none d = Unit {0}
  NestedAll (more x xs) d = Nested x d × NestedAll xs d
