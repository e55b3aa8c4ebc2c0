-- Private, for contracts of the code's own functions: what is written into a room that may be too short.
use Rattle.std.specs.Prelude.{ℕ, ◌+◌, ◌≤◌, ◌≡◌, Bool, true, false, cond, List, [], ◌∷◌, ◌++◌, length}
use Rattle.refusals.specs.Numbers.{depth_limit}
use Rattle.refusals.specs.Result.{Result, ok}
use Rattle.lists.specs.Rooms.{Puts}
use Rattle.wide.specs.Text.{integer_text}
use Rattle.table.specs.Trees.{Tree, Trees, symbol, integer, binding, list, none, more}
use Rattle.table.specs.Costs.{costed}
use Rattle.table.specs.Decoding.{Found, tree_at}
use Rattle.printer.specs.Layout.{Wrap, bytes, nl, named, lay}
use Rattle.printer.specs.Looking.{looked}
use Rattle.printer.specs.PrivateTrees.{Right, tree_of, next_of}

-- the text of the tree that was found was put: the place past the tree, and the bytes that it takes
abbrev pub Written : (Tree → List ℕ) → Result (Found Tree) → ℕ → ℕ → List ℕ → List ℕ → Type 0
Written text y q n b b' = (q ≡ next_of y) × Puts (text (tree_of y)) n b b'

-- a tree on a single line, whatever the width, the indent and the column
unfoldable mutual
  pub line : Tree → List ℕ
  line (symbol n) = n
  line (integer z) = integer_text z
  line (binding n x) = named n ++ line x
  line (list xs) = 40 ∷ lines xs true

  pub lines : Trees → Bool → List ℕ
  lines none first = 41 ∷ []
  lines (more x xs) first = cond first [] (32 ∷ []) ++ (line x ++ lines xs false)

-- the closing parenthesis of a wrapped list, and the line break before it
abbrev pub closing : Bool → ℕ → List ℕ
closing empty i = cond empty [] (bytes (nl i)) ++ (41 ∷ [])

-- a tree as it is laid where lists are tested
abbrev pub laid : ℕ → ℕ → ℕ → Tree → List ℕ
laid w i c x = bytes (lay x Wrap w i c)

-- the records that the fits test looks at for it
abbrev pub seen : ℕ → ℕ → ℕ → Tree → ℕ
seen w i c x = looked x Wrap w i c

-- where a tree may be laid: in a checked table, so that the costs in it are right, and the numbers are small
abbrev pub Ready : List ℕ → ℕ → ℕ → ℕ → ℕ → ℕ → Type 0
Ready t d at w i c =
    (at ≤ length t) × (i + d ≤ depth_limit) × Right (tree_at t d at)
    × (c + length (laid w i c (tree_of (tree_at t d at))) ≤ 4294967296) × (costed t (tree_of (tree_at t d at)) at ≡ ok tt)

-- a tree and its LF, behind the LF between it and one before it
abbrev pub framed : Bool → ℕ → Tree → List ℕ
framed later w x = cond later (10 ∷ []) [] ++ (laid w 0 0 x ++ (10 ∷ []))
