-- The layout of trees at a width (document 01, 'How a table is laid out'): the bytes, and the column after them.
use Rattle.std.specs.Prelude.{ℕ, ◌+◌, ◌*◌, ◌-◌, Bool, true, false, cond, ◌&&◌, List, [], ◌∷◌, ◌++◌, length, replicate, leb}
use Rattle.wide.specs.Text.{integer_text}
use Rattle.table.specs.Trees.{Tree, Trees, symbol, integer, binding, list, none, more, cost}

-- bytes put, and the column after them
pub data Put : Type 0 where
  written : List ℕ → ℕ → Put

abbrev pub bytes : Put → List ℕ
bytes (written o c) = o

abbrev pub column : Put → ℕ
column (written o c) = c

-- the column grows by the bytes put
abbrev pub put : List ℕ → ℕ → Put
put o c = written o (c + length o)

-- a line break at indent i sets the column to 0 and then writes 4 spaces per indent, which the column does not count
unfoldable pub break_column : ℕ → ℕ
break_column i = 0

abbrev pub nl : ℕ → Put
nl i = written (10 ∷ replicate (4 * i) 32) (break_column i)

-- one thing after the other
abbrev pub next : Put → (ℕ → Put) → Put
next x k = written (bytes x ++ bytes (k (column x))) (column (k (column x)))

-- a list is tested, or laid on a single line
pub data Wrapping : Type 0 where
  Wrap SingleLine : Wrapping

-- a list fits if its cost k is at most width minus column, and never if the column is past the width
unfoldable pub fits_in : ℕ → ℕ → ℕ → Bool
fits_in w c k = leb c w && leb k (w - c)

abbrev pub fits : ℕ → ℕ → Tree → Bool
fits w c x = fits_in w c (cost x)

-- a list that fits is on a single line, and so is all inside it
abbrev pub wrapped : Wrapping → ℕ → ℕ → Tree → Wrapping
wrapped SingleLine w c x = SingleLine
wrapped Wrap w c x = cond (fits w c x) SingleLine Wrap

-- before an item: nothing before the first; on a single line a space; else a new line, the indent up by one
abbrev pub gap : Bool → Wrapping → ℕ → ℕ → Put
gap true m i c = written [] c
gap false SingleLine i c = put (32 ∷ []) c
gap false Wrap i c = nl (i + 1)

-- the indent of an item: up by one for each but the first
abbrev pub inner : Bool → Wrapping → ℕ → ℕ
inner true m i = i
inner false SingleLine i = i
inner false Wrap i = i + 1

-- before a closing parenthesis: a new line, unless it is on a single line or closes an empty list
abbrev pub back : Bool → Wrapping → ℕ → ℕ → Put
back true m i c = written [] c
back false SingleLine i c = written [] c
back false Wrap i c = nl i

-- a binding's name and ` @ `
abbrev pub named : List ℕ → List ℕ
named n = n ++ (32 ∷ 64 ∷ 32 ∷ [])

unfoldable mutual
  -- a tree in a mode at width w, indent i and column c
  pub lay : Tree → Wrapping → ℕ → ℕ → ℕ → Put
  lay (symbol n) m w i c = put n c
  lay (integer z) m w i c = put (integer_text z) c
  lay (binding n x) m w i c = next (put (named n) c) (λ c1. lay x m w i c1)
  lay (list xs) m w i c = next (put (40 ∷ []) c) (λ c1. items xs true (wrapped m w c (list xs)) w i c1)

  -- the items of a list from the first or from a later one, and its closing parenthesis
  pub items : Trees → Bool → Wrapping → ℕ → ℕ → ℕ → Put
  items none first m w i c = next (back first m i c) (put (41 ∷ []))
  items (more x xs) first m w i c =
      next (gap first m i c) (λ c1. next (lay x m w (inner first m i) c1) (λ c2. items xs false m w i c2))

-- each tree is followed by LF; one more LF stands between trees; the column starts at 0 for each tree
unfoldable pub page_from : Bool → Trees → ℕ → List ℕ
page_from later none w = []
page_from later (more x xs) w = cond later (10 ∷ []) [] ++ (bytes (lay x Wrap w 0 0) ++ (10 ∷ page_from true xs w))

abbrev pub page : Trees → ℕ → List ℕ
page xs w = page_from false xs w
