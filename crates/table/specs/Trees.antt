-- Trees (document 01, 'Trees and their table'): what they are, which of them are good, their tokens, their costs, and their records in preorder.
use Rattle.std.specs.Prelude.{◌≡◌, Bool, true, false, ◌&&◌, List, [], ◌∷◌, ◌++◌, ℕ, suc, ◌+◌, ◌-◌, ◌^◌, ◌<◌, ℤ, pos, negsuc, length}
use Rattle.classes.specs.Classes.{class_of, symbol_first, symbol_other}
use Rattle.wide.specs.Bytes.{le, wide_bytes}
use Rattle.wide.specs.Text.{integer_text}
use Rattle.records.specs.Records.{head_len, record_of}
use Rattle.table.specs.Kinds.{symbol_kind, integer_kind, binding_kind, list_kind}
use Rattle.lexer.specs.Streams.{Series, then}
use Rattle.lexer.specs.BareTokens.{Bare, open_paren, close_paren, at_sign, name, number}

-- a tree is a symbol, an integer, a symbol then `@` then a tree, or `(` trees `)`; a file is any number of trees
mutual
  pub data Tree : Type 0 where
    symbol : List ℕ → Tree
    integer : ℤ → Tree
    binding : List ℕ → Tree → Tree
    list : Trees → Tree

  pub data Trees : Type 0 where
    none : Trees
    more : Tree → Trees → Trees

abbrev pub count : Trees → ℕ
count none = 0
count (more x xs) = suc (count xs)

-- the tokens of a tree in order, before k
unfoldable mutual
  pub tree_tokens : Tree → Series Bare → Series Bare
  tree_tokens (symbol n) k = then (name n) k
  tree_tokens (integer z) k = then (number z) k
  tree_tokens (binding n x) k = then (name n) (then at_sign (tree_tokens x k))
  tree_tokens (list xs) k = then open_paren (trees_tokens xs (then close_paren k))

  pub trees_tokens : Trees → Series Bare → Series Bare
  trees_tokens none k = k
  trees_tokens (more x xs) k = tree_tokens x (trees_tokens xs k)

-- bytes that a symbol runs on over
unfoldable pub runs_on : List ℕ → Bool
runs_on [] = true
runs_on (b ∷ n) = symbol_other (class_of b) && runs_on n

-- bytes that the lexer reads as one symbol
unfoldable pub is_symbol : List ℕ → Bool
is_symbol [] = false
is_symbol (b ∷ n) = symbol_first (class_of b) && runs_on n

-- an integer of -2^127 .. 2^127-1
abbrev pub InRange : ℤ → Type 0
InRange (pos n) = n < 2 ^ 127
InRange (negsuc n) = n < 2 ^ 127

-- with d lists and bindings still to be opened: valid symbols, integers in range, nesting, and lengths and counts that fit their bytes
unfoldable mutual
  pub Good : Tree → ℕ → Type 0
  Good (symbol n) d = (is_symbol n ≡ true) × (length n + head_len < 2 ^ 32)
  Good (integer z) d = InRange z
  Good (binding n x) d = (0 < d) × (is_symbol n ≡ true) × (length n + head_len < 2 ^ 32) × Good x (d - 1)
  Good (list xs) d = (0 < d) × (count xs < 2 ^ 32) × Goods xs (d - 1)

  pub Goods : Trees → ℕ → Type 0
  Goods none d = Unit {0}
  Goods (more x xs) d = Good x d × Goods xs d

-- costs add over the subtree: atom its length; binding name plus 3; list items plus 1 (document 01, 'How a table is laid out')
unfoldable mutual
  pub cost : Tree → ℕ
  cost (symbol n) = length n
  cost (integer z) = length (integer_text z)
  cost (binding n x) = length n + 3 + cost x
  cost (list xs) = count xs + 1 + costs xs

  pub costs : Trees → ℕ
  costs none = 0
  costs (more x xs) = cost x + costs xs

-- a symbol: its bytes; an integer: 16 bytes; a binding: the name, its tree follows; a list: the item count and its cost (document 02, 7/12), items follow
unfoldable mutual
  pub records : Tree → List ℕ
  records (symbol n) = record_of symbol_kind n
  records (integer z) = record_of integer_kind (wide_bytes z)
  records (binding n x) = record_of binding_kind n ++ records x
  records (list xs) = record_of list_kind (le 4 (count xs) ++ le 4 (cost (list xs))) ++ records_of xs

  pub records_of : Trees → List ℕ
  records_of none = []
  records_of (more x xs) = records x ++ records_of xs
