-- What is promised of what is read (document 01, 'Trees and their table'): a good table, the source's own tokens, and no source refused that is the text of trees.
use Rattle.std.specs.Prelude.{◌≡◌, List, ℕ, ◌≤◌, length}
use Rattle.refusals.specs.Numbers.{table_limit, depth_limit}
use Rattle.refusals.specs.Result.{ok}
use Rattle.lexer.specs.Streams.{ends, tokens_of}
use Rattle.lexer.specs.BareTokens.{bare_tokens}
use Rattle.table.specs.Trees.{Trees, trees_tokens, Goods, records_of}
use Rattle.table.specs.Decoding.{found, table_of}
use Rattle.reader.specs.Grammar.{file_of}
use Rattle.reader.specs.Nesting.{NestedAll}

-- the records of these trees are a good table: the trees are good, it is not too long, and it is accepted as those trees
pub record GoodTable (xs : Trees) : Type 0 where
  pub trees : Goods xs depth_limit
  pub small : length (records_of xs) ≤ table_limit
  pub accepted : table_of (records_of xs) ≡ ok (found xs (length (records_of xs)))

-- what is read is a good table
abbrev pub ReadGood : Type 0
ReadGood = (s : List ℕ) (xs : Trees) → file_of s ≡ ok xs → GoodTable xs

-- its tokens are the source's in order
abbrev pub ReadTokens : Type 0
ReadTokens = (s : List ℕ) (xs : Trees) → file_of s ≡ ok xs → bare_tokens s (tokens_of s) ≡ trees_tokens xs (ends (ok tt))

-- a source whose tokens are those of some trees, nested at most 64 deep, is read as those trees
abbrev pub ReadAccepts : Type 0
ReadAccepts = (s : List ℕ) (xs : Trees) → NestedAll xs depth_limit → bare_tokens s (tokens_of s) ≡ trees_tokens xs (ends (ok tt)) → file_of s ≡ ok xs
