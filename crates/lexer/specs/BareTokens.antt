-- Tokens without places and spellings (document 01, 'Trees and their table'): symbols by their bytes, literals by their integers.
use Rattle.std.specs.Prelude.{ℕ, List, ℤ, take, drop}
use Rattle.lexer.specs.Tokens.{Kind, lparen, rparen, at_sign as at-token, symbol, int}
use Rattle.lexer.specs.Streams.{Series, ends, then, Stream}

pub data Bare : Type 0 where
  open_paren close_paren at_sign : Bare
  name : List ℕ → Bare
  number : ℤ → Bare

abbrev pub bare_of : List ℕ → ℕ → ℕ → Kind → Bare
bare_of s st n lparen = open_paren
bare_of s st n rparen = close_paren
bare_of s st n at-token = at_sign
bare_of s st n symbol = name (take n (drop st s))
bare_of s st n (int z) = number z

-- the tokens of the source s, bare
unfoldable pub bare_tokens : List ℕ → Stream → Series Bare
bare_tokens s (ends r) = ends r
bare_tokens s (then t k) = then (bare_of s t.start t.size t.kind) (bare_tokens s k)
