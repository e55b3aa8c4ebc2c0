-- The tokens of a whole source in order, and how they end.
use Rattle.std.specs.Prelude.{ℕ, zero, suc, List, length}
use Rattle.refusals.specs.Result.{Result, ok, refused}
use Rattle.lexer.specs.Tokens.{Token, past, Answer, end, is}
use Rattle.lexer.specs.Lexing.{next_token}

-- things in order, then the end or a refusal's number and place
pub data Series (A : Type 0) : Type 0 where
  ends : Result (Unit {0}) → Series A
  then : A → Series A → Series A

abbrev pub Stream : Type 0
Stream = Series Token

abbrev pub onward : Answer → (Token → Stream) → Stream
onward (ok end) k = ends (ok tt)
onward (ok (is t)) k = then t (k t)
onward (refused n a) k = ends (refused n a)

-- from a place on, by at most n calls; 0 is the number of no refusal
unfoldable pub tokens_from : ℕ → List ℕ → ℕ → Stream
tokens_from zero s i = ends (refused 0 0)
tokens_from (suc n) s i = onward (next_token s i) (λ t. tokens_from n s (past t))

-- each token takes a byte, so that one call more than bytes is enough
abbrev pub tokens_of : List ℕ → Stream
tokens_of s = tokens_from (suc (length s)) s 0
