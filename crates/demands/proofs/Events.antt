-- All that the machine hands out over a source: the middle term between uncut lexing and feeding in pieces.
use Prim.Native.Nat.{ℕ, suc}
use mathlib.Core.List.{List, [], ◌∷◌}
use Rattle.refusals.specs.Result.{Result, ok, refused}
use Rattle.lexer.specs.Tokens.{Answer, end, is}
use Rattle.lexer.specs.Streams.{Stream, ends, then}
use Rattle.feeder.specs.declared.Mode.{Mode}
use Rattle.feeder.specs.declared.Mode.TheVariants.{Blank}
use Rattle.feeder.specs.Machine.{Turn, Go, Stay, Take, turn, closing}

-- the source's end
abbrev pub last : Answer → Stream
last (ok end) = ends (ok tt)
last (ok (is t)) = then t (ends (ok tt))
last (refused n a) = ends (refused n a)

-- after a turn: `again` takes the byte anew, `rest` goes on with the next
abbrev pub follow : Result Turn → Stream → (Mode → Stream) → Stream
follow (ok (Go m)) again rest = rest m
follow (ok (Stay t)) again rest = then t again
follow (ok (Take t)) again rest = then t (rest Blank)
follow (refused n a) again rest = ends (refused n a)

-- the bytes from p on, and the end; a byte that ends a token is taken once more, between tokens, where nothing is held that it could end
unfoldable pub events : Mode → ℕ → List ℕ → Stream
events m p [] = last (closing m p)
events m p (b ∷ bs) = follow (turn m p b) (follow (turn Blank p b) (ends (refused 0 0)) (λ k. events k (suc p) bs)) (λ k. events k (suc p) bs)
