-- The host that feeds a source in pieces, over the contracts' own definitions of a call, and what it gets: THEOREM cut_anywhere.
use Rattle.std.specs.Prelude.{◌≡◌, ℕ, zero, suc, ◌+◌, ◌*◌, ◌≤◌, ◌<◌, List, [], ◌∷◌, ◌++◌, drop, length}
use Rattle.refusals.specs.Numbers.{source_limit}
use Rattle.refusals.specs.Result.{Result, ok, refused}
use Rattle.lexer.specs.Streams.{Stream, ends, then, tokens_of}
use Rattle.feeder.specs.declared.State.{State}
use Rattle.feeder.specs.Feeding.{Reply, more, finish, ready, Fed, fresh_state, feed_of, close_of}

-- what a call's answer makes of the stream: "more" goes on by `next`, a token by `again`
abbrev pub after : Result Reply → Stream → Stream → Stream
after (ok more) next again = next
after (ok finish) next again = ends (ok tt)
after (ok (ready t)) next again = then t again
after (refused n a) next again = ends (refused n a)

-- the pieces in order, the rest of a piece again after a token; then a close, until the end or a refusal. At most n calls;
-- 0 is the number of no refusal, and a close never answers "more"
unfoldable pub drive_by : (State → List ℕ → Fed) → (State → Fed) → ℕ → State → List (List ℕ) → Stream
drive_by feed close zero s ps = ends (refused 0 0)
drive_by feed close (suc n) s [] = after (close s).reply (ends (refused 0 0)) (drive_by feed close n (close s).state [])
drive_by feed close (suc n) s (q ∷ ps) =
    after (feed s q).reply (drive_by feed close n (feed s q).state ps) (drive_by feed close n (feed s q).state (drop (feed s q).used q ∷ ps))

-- over the feed and the close that the contracts promise
abbrev pub drive : ℕ → State → List (List ℕ) → Stream
drive n s ps = drive_by feed_of close_of n s ps

-- the source that the pieces make up
abbrev pub joined : List (List ℕ) → List ℕ
joined [] = []
joined (q ∷ ps) = q ++ joined ps

-- a source of at most 1,048,576 bytes, cut anywhere, fed and then closed, yields the tokens, places and refusal of the uncut source, in at most
-- two calls a byte, one a piece, and two closes
abbrev pub CutAnywhere : Type 0
CutAnywhere =
    (s : List ℕ) (ps : List (List ℕ)) (n : ℕ) → joined ps ≡ s → length s ≤ source_limit → 2 * length s + length ps + 1 < n → drive n fresh_state ps ≡ tokens_of s
