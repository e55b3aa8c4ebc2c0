-- The host that feeds a source in pieces through the door for C: it keeps the state's words, and reads the answer's words.
use Rattle.std.specs.Prelude.{ℕ, zero, suc, ◌+◌, ◌*◌, ◌≤◌, ◌<◌, ◌≡◌, Bool, cond, ◌||◌, List, [], ◌∷◌, eqb, drop, get_or, length, take}
use Rattle.refusals.specs.Numbers.{source_limit}
use Rattle.refusals.specs.Result.{ok, refused}
use Rattle.lexer.specs.Streams.{Stream, ends, then, tokens_of}
use Rattle.feeder.specs.declared.State.{State}
use Rattle.feeder.specs.Feeding.{fresh_state, feed_of, close_of}
use Rattle.words.specs.Words.{end_answer, refused_answer, more_answer, token_words, end_words, refused_words, fed_words}
use Rattle.tulbazhik_feed.specs.States.{pack_of, unpack_of, state_words}
use Rattle.demands.specs.Driver.{joined}
use Rattle.demands.specs.Rules.{Reached}

-- the words lent as `state` and `answer`, after the calls that the door promises
abbrev pub fed_state : List ℕ → List ℕ → List ℕ
fed_state w q = state_words (feed_of (unpack_of w) q)

abbrev pub fed_answer : List ℕ → List ℕ → List ℕ
fed_answer w q = fed_words (feed_of (unpack_of w) q)

abbrev pub closed_state : List ℕ → List ℕ
closed_state w = state_words (close_of (unpack_of w))

abbrev pub closed_answer : List ℕ → List ℕ
closed_answer w = fed_words (close_of (unpack_of w))

-- an answer apart from the bytes consumed, which go by the cuts: kind, start or place, length or number, and an integer's two words
abbrev pub told : List ℕ → List ℕ
told o = take 5 o

abbrev pub last_kind : ℕ → Bool
last_kind k = eqb k end_answer || eqb k refused_answer

-- what an answer's words make of those that the host gets: "more" goes on by `next`, the end and a refusal are the last, a token goes on by `again`
abbrev pub after_words : List ℕ → List (List ℕ) → List (List ℕ) → List (List ℕ)
after_words o next again = cond (eqb (get_or o 0 0) more_answer) next (cond (last_kind (get_or o 0 0)) (told o ∷ []) (told o ∷ again))

-- 0 is the number of no refusal: too few calls, or a close that answers "more"
abbrev pub lost : List (List ℕ)
lost = told (refused_words 0 0 0) ∷ []

-- the pieces in order, the rest of a piece again after a token, by the bytes consumed in word 5; then a close, until the end or a refusal. At most n calls
unfoldable pub drive_words : ℕ → List ℕ → List (List ℕ) → List (List ℕ)
drive_words zero w ps = lost
drive_words (suc n) w [] = after_words (closed_answer w) lost (drive_words n (closed_state w) [])
drive_words (suc n) w (q ∷ ps) =
    after_words (fed_answer w q) (drive_words n (fed_state w q) ps) (drive_words n (fed_state w q) (drop (get_or (fed_answer w q) 5 0) q ∷ ps))

-- a source's tokens and its end or refusal, as words
unfoldable pub stream_words : Stream → List (List ℕ)
stream_words (ends (ok x)) = told (end_words 0) ∷ []
stream_words (ends (refused n a)) = told (refused_words n a 0) ∷ []
stream_words (then t r) = told (token_words t 0) ∷ stream_words r

-- every state that a feeder can be in comes back from its words, so that the words that a host keeps mean the state
abbrev pub PackedStates : Type 0
PackedStates = (n : ℕ) (s : State) → Reached n s → unpack_of (pack_of s) ≡ s

-- a source of at most 1,048,576 bytes, cut anywhere, yields as words the tokens, places and refusal of the uncut source
abbrev pub CutAnywhereWords : Type 0
CutAnywhereWords =
    (s : List ℕ) (ps : List (List ℕ)) (n : ℕ) → joined ps ≡ s → length s ≤ source_limit → 2 * length s + length ps + 1 < n
    → drive_words n (pack_of fresh_state) ps ≡ stream_words (tokens_of s)
