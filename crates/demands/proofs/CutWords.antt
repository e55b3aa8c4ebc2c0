-- THEOREM cut_anywhere_words: a host of the door for C gets, as words, the tokens, places and refusal of the uncut source. Assumes nothing.
use Prim.Native.Nat.{ℕ, zero, suc}
use mathlib.Core.Path.{◌≡◌, refl, ap, ◌∙◌}
use mathlib.Core.Bool.{cond}
use mathlib.Core.List.{List, [], ◌∷◌}
use lib.Dec.{eqb}
use lib.ListN.{drop, get_or}
use Rattle.refusals.specs.Result.{Result, ok, refused}
use Rattle.lexer.specs.Tokens.{Kind, lparen, rparen, at_sign, symbol, int}
use Rattle.lexer.specs.Streams.{Stream, ends}
use Rattle.feeder.specs.declared.State.{State}
use Rattle.feeder.specs.Feeding.{Reply, more, finish, ready, Fed, fresh_state, feed_of, close_of}
use Rattle.words.specs.Words.{kind_word, more_answer, token_words, reply_words, fed_words}
use Rattle.words.proofs.Injective.{used_back}
use Rattle.tulbazhik_feed.specs.States.{pack_of}
use Rattle.tulbazhik_feed.proofs.Packed.{PhaseFits, back}
use Rattle.demands.specs.Driver.{after, drive_by, drive}
use Rattle.demands.specs.DriverWords.{told, last_kind, after_words, lost, drive_words, stream_words, CutAnywhereWords}
use Rattle.demands.proofs.CutAnywhere.{cut_anywhere}
use Rattle.demands.proofs.PackedStates.{feed_fits, close_fits}

-- ---- the host reads from the words what the answer was

-- a token's word 0 is no other answer's
kind_read : (k : Kind) (x y z : List (List ℕ)) → cond (eqb (kind_word k) more_answer) x (cond (last_kind (kind_word k)) y z) ≡ z
kind_read lparen x y z = refl
kind_read rparen x y z = refl
kind_read at_sign x y z = refl
kind_read symbol x y z = refl
kind_read (int i) x y z = refl

read : (r : Result Reply) (u : ℕ) (x y : List (List ℕ)) (a b : Stream) → x ≡ stream_words a → y ≡ stream_words b → after_words (reply_words r u) x y ≡ stream_words (after r a b)
unfolding reply_words stream_words
read (ok more) u x y a b e f = e
read (ok finish) u x y a b e f = refl
read (ok (ready t)) u x y a b e f = kind_read t.kind _ _ _ ∙ ap (λ (l : List (List ℕ)). told (token_words t 0) ∷ l) f
read (refused n c) u x y a b e f = refl

-- ---- and the words that it keeps mean the state

closed_on : (n : ℕ) (f : Fed) → drive_words n (pack_of f.state) [] ≡ stream_words (drive n f.state [])
    → after_words (fed_words f) lost (drive_words n (pack_of f.state) []) ≡ stream_words (after f.reply (ends (refused 0 0)) (drive n f.state []))
unfolding stream_words
closed_on n f e = read f.reply f.used _ _ (ends (refused 0 0)) (drive n f.state []) refl e

fed_on : (n : ℕ) (q : List ℕ) (ps : List (List ℕ)) (f : Fed) → ((rs : List (List ℕ)) → drive_words n (pack_of f.state) rs ≡ stream_words (drive n f.state rs))
    → after_words (fed_words f) (drive_words n (pack_of f.state) ps) (drive_words n (pack_of f.state) (drop (get_or (fed_words f) 5 0) q ∷ ps))
    ≡ stream_words (after f.reply (drive n f.state ps) (drive n f.state (drop f.used q ∷ ps)))
fed_on n q ps f ih =
    read f.reply f.used _ _ (drive n f.state ps) (drive n f.state (drop f.used q ∷ ps)) (ih ps)
    (ap (λ (u : ℕ). drive_words n (pack_of f.state) (drop u q ∷ ps)) (used_back f.reply f.used) ∙ ih (drop f.used q ∷ ps))

-- whatever is left, from any state whose numbers fit their types
pub words_driven : (n : ℕ) (s : State) (ps : List (List ℕ)) → PhaseFits s.phase → drive_words n (pack_of s) ps ≡ stream_words (drive n s ps)
unfolding drive_words drive_by stream_words
words_driven zero s ps h = refl
words_driven (suc n) s [] h = rw (back s h) (closed_on n (close_of s) (words_driven n (close_of s).state [] (close_fits s h)))
words_driven (suc n) s (q ∷ ps) h =
    rw (back s h) (fed_on n q ps (feed_of s q) (λ rs. words_driven n (feed_of s q).state rs (feed_fits s q h)))

pub cut_anywhere_words : CutAnywhereWords
cut_anywhere_words s ps n e l c = words_driven n fresh_state ps tt ∙ ap stream_words (cut_anywhere s ps n e l c)
