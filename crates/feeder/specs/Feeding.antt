-- A call over a piece, a close, and the state between them (document 01, 'Feeding in pieces').
use Rattle.std.specs.Prelude.{ℕ, suc, List, [], ◌∷◌, Result as CodeResult, Ok, Err}
use Rattle.refusals.specs.Numbers.{fed_after_close}
use Rattle.refusals.specs.declared.Refusal.{Refusal}
use Rattle.refusals.specs.Result.{Result, ok, refused, refused_by}
use Rattle.lexer.specs.Tokens.{Token, Answer, end, is, token_of}
use Rattle.feeder.specs.Machine.{Mode, Blank, Turn, Go, Stay, Take, step, closing}
use Rattle.feeder.specs.declared.Phase.{Phase}
use Rattle.feeder.specs.declared.Phase.TheVariants.{Live, Closed, Refused}
use Rattle.feeder.specs.declared.State.{State}
use Rattle.feeder.specs.declared.Answer.{Answer as CodeAnswer}
use Rattle.feeder.specs.declared.Answer.TheVariants as code
use Rattle.feeder.specs.declared.Fed.{Fed as CodeFed}

-- a call that is not refused answers "more", the end, or a token
pub data Reply : Type 0 where
  more finish : Reply
  ready : Token → Reply

-- always with the bytes consumed and the new state
pub record Fed : Type 0 where
  pub reply : Result Reply
  pub used : ℕ
  pub state : State

abbrev pub fed : Result Reply → ℕ → State → Fed
fed a n s = record { reply = a; used = n; state = s }

-- at work at a place; closed there; refused there, with the refusal that every later call gives again
abbrev pub live : Mode → ℕ → State
live m p = record { phase = Live m; place = p }

abbrev pub closed : ℕ → State
closed p = record { phase = Closed; place = p }

abbrev pub dead : ℕ → ℕ → ℕ → State
dead n a p = record { phase = Refused (record { number = n; place = a }); place = p }

-- the fresh state
abbrev pub fresh_state : State
fresh_state = live Blank 0

-- one byte more had been consumed
abbrev pub plus : Fed → Fed
plus f = fed f.reply (suc f.used) f.state

-- a turn at p; the bytes after its byte go on by `rest`
abbrev pub stepped : Result Turn → ℕ → (Mode → Fed) → Fed
stepped (ok (Go m)) p rest = plus (rest m)
stepped (ok (Stay t)) p rest = fed (ok (ready t)) 0 (live Blank p)
stepped (ok (Take t)) p rest = fed (ok (ready t)) 1 (live Blank (suc p))
stepped (refused n a) p rest = fed (refused n a) 0 (dead n a p)

-- a live state is fed a piece
unfoldable pub feed_from : Mode → ℕ → List ℕ → Fed
feed_from m p [] = fed (ok more) 0 (live m p)
feed_from m p (b ∷ bs) = stepped (step m p b) p (λ k. feed_from k (suc p) bs)

-- after a close feeding is refused, and after a refusal it is refused again; nothing is consumed and the state stays
abbrev pub feed_in : Phase → ℕ → List ℕ → Fed
feed_in (Live m) p bs = feed_from m p bs
feed_in Closed p bs = fed (refused fed_after_close p) 0 (closed p)
feed_in (Refused r) p bs = fed (refused_by r) 0 (record { phase = Refused r; place = p })

unfoldable pub feed_of : State → List ℕ → Fed
feed_of s bs = feed_in s.phase s.place bs

-- the first close
abbrev pub shut : Answer → ℕ → Fed
shut (ok end) p = fed (ok finish) 0 (closed p)
shut (ok (is t)) p = fed (ok (ready t)) 0 (closed p)
shut (refused n a) p = fed (refused n a) 0 (dead n a p)

abbrev pub close_in : Phase → ℕ → Fed
close_in (Live m) p = shut (closing m p) p
close_in Closed p = fed (ok finish) 0 (closed p)
close_in (Refused r) p = fed (refused_by r) 0 (record { phase = Refused r; place = p })

unfoldable pub close_of : State → Fed
close_of s = close_in s.phase s.place

-- document 01's number and values for each case of the code's answer
abbrev pub reply_of : CodeResult CodeAnswer Refusal → Result Reply
reply_of (Ok code.More) = ok more
reply_of (Ok code.End) = ok finish
reply_of (Ok (code.Token t s)) = ok (ready (token_of t s))
reply_of (Err r) = refused_by r

-- what a call returned
abbrev pub fed_of : CodeFed → Fed
fed_of f = fed (reply_of f.out.answer) f.out.used f.state
