-- The rules of a call (document 01, 'Feeding in pieces'), as one statement over the contracts' own definitions of a feed and a close.
use Rattle.std.specs.Prelude.{◌≡◌, List, [], ◌∷◌, Bool, true, false, ℕ, suc, ◌+◌, ◌-◌, ◌≤◌, ◌<◌, length, get_or, take}
use Rattle.refusals.specs.Numbers.{source_limit, too_long, open_comment, no_digits, fed_after_close}
use Rattle.refusals.specs.Result.{Result, ok, refused}
use Rattle.classes.specs.Classes.{class_of, symbol_other, literal_byte}
use Rattle.wide.specs.Value.{split}
use Rattle.lexer.specs.declared.literal.Reading.{Reading}
use Rattle.lexer.specs.declared.literal.Reading.TheVariants.{Number}
use Rattle.lexer.specs.Tokens.{Token, token, past, lparen, rparen, at_sign, symbol}
use Rattle.lexer.specs.Literals.{grow, concluded}
use Rattle.feeder.specs.declared.Half.{Half}
use Rattle.feeder.specs.declared.Mode.{Mode}
use Rattle.feeder.specs.declared.Mode.TheVariants.{Blank, Line, Opener, Symbol, Sign, Block, Zero, Digits}
use Rattle.feeder.specs.declared.Phase.TheVariants.{Live}
use Rattle.feeder.specs.declared.State.{State}
use Rattle.feeder.specs.Machine.{step, deeper}
use Rattle.feeder.specs.Feeding.{Reply, more, finish, ready, fed, live, closed, dead, fresh_state, feed_of, shut, close_of}

abbrev pub Unrefused : Result Reply → Type 0
Unrefused (ok r) = Unit {0}
Unrefused (refused n a) = ⊥

-- a state reached from the fresh one by feeds and closes, and the bytes consumed so far
pub data Reached : ℕ → State → Type 0 where
  fresh : Reached 0 fresh_state
  feeds : (n : ℕ) (s : State) (q : List ℕ) → Reached n s → Reached (n + (feed_of s q).used) (feed_of s q).state
  closes : (n : ℕ) (s : State) → Reached n s → Reached (n + (close_of s).used) (close_of s).state

-- the same before any close or refusal
pub data Open : ℕ → State → Type 0 where
  begins : Open 0 fresh_state
  goes_on : (n : ℕ) (s : State) (q : List ℕ) → Open n s → Unrefused (feed_of s q).reply → Open (n + (feed_of s q).used) (feed_of s q).state

-- a feed's answer to a non-empty piece, of which u bytes were consumed; a feed never answers "end"
abbrev pub Moves : Result Reply → ℕ → Type 0
Moves (ok more) u = 1 ≤ u
Moves (ok finish) u = ⊥
Moves (ok (ready t)) u = Unit {0}
Moves (refused n a) u = Unit {0}

-- the byte at u of the piece q raised the refusal n at a: those before it were consumed without one
pub record Raised (m : Mode) (p : ℕ) (q : List ℕ) (n a u : ℕ) : Type 0 where
  pub mode : Mode
  pub before : feed_of (live m p) (take u q) ≡ fed (ok more) u (live mode (p + u))
  pub byte : u < length q
  pub raises : step mode (p + u) (get_or q u 0) ≡ refused n a

pub record Rules : Type 0 where
  -- On every state.
  -- 'on any other a call still ends, and consumes no more than its piece'
  pub at_most : (s : State) (q : List ℕ) → (feed_of s q).used ≤ length q
  -- '"More" means the whole piece was consumed.'
  pub whole : (s : State) (q : List ℕ) → (feed_of s q).reply ≡ ok more → (feed_of s q).used ≡ length q
  -- 'Unless refused, a call on a non-empty piece consumes a byte or hands out a token.'
  pub moves : (s : State) (b : ℕ) (q : List ℕ) → Moves (feed_of s (b ∷ q)).reply (feed_of s (b ∷ q)).used
  -- 'always with the bytes consumed and the new state': the place grows by exactly the bytes consumed; a close has none
  pub feed_place : (s : State) (q : List ℕ) → (feed_of s q).state.place ≡ s.place + (feed_of s q).used
  pub close_place : (s : State) → ((close_of s).used ≡ 0) × ((close_of s).state.place ≡ s.place)
  -- 'A refusal consumes the bytes before the one that raised it'
  pub refusal : (m : Mode) (p : ℕ) (q : List ℕ) (n a : ℕ) → (feed_of (live m p) q).reply ≡ refused n a → Raised m p q n a (feed_of (live m p) q).used
  -- 'After any refusal but 19 every call, feed or close, gives that refusal again and consumes nothing.' The state stays too
  pub again : (s : State) (q r : List ℕ) (n a : ℕ) → (feed_of s q).reply ≡ refused n a → (n ≡ fed_after_close → ⊥)
      → (feed_of (feed_of s q).state r ≡ fed (refused n a) 0 (feed_of s q).state) × (close_of (feed_of s q).state ≡ fed (refused n a) 0 (feed_of s q).state)
  pub again_closed : (s : State) (r : List ℕ) (n a : ℕ) → (close_of s).reply ≡ refused n a
      → (feed_of (close_of s).state r ≡ fed (refused n a) 0 (close_of s).state) × (close_of (close_of s).state ≡ fed (refused n a) 0 (close_of s).state)
  -- 'After a close that gave no refusal, later closes answer "end"'
  pub later_close : (s : State) → Unrefused (close_of s).reply → close_of (close_of s).state ≡ fed (ok finish) 0 (close_of s).state
  -- 'feeding then, an empty piece too, is refused 19, consumes nothing, and the state stays'; its place: 'bytes consumed so far', see `consumed`
  pub fed_after_close_lem : (s : State) (q : List ℕ) → Unrefused (close_of s).reply → feed_of (close_of s).state q ≡ fed (refused fed_after_close s.place) 0 (close_of s).state
  -- 'The first close answers the held token'
  pub close_paren : (st p : ℕ) → close_of (live (Opener st) p) ≡ fed (ok (ready (token lparen st 1))) 0 (closed p)
  pub close_symbol : (st p : ℕ) → close_of (live (Symbol st) p) ≡ fed (ok (ready (token symbol st (p - st)))) 0 (closed p)
  -- 'or the refusal of a held literal'
  pub close_sign : (st p : ℕ) → close_of (live (Sign st) p) ≡ fed (refused no_digits st) 0 (dead no_digits st p)
  pub close_zero : (st p : ℕ) (minus : Bool) → close_of (live (Zero st minus) p) ≡ shut (concluded minus st p (Number (split 0))) p
  pub close_digits : (st p : ℕ) (minus : Bool) (r : ℕ) (x : Reading) → close_of (live (Digits st minus r x) p) ≡ shut (concluded minus st p x) p
  -- 'an open block comment is refused at its opener'
  pub close_comment : (st d p : ℕ) (h : Half) → close_of (live (Block st d h) p) ≡ fed (refused open_comment st) 0 (dead open_comment st p)
  -- 'otherwise it answers "end"'
  pub close_blank : (p : ℕ) → close_of (live Blank p) ≡ fed (ok finish) 0 (closed p)
  pub close_line : (p : ℕ) → close_of (live Line p) ≡ fed (ok finish) 0 (closed p)
  -- '`)` and `@` are handed out at once; `(` waits for one byte; symbols and literals, refused ones too, wait for their end.'
  pub rparen_at_once : (p : ℕ) (q : List ℕ) → p < source_limit → feed_of (live Blank p) (41 ∷ q) ≡ fed (ok (ready (token rparen p 1))) 1 (live Blank (suc p))
  pub at_sign_at_once : (p : ℕ) (q : List ℕ) → p < source_limit → feed_of (live Blank p) (64 ∷ q) ≡ fed (ok (ready (token at_sign p 1))) 1 (live Blank (suc p))
  pub lparen_waits : (p : ℕ) → p < source_limit → feed_of (live Blank p) (40 ∷ []) ≡ fed (ok more) 1 (live (Opener p) (suc p))
  pub symbol_waits : (st p b : ℕ) → p < source_limit → symbol_other (class_of b) ≡ true → feed_of (live (Symbol st) p) (b ∷ []) ≡ fed (ok more) 1 (live (Symbol st) (suc p))
  pub literal_waits : (st p b r : ℕ) (minus : Bool) (x : Reading) → p < source_limit → literal_byte b ≡ true
      → feed_of (live (Digits st minus r x) p) (b ∷ []) ≡ fed (ok more) 1 (live (Digits st minus r (grow r x b p)) (suc p))
  pub sign_waits : (p : ℕ) → p < source_limit → feed_of (live Blank p) (45 ∷ []) ≡ fed (ok more) 1 (live (Sign p) (suc p))
  pub zero_waits : (p : ℕ) → p < source_limit → feed_of (live Blank p) (48 ∷ []) ≡ fed (ok more) 1 (live (Zero p false) (suc p))
  pub sign_zero_waits : (st p : ℕ) → p < source_limit → feed_of (live (Sign st) p) (48 ∷ []) ≡ fed (ok more) 1 (live (Zero st true) (suc p))
  -- 'A call that has to look at a byte at place 1,048,576 or beyond is refused 1 there.' The byte before may still be handed out
  pub limit : (m : Mode) (p b : ℕ) (q : List ℕ) → source_limit ≤ p → feed_of (live m p) (b ∷ q) ≡ fed (refused too_long source_limit) 0 (dead too_long source_limit p)
  pub last_rparen : (q : List ℕ) → feed_of (live Blank 1048575) (41 ∷ q) ≡ fed (ok (ready (token rparen 1048575 1))) 1 (live Blank 1048576)
  pub last_at_sign : (q : List ℕ) → feed_of (live Blank 1048575) (64 ∷ q) ≡ fed (ok (ready (token at_sign 1048575 1))) 1 (live Blank 1048576)
  -- On states reached from the fresh one.
  -- the place is the bytes consumed so far, at most the limit
  pub consumed : (n : ℕ) (s : State) → Reached n s → (s.place ≡ n) × (n ≤ source_limit)
  -- 'Before any close or refusal, an empty piece gives "more" and the same state.'
  pub empty : (n : ℕ) (s : State) → Open n s → feed_of s [] ≡ fed (ok more) 0 s
  -- 'A byte that only ends a token isn't consumed.' The bytes consumed end where the token ends
  pub token_end : (n : ℕ) (s : State) (q : List ℕ) (t : Token) → Reached n s → (feed_of s q).reply ≡ ok (ready t) → past t ≡ n + (feed_of s q).used
  pub close_end : (n : ℕ) (s : State) (t : Token) → Reached n s → (close_of s).reply ≡ ok (ready t) → past t ≡ n
  -- no more comments are open than bytes were consumed, so that the limit of their depth is not felt by a byte that is looked at
  pub depth : (n : ℕ) (s : State) (st d : ℕ) (h : Half) → Reached n s → s.phase ≡ Live (Block st d h) → (1 ≤ d) × (d ≤ n)
  pub not_felt : (n : ℕ) (s : State) (st d : ℕ) (h : Half) → Reached n s → s.phase ≡ Live (Block st d h) → n < source_limit → deeper d ≡ d + 1
