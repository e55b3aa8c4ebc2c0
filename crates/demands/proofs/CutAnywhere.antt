-- Feeding in any pieces, then closing, hands out the uncut source's tokens. Assumes nothing.
use mathlib.Core.Path.{◌≡◌, refl, sym, ap, ◌∙◌}
use mathlib.Core.List.{List, [], ◌∷◌, ◌++◌}
use Prim.Native.Nat.{ℕ, zero, suc, ◌+◌, ◌*◌, ◌≤◌, ◌<◌}
use native.Mathlib.Omega.{arith}
use lib.ListN.{drop, length, length-append}
use borrow.Author.Tests.{lt-leb}
use Rattle.refusals.specs.Numbers.{source_limit, fed_after_close}
use Rattle.refusals.specs.Result.{Result, ok, refused}
use Rattle.classes.specs.declared.Class.{Class}
use Rattle.classes.specs.declared.Class.TheVariants.{Space, LineEnd, Semicolon, LParen, RParen, AtSign, FormFeed, Minus, Digit, Other}
use Rattle.classes.specs.Classes.{class_of}
use Rattle.lexer.specs.Tokens.{Token, Answer, end, is}
use Rattle.lexer.specs.Streams.{Stream, ends, then}
use Rattle.feeder.specs.declared.Mode.{Mode}
use Rattle.feeder.specs.declared.Mode.TheVariants.{Blank, Line, Opener, Symbol, Sign, Block, Zero, Digits}
use Rattle.feeder.specs.declared.Phase.{Phase}
use Rattle.feeder.specs.declared.Phase.TheVariants.{Live, Closed, Refused}
use Rattle.feeder.specs.declared.State.{State}
use Rattle.feeder.specs.Machine.{closing, Turn, Go, Stay, Take, in_blank, turn, step}
use Rattle.feeder.specs.Feeding.{more, ready, Fed, fed, live, dead, fresh_state, plus, stepped, feed_from, feed_of, shut, close_of}
use Rattle.demands.proofs.Events.{last, events}
use Rattle.demands.specs.Driver.{after, drive_by, drive, joined, CutAnywhere}
use Rattle.demands.proofs.HeldTokens.{again, over}
use Rattle.demands.proofs.Uncut.{uncut}

-- what is still handed out from a state on
abbrev still : Phase → ℕ → List ℕ → Stream
still (Live m) p l = events m p l
still Closed p l = ends (refused fed_after_close p)
still (Refused r) p l = ends (refused r.number r.place)

abbrev from : State → List ℕ → Stream
from s l = still s.phase s.place l

-- a call on a piece q before r: what it hands out and what is left make up the whole
abbrev Left : Fed → List ℕ → List ℕ → Stream
Left f q r = after f.reply (from f.state r) (from f.state (drop f.used q ++ r))

limited : (m : Mode) (p b : ℕ) → p < source_limit → step m p b ≡ turn m p b
unfolding step
limited m p b h = rw (lt-leb source_limit p h) refl

feed_on : (x : Result Turn) (p b : ℕ) (q r : List ℕ) → ((k : Mode) → events k (suc p) (q ++ r) ≡ Left (feed_from k (suc p) q) q r)
    → over x p b (q ++ r) ≡ Left (stepped x p (λ k. feed_from k (suc p) q)) (b ∷ q) r
feed_on (ok (Go k)) p b q r ih = ih k
feed_on (ok (Stay t)) p b q r ih = ap (then t) (again p b (q ++ r))
feed_on (ok (Take t)) p b q r ih = refl
feed_on (refused n a) p b q r ih = refl

-- one call, wherever its piece is cut off
pub feed_law : (q r : List ℕ) (m : Mode) (p : ℕ) → p + length q ≤ source_limit → events m p (q ++ r) ≡ Left (feed_from m p q) q r
unfolding events feed_from
feed_law [] r m p h = refl
feed_law (b ∷ q) r m p h = rw (limited m p b (omega arith)) (feed_on (turn m p b) p b q r (λ k. feed_law q r k (suc p) (omega arith)))

-- a token may be held
abbrev pub held : Mode → ℕ
held Blank = 0
held Line = 1
held (Opener st) = 1
held (Symbol st) = 1
held (Sign st) = 1
held (Block st d h) = 1
held (Zero st minus) = 1
held (Digits st minus r x) = 1

held_most : (m : Mode) → held m ≤ 1
held_most Blank = omega arith
held_most Line = omega arith
held_most (Opener st) = omega arith
held_most (Symbol st) = omega arith
held_most (Sign st) = omega arith
held_most (Block st d h) = omega arith
held_most (Zero st minus) = omega arith
held_most (Digits st minus r x) = omega arith

-- only what is held is handed out without a byte
Hands : ℕ → Result Turn → Type 0
Hands h (ok (Go m)) = Unit {0}
Hands h (ok (Stay t)) = 1 ≤ h
Hands h (ok (Take t)) = Unit {0}
Hands h (refused n a) = Unit {0}

hands_held : (x : Result Turn) → Hands 1 x
unfolding Hands
hands_held (ok (Go m)) = tt
hands_held (ok (Stay t)) = omega arith
hands_held (ok (Take t)) = tt
hands_held (refused n a) = tt

hands_blank : (c : Class) (p b : ℕ) → Hands 0 (in_blank c p b)
unfolding Hands
hands_blank Space p b = tt
hands_blank LineEnd p b = tt
hands_blank Semicolon p b = tt
hands_blank LParen p b = tt
hands_blank RParen p b = tt
hands_blank AtSign p b = tt
hands_blank FormFeed p b = tt
hands_blank Minus p b = tt
hands_blank Digit p b = tt
hands_blank Other p b = tt

hands : (m : Mode) (p b : ℕ) → Hands (held m) (turn m p b)
unfolding turn
hands Blank p b = hands_blank (class_of b) p b
hands Line p b = hands_held (turn Line p b)
hands (Opener st) p b = hands_held (turn (Opener st) p b)
hands (Symbol st) p b = hands_held (turn (Symbol st) p b)
hands (Sign st) p b = hands_held (turn (Sign st) p b)
hands (Block st d h) p b = hands_held (turn (Block st d h) p b)
hands (Zero st minus) p b = hands_held (turn (Zero st minus) p b)
hands (Digits st minus r x) p b = hands_held (turn (Digits st minus r x) p b)

-- a call's bytes add up to the place e past its piece q; one that is not refused takes a byte or hands out what was held, so that
-- `2 * bytes + held` falls from call to call
data Fair (e h : ℕ) (q : List ℕ) : Fed → Type 0 where
  goes : {k : Mode} {u p : ℕ} → p ≡ e → held k ≤ 2 * length q + h → Fair e h q (fed (ok more) u (live k p))
  gives : {t : Token} {u p : ℕ} → p + length (drop u q) ≡ e → 2 * length (drop u q) < 2 * length q + h → Fair e h q (fed (ok (ready t)) u (live Blank p))
  refuses : {n a u p : ℕ} → Fair e h q (fed (refused n a) u (dead n a p))

fair_plus : (e h j b : ℕ) (q : List ℕ) (f : Fed) → j ≤ 1 → Fair e j q f → Fair e h (b ∷ q) (plus f)
fair_plus e h j b q f l (goes {k = k} x y) = goes {k = k} x (omega arith)
fair_plus e h j b q f l (gives {u = u} x y) = gives {u = suc u} x (omega arith)
fair_plus e h j b q f l refuses = refuses

fair_on : (x : Result Turn) (h p b : ℕ) (q : List ℕ) → Hands h x → ((k : Mode) → Fair (suc p + length q) (held k) q (feed_from k (suc p) q))
    → Fair (suc p + length q) h (b ∷ q) (stepped x p (λ k. feed_from k (suc p) q))
unfolding Hands
fair_on (ok (Go k)) h p b q w ih = fair_plus (suc p + length q) h (held k) b q (feed_from k (suc p) q) (held_most k) (ih k)
fair_on (ok (Stay t)) h p b q w ih = gives {u = 0} {p = p} (omega arith) (omega arith)
fair_on (ok (Take t)) h p b q w ih = gives {u = 1} {p = suc p} refl (omega arith)
fair_on (refused n a) h p b q w ih = refuses

fair : (q : List ℕ) (m : Mode) (p : ℕ) → p + length q ≤ source_limit → Fair (p + length q) (held m) q (feed_from m p q)
unfolding feed_from
fair [] m p h = goes {k = m} {p = p} (omega arith) (omega arith)
fair (b ∷ q) m p h =
    let e : suc p + length q ≡ p + suc (length q) = omega arith in
    rw (limited m p b (omega arith), ← e) (fair_on (turn m p b) (held m) p b q (hands m p b) (λ k. fair q k (suc p) (omega arith)))

-- the calls that a host makes at most
abbrev pub calls_at_most : Mode → List (List ℕ) → ℕ
calls_at_most m ps = held m + 2 * length (joined ps) + length ps + 1

closes : (n p : ℕ) (a : Answer) → after (shut a p).reply (ends (refused 0 0)) (drive (suc n) (shut a p).state []) ≡ last a
unfolding drive_by close_of
closes n p (ok end) = refl
closes n p (ok (is t)) = refl
closes n p (refused k a) = refl

-- the law of the calls that are left
abbrev pub Rest : ℕ → Type 0
Rest n = (m : Mode) (p : ℕ) (ps : List (List ℕ)) → p + length (joined ps) ≤ source_limit → calls_at_most m ps < n → drive n (live m p) ps ≡ events m p (joined ps)

drive_on : (n e h : ℕ) (q : List ℕ) (ps : List (List ℕ)) (f : Fed) → Fair e h q f → Rest n → e + length (joined ps) ≤ source_limit → h + 2 * length (q ++ joined ps) + length ps + 1 < n
    → after f.reply (drive n f.state ps) (drive n f.state (drop f.used q ∷ ps)) ≡ Left f q (joined ps)
drive_on n e h q ps f (goes {k = k} {p = p} x y) ih l c = ih k p ps (omega arith) (omega (arith, length-append q (joined ps)))
drive_on n e h q ps f (gives {t = t} {u = u} {p = p} x y) ih l c =
    ap (then t) (ih Blank p (drop u q ∷ ps) (omega (arith, length-append (drop u q) (joined ps))) (omega (arith, length-append q (joined ps), length-append (drop u q) (joined ps))))
drive_on n e h q ps f refuses ih l c = refl

-- from any live state on, however the rest is cut
pub driven : (n : ℕ) → Rest n
unfolding drive_by close_of feed_of events
driven zero m p ps l c = absurd (omega arith)
driven (suc zero) m p [] l c = absurd (omega arith)
driven (suc (suc n)) m p [] l c = closes n p (closing m p)
driven (suc n) m p (q ∷ ps) l c =
    drive_on n (p + length q) (held m) q ps (feed_from m p q) (fair q m p (omega (arith, length-append q (joined ps)))) (driven n) (omega (arith, length-append q (joined ps))) (omega arith)
    ∙ sym (feed_law q (joined ps) m p (omega (arith, length-append q (joined ps))))

-- from the fresh state on
pub driven_fresh : (ps : List (List ℕ)) (n : ℕ) → length (joined ps) ≤ source_limit → 2 * length (joined ps) + length ps + 1 < n → drive n fresh_state ps ≡ events Blank 0 (joined ps)
driven_fresh ps n l c = driven n Blank 0 ps (omega arith) (omega arith)

pub cut_anywhere : CutAnywhere
cut_anywhere s ps n e l c = driven_fresh ps n (rw e l) (rw e c) ∙ rw e (uncut s l (length s) 0 (omega arith) (omega arith))
