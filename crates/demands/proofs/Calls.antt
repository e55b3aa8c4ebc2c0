-- The rules of a call hold. Assumes nothing.
use mathlib.Core.Path.{◌≡◌, refl, ap, ◌∙◌, subst}
use mathlib.Core.List.{List, [], ◌∷◌}
use Prim.Native.Nat.{ℕ, suc, ◌+◌, ◌≤◌, ◌<◌}
use native.Mathlib.Omega.{arith}
use lib.ListN.{length, get_or, take}
use borrow.Author.Tests.{le-leb, lt-leb, lt-ltb}
use Rattle.refusals.specs.Numbers.{source_limit, too_long, fed_after_close}
use Rattle.refusals.specs.Result.{Result, ok, refused}
use Rattle.classes.specs.Classes.{class_of, digit_of, literal_byte}
use Rattle.lexer.specs.Tokens.{Token, past, Answer, end, is}
use Rattle.lexer.specs.Literals.{grow, concluded}
use Rattle.feeder.specs.declared.Half.{Half}
use Rattle.feeder.specs.declared.Mode.{Mode}
use Rattle.feeder.specs.declared.Mode.TheVariants.{Blank, Symbol, Block, Digits, Sign}
use Rattle.feeder.specs.declared.Phase.{Phase}
use Rattle.feeder.specs.declared.Phase.TheVariants.{Live, Closed, Refused}
use Rattle.feeder.specs.declared.State.{State}
use Rattle.feeder.specs.Machine.{closing, Turn, Go, Stay, Take, deeper, turn, step}
use Rattle.feeder.specs.Feeding.{Reply, more, finish, ready, Fed, fed, live, closed, dead, plus, stepped, feed_from, feed_in, feed_of, shut, close_in, close_of}
use Rattle.demands.specs.Rules.{Unrefused, Reached, fresh, feeds, closes, Open, begins, goes_on, Moves, Raised, Rules}
use Rattle.demands.proofs.ReachedStates.{SoundIn, TokenAt, SoundFed, fed_sound, closed_sound, reached_sound}

-- the course of a call on a live state: it consumed u bytes and stands at j; a refusal was raised by the byte there
data Course (m : Mode) (p : ℕ) (q : List ℕ) : Fed → Type 0 where
  goes : (u j : ℕ) (k : Mode) → u ≡ length q → j ≡ p + u → Course m p q (fed (ok more) u (live k j))
  gives : (u j : ℕ) (t : Token) → u ≤ length q → j ≡ p + u → Course m p q (fed (ok (ready t)) u (live Blank j))
  halts : (u j n a : ℕ) (k : Mode) → u < length q → j ≡ p + u → feed_from m p (take u q) ≡ fed (ok more) u (live k j) → step k j (get_or q u 0) ≡ refused n a
      → Course m p q (fed (refused n a) u (dead n a j))

course_plus : (m k : Mode) (p b : ℕ) (q : List ℕ) (f : Fed) → step m p b ≡ ok (Go k) → Course k (suc p) q f → Course m p (b ∷ q) (plus f)
unfolding feed_from
course_plus m k p b q f e (goes u j k' x y) = goes (suc u) j k' (ap suc x) (omega arith)
course_plus m k p b q f e (gives u j t x y) = gives (suc u) j t (omega arith) (omega arith)
course_plus m k p b q f e (halts u j n a k' x y before raises) = halts (suc u) j n a k' (omega arith) (omega arith) (rw e (ap plus before)) raises

course_on : (x : Result Turn) (m : Mode) (p b : ℕ) (q : List ℕ) → step m p b ≡ x → ((k : Mode) → Course k (suc p) q (feed_from k (suc p) q))
    → Course m p (b ∷ q) (stepped x p (λ k. feed_from k (suc p) q))
unfolding feed_from
course_on (ok (Go k)) m p b q e ih = course_plus m k p b q (feed_from k (suc p) q) e (ih k)
course_on (ok (Stay t)) m p b q e ih = gives 0 p t (omega arith) (omega arith)
course_on (ok (Take t)) m p b q e ih = gives 1 (suc p) t (omega arith) (omega arith)
course_on (refused n a) m p b q e ih = halts 0 p n a m (omega arith) (omega arith) refl e

course : (q : List ℕ) (m : Mode) (p : ℕ) → Course m p q (feed_from m p q)
unfolding feed_from
course [] m p = goes 0 p m refl (omega arith)
course (b ∷ q) m p = course_on (step m p b) m p b q refl (λ k. course q k (suc p))

-- what every course has
course_most : (m : Mode) (p : ℕ) (q : List ℕ) (f : Fed) → Course m p q f → f.used ≤ length q
course_most m p q f (goes u j k x y) = omega arith
course_most m p q f (gives u j t x y) = x
course_most m p q f (halts u j n a k x y z w) = omega arith

course_whole : (m : Mode) (p : ℕ) (q : List ℕ) (f : Fed) → Course m p q f → f.reply ≡ ok more → f.used ≡ length q
course_whole m p q f (goes u j k x y) e = x
course_whole m p q f (gives u j t x y) e = let z : ◌≡◌ {A = ℕ} 0 1 = cc in absurd (omega arith)
course_whole m p q f (halts u j n a k x y z w) e = let z : ◌≡◌ {A = ℕ} 0 1 = cc in absurd (omega arith)

course_moves : (m : Mode) (p b : ℕ) (q : List ℕ) (f : Fed) → Course m p (b ∷ q) f → Moves f.reply f.used
course_moves m p b q f (goes u j k x y) = omega arith
course_moves m p b q f (gives u j t x y) = tt
course_moves m p b q f (halts u j n a k x y z w) = tt

course_place : (m : Mode) (p : ℕ) (q : List ℕ) (f : Fed) → Course m p q f → f.state.place ≡ p + f.used
course_place m p q f (goes u j k x y) = y
course_place m p q f (gives u j t x y) = y
course_place m p q f (halts u j n a k x y z w) = y

course_raised : (m : Mode) (p : ℕ) (q : List ℕ) (n a : ℕ) (f : Fed) → Course m p q f → f.reply ≡ refused n a → Raised m p q n a f.used
unfolding feed_of
course_raised m p q n a f (goes u j k x y) e = let z : ◌≡◌ {A = ℕ} 0 1 = cc in absurd (omega arith)
course_raised m p q n a f (gives u j t x y) e = let z : ◌≡◌ {A = ℕ} 0 1 = cc in absurd (omega arith)
course_raised m p q n a f (halts u j n' a' k x y before raises) e =
    record { mode = k; before = before ∙ ap (λ (i : ℕ). fed (ok more) u (live k i)) y; byte = x; raises = cc }

-- a refused state, fed or closed
abbrev Stays : ℕ → ℕ → List ℕ → State → Type 0
Stays n a r s = (feed_of s r ≡ fed (refused n a) 0 s) × (close_of s ≡ fed (refused n a) 0 s)

course_again : (m : Mode) (p : ℕ) (q r : List ℕ) (n a : ℕ) (f : Fed) → Course m p q f → f.reply ≡ refused n a → Stays n a r f.state
unfolding feed_of close_of
course_again m p q r n a f (goes u j k x y) e = let z : ◌≡◌ {A = ℕ} 0 1 = cc in absurd (omega arith)
course_again m p q r n a f (gives u j t x y) e = let z : ◌≡◌ {A = ℕ} 0 1 = cc in absurd (omega arith)
course_again m p q r n a f (halts u j n' a' k x y z w) e =
    (ap (λ (i : Result Reply). fed i 0 (dead n' a' j)) e, ap (λ (i : Result Reply). fed i 0 (dead n' a' j)) e)

abbrev IsLive : Phase → Type 0
IsLive (Live m) = Unit {0}
IsLive Closed = ⊥
IsLive (Refused r) = ⊥

course_live : (m : Mode) (p : ℕ) (q : List ℕ) (f : Fed) → Course m p q f → Unrefused f.reply → IsLive f.state.phase
course_live m p q f (goes u j k x y) h = tt
course_live m p q f (gives u j t x y) h = tt
course_live m p q f (halts u j n a k x y z w) h = absurd h

-- the same on every phase
most_in : (h : Phase) (p : ℕ) (q : List ℕ) → (feed_in h p q).used ≤ length q
most_in (Live m) p q = course_most m p q _ (course q m p)
most_in Closed p q = omega arith
most_in (Refused r) p q = omega arith

whole_in : (h : Phase) (p : ℕ) (q : List ℕ) → (feed_in h p q).reply ≡ ok more → (feed_in h p q).used ≡ length q
whole_in (Live m) p q e = course_whole m p q _ (course q m p) e
whole_in Closed p q e = let z : ◌≡◌ {A = ℕ} 0 1 = cc in absurd (omega arith)
whole_in (Refused r) p q e = let z : ◌≡◌ {A = ℕ} 0 1 = cc in absurd (omega arith)

moves_in : (h : Phase) (p b : ℕ) (q : List ℕ) → Moves (feed_in h p (b ∷ q)).reply (feed_in h p (b ∷ q)).used
moves_in (Live m) p b q = course_moves m p b q _ (course (b ∷ q) m p)
moves_in Closed p b q = tt
moves_in (Refused r) p b q = tt

place_in : (h : Phase) (p : ℕ) (q : List ℕ) → (feed_in h p q).state.place ≡ p + (feed_in h p q).used
place_in (Live m) p q = course_place m p q _ (course q m p)
place_in Closed p q = omega arith
place_in (Refused r) p q = omega arith

shut_place : (a : Answer) (p : ℕ) → ((shut a p).used ≡ 0) × ((shut a p).state.place ≡ p)
shut_place (ok end) p = (refl, refl)
shut_place (ok (is t)) p = (refl, refl)
shut_place (refused n a) p = (refl, refl)

close_place_in : (h : Phase) (p : ℕ) → ((close_in h p).used ≡ 0) × ((close_in h p).state.place ≡ p)
close_place_in (Live m) p = shut_place (closing m p) p
close_place_in Closed p = (refl, refl)
close_place_in (Refused r) p = (refl, refl)

again_in : (h : Phase) (p : ℕ) (q r : List ℕ) (n a : ℕ) → (feed_in h p q).reply ≡ refused n a → (n ≡ fed_after_close → ⊥) → Stays n a r (feed_in h p q).state
unfolding feed_of close_of
again_in (Live m) p q r n a e k = course_again m p q r n a _ (course q m p) e
again_in Closed p q r n a e k = absurd (k cc)
again_in (Refused x) p q r n a e k =
    (ap (λ (i : Result Reply). fed i 0 (record { phase = Refused x; place = p })) e, ap (λ (i : Result Reply). fed i 0 (record { phase = Refused x; place = p })) e)

shut_again : (x : Answer) (p : ℕ) (r : List ℕ) (n a : ℕ) → (shut x p).reply ≡ refused n a → Stays n a r (shut x p).state
unfolding feed_of close_of
shut_again (ok end) p r n a e = let z : ◌≡◌ {A = ℕ} 0 1 = cc in absurd (omega arith)
shut_again (ok (is t)) p r n a e = let z : ◌≡◌ {A = ℕ} 0 1 = cc in absurd (omega arith)
shut_again (refused n' a') p r n a e = (ap (λ (i : Result Reply). fed i 0 (dead n' a' p)) e, ap (λ (i : Result Reply). fed i 0 (dead n' a' p)) e)

again_closed_in : (h : Phase) (p : ℕ) (r : List ℕ) (n a : ℕ) → (close_in h p).reply ≡ refused n a → Stays n a r (close_in h p).state
unfolding feed_of close_of
again_closed_in (Live m) p r n a e = shut_again (closing m p) p r n a e
again_closed_in Closed p r n a e = let z : ◌≡◌ {A = ℕ} 0 1 = cc in absurd (omega arith)
again_closed_in (Refused x) p r n a e =
    (ap (λ (i : Result Reply). fed i 0 (record { phase = Refused x; place = p })) e, ap (λ (i : Result Reply). fed i 0 (record { phase = Refused x; place = p })) e)

-- after a close without a refusal the state is closed
shut_closed : (x : Answer) (p : ℕ) → Unrefused (shut x p).reply → (shut x p).state ≡ closed p
shut_closed (ok end) p h = refl
shut_closed (ok (is t)) p h = refl
shut_closed (refused n a) p h = absurd h

closed_in : (h : Phase) (p : ℕ) → Unrefused (close_in h p).reply → (close_in h p).state ≡ closed p
closed_in (Live m) p h = shut_closed (closing m p) p h
closed_in Closed p h = refl
closed_in (Refused x) p h = absurd h

close_later : (s : State) (p : ℕ) → s ≡ closed p → close_of s ≡ fed (ok finish) 0 s
unfolding close_of
close_later s p e = rw e refl

feed_later : (s : State) (p : ℕ) (q : List ℕ) → s ≡ closed p → feed_of s q ≡ fed (refused fed_after_close p) 0 s
unfolding feed_of
feed_later s p q e = rw e refl

-- at the limit no byte is looked at
limit_of : (m : Mode) (p b : ℕ) (q : List ℕ) → source_limit ≤ p → feed_of (live m p) (b ∷ q) ≡ fed (refused too_long source_limit) 0 (dead too_long source_limit p)
unfolding feed_of feed_from step
limit_of m p b q h = rw (le-leb source_limit p h) refl

-- below it a byte does what the machine says
byte_does : (m : Mode) (p b : ℕ) (q : List ℕ) (x : Result Turn) → p < source_limit → turn m p b ≡ x → feed_of (live m p) (b ∷ q) ≡ stepped x p (λ k. feed_from k (suc p) q)
unfolding feed_of feed_from step
byte_does m p b q x h e = rw (lt-leb source_limit p h, e) refl

-- reached states
consumed_of : (n : ℕ) (s : State) → Reached n s → s.place ≡ n
unfolding feed_of close_of
consumed_of n s fresh = refl
consumed_of n s (feeds n' s' q r) = place_in s'.phase s'.place q ∙ ap (λ (i : ℕ). i + (feed_of s' q).used) (consumed_of n' s' r)
consumed_of n s (closes n' s' r) =
    let e = close_place_in s'.phase s'.place in
    let i : s'.place ≡ n' = consumed_of n' s' r in
    e.1 ∙ i ∙ omega (arith, e.0)

live_in : (h : Phase) (p : ℕ) (q : List ℕ) → IsLive h → Unrefused (feed_in h p q).reply → IsLive (feed_in h p q).state.phase
live_in (Live m) p q l h = course_live m p q _ (course q m p) h
live_in Closed p q l h = absurd l
live_in (Refused r) p q l h = absurd l

open_live : (n : ℕ) (s : State) → Open n s → IsLive s.phase
unfolding feed_of
open_live n s begins = tt
open_live n s (goes_on n' s' q o h) = live_in s'.phase s'.place q (open_live n' s' o) h

empty_in : (h : Phase) (p : ℕ) → IsLive h → feed_in h p [] ≡ fed (ok more) 0 (record { phase = h; place = p })
unfolding feed_from
empty_in (Live m) p l = refl
empty_in Closed p l = absurd l
empty_in (Refused r) p l = absurd l

token_of_lem : (f : Fed) (t : Token) → SoundFed f → f.reply ≡ ok (ready t) → past t ≡ f.state.place
token_of_lem f t g e = subst (λ (x : Result Reply). TokenAt x f.state.place) e g.token_at

depth_of : (n : ℕ) (s : State) (st d : ℕ) (h : Half) → Reached n s → s.phase ≡ Live (Block st d h) → (1 ≤ d) × (d ≤ n)
depth_of n s st d h r e =
    let w = subst (λ (x : Phase). SoundIn x s.place) e (reached_sound n s r).phase_is in
    (w.1, omega (arith, w.2, consumed_of n s r))

not_felt_of : (n d : ℕ) → d ≤ n → n < source_limit → deeper d ≡ d + 1
not_felt_of n d h l = let k : d < source_limit = omega arith in rw (lt-ltb d source_limit k) refl

-- THEOREM calls: document 01's rules of a call
pub calls : Rules
unfolding feed_of close_of closing turn class_of literal_byte digit_of
calls = record {
  at_most = λ s q. most_in s.phase s.place q;
  whole = λ s q e. whole_in s.phase s.place q e;
  moves = λ s b q. moves_in s.phase s.place b q;
  feed_place = λ s q. place_in s.phase s.place q;
  close_place = λ s. close_place_in s.phase s.place;
  refusal = λ m p q n a e. course_raised m p q n a _ (course q m p) e;
  again = λ s q r n a e k. again_in s.phase s.place q r n a e k;
  again_closed = λ s r n a e. again_closed_in s.phase s.place r n a e;
  later_close = λ s h. close_later (close_of s).state s.place (closed_in s.phase s.place h);
  fed_after_close_lem = λ s q h. feed_later (close_of s).state s.place q (closed_in s.phase s.place h);
  close_paren = λ st p. refl;
  close_symbol = λ st p. refl;
  close_sign = λ st p. unfold concluded in refl;
  close_zero = λ st p minus. refl;
  close_digits = λ st p minus r x. refl;
  close_comment = λ st d p h. refl;
  close_blank = λ p. refl;
  close_line = λ p. refl;
  rparen_at_once = λ p q h. byte_does Blank p 41 q _ h refl;
  at_sign_at_once = λ p q h. byte_does Blank p 64 q _ h refl;
  lparen_waits = λ p h. unfold feed_from in byte_does Blank p 40 [] _ h refl;
  symbol_waits = λ st p b h e. unfold feed_from in byte_does (Symbol st) p b [] (ok (Go (Symbol st))) h (rw e refl);
  literal_waits = λ st p b r minus x h e. unfold feed_from in byte_does (Digits st minus r x) p b [] (ok (Go (Digits st minus r (grow r x b p)))) h (rw e refl);
  sign_waits = λ p h. unfold feed_from in byte_does Blank p 45 [] _ h refl;
  zero_waits = λ p h. unfold feed_from in byte_does Blank p 48 [] _ h refl;
  sign_zero_waits = λ st p h. unfold feed_from in byte_does (Sign st) p 48 [] _ h refl;
  limit = λ m p b q h. limit_of m p b q h;
  last_rparen = λ q. byte_does Blank 1048575 41 q _ (omega arith) refl;
  last_at_sign = λ q. byte_does Blank 1048575 64 q _ (omega arith) refl;
  consumed = λ n s r. (consumed_of n s r, omega (arith, (reached_sound n s r).bound, consumed_of n s r));
  empty = λ n s o. empty_in s.phase s.place (open_live n s o);
  token_end = λ n s q t r e.
      let w = reached_sound n s r in
      token_of_lem (feed_of s q) t (fed_sound s.phase s.place q w.phase_is w.bound) e ∙ place_in s.phase s.place q ∙ ap (λ (i : ℕ). i + (feed_of s q).used) (consumed_of n s r);
  close_end = λ n s t r e.
      let w = reached_sound n s r in
      token_of_lem (close_of s) t (closed_sound s.phase s.place w.phase_is w.bound) e ∙ (close_place_in s.phase s.place).1 ∙ consumed_of n s r;
  depth = λ n s st d h r e. depth_of n s st d h r e;
  not_felt = λ n s st d h r e l. not_felt_of n d (depth_of n s st d h r e).1 l;
}
