-- A call seen from inside its piece: a law for each outcome of a turn. Assumes nothing.
use Prim.Native.Nat.{ℕ, suc, ◌+◌, ◌-◌, ◌≤◌, ◌<◌}
use mathlib.Core.Path.{◌≡◌, refl, sym, ap, ◌∙◌}
use mathlib.Core.List.{List, [], ◌∷◌, ◌++◌}
use mathlib.Core.Bool.{Bool, cond, true, false}
use native.Mathlib.Omega.{arith}
use native.Mathlib.Nat.{add-zero, zero-add}
use lib.Dec.{leb}
use lib.ListN.{length, get_or, drop, drop_of_length-le}
use Rattle.std.proofs.Math.Seq.{drop-append_seam}
use borrow.Author.Tests.{le-leb, lt-leb}
use Rattle.lists.proofs.Places.{from}
use Rattle.refusals.specs.Numbers.{source_limit, too_long}
use Rattle.refusals.specs.Result.{Result, ok, refused, refused_by}
use Rattle.classes.specs.declared.Class.{Class}
use Rattle.classes.specs.Classes.{semicolon, rparen}
use Rattle.lexer.specs.Tokens.{Token, end, token_of, answer_of}
use Rattle.lexer.specs.declared.literal.Reading.{Reading}
use Rattle.lexer.specs.declared.literal.Reading.TheVariants.{Empty, Bad, Number}
use Rattle.lexer.specs.Literals.{signed, concluded}
use Rattle.wide.specs.Value.{val, Integer, is as is_integer, none as no_integer, integer_of}
use Rattle.std.specs.Prelude.{◌≢◌, Option, Some, None, Result as CodeResult}
use Rattle.refusals.specs.declared.Refusal.{Refusal}
use Rattle.lexer.specs.declared.Token.{Token as CodeToken}
use Rattle.lexer.specs.declared.Lexed.{Lexed}
use Rattle.feeder.specs.Machine.{Mode, Blank, Block, Half, Clear, Semi, Paren, half, out, deeper, in_block, Turn, Go, Stay, Take, turn, step}
use Rattle.feeder.specs.declared.State.{State}
use Rattle.feeder.specs.Feeding.{Fed, fed, Reply, more, finish, ready, live, dead, plus, stepped, feed_from, feed_of}
use Rattle.feeder.specs.PrivateRuns.{ahead, call, moved, Moves, inside_of}
use Rattle.feeder.specs.declared.runs.Moved.{Moved}
use Rattle.feeder.specs.declared.runs.Moved.TheVariants.{On, Give, Halt}

module _ (q : List ℕ) (p i : ℕ) (m : Mode) where
  looked : (r : ℕ) → r < source_limit → (b : ℕ) → step m r b ≡ turn m r b
  unfolding step
  looked r l b = rw (lt-leb source_limit r l) refl

  -- before the first byte
  pub call_start : call q p 0 m ≡ feed_from m p q
  unfolding call
  call_start =
      let f = feed_from m p q in
      ap (λ (r : ℕ). ahead 0 (feed_from m r q)) (add-zero p) ∙ ap (λ (u : ℕ). fed f.reply u f.state) (zero-add f.used)

  -- the whole piece is consumed
  pub call_end : length q ≤ i → call q p i m ≡ fed (ok more) i (live m (p + i))
  unfolding call feed_from
  call_end h = rw (drop_of_length-le q h) (ap (λ (u : ℕ). fed (ok more) u (live m (p + i))) (add-zero i))

  -- what a turn makes of the call
  abbrev turned : Result Turn → Fed
  turned x = ahead i (stepped x (p + i) (λ k. feed_from k (suc (p + i)) (drop (i + 1) q)))

  opened : i < length q → call q p i m ≡ turned (step m (p + i) (get_or q i 0))
  unfolding call feed_from
  opened h = ap (λ (l : List ℕ). ahead i (feed_from m (p + i) l)) (from q i h)

  -- a byte at the limit is not looked at
  pub call_limit : i < length q → source_limit ≤ p + i → call q p i m ≡ fed (refused too_long source_limit) i (dead too_long source_limit (p + i))
  unfolding call step
  call_limit h l = opened h ∙ rw (le-leb source_limit (p + i) l) (ap (λ (u : ℕ). fed (refused too_long source_limit) u (dead too_long source_limit (p + i))) (add-zero i))

  module _ (h : i < length q) (l : p + i < source_limit) where
    below : call q p i m ≡ turned (turn m (p + i) (get_or q i 0))
    unfolding call
    below = opened h ∙ ap turned (looked (p + i) l (get_or q i 0))

    pub call_go : (k : Mode) → turn m (p + i) (get_or q i 0) ≡ ok (Go k) → call q p i m ≡ call q p (i + 1) k
    unfolding call
    call_go k e =
        let f = feed_from k (suc (p + i)) (drop (i + 1) q) in
        let n : i + suc f.used ≡ i + 1 + f.used = omega arith in
        let o : suc (p + i) ≡ p + (i + 1) = omega arith in
        below ∙ ap turned e ∙ ap (λ (u : ℕ). fed f.reply u f.state) n ∙ ap (λ (r : ℕ). ahead (i + 1) (feed_from k r (drop (i + 1) q))) o

    pub call_stay : (t : Token) → turn m (p + i) (get_or q i 0) ≡ ok (Stay t) → call q p i m ≡ fed (ok (ready t)) i (live Blank (p + i))
    unfolding call
    call_stay t e = below ∙ ap turned e ∙ ap (λ (u : ℕ). fed (ok (ready t)) u (live Blank (p + i))) (add-zero i)

    pub call_take : (t : Token) → turn m (p + i) (get_or q i 0) ≡ ok (Take t) → call q p i m ≡ fed (ok (ready t)) (i + 1) (live Blank (p + (i + 1)))
    unfolding call
    call_take t e =
        let o : suc (p + i) ≡ p + (i + 1) = omega arith in
        below ∙ ap turned e ∙ ap (λ (r : ℕ). fed (ok (ready t)) (i + 1) (live Blank r)) o

    pub call_halt : (n a : ℕ) → turn m (p + i) (get_or q i 0) ≡ refused n a → call q p i m ≡ fed (refused n a) i (dead n a (p + i))
    unfolding call
    call_halt n a e = below ∙ ap turned e ∙ ap (λ (u : ℕ). fed (refused n a) u (dead n a (p + i))) (add-zero i)

-- a run in mode k is one in mode m where the first byte does the same in both
pub as_in : (q : List ℕ) (p i : ℕ) (m k : Mode) (x : Moved) → Moves q p i k x → i < length q → p + length q ≤ source_limit → turn m (p + i) (get_or q i 0) ≡ turn k (p + i) (get_or q i 0) → Moves q p i m x
as_in q p i m k x n h b e =
    let u = below q p i m h (omega arith) ∙ ap (turned q p i m) e ∙ sym (below q p i k h (omega arith)) in
    record { further = n.further; same = n.same ∙ sym u }

-- a run in mode m that began at i has come to the end of the piece in mode k
pub stops : (q : List ℕ) (p i j : ℕ) (m k : Mode) → call q p j k ≡ call q p i m → i < j → j ≤ length q → length q ≤ j → Moves q p i m (On k (length q))
unfolding moved
stops q p i j m k kept l h e = let n : j ≡ length q = omega arith in record { further = (omega arith, omega arith); same = sym (ap (λ (u : ℕ). call q p u k) n) ∙ kept }

-- a run in mode m that began at i has come to the byte at j in mode k: where that byte takes it
module _ (q : List ℕ) (p i j : ℕ) (m k : Mode) (kept : call q p j k ≡ call q p i m) (l : i ≤ j) (h : j < length q) (b : p + length q ≤ source_limit) where
  pub comes : (n : Mode) → turn k (p + j) (get_or q j 0) ≡ ok (Go n) → call q p (j + 1) n ≡ call q p i m
  comes n e = sym (call_go q p j k h (omega arith) n e) ∙ kept

  pub goes : (n : Mode) → turn k (p + j) (get_or q j 0) ≡ ok (Go n) → Moves q p i m (On n (j + 1))
  unfolding moved
  goes n e = record { further = (omega arith, omega arith); same = comes n e }

  pub stays : (t : CodeToken) (st : ℕ) → turn k (p + j) (get_or q j 0) ≡ ok (Stay (token_of t st)) → Moves q p i m (Give t st j)
  unfolding moved
  stays t st e = record { further = omega arith; same = sym (call_stay q p j k h (omega arith) (token_of t st) e) ∙ kept }

  pub takes : (t : CodeToken) (st : ℕ) → turn k (p + j) (get_or q j 0) ≡ ok (Take (token_of t st)) → Moves q p i m (Give t st (j + 1))
  unfolding moved
  takes t st e = record { further = omega arith; same = sym (call_take q p j k h (omega arith) (token_of t st) e) ∙ kept }

  pub halts : (r : Refusal) → turn k (p + j) (get_or q j 0) ≡ refused_by r → Moves q p i m (Halt r j)
  unfolding moved
  halts r e = record { further = omega arith; same = sym (call_halt q p j k h (omega arith) r.number r.place e) ∙ kept }

-- each outcome of a turn, for a run
pub ruleset moves = (stops, comes, goes, stays, takes, halts)

-- no literal is the source's end
signed_goes_on : (st e : ℕ) (z : Integer) → signed st e z ≢ ok end
signed_goes_on st e (is_integer z) h = cc
signed_goes_on st e no_integer h = cc

literal_goes_on : (minus : Bool) (st e : ℕ) (x : Reading) → concluded minus st e x ≢ ok end
unfolding concluded
literal_goes_on minus st e Empty h = cc
literal_goes_on minus st e (Bad digit) h = cc
literal_goes_on minus st e (Number n) h = signed_goes_on st e (integer_of minus (val n)) h

pub no_source_end : (y : CodeResult Lexed Refusal) (minus : Bool) (st e : ℕ) (x : Reading) → answer_of y ≡ concluded minus st e x → answer_of y ≢ ok end
no_source_end y minus st e x f h = literal_goes_on minus st e x (sym f ∙ h)

-- the mode of a block comment that goes on or is left
abbrev pub mode_of : ℕ → Option (ℕ × Half) → Mode
mode_of st None = Blank
mode_of st (Some g) = Block st g.0 g.1

out_on : (st d : ℕ) → out st d ≡ mode_of st (cond (leb d 1) None (Some (d - 1, Clear)))
out_on st d = by (leb d 1)
  where
    by : (t : _) → cond t Blank (Block st (d - 1) Clear) ≡ mode_of st (cond t None (Some (d - 1, Clear)))
    by true = refl
    by false = refl

pub inside_is : (c : Class) (st d : ℕ) (h : Half) → in_block c st d h ≡ mode_of st (inside_of c d h)
inside_is c st d Clear = refl
inside_is c st d Semi = by (rparen c)
  where
    by : (t : _) → cond t (out st d) (Block st d (half c)) ≡ mode_of st (cond t (cond (leb d 1) None (Some (d - 1, Clear))) (Some (d, half c)))
    by true = out_on st d
    by false = refl
inside_is c st d Paren = by (semicolon c)
  where
    by : (t : _) → cond t (Block st (deeper d) Clear) (Block st d (half c)) ≡ mode_of st (cond t (Some (deeper d, Clear)) (Some (d, half c)))
    by true = refl
    by false = refl

-- a call on more bytes, by what the call on the first ones gave
abbrev resumed_by : Result Reply → Fed → List ℕ → Fed
resumed_by (ok more) f s = ahead f.used (feed_of f.state s)
resumed_by (ok finish) f s = f
resumed_by (ok (ready t)) f s = f
resumed_by (refused n a) f s = f

abbrev pub resumed : Fed → List ℕ → Fed
resumed f s = resumed_by f.reply f s

plus_resumed : (a : Result Reply) (f : Fed) (s : List ℕ) → plus (resumed_by a f s) ≡ resumed_by a (plus f) s
plus_resumed (ok more) f s = let g = feed_of f.state s in let n : suc (f.used + g.used) ≡ suc f.used + g.used = omega arith in ap (λ (u : ℕ). fed g.reply u g.state) n
plus_resumed (ok finish) f s = refl
plus_resumed (ok (ready t)) f s = refl
plus_resumed (refused n a) f s = refl

resumed_on : (x : Result Turn) (p : ℕ) (q s : List ℕ) → ((k : Mode) → feed_from k (suc p) (q ++ s) ≡ resumed (feed_from k (suc p) q) s)
    → stepped x p (λ k. feed_from k (suc p) (q ++ s)) ≡ resumed (stepped x p (λ k. feed_from k (suc p) q)) s
resumed_on (ok (Go k)) p q s h = let f = feed_from k (suc p) q in ap plus (h k) ∙ plus_resumed f.reply f s
resumed_on (ok (Stay t)) p q s h = refl
resumed_on (ok (Take t)) p q s h = refl
resumed_on (refused n a) p q s h = refl

pub feed_resumed : (m : Mode) (p : ℕ) (q s : List ℕ) → feed_from m p (q ++ s) ≡ resumed (feed_from m p q) s
unfolding feed_from feed_of
feed_resumed m p [] s = let f = feed_from m p s in ap (λ (u : ℕ). fed f.reply u f.state) (sym (zero-add f.used))
feed_resumed m p (b ∷ q) s = resumed_on (step m p b) p q s (λ k. feed_resumed k (suc p) q s)

-- a call on q and s, by what the call on q gave
module _ (m : Mode) (p : ℕ) (q s : List ℕ) where
  pub cut_ready : (t : Token) (u : ℕ) (k : State) → fed (ok (ready t)) u k ≡ feed_from m p q → fed (ok (ready t)) u k ≡ feed_from m p (q ++ s)
  cut_ready t u k e = ap (λ (f : Fed). resumed f s) e ∙ sym (feed_resumed m p q s)

  pub cut_refused : (r : Refusal) (u : ℕ) (k : State) → fed (refused_by r) u k ≡ feed_from m p q → fed (refused_by r) u k ≡ feed_from m p (q ++ s)
  cut_refused r u k e = ap (λ (f : Fed). resumed f s) e ∙ sym (feed_resumed m p q s)

  -- the bytes of q are all consumed
  pub cut_more : (k : Mode) → call q p (length q) k ≡ feed_from m p q → call (q ++ s) p (length q) k ≡ feed_from m p (q ++ s)
  unfolding call feed_of
  cut_more k e =
      ap (λ (l : List ℕ). ahead (length q) (feed_from k (p + length q) l)) (drop-append_seam q s)
      ∙ ap (λ (f : Fed). resumed f s) (sym (call_end q p (length q) k (omega arith)) ∙ e)
      ∙ sym (feed_resumed m p q s)
