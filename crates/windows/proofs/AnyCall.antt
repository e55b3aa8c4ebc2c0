-- The four ways in which a call ends, on any table, width, state and window, and what holds of each. Assumes nothing.
use Rattle.std.proofs.Common.{◌≡◌, ℕ, zero, suc, ◌-◌, ◌<◌, ◌≤◌, Bool, true, false, cond, ◌||◌, eqb, leb, List, [], length, drop, sym, refl, ap, ◌∙◌, arith, length-append, length-drop, length-take-le, drop_at, eqb-true, leb-false, leb-true}
use borrow.Author.Tests.{eqb-false}
use Rattle.refusals.specs.Result.{Result, ok, refused}
use Rattle.lists.proofs.Choice.{pick}
use Rattle.table.specs.Trees.{Trees}
use Rattle.table.specs.Decoding.{Found, found, table_of}
use Rattle.windows.specs.Machine.{Phase, Fresh, Node, Sign, Gap, Back, Close, Line, Between, Done, State, is_done, is_fresh, started}
use Rattle.windows.specs.Filling.{Ran, ran, rest, turn, before, run, part, end, Call, call, filled, go_on, first, fill_of}
use Rattle.windows.specs.AnyCall.{Within, GivenWithin, NoRoom, EndStays, RefusedAtFirst}

pub done_not_fresh : (f : Phase) → is_done f ≡ true → is_fresh f ≡ false
done_not_fresh Fresh e = sym e
done_not_fresh Node e = refl
done_not_fresh Sign e = refl
done_not_fresh Gap e = refl
done_not_fresh Back e = refl
done_not_fresh Close e = refl
done_not_fresh Line e = refl
done_not_fresh Between e = refl
done_not_fresh Done e = refl

module _ (t : List ℕ) (w : ℕ) (s : State) (b : List ℕ) where
  -- a call on a state that has begun, and one on a fresh state
  pub fill_begun : is_fresh s.cursor.phase ≡ false → fill_of t w s b ≡ go_on t w s s b
  unfolding fill_of
  fill_begun e = ap (λ (z : Bool). cond z (first t w s b (table_of t)) (go_on t w s s b)) e

  pub fill_fresh : (y : Result (Found Trees)) → is_fresh s.cursor.phase ≡ true → table_of t ≡ y → fill_of t w s b ≡ first t w s b y
  unfolding fill_of
  fill_fresh y e f = ap (λ (z : Bool). cond z (first t w s b (table_of t)) (go_on t w s s b)) e ∙ ap (first t w s b) f

  -- what holds of a call that answers the end, of one with no room, of one that runs, and of one that refuses, holds of any
  module _ (P : Call → Type 0) (at_end : (at : State) → is_done at.cursor.phase ≡ true → P (call (ok (end at.cursor.looked)) at b)) (empty : length b ≡ 0 → P (call (ok (part 0)) s b))
      (runs : (at : State) → 0 < length b → P (filled (run (length b) t w at (length b)) b)) where
    go_cases : (at : State) → P (go_on t w s at b)
    go_cases at =
        pick P (is_done at.cursor.phase) (λ e. at_end at e) (λ e.
        pick P (eqb (length b) 0) (λ f. empty (eqb-true (length b) 0 f)) (λ f. let g = eqb-false (length b) 0 f in runs at (omega (arith, g))))

    module _ (refuses : (n a : ℕ) → is_fresh s.cursor.phase ≡ true → table_of t ≡ refused n a → P (call (refused n a) s b)) where
      first_cases : is_fresh s.cursor.phase ≡ true → (y : Result (Found Trees)) → table_of t ≡ y → P (first t w s b y)
      first_cases e (ok (found xs q)) f = go_cases (started t w s)
      first_cases e (refused n a) f = refuses n a e f

      pub fill_cases : P (fill_of t w s b)
      unfolding fill_of
      fill_cases = pick P (is_fresh s.cursor.phase) (λ e. first_cases e (table_of t) refl) (λ e. go_cases s)

-- ---- what a call reports

module _ (t : List ℕ) (w : ℕ) where
  pub turn_few : (s : State) (n : ℕ) → length (turn t w s n).out ≤ n
  turn_few s n =
      pick (λ (x : Ran). length x.out ≤ n) (leb (length (rest t s)) n) (λ e. leb-true (length (rest t s)) n e)
      (λ e. let g = leb-false (length (rest t s)) n e in let z = length-take-le n (rest t s) (omega (arith, g)) in omega (arith, z))

  run_few : (k n : ℕ) (s : State) → length (run k t w s n).out ≤ n
  unfolding run
  run_few zero n s = omega arith
  run_few (suc k) n s = by (run_few k)
    where
      by : ((n : ℕ) (s : State) → length (run k t w s n).out ≤ n)
          → length (cond (is_done s.cursor.phase || eqb n 0) (ran [] s) (before (turn t w s n) (λ s'. run k t w s' (n - length (turn t w s n).out)))).out ≤ n
      by ih =
          let j : ℕ = n - length (turn t w s n).out in
          let s' : State = (turn t w s n).state in
          pick (λ (x : Ran). length x.out ≤ n) (is_done s.cursor.phase || eqb n 0) (λ e. omega arith)
          (λ e. rw (length-append (turn t w s n).out (run k t w s' j).out) (omega (arith, turn_few s n, ih j s')))

  filled_within : (b : List ℕ) (r : Ran) → length r.out ≤ length b → Within (filled r b) b
  filled_within b r h = record {
    few = h;
    past = drop_at r.out (drop (length r.out) b) (length r.out) refl;
    size = length-append r.out (drop (length r.out) b) ∙ rw (length-drop (length r.out) b) (omega arith);
  }

pub given_within : GivenWithin
given_within t w s b =
    fill_cases t w s b (λ (c : Call). Within c b) (λ at e. record { few = omega arith; past = refl; size = refl }) (λ e. record { few = omega arith; past = refl; size = refl })
    (λ at h. filled_within t w b (run (length b) t w at (length b)) (run_few t w (length b) (length b) at)) (λ n a e f. record { few = omega arith; past = refl; size = refl })

-- ---- what becomes of the state

pub no_room : NoRoom
no_room t w s b n h =
    fill_cases t w s b (λ (c : Call). c.answer ≡ ok (part n) → c ≡ call (ok (part 0)) s b) (λ at e f. cc) (λ e f. refl)
    (λ at l f. absurd (omega arith)) (λ m a e g f. cc)

-- a state whose end was answered with k
abbrev Over : ℕ → State → Type 0
Over k s = (is_done s.cursor.phase ≡ true) × (s.cursor.looked ≡ k)

fill_over : (t : List ℕ) (w : ℕ) (s : State) (b : List ℕ) (k : ℕ) → (fill_of t w s b).answer ≡ ok (end k) → Over k (fill_of t w s b).state
fill_over t w s b k =
    fill_cases t w s b (λ (c : Call). c.answer ≡ ok (end k) → Over k c.state) (λ at e f. (e, cc))
    (λ e f. cc) (λ at l f. cc)
    (λ n a e g f. cc)

pub end_stays : EndStays
end_stays t w s b b' k h =
    let s' : State = (fill_of t w s b).state in
    let e = fill_over t w s b k h in
    fill_begun t w s' b' (done_not_fresh s'.cursor.phase e.0)
    ∙ ap (λ (z : Bool). cond z (call (ok (end s'.cursor.looked)) s' b') (cond (eqb (length b') 0) (call (ok (part 0)) s' b') (filled (run (length b') t w s' (length b')) b'))) e.0
    ∙ ap (λ (j : ℕ). call (ok (end j)) s' b') e.1

pub refused_at_first : RefusedAtFirst
refused_at_first t w s b n a =
    fill_cases t w s b
    (λ (c : Call). c.answer ≡ refused n a → (is_fresh s.cursor.phase ≡ true) × (table_of t ≡ refused n a) × (c ≡ call (refused n a) s b))
    (λ at e f. cc) (λ e f. cc)
    (λ at l f. cc)
    (λ m c e g f. let em : m ≡ n = cc in let ec : c ≡ a = cc in (e, rw (sym em, sym ec) g, rw (em, ec) refl))
