-- A call's turns, one after the other, in the code. Assumes nothing.
use Rattle.std.proofs.Common.{◌≡◌, ℕ, suc, ◌+◌, ◌-◌, ◌<◌, ◌≤◌, ◌⊎◌, inl, inr, Bool, true, false, cond, ◌||◌, eqb, List, [], ◌++◌, length, take, drop, sym, refl, ap, ◌∙◌, subst, append_assoc, append-nil, arith, eq-eqb, ne_eqb}
use borrow.Rule.Slice.PartMut.{put_mid}
use Rattle.refusals.specs.Result.{Result, ok, refused, and_then}
use Rattle.lists.proofs.Writing.{Wrote, wrote_none, wrote_lent, wrote_length, part_length}
use Rattle.table.specs.Trees.{Trees}
use Rattle.table.specs.Decoding.{Found, found, table_of, judged}
use denote.Enum.Bare.{sameb}
use Rattle.windows.specs.contracts.Phase.{the_type}
use Rattle.windows.specs.Machine.{Phase, Fresh, Node, Sign, Gap, Back, Close, Line, Between, Done, Cursor, State, state, is_done, is_fresh, start_cursor}
use Rattle.windows.specs.Filling.{Ran, ran, turn, before, run, Call, call, go_on, first, fill_of}
use Rattle.windows.specs.declared.Ran.{Ran as CodeRan}
use Rattle.windows.specs.PrivateGiving.{Runs, begins}
use Rattle.windows.proofs.AnyCall.{turn_few}

abbrev pub code_ran : ℕ → Cursor → CodeRan
code_ran n c = record { n = n; cursor = c }

-- ---- the code's tests of a phase

pub done_test : (f : Phase) → sameb the_type f Done ≡ is_done f
done_test Fresh = refl
done_test Node = refl
done_test Sign = refl
done_test Gap = refl
done_test Back = refl
done_test Close = refl
done_test Line = refl
done_test Between = refl
done_test Done = refl

pub fresh_test : (f : Phase) → sameb the_type f Fresh ≡ is_fresh f
fresh_test Fresh = refl
fresh_test Node = refl
fresh_test Sign = refl
fresh_test Gap = refl
fresh_test Back = refl
fresh_test Close = refl
fresh_test Line = refl
fresh_test Between = refl
fresh_test Done = refl

-- ---- turn after turn

pub record Running (t : List ℕ) (w : ℕ) (s₀ : State) (b₀ b : List ℕ) (s : State) (n i : ℕ) : Type 0 where
  pub o : List ℕ
  pub wrote : Wrote o b₀ b n
  pub upto : i ≤ length b₀
  pub same : before (ran o s) (λ s'. run (length b₀ - i) t w s' (length b₀ - n)) ≡ run (length b₀) t w s₀ (length b₀)

pub running_begin : (t : List ℕ) (w : ℕ) (s : State) (b : List ℕ) → Running t w s b b s 0 0
running_begin t w s b =
    let z : length b - 0 ≡ length b = omega arith in
    record { o = []; wrote = wrote_none b; upto = omega arith; same = rw z refl }

module _ (t : List ℕ) (w : ℕ) (s₀ : State) (b₀ b : List ℕ) (c : Cursor) (k : List ℕ) (n i : ℕ) (h : Running t w s₀ b₀ b (state c k) n i) where
  abbrev s : State
  s = state c k

  -- the run ends here
  ended : run (length b₀ - i) t w s (length b₀ - n) ≡ ran [] s → Runs (run (length b₀) t w s₀ (length b₀)) b₀ b k (code_ran n c)
  ended e =
      let x : ran h.o s ≡ run (length b₀) t w s₀ (length b₀) =
      ap (λ (y : List ℕ). ran y s) (sym (append-nil h.o)) ∙ sym (ap (λ (r : Ran). ran (h.o ++ r.out) r.state) e) ∙ h.same in
      subst (λ (r : Ran). Runs r b₀ b k (code_ran n c)) x (sym h.wrote.size, refl, h.wrote.holds)

  pub running_end : length b₀ ≤ i → Runs (run (length b₀) t w s₀ (length b₀)) b₀ b k (code_ran n c)
  unfolding run
  running_end l = let z : length b₀ - i ≡ 0 = omega arith in ended (rw z refl)

  one_more : i < length b₀ → length b₀ - i ≡ suc (length b₀ - (i + 1))
  one_more l = omega arith

  pub running_stop : i < length b₀ → (d : Bool) → d ≡ sameb the_type c.phase Done → (d ≡ true) ⊎ (d ≡ false) × (n ≡ length b₀) → Runs (run (length b₀) t w s₀ (length b₀)) b₀ b k (code_ran n c)
  unfolding run
  running_stop l d e f = ended (rw (one_more l, stops f) refl)
    where
      is : d ≡ is_done c.phase
      is = e ∙ done_test c.phase

      stops : (d ≡ true) ⊎ (d ≡ false) × (n ≡ length b₀) → (is_done c.phase || eqb (length b₀ - n) 0) ≡ true
      stops (inl f) = rw (sym is ∙ f) refl
      stops (inr (f, h)) = rw (sym is ∙ f) (eq-eqb (length b₀ - n) 0 (omega arith))

  module _ (l : i < length b₀) (d : Bool) (e : d ≡ sameb the_type c.phase Done) (f : d ≡ false) (m : n ≡ length b₀ → ⊥) (r : CodeRan) (k' ys : List ℕ)
      (g : Runs (turn t w s (length (take (length b - n) (drop n b)))) (take (length b - n) (drop n b)) ys k' r) where
    room : length (take (length b - n) (drop n b)) ≡ length b₀ - n
    room = part_length n b ∙ ap (λ (j : ℕ). j - n) (wrote_length h.wrote)

    abbrev x : Ran
    x = turn t w s (length b₀ - n)

    told : Runs x (take (length b - n) (drop n b)) ys k' r
    told = subst (λ (j : ℕ). Runs (turn t w s j) (take (length b - n) (drop n b)) ys k' r) room g

    pub turn_small : n + r.n ≤ length b₀
    turn_small = let q = h.wrote.within in let z = turn_few t w s (length b₀ - n) in let k = told.0 in omega (arith, q, z, k)

    goes : (is_done c.phase || eqb (length b₀ - n) 0) ≡ false
    goes = rw (sym (e ∙ done_test c.phase) ∙ f) (let q = h.wrote.within in ne_eqb (length b₀ - n) 0 (λ z. m (omega (arith, q))))

    unrolled : run (length b₀ - i) t w s (length b₀ - n) ≡ before x (λ s'. run (length b₀ - (i + 1)) t w s' (length b₀ - n - length x.out))
    unfolding run
    unrolled = rw (one_more l, goes) refl

    pub running_step : Running t w s₀ b₀ (put_mid n (length b - n) b ys) (state r.cursor k') (n + r.n) (i + 1)
    running_step =
        let m : ℕ = length b₀ - (i + 1) in
        let y : Ran = run m t w x.state (length b₀ - n - length x.out) in
        let ej : length b₀ - (n + r.n) ≡ length b₀ - n - length x.out = let z = told.0 in omega (arith, z) in
        let e1 : run m t w (state r.cursor k') (length b₀ - (n + r.n)) ≡ y =
        ap (λ (s' : State). run m t w s' (length b₀ - (n + r.n))) told.1 ∙ ap (λ (j : ℕ). run m t w x.state j) ej in
        record {
          o = h.o ++ x.out;
          wrote = wrote_lent h.wrote x.out ys r.n (sym told.0) turn_small told.2;
          upto = omega arith;
          same =
              ap (λ (z : Ran). ran ((h.o ++ x.out) ++ z.out) z.state) e1 ∙ ap (λ (z : List ℕ). ran z y.state) (append_assoc h.o x.out y.out)
              ∙ sym (ap (λ (z : Ran). ran (h.o ++ z.out) z.state) unrolled) ∙ h.same;
        }

-- ---- where a call goes on from: begun before, or checked now

module _ (t : List ℕ) (w : ℕ) (c : Cursor) (d : Bool) (e : d ≡ sameb the_type c.phase Fresh) where
  pub begun_now : d ≡ true → (v : Result (Unit {0})) → v ≡ judged (table_of t) → and_then v (λ u. ok (start_cursor (length t) w)) ≡ begins t w c
  unfolding begins
  begun_now f v ev = rw (ev, sym (fresh_test c.phase) ∙ sym e ∙ f) refl

  pub begun_before : d ≡ false → ok c ≡ begins t w c
  unfolding begins
  begun_before f = rw (sym (fresh_test c.phase) ∙ sym e ∙ f) refl

module _ (t : List ℕ) (w : ℕ) (s : State) (b : List ℕ) where
  abbrev pub goes_on : Result Cursor → Call
  goes_on (ok c) = go_on t w s (state c s.stack) b
  goes_on (refused n a) = call (refused n a) s b

  first_is : (y : Result (Found Trees)) → goes_on (and_then (judged y) (λ u. ok (start_cursor (length t) w))) ≡ first t w s b y
  first_is (ok (found xs q)) = refl
  first_is (refused n a) = refl

  pub fill_is : (y : Result Cursor) → y ≡ begins t w s.cursor → goes_on y ≡ fill_of t w s b
  unfolding begins fill_of
  fill_is y e = ap goes_on e ∙ by (is_fresh s.cursor.phase)
    where
      by : (z : Bool) → goes_on (cond z (and_then (judged (table_of t)) (λ u. ok (start_cursor (length t) w))) (ok s.cursor)) ≡ cond z (first t w s b (table_of t)) (go_on t w s s b)
      by true = first_is (table_of t)
      by false = refl
