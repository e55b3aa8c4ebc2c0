-- For a good table the windows, whatever their lengths, joined are the front of its text, all of it once they suffice, and then the end is answered, with the records
-- that the fits test looked at. Assumes that the table's elements are bytes.
use Rattle.std.proofs.Common.{◌≡◌, ℕ, zero, suc, ◌+◌, ◌-◌, ◌%◌, ◌^◌, ◌<◌, ◌≤◌, Bool, true, false, cond, eqb, leb, List, [], ◌∷◌, ◌++◌, length, take, drop, sym, refl, ap, ◌∙◌, subst, append-nil, mod-eq_of_lt, arith, lit≤, length-append, length-drop, drop_of_length-le, length-take-le, take_all, drop-drop, take_at, take-add, eqb-true, leb-false, leb-true}
use mathlib.Core.Path.{subst⁻¹}
use lib.Seq.{take-nil, drop-nil, take-append-le, drop-append-le, take-append-add, drop-append-add}
use borrow.Author.Tests.{eqb-false}
use Rattle.std.specs.Prelude.{Result as CodeResult, Ok, Err}
use Rattle.refusals.specs.Result.{ok, refused}
use Rattle.refusals.specs.declared.Fault.{Fault}
use Rattle.lists.specs.Over.{over}
use Rattle.wide.specs.Bytes.{Bytes}
use Rattle.table.specs.Trees.{Trees}
use Rattle.table.specs.declared.Record.{Record}
use Rattle.table.specs.declared.Record.TheVariants.{Symbol, Integer, Binding, List as ListOf}
use Rattle.table.specs.Records.{record_at}
use Rattle.table.specs.Decoding.{found, table_of}
use Rattle.table.proofs.Whole.{sound}
use Rattle.printer.specs.Layout.{Wrapping, Wrap, SingleLine, page}
use Rattle.printer.specs.Looking.{page_looked}
use Rattle.printer.proofs.LookedBound.{looked_small}
use Rattle.windows.specs.Machine.{Phase, Fresh, Node, Sign, Gap, Back, Close, Line, Between, Done, Cursor, State, is_done, is_fresh, mode_of, phase_put, put_of, test_for, node_next, regiven, gap_for, phase_next, next_of, fresh_state, started}
use Rattle.windows.specs.Filling.{Ran, ran, rest, more_given, turn, before, run, part, end, Call, call, filled, go_on, fill_of, handed, answer_for, calls, room}
use Rattle.windows.specs.Joined.{Begins, WindowsJoined, WindowsEnd, WindowsRefused}
use Rattle.windows.proofs.AnyCall.{done_not_fresh, fill_begun, fill_fresh, end_stays}
use Rattle.windows.proofs.Prints.{Prints, over as ended, puts, page_puts}

module _ (t : List ℕ) (w total : ℕ) where
  -- from s on, whose next put may be given in part, o is what is left; at its end `total` records are looked at
  pub data Rests : State → List ℕ → Type 0 where
    none_left : (s : State) (o : List ℕ) → is_done s.cursor.phase ≡ true → s.cursor.looked ≡ total → o ≡ [] → Rests s o
    some_left : (s : State) (o r : List ℕ) → is_done s.cursor.phase ≡ false → is_fresh s.cursor.phase ≡ false → s.cursor.given < length (put_of t s.cursor)
        → o ≡ rest t s ++ r → Prints t w total (next_of t w s) r → Rests s o

  rests : (s : State) (o : List ℕ) → Prints t w total s o → Rests s o
  rests s o (ended _ _ e u f) = none_left s o e u f
  rests s o (puts _ _ r e b l f h) =
      some_left s o r e b.0 (subst⁻¹ (λ (j : ℕ). j < length (put_of t s.cursor)) b.1 l) (f ∙ ap (λ (j : ℕ). drop j (put_of t s.cursor) ++ r) (sym b.1)) h

  -- what is given of the next put plays no part in what comes after it
  test_given : (c : Cursor) (n : ℕ) (m : Wrapping) → test_for t w (regiven c n) m ≡ test_for t w c m
  test_given c n Wrap = refl
  test_given c n SingleLine = refl

  node_given : (s : State) (n : ℕ) (x : CodeResult Record Fault) → node_next t w (more_given s n) x ≡ node_next t w s x
  node_given s n (Ok (Symbol len)) = refl
  node_given s n (Ok Integer) = refl
  node_given s n (Ok (Binding len)) = refl
  node_given s n (Ok (ListOf m)) = rw (test_given s.cursor (s.cursor.given + n) (mode_of s.cursor.margin)) refl
  node_given s n (Err f) = refl

  gap_given : (c : Cursor) (n : ℕ) (m : Wrapping) → gap_for (regiven c n) w m ≡ gap_for c w m
  gap_given c n Wrap = refl
  gap_given c n SingleLine = refl

  phase_given : (s : State) (n : ℕ) (f : Phase) → is_done f ≡ false → is_fresh f ≡ false → phase_next t w (more_given s n) f ≡ phase_next t w s f
  phase_given s n Fresh e b = cc
  phase_given s n Node e b = node_given s n (record_at t s.cursor.at)
  phase_given s n Sign e b = refl
  phase_given s n Gap e b =
      ap (λ (c : Cursor). record { cursor = c; stack = s.stack }) (gap_given s.cursor (s.cursor.given + n) (mode_of s.cursor.margin))
  phase_given s n Back e b = refl
  phase_given s n Close e b = refl
  phase_given s n Line e b = refl
  phase_given s n Between e b = refl
  phase_given s n Done e b = cc

  next_given : (s : State) (n : ℕ) → is_done s.cursor.phase ≡ false → is_fresh s.cursor.phase ≡ false → next_of t w (more_given s n) ≡ next_of t w s
  unfolding next_of
  next_given s n e b = phase_given s n s.cursor.phase e b

  put_given : (c : Cursor) (n : ℕ) → put_of t (regiven c n) ≡ put_of t c
  unfolding put_of
  put_given c n = by c.phase
    where
      by : (f : Phase) → phase_put t (regiven c n) f ≡ phase_put t c f
      by Fresh = refl
      by Node = refl
      by Sign = refl
      by Gap = refl
      by Back = refl
      by Close = refl
      by Line = refl
      by Between = refl
      by Done = refl

  -- a run of turns: into a room of n bytes go the first n that are left
  record Gives (x : Ran) (n : ℕ) (o : List ℕ) : Type 0 where
    out : x.out ≡ take n o
    left : Rests x.state (drop n o)

  gives_none : (s : State) (o : List ℕ) (n : ℕ) → n ≡ 0 → Rests s o → Gives (ran [] s) n o
  gives_none s o n e h = record { out = rw e refl; left = rw e h }

  abbrev Giving : ℕ → Type 0
  Giving k = (n : ℕ) (s : State) (o : List ℕ) → Rests s o → n ≤ k → Gives (run k t w s n) n o

  run_gives : (k n : ℕ) (s : State) (o : List ℕ) → Rests s o → n ≤ k → Gives (run k t w s n) n o
  unfolding run
  run_gives zero n s o h l = gives_none s o n (omega arith) h
  run_gives (suc k) n s o (none_left _ _ e u f) l =
      rw e (record { out = sym (ap (take n) f ∙ take-nil n); left = subst⁻¹ (Rests s) (ap (drop n) f ∙ drop-nil n) (none_left s [] e u refl) })
  run_gives (suc k) n s o (some_left _ _ r e b lt f h) l = rw e (by (run_gives k) (eqb n 0) refl)
    where
      whole : Rests s o
      whole = some_left s o r e b lt f h

      size : length (rest t s) ≡ length (put_of t s.cursor) - s.cursor.given
      size = length-drop s.cursor.given (put_of t s.cursor)

      turned : Giving k → (z : Bool) → leb (length (rest t s)) n ≡ z → 0 < n
          → Gives (before (cond z (ran (rest t s) (next_of t w s)) (ran (take n (rest t s)) (more_given s n)))
          (λ s'. run k t w s' (n - length (cond z (ran (rest t s) (next_of t w s)) (ran (take n (rest t s)) (more_given s n))).out))) n o
      turned go true ez pos =
          let le = leb-true (length (rest t s)) n ez in
          let j : ℕ = n - length (rest t s) in
          let ih = go j (next_of t w s) r (rests (next_of t w s) r h) (omega (arith, size, le)) in
          let en : n ≡ length (rest t s) + j = omega (arith, le) in
          record {
            out = ap (λ (y : List ℕ). rest t s ++ y) ih.out ∙ sym (ap (take n) f ∙ ap (λ (i : ℕ). take i (rest t s ++ r)) en ∙ take-append-add (rest t s) r j);
            left = subst⁻¹ (Rests (run k t w (next_of t w s) j).state) (ap (drop n) f ∙ ap (λ (i : ℕ). drop i (rest t s ++ r)) en ∙ drop-append-add (rest t s) r j) ih.left;
          }
      turned go false ez pos =
          let lt' = leb-false (length (rest t s)) n ez in
          let s2 : State = more_given s n in
          let g2 : ℕ = s.cursor.given + n in
          let o2 : List ℕ = drop n (rest t s) ++ r in
          let z : n - length (take n (rest t s)) ≡ 0 = rw (length-take-le n (rest t s) (omega (arith, lt'))) (omega arith) in
          let re : drop n (rest t s) ≡ rest t s2 = drop-drop n s.cursor.given (put_of t s.cursor) ∙ ap (drop g2) (sym (put_given s.cursor g2)) in
          let h2 : Rests s2 o2 = some_left s2 o2 r e b (rw (put_given s.cursor g2) (omega (arith, size, lt'))) (ap (λ (y : List ℕ). y ++ r) re)
          (subst⁻¹ (λ (y : State). Prints t w total y r) (next_given s n e b) h) in
          let ih = go 0 s2 o2 h2 (omega arith) in
          rw z (record {
            out = ap (λ (y : List ℕ). take n (rest t s) ++ y) ih.out ∙ append-nil (take n (rest t s)) ∙ sym (ap (take n) f ∙ take-append-le n (rest t s) r (omega (arith, lt')));
            left = subst⁻¹ (Rests (run k t w s2 0).state) (ap (drop n) f ∙ drop-append-le n (rest t s) r (omega (arith, lt'))) ih.left;
          })

      by : Giving k → (z : Bool) → eqb n 0 ≡ z → Gives (cond z (ran [] s) (before (turn t w s n) (λ s'. run k t w s' (n - length (turn t w s n).out)))) n o
      by go true ez = gives_none s o n (eqb-true n 0 ez) whole
      by go false ez = let f0 = eqb-false n 0 ez in turned go (leb (length (rest t s)) n) refl (omega (arith, f0))

  answer_some : (o : List ℕ) (n : ℕ) → 0 < length o → answer_for o total n ≡ ok (part (length (take n o)))
  answer_some [] n h = absurd (omega arith)
  answer_some (b ∷ o) n h = refl

  module _ (xs : Trees) where
    -- a state that calls have come to, with o left
    pub data Reached : State → List ℕ → Type 0 where
      fresh : (s : State) (o : List ℕ) → Begins s → o ≡ page xs w → Reached s o
      begun : (s : State) (o : List ℕ) → Rests s o → Reached s o

    pub record Told (c : Call) (o b : List ℕ) : Type 0 where
      pub answer : c.answer ≡ answer_for o total (length b)
      pub window : c.window ≡ over (take (length b) o) b
      pub given : (handed c).out ≡ take (length b) o
      pub state : Reached c.state (drop (length b) o)

    told_end : (s : State) (o b : List ℕ) → s.cursor.looked ≡ total → o ≡ [] → Reached s [] → Told (call (ok (end s.cursor.looked)) s b) o b
    told_end s o b u e h =
        let tk : take (length b) o ≡ [] = ap (take (length b)) e ∙ take-nil (length b) in
        record {
          answer = ap (λ (j : ℕ). ok (end j)) u ∙ ap (λ (y : List ℕ). answer_for y total (length b)) (sym e);
          window = ap (λ (y : List ℕ). over y b) (sym tk);
          given = sym tk;
          state = subst⁻¹ (Reached s) (ap (drop (length b)) e ∙ drop-nil (length b)) h;
        }

    told_none : (s : State) (o b : List ℕ) → 0 < length o → length b ≡ 0 → Reached s o → Told (call (ok (part 0)) s b) o b
    told_none s o b l e h = record {
      answer = rw e (sym (answer_some o 0 l));
      window = ap (λ (n : ℕ). over (take n o) b) (sym e);
      given = ap (λ (n : ℕ). take n o) (sym e);
      state = rw e h;
    }

    take_front : (a b : List ℕ) → take (length a) (a ++ drop (length a) b) ≡ a
    take_front a b = take_at a (drop (length a) b) (length a) refl

    told_some : (r : Ran) (o b : List ℕ) → 0 < length o → Gives r (length b) o → Told (filled r b) o b
    told_some r o b l g = record {
      answer = ap (λ (y : List ℕ). ok (part (length y))) g.out ∙ sym (answer_some o (length b) l);
      window = ap (λ (y : List ℕ). over y b) g.out;
      given = take_front r.out b ∙ g.out;
      state = begun r.state (drop (length b) o) g.left;
    }

    goes_on : (s at : State) (o b : List ℕ) → Reached s o → Rests at o → Told (go_on t w s at b) o b
    goes_on s at o b hs (none_left _ _ e u f) = rw e (told_end at o b u f (begun at [] (none_left at [] e u refl)))
    goes_on s at o b hs (some_left _ _ r e bg lt f h) = rw e (by (eqb (length b) 0) refl)
      where
        size : length (rest t at) ≡ length (put_of t at.cursor) - at.cursor.given
        size = length-drop at.cursor.given (put_of t at.cursor)

        l : 0 < length o
        l = omega (arith, lt, size, ap length f ∙ length-append (rest t at) r)

        by : (z : Bool) → eqb (length b) 0 ≡ z → Told (cond z (call (ok (part 0)) s b) (filled (run (length b) t w at (length b)) b)) o b
        by true ez = told_none s o b l (eqb-true (length b) 0 ez) hs
        by false ez = told_some (run (length b) t w at (length b)) o b l (run_gives (length b) (length b) at o (some_left at o r e bg lt f h) (omega arith))

    begun_of : (s : State) (o : List ℕ) → Rests s o → is_fresh s.cursor.phase ≡ false
    begun_of s o (none_left _ _ e u f) = done_not_fresh s.cursor.phase e
    begun_of s o (some_left _ _ r e b lt f h) = b

    module _ (q : ℕ) (hb : Bytes t) (good : table_of t ≡ ok (found xs q)) (all : page_looked xs w % 2 ^ 32 ≡ total) where
      start_rests : (s : State) → Begins s → Rests (started t w s) (page xs w)
      start_rests s h = let a = sound t xs q hb good in rests (started t w s) (page xs w) (page_puts t a.small w total xs s a.good a.is h.size all)

      -- every call on a state that calls have come to
      pub one_call : (s : State) (o b : List ℕ) → Reached s o → Told (fill_of t w s b) o b
      one_call s o b (begun _ _ h) = subst⁻¹ (λ (y : Call). Told y o b) (fill_begun t w s b (begun_of s o h)) (goes_on s s o b (begun s o h) h)
      one_call s o b (fresh _ _ e f) =
          subst⁻¹ (λ (y : Call). Told y o b) (fill_fresh t w s b (ok (found xs q)) e.fresh good)
          (goes_on s (started t w s) o b (fresh s o e f) (subst⁻¹ (Rests (started t w s)) f (start_rests s e)))

      pub all_calls : (bs : List (List ℕ)) (s : State) (o : List ℕ) → Reached s o
          → ((calls t w s bs).out ≡ take (room bs) o) × Reached (calls t w s bs).state (drop (room bs) o)
      unfolding calls room
      all_calls [] s o h = (refl, h)
      all_calls (b ∷ bs) s o h =
          let c = one_call s o b h in
          let i = all_calls bs (fill_of t w s b).state (drop (length b) o) c.state in (
            ap (λ (y : List ℕ). y ++ (calls t w (fill_of t w s b).state bs).out) c.given ∙ ap (λ (y : List ℕ). take (length b) o ++ y) i.0 ∙ sym (take-add (length b) (room bs) o),
            subst (Reached (calls t w (fill_of t w s b).state bs).state) (drop-drop (room bs) (length b) o) i.1,
          )

-- the state that the crate hands out begins
pub fresh_begins : Begins fresh_state
fresh_begins = record { fresh = refl; size = lit≤ tt }

pub windows_joined : WindowsJoined
windows_joined t w xs q s hb good h bs =
    let k : ℕ = page_looked xs w in
    let small : k % 2 ^ 32 ≡ k = mod-eq_of_lt (looked_small t w xs q hb good) in
    let a = all_calls t w k xs q hb good small bs s (page xs w) (fresh s (page xs w) h refl) in
    let s' : State = (calls t w s bs).state in
    let o : List ℕ = drop (room bs) (page xs w) in
    record {
      joined = a.0;
      answer = λ b. (one_call t w k xs q hb good small s' o b a.1).answer;
      window = λ b. (one_call t w k xs q hb good small s' o b a.1).window;
    }

pub windows_end : WindowsEnd
windows_end t w xs q s hb good h bs l =
    let a = windows_joined t w xs q s hb good h bs in
    let s' : State = (calls t w s bs).state in
    let none : drop (room bs) (page xs w) ≡ [] = drop_of_length-le (page xs w) {i = room bs} l in
    let k : ℕ = page_looked xs w in
    let answer : (b : List ℕ) → (fill_of t w s' b).answer ≡ ok (end k) = λ b. a.answer b ∙ ap (λ (y : List ℕ). answer_for y k (length b)) none in
    record {
      all = a.joined ∙ take_all (room bs) (page xs w) l;
      answer = answer;
      window = λ b. a.window b ∙ ap (λ (y : List ℕ). over y b) (ap (take (length b)) none ∙ take-nil (length b));
      stays = λ b b'. end_stays t w s' b b' k (answer b);
    }

pub windows_refused : WindowsRefused
windows_refused t w n a s b e f = fill_fresh t w s b (refused n a) e f
