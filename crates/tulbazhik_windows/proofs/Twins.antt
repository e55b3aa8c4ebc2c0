-- A print through the words of its state gives what it gives with the state at hand: what lies in the stack behind the first 64 words plays no part.
-- Assumes that the table's elements are bytes.
use mathlib.Core.Path.{◌≡◌, refl, sym, ap, subst, ◌∙◌}
use mathlib.Core.Bool.{Bool, true, false, cond, ◌||◌}
use mathlib.Core.List.{List, [], ◌∷◌, ◌++◌}
use Prim.Native.Nat.{ℕ, zero, suc, ◌-◌, ◌≤◌, ◌<◌}
use native.Mathlib.Omega.{arith}
use lib.Dec.{leb, eqb, ltb}
use lib.ListN.{length, length-set, get_or, set, take, replicate, get_or-replicate}
use lib.Seq.{length-sets, get_or-set_same, get_or-set_other}
use borrow.Author.Tests.{eqb-true, eqb-false, ltb-true}
use Rattle.std.specs.Prelude.{Result as CodeResult, Ok, Err}
use Rattle.refusals.specs.declared.Fault.{Fault}
use Rattle.refusals.specs.Result.{Result, ok, refused}
use Rattle.refusals.specs.Numbers.{depth_limit}
use Rattle.lists.specs.Over.{over}
use Rattle.lists.proofs.Choice.{pick}
use Rattle.wide.specs.Bytes.{Bytes}
use Rattle.table.specs.declared.Record.{Record}
use Rattle.table.specs.declared.Record.TheVariants.{Symbol, Integer, Binding, List as ListOf}
use Rattle.table.specs.Records.{record_at}
use Rattle.table.specs.Trees.{Trees}
use Rattle.table.specs.Decoding.{Found, found, table_of}
use Rattle.printer.specs.Layout.{Wrapping}
use Rattle.printer.proofs.CheckedRecords.{list_small}
use Rattle.windows.specs.declared.Phase.{Phase}
use Rattle.windows.specs.declared.Phase.TheVariants.{Fresh, Node, Sign, Gap, Back, Close, Line, Between, Done}
use Rattle.windows.specs.declared.Cursor.{Cursor}
use Rattle.windows.specs.declared.State.{State}
use Rattle.windows.specs.Machine.{state, is_done, is_fresh, single_margin, mode_of, past, test_for, margin_for, held_due, held_margin, list_next, node_next, gap_for, phase_next, next_of, fresh_state, start_cursor}
use Rattle.windows.specs.Filling.{Ran, rest, turn, run, part, Call, go_on, first, fill_of, handed, given_by, Answer, calls}
use Rattle.windows.proofs.Prints.{cursor}
use Rattle.tulbazhik_windows.specs.States.{cursor_words, stored, state_words, part_words, phase_in, cursor_in, unpack_of, calls_through, ThroughWords}
use Rattle.tulbazhik_windows.proofs.Packed.{Fits, back, sets_below}

-- a stack of 64 words, and one of 72 that begins with them
abbrev Low : List ℕ → List ℕ → Type 0
Low k k' = (length k ≡ 64) × (length k' ≡ 72) × ((i : ℕ) → i < 64 → get_or k i 0 ≡ get_or k' i 0)

abbrev Good : Cursor → Type 0
Good c = (c.depth ≤ 64) × Fits c

abbrev Twins : State → State → Type 0
Twins s s' = (s'.cursor ≡ s.cursor) × Low s.stack s'.stack × Good s.cursor

-- what holds of two choices by one test
pick₂ : {A : Type 0} (P : A → A → Type 0) (t : Bool) {x y x' y' : A} → (t ≡ true → P x x') → (t ≡ false → P y y') → P (cond t x y) (cond t x' y')
pick₂ P true f g = f refl
pick₂ P false f g = g refl

low_set : (k k' : List ℕ) (i x : ℕ) → i < 64 → Low k k' → Low (set k i x) (set k' i x)
low_set k k' i x h l = (length-set k i x ∙ l.0, length-set k' i x ∙ l.1, λ j m. at j m (eqb j i) refl)
  where
    at : (j : ℕ) → j < 64 → (b : Bool) → eqb j i ≡ b → get_or (set k i x) j 0 ≡ get_or (set k' i x) j 0
    at j m true e =
        let q : j ≡ i = eqb-true j i e in
        rw q (get_or-set_same k i x 0 (omega (arith, l.0)) ∙ sym (get_or-set_same k' i x 0 (omega (arith, l.1))))
    at j m false e = get_or-set_other k i j x 0 (eqb-false j i e) ∙ l.2 j m ∙ sym (get_or-set_other k' i j x 0 (eqb-false j i e))

-- ---- a list's items are 32 bits

abbrev Small : CodeResult Record Fault → Type 0
Small (Ok (Symbol n)) = Unit {0}
Small (Ok Integer) = Unit {0}
Small (Ok (Binding n)) = Unit {0}
Small (Ok (ListOf n)) = n < 4294967296
Small (Err f) = Unit {0}

record_small : (t : List ℕ) → Bytes t → (p : ℕ) → Small (record_at t p)
record_small t h p = by (record_at t p) refl
  where
    by : (x : CodeResult Record Fault) → record_at t p ≡ x → Small x
    by (Ok (Symbol n)) e = tt
    by (Ok Integer) e = tt
    by (Ok (Binding n)) e = tt
    by (Ok (ListOf n)) e = list_small t p n (ListOf n) h (sym e) refl
    by (Err f) e = tt

-- ---- the machine

module _ (t : List ℕ) (w : ℕ) (bytes : Bytes t) where
  margin_small : (c : Cursor) → Good c → margin_for (test_for t w c (mode_of c.margin)).fits c.indent < 256
  margin_small c g = pick (λ (m : ℕ). m < 256) (test_for t w c (mode_of c.margin)).fits (λ _. omega arith) (λ _. g.1.2)

  list_twins : (c : Cursor) (k k' : List ℕ) (n : ℕ) → n < 4294967296 → Low k k' → Good c → Twins (list_next t w (state c k) n) (list_next t w (state c k') n)
  list_twins c k k' n h l g =
      pick₂ Twins (ltb c.depth depth_limit)
      (λ e. let d : c.depth < 64 = ltb-true c.depth depth_limit e in (refl, low_set k k' c.depth _ d l, (omega (arith, d), (omega arith, margin_small c g, g.1.2, omega arith))))
      (λ _. (refl, l, g))

  node_twins : (c : Cursor) (k k' : List ℕ) (x : CodeResult Record Fault) → Small x → Low k k' → Good c → Twins (node_next t w (state c k) x) (node_next t w (state c k') x)
  node_twins c k k' (Ok (Symbol n)) h l g = (refl, l, g)
  node_twins c k k' (Ok Integer) h l g = (refl, l, g)
  node_twins c k k' (Ok (Binding n)) h l g = (refl, l, g)
  node_twins c k k' (Ok (ListOf n)) h l g = list_twins c k k' n h l g
  node_twins c k k' (Err f) h l g = (refl, l, g)

  gap_good : (c : Cursor) → Good c → Good (gap_for c w (mode_of c.margin))
  gap_good c g =
      pick (λ (m : Wrapping). Good (gap_for c w m)) (eqb c.margin single_margin)
      (λ _. (g.0, (omega (arith, g.1.0), g.1.1, g.1.2, g.1.3)))
      (λ e. let n = eqb-false c.margin single_margin e in (g.0, (omega (arith, g.1.0), g.1.1, omega (arith, g.1.1, n), g.1.3)))

  close_twins : (c : Cursor) (k k' : List ℕ) → Low k k' → Good c → Twins (phase_next t w (state c k) Close) (phase_next t w (state c k') Close)
  close_twins c k k' l g =
      (ap (λ (x : ℕ). past (cursor Close c.at (c.depth - 1) (held_due x) (held_margin x) c.left c.indent c.looked) c.at (c.left - 1)) (sym (l.2 (c.depth - 1) (omega (arith, g.0)))), l, (omega (arith, g.0), (omega arith, omega arith, g.1.2, g.1.3)))

  phase_twins : (c : Cursor) (k k' : List ℕ) (f : Phase) → Low k k' → Good c → Twins (phase_next t w (state c k) f) (phase_next t w (state c k') f)
  phase_twins c k k' Fresh l g = (refl, l, g)
  phase_twins c k k' Node l g = node_twins c k k' (record_at t c.at) (record_small t bytes c.at) l g
  phase_twins c k k' Sign l g = (refl, l, g)
  phase_twins c k k' Gap l g = (refl, l, gap_good c g)
  phase_twins c k k' Back l g = (refl, l, g)
  phase_twins c k k' Close l g = close_twins c k k' l g
  phase_twins c k k' Line l g = (refl, l, g)
  phase_twins c k k' Between l g = (refl, l, (g.0, (g.1.0, g.1.1, omega arith, g.1.3)))
  phase_twins c k k' Done l g = (refl, l, g)

  -- what holds of two states with one cursor holds of twins
  with_cursor : (P : State → State → Type 0) → ((c : Cursor) (k k' : List ℕ) → Low k k' → Good c → P (state c k) (state c k')) → (s s' : State) → Twins s s' → P s s'
  with_cursor P f s s' h = subst (λ (c : Cursor). P s (state c s'.stack)) (sym h.0) (f s.cursor s.stack s'.stack h.1 h.2)

  -- ---- a call

  abbrev Both : Ran → Ran → Type 0
  Both r r' = (r'.out ≡ r.out) × Twins r.state r'.state

  turn_twins : (n : ℕ) (c : Cursor) (k k' : List ℕ) → Low k k' → Good c → Both (turn t w (state c k) n) (turn t w (state c k') n)
  unfolding next_of
  turn_twins n c k k' l g =
      pick₂ Both (leb (length (rest t (state c k))) n) (λ _. (refl, phase_twins c k k' c.phase l g)) (λ _. (refl, (refl, l, g)))

  run_step : (j n : ℕ) → ((m : ℕ) (s s' : State) → Twins s s' → Both (run j t w s m) (run j t w s' m)) → (c : Cursor) (k k' : List ℕ) → Low k k' → Good c
      → Both (run (suc j) t w (state c k) n) (run (suc j) t w (state c k') n)
  unfolding run
  run_step j n ih c k k' l g =
      let r : Ran = turn t w (state c k) n in
      let r' : Ran = turn t w (state c k') n in
      let a : Both r r' = turn_twins n c k k' l g in
      let x : Ran = run j t w r.state (n - length r.out) in
      let x' : Ran = run j t w r'.state (n - length r'.out) in
      let b : Both x x' = subst (λ (o : List ℕ). Both x (run j t w r'.state (n - length o))) (sym a.0) (ih (n - length r.out) r.state r'.state a.1) in
      pick₂ Both (is_done c.phase || eqb n 0) (λ _. (refl, (refl, l, g)))
      (λ _. (ap (λ (o : List ℕ). o ++ x'.out) a.0 ∙ ap (λ (o : List ℕ). r.out ++ o) b.0, b.1))

  run_twins : (j n : ℕ) (s s' : State) → Twins s s' → Both (run j t w s n) (run j t w s' n)
  unfolding run
  run_twins zero n s s' h = (refl, h)
  run_twins (suc j) n s s' h = with_cursor (λ (x x' : State). Both (run (suc j) t w x n) (run (suc j) t w x' n)) (run_step j n (run_twins j)) s s' h

  -- the words after a call are those of a twin of the state after it
  abbrev Ends : Call → Call → Type 0
  Ends c c' = (c'.answer ≡ c.answer) × (c'.window ≡ c.window) × Twins c.state (unpack_of (state_words c'))

  restored : (s s' : State) → Twins s s' → Twins s (unpack_of (stored s'.cursor s'.stack))
  unfolding stored
  restored s s' (e, l, g) = (
    ap (λ (c : Cursor). cursor_in (stored c s'.stack)) e ∙ back s.cursor s'.stack l.1 g.1,
    (l.0, length-sets s'.stack 64 (cursor_words s'.cursor) ∙ l.1, λ i h. l.2 i h ∙ sym (sets_below (cursor_words s'.cursor) s'.stack 64 i h)),
    g,
  )

  go_twins : (b : List ℕ) (s s' : State) → Twins s s' → (c : Cursor) (k k' : List ℕ) → Low k k' → Good c → Ends (go_on t w s (state c k) b) (go_on t w s' (state c k') b)
  go_twins b s s' h c k k' l g =
      pick₂ Ends (is_done c.phase) (λ _. (refl, refl, restored (state c k) (state c k') (refl, l, g))) (λ _.
      pick₂ Ends (eqb (length b) 0) (λ _. (refl, refl, restored s s' h)) (λ _.
      let x : Ran = run (length b) t w (state c k) (length b) in
      let x' : Ran = run (length b) t w (state c k') (length b) in
      let r : Both x x' = run_twins (length b) (length b) (state c k) (state c k') (refl, l, g) in
      (ap (λ (o : List ℕ). ok (part (length o))) r.0, ap (λ (o : List ℕ). over o b) r.0, restored x.state x'.state r.1)))

  module _ (b k ws : List ℕ) (c : Cursor) (e : cursor_in ws ≡ c) (l : Low k ws) (g : Good c) where
    first_twins : (y : Result (Found Trees)) → Ends (first t w (state c k) b y) (first t w (state c ws) b y)
    first_twins (ok (found xs q)) = go_twins b (state c k) (state c ws) (refl, l, g) (start_cursor (length t) w) k ws l (omega arith, (omega arith, omega arith, omega arith, omega arith))
    first_twins (refused n a) = (refl, refl, (e, l, g))

    fill_twins : Ends (fill_of t w (state c k) b) (fill_of t w (state c ws) b)
    unfolding fill_of
    fill_twins = pick₂ Ends (is_fresh c.phase) (λ _. first_twins (table_of t)) (λ _. go_twins b (state c k) (state c ws) (refl, l, g) c k ws l g)

  fill_through : (b : List ℕ) (s : State) (ws : List ℕ) → Twins s (unpack_of ws) → Ends (fill_of t w s b) (fill_of t w (unpack_of ws) b)
  fill_through b s ws h = subst (λ (c : Cursor). Ends (fill_of t w s b) (fill_of t w (state c ws) b)) (sym h.0) (fill_twins b s.stack ws s.cursor h.0 h.1 h.2)

  -- ---- calls one after the other

  handed_same : (c c' : Call) → Ends c c' → (handed c').out ≡ (handed c).out
  handed_same c c' h = ap (λ (a : Answer). take (given_by a) c'.window) h.0 ∙ ap (λ (x : List ℕ). take (given_by c.answer) x) h.1

  calls_through_lem : (bs : List (List ℕ)) (s : State) (ws : List ℕ) → Twins s (unpack_of ws)
      → ((calls_through t w ws bs).out ≡ (calls t w s bs).out) × Twins (calls t w s bs).state (unpack_of (calls_through t w ws bs).words)
  unfolding calls_through calls
  calls_through_lem [] s ws h = (refl, h)
  calls_through_lem (b ∷ bs) s ws h =
      let c : Call = fill_of t w s b in
      let c' : Call = fill_of t w (unpack_of ws) b in
      let e : Ends c c' = fill_through b s ws h in
      let i = calls_through_lem bs c.state (state_words c') e.2 in
      (ap (λ (o : List ℕ). o ++ (calls_through t w (state_words c') bs).out) (handed_same c c' e) ∙ ap (λ (o : List ℕ). (handed c).out ++ o) i.0, i.1)

  fresh_twins : Twins fresh_state (unpack_of (replicate 72 0))
  unfolding cursor_in phase_in
  fresh_twins = (refl, (refl, refl, λ i h. zeros i h), (omega arith, (omega arith, omega arith, omega arith, omega arith)))
    where
      zeros : (i : ℕ) → i < 64 → ◌≡◌ {A = ℕ} (get_or (replicate 64 0) i 0) (get_or (replicate 72 0) i 0)
      zeros i h = get_or-replicate 64 i 0 0 h ∙ sym (get_or-replicate 72 i 0 0 (omega arith))

pub through_words : ThroughWords
through_words t w h bs =
    let r = calls_through_lem t w h bs fresh_state (replicate 72 0) (fresh_twins t w h) in
    (r.0, λ b. ap part_words (fill_through t w h b (calls t w fresh_state bs).state (calls_through t w (replicate 72 0) bs).words r.1).0)
