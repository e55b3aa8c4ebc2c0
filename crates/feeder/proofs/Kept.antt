-- Runs of bytes that keep a mode: where they end, and that they leave the call what it was. Assumes nothing.
use Prim.Native.Nat.{ℕ, zero, suc, ◌+◌, ◌-◌, ◌≤◌, ◌<◌}
use mathlib.Core.Path.{◌≡◌, refl, sym, ap, subst, ◌∙◌}
use mathlib.Core.Bool.{Bool, true, false, not}
use mathlib.Core.List.{List}
use native.Mathlib.Omega.{arith}
use lib.ListN.{length, get_or}
use Rattle.refusals.specs.Numbers.{source_limit}
use Rattle.refusals.specs.Result.{ok}
use Rattle.classes.specs.Classes.{class_of, line_end, symbol_other}
use Rattle.classes.specs.Runs.{run_end, line_run, symbol_run}
use Rattle.classes.proofs.Goes.{run_go, run_past, run_stop}
use Rattle.feeder.specs.Machine.{Mode, Blank, Line, Symbol, Go, turn}
use Rattle.lexer.specs.declared.Token.TheVariants as token
use Rattle.feeder.specs.PrivateRuns.{call, moved, Moves}
use Rattle.feeder.specs.declared.runs.Moved.TheVariants.{On, Give}
use Rattle.feeder.proofs.Calls.{call_go, goes, stays}

-- a run over bytes that answer yes and carry P on
module _ (f : ℕ → Bool) (q : List ℕ) (P : ℕ → Type 0) where
  record Ended (r : ℕ) : Type 0 where
    within : r ≤ length q
    last : r < length q → f (get_or q r 0) ≡ false
    here : P r

  abbrev Carries : ℕ → Type 0
  Carries i = (j : ℕ) → i ≤ j → j < length q → f (get_or q j 0) ≡ true → P j → P (j + 1)

  -- with n bytes left
  ended_in : (n i : ℕ) → i + n ≡ length q → Carries i → P i → Ended (run_end f q i)
  ended_in zero i e on x = subst Ended (run_past f q i (omega arith)) (record { within = omega arith; last = λ (h : i < length q). absurd (omega arith); here = x })
  ended_in (suc n) i e on x = by (f (get_or q i 0)) refl (ended_in n (i + 1) (omega arith) (λ j h. on j (omega arith)))
    where
      h : i < length q
      h = omega arith

      by : (t : Bool) → f (get_or q i 0) ≡ t → (P (i + 1) → Ended (run_end f q (i + 1))) → Ended (run_end f q i)
      by true g rest = subst Ended (sym (run_go f q i h g)) (rest (on i (omega arith) h g x))
      by false g rest = subst Ended (run_stop f q i h g) (record { within = omega arith; last = λ _. g; here = x })

  ended : (i r : ℕ) → r ≡ run_end f q i → i ≤ length q → Carries i → P i → Ended r
  ended i r e l on x = subst Ended (sym e) (ended_in (length q - i) i (omega arith) on x)

-- where it ends alone
ended_alone : (f : ℕ → Bool) (q : List ℕ) (i r : ℕ) → r ≡ run_end f q i → i ≤ length q → Ended f q (λ _. Unit {0}) r
ended_alone f q i r e l = ended f q (λ _. Unit {0}) i r e l (λ j m h t n. tt) tt

-- such bytes keep the mode k
module _ (f : ℕ → Bool) (k : Mode) (q : List ℕ) (p : ℕ) (b : p + length q ≤ source_limit) (on : (s c : ℕ) → f c ≡ true → turn k s c ≡ ok (Go k)) where
  kept : (i r : ℕ) → r ≡ run_end f q i → i ≤ length q → call q p r k ≡ call q p i k
  kept i r e l =
      let go : (j : ℕ) → i ≤ j → j < length q → f (get_or q j 0) ≡ true → call q p j k ≡ call q p i k → call q p (j + 1) k ≡ call q p i k =
      λ j m h t n. sym (call_go q p j k h (omega arith) k (on (p + j) (get_or q j 0) t)) ∙ n in
      (ended f q (λ j. call q p j k ≡ call q p i k) i r e l go refl).here

  -- a run that goes on to the end of the piece
  on_end : (i r : ℕ) → r ≡ run_end f q i → i < length q → length q ≤ r → Moves q p i k (On k r)
  unfolding moved
  on_end i r e h n = let w = ended_alone f q i r e (omega arith) in record { further = (omega arith, w.within); same = kept i r e (omega arith) }

-- the run of a line asks the other way round than the turn
turned : (t x : Bool) → not t ≡ x → t ≡ not x
turned true x e = ap not e
turned false x e = ap not e

module _ (q : List ℕ) (p i r : ℕ) (e : r ≡ line_run q i) (h : i < length q) (b : p + length q ≤ source_limit) where
  line_keeps : (s c : ℕ) → not (line_end (class_of c)) ≡ true → turn Line s c ≡ ok (Go Line)
  unfolding turn
  line_keeps s c t = rw (turned (line_end (class_of c)) true t) refl

  pub line_goes_on : length q ≤ r → Moves q p i Line (On Line r)
  line_goes_on n = on_end _ Line q p b line_keeps i r e h n

  pub line_is_left : r < length q → Moves q p i Line (On Blank (r + 1))
  unfolding turn
  line_is_left n =
      let w = ended_alone _ q i r e (omega arith) in
      goes q p i r Line Line (kept _ Line q p b line_keeps i r e (omega arith)) (omega arith) n b Blank (rw (turned (line_end (class_of (get_or q r 0))) false (w.last n)) refl)

module _ (q : List ℕ) (p st i r : ℕ) (e : r ≡ symbol_run q i) (h : i ≤ length q) (b : p + length q ≤ source_limit) where
  symbol_keeps : (s c : ℕ) → symbol_other (class_of c) ≡ true → turn (Symbol st) s c ≡ ok (Go (Symbol st))
  unfolding turn
  symbol_keeps s c t = rw t refl

  pub symbol_goes_on : i < length q → length q ≤ r → Moves q p i (Symbol st) (On (Symbol st) r)
  symbol_goes_on l n = on_end _ (Symbol st) q p b symbol_keeps i r e l n

  pub symbol_is_given : (n : ℕ) → n ≡ p + r - st → r < length q → Moves q p i (Symbol st) (Give (token.Symbol n) st r)
  unfolding turn
  symbol_is_given n f l =
      let w = ended_alone _ q i r e h in
      stays q p i r (Symbol st) (Symbol st) (kept _ (Symbol st) q p b symbol_keeps i r e h) (omega arith) l b (token.Symbol n) st (rw (w.last l, f) refl)
