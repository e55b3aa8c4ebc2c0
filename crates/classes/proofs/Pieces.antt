-- A run over the first bytes of a list: it ends within them, at a byte that answers no or behind the last of them, and carries along what each of its bytes carries on. Assumes nothing.
use Rattle.std.proofs.Common.{◌≡◌, ℕ, zero, suc, ◌+◌, ◌-◌, ◌<◌, ◌≤◌, Bool, true, false, List, length, get_or, take, sym, refl, ap, ◌∙◌, subst, arith, length-take-le, get_or-take}
use Rattle.classes.specs.Runs.{run_end}
use Rattle.classes.proofs.Goes.{run_go, run_past, run_stop}

module _ (p : ℕ → Bool) (q : List ℕ) (stop : ℕ) (w : stop ≤ length q) (P : ℕ → Type 0) where
  -- what is known of a place where a run ended
  abbrev Ended : ℕ → Type 0
  Ended r = (r ≤ stop) × (r < stop → p (get_or q r 0) ≡ false) × P r

  -- from k on, each byte of the run carries it on
  abbrev Carries : ℕ → Type 0
  Carries k = (j : ℕ) → k ≤ j → j < stop → p (get_or q j 0) ≡ true → P j → P (j + 1)

  long : length (take stop q) ≡ stop
  long = length-take-le stop q w

  -- with n bytes left
  ended : (n k : ℕ) → k + n ≡ stop → Carries k → P k → Ended (run_end p (take stop q) k)
  ended zero k e on x = subst Ended (run_past p (take stop q) k (omega (arith, long))) (omega arith, λ (h : k < stop). absurd (omega arith), x)
  ended (suc n) k e on x = by (p (get_or q k 0)) refl (ended n (k + 1) (omega arith) (λ j h. on j (omega arith)))
    where
      h : k < stop
      h = omega arith

      by : (t : Bool) → p (get_or q k 0) ≡ t → (P (k + 1) → Ended (run_end p (take stop q) (k + 1))) → Ended (run_end p (take stop q) k)
      by true f rest = subst Ended (sym (run_go p (take stop q) k (omega (arith, long)) (ap p (get_or-take stop q k 0 h) ∙ f))) (rest (on k (omega arith) h f x))
      by false f rest = subst Ended (run_stop p (take stop q) k (omega (arith, long)) (ap p (get_or-take stop q k 0 h) ∙ f)) (omega arith, λ _. f, x)

  pub run_within : (k r : ℕ) → k ≤ stop → r ≡ run_end p (take stop q) k → Carries k → P k → Ended r
  run_within k r h e on x = subst Ended (sym e) (ended (stop - k) k (omega arith) on x)
