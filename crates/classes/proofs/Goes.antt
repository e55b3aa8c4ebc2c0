-- A run at one place: it goes on over a byte that answers yes, and ends at one that does not or at the end. Assumes nothing.
use Rattle.std.proofs.Common.{◌≡◌, ℕ, ◌+◌, ◌<◌, ◌≤◌, Bool, true, false, List, length, get_or, arith, drop_of_length-le}
use Rattle.lists.proofs.Places.{from}
use Rattle.classes.specs.Runs.{leading, run_end}

module _ (p : ℕ → Bool) (s : List ℕ) (i : ℕ) where
  pub run_go : i < length s → p (get_or s i 0) ≡ true → run_end p s i ≡ run_end p s (i + 1)
  unfolding leading
  run_go h e = rw (from s i h, e) (omega arith)

  pub run_stop : i < length s → p (get_or s i 0) ≡ false → i ≡ run_end p s i
  unfolding leading
  run_stop h e = rw (from s i h, e) (omega arith)

  pub run_past : length s ≤ i → i ≡ run_end p s i
  unfolding leading
  run_past h = rw (drop_of_length-le s h) (omega arith)
