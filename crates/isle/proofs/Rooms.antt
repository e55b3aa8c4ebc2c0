-- What was read, and what was printed, is no longer than the room that was lent. Assumes nothing.
use Prim.Native.Nat.{ℕ, ◌≤◌}
use mathlib.Core.Path.{◌≡◌}
use mathlib.Core.List.{List}
use native.Mathlib.Omega.{arith}
use borrow.Author.Tests.{leb-true}
use lib.Dec.{leb}
use lib.ListN.{length}
use Rattle.refusals.specs.Result.{Result, ok, refused, and_then}
use Rattle.lists.proofs.Choice.{pick}
use Rattle.table.specs.Trees.{Trees, records_of}
use Rattle.table.specs.Decoding.{Found, found, table_of}
use Rattle.reader.specs.Grammar.{file_of}
use Rattle.reader.specs.Reading.{answered as read_answered, reading}
use Rattle.printer.specs.Layout.{page}
use Rattle.printer.specs.Printing.{Text, text, answered, printing}

pub read_room : (s : List ℕ) (k n : ℕ) → ok n ≡ reading s k → n ≤ k
unfolding reading
read_room s k n e = by (file_of s) e
  where
    by : (x : Result Trees) → ok n ≡ and_then x (read_answered k) → n ≤ k
    by (ok xs) e =
        pick (λ (r : Result ℕ). ok n ≡ r → n ≤ k) (leb (length (records_of xs)) k)
        (λ l q. let h : n ≡ length (records_of xs) = cc in omega (arith, leb-true (length (records_of xs)) k l, h))
        (λ _ q. cc) e
    by (refused m a) e = cc

pub text_room : (t : List ℕ) (w k n m : ℕ) → ok (text n m) ≡ printing t w k → n ≤ k
unfolding printing
text_room t w k n m e = by (table_of t) e
  where
    by : (x : Result (Found Trees)) → ok (text n m) ≡ answered x w k → n ≤ k
    by (ok (found xs q)) e =
        pick (λ (r : Result Text). ok (text n m) ≡ r → n ≤ k) (leb (length (page xs w)) k)
        (λ l q. let h : n ≡ length (page xs w) = cc in omega (arith, leb-true (length (page xs w)) k l, h))
        (λ _ q. cc) e
    by (refused m a) e = cc
