-- What the walk over a whole source tells of its file, and so of the answer of `read` and of the room after it. Assumes nothing.
use mathlib.Core.Path.{◌≡◌, ap, sym, subst, ◌∙◌}
use mathlib.Core.Bool.{Bool, true, false, cond}
use mathlib.Core.List.{List}
use Prim.Native.Nat.{ℕ, suc, ◌≤◌, ◌<◌}
use native.Mathlib.Omega.{arith}
use lib.Dec.{leb}
use lib.ListN.{length}
use borrow.Author.Tests.{le-leb, lt-leb}
use Rattle.refusals.specs.Numbers.{depth_limit, no_list_open, table_room}
use Rattle.refusals.specs.Result.{Result, ok, refused, and_then}
use Rattle.lists.specs.Over.{over}
use Rattle.lexer.specs.Lexing.{next_token}
use Rattle.table.specs.Trees.{Trees, records_of}
use Rattle.reader.specs.Grammar.{Many, up_to, to_end, read_items, read_tree, whole, file_of}
use Rattle.reader.specs.Reading.{answered, leaves, reading, read_into}
use Rattle.lists.specs.Rooms.{Filled}
use Rattle.reader.specs.PrivateWalk.{StoppedBy, ItemsAre}
use Rattle.reader.specs.declared.Many.{Many as ManyRead}
use Rattle.reader.specs.declared.Stop.{Stop}
use Rattle.reader.specs.declared.Stop.TheVariants as stop

module _ (s : List ℕ) where
  abbrev items : Result Many
  items = read_items (read_tree s depth_limit) (suc (length s)) (next_token s 0)

  pub file_by : (y : Result Many) → items ≡ y → file_of s ≡ and_then y whole
  unfolding file_of
  file_by y e = ap (λ (z : Result Many). and_then z whole) e

  abbrev Reads : List ℕ → List ℕ → Result ℕ → Type 0
  Reads t t' r = (r ≡ reading s (length t)) × (t' ≡ read_into s t)

  reads_refused : (t : List ℕ) (n p : ℕ) → file_of s ≡ refused n p → Reads t t (refused n p)
  unfolding reading read_into
  reads_refused t n p e = (sym (ap (λ (x : Result Trees). and_then x (answered (length t))) e), sym (ap (λ (x : Result Trees). leaves x t) e))

  reads_short : (t : List ℕ) (xs : Trees) (n : ℕ) → file_of s ≡ ok xs → n ≡ length (records_of xs) → length t < n → Reads t t (refused table_room n)
  unfolding reading read_into
  reads_short t xs n e en h =
      let k : leb (length (records_of xs)) (length t) ≡ false = lt-leb (length (records_of xs)) (length t) (omega arith) in (
        ap (refused table_room) en
            ∙ sym (ap (λ (x : Result Trees). and_then x (answered (length t))) e
            ∙ ap (λ (c : Bool). cond c (ok (length (records_of xs))) (refused table_room (length (records_of xs)))) k),
        sym (ap (λ (x : Result Trees). leaves x t) e ∙ ap (λ (c : Bool). cond c (over (records_of xs) t) t) k),
      )

  reads_whole : (t t' : List ℕ) (xs : Trees) (n : ℕ) → file_of s ≡ ok xs → n ≡ length (records_of xs) → n ≤ length t → Filled (records_of xs) t t' → Reads t t' (ok n)
  unfolding reading read_into
  reads_whole t t' xs n e en h f =
      let k : leb (length (records_of xs)) (length t) ≡ true = le-leb (length (records_of xs)) (length t) (omega arith) in (
        ap ok en
            ∙ sym (ap (λ (x : Result Trees). and_then x (answered (length t))) e
            ∙ ap (λ (c : Bool). cond c (ok (length (records_of xs))) (refused table_room (length (records_of xs)))) k),
        f (omega arith) ∙ sym (ap (λ (x : Result Trees). leaves x t) e ∙ ap (λ (c : Bool). cond c (over (records_of xs) t) t) k),
      )

  pub refused_told : (t : List ℕ) (m q : ℕ) → items ≡ refused m q → Reads t t (refused m q)
  refused_told t m q h = reads_refused t m q (file_by (refused m q) h)

  module _ (r : ManyRead) (b b' : List ℕ) (h : ItemsAre items r b b') where
    abbrev stopped : (st : Stop) → r.stop ≡ st → StoppedBy items h.trees st
    stopped st g = subst (StoppedBy items h.trees) g h.stopped

    pub close_told : (t : List ℕ) (q : ℕ) → r.stop ≡ stop.Close q → Reads t t (refused no_list_open q)
    close_told t q g =
        let w = stopped (stop.Close q) g in
        reads_refused t no_list_open q (file_by (ok (up_to h.trees w.0)) w.1 ∙ ap (refused no_list_open) (sym w.2))

    module _ (g : r.stop ≡ stop.End) where
      pub short_told : (t : List ℕ) → length t < r.size → Reads t t (refused table_room r.size)
      short_told t l = reads_short t h.trees r.size (file_by (ok (to_end h.trees)) (stopped stop.End g)) h.size l

      -- told again, of the room lent
      pub whole_told : (r₂ : ManyRead) (t t' : List ℕ) → ItemsAre items r₂ t t' → r.size ≤ length t → Reads t t' (ok r.size)
      whole_told r₂ t t' h₂ l = reads_whole t t' h.trees r.size (file_by (ok (to_end h.trees)) ended) h.size l (by r₂.stop h₂.stopped)
        where
          ended : items ≡ ok (to_end h.trees)
          ended = stopped stop.End g

          by : (st : Stop) → StoppedBy items h₂.trees st → Filled (records_of h.trees) t t'
          by (stop.Close p) u = let f = sym u.1 ∙ ended in let z : ◌≡◌ {A = ℕ} 0 1 = cc in absurd (omega arith)
          by stop.End u = let f = sym u ∙ ended in let x : h₂.trees ≡ h.trees = cc in subst (λ (y : Trees). Filled (records_of y) t t') x h₂.filled

      -- what was not refused is not refused the second time
      pub never_told : (m q : ℕ) → items ≡ refused m q → ⊥
      never_told m q e = let f = sym (stopped stop.End g) ∙ e in let z : ◌≡◌ {A = ℕ} 0 1 = cc in omega arith
