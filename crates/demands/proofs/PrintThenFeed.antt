-- Good trees are printed; what is printed of a table, cut anywhere, fed and closed, yields exactly the table's tokens. Assumes nothing.
use mathlib.Core.Path.{◌≡◌, refl, sym, ap, ◌∙◌, subst}
use mathlib.Core.Bool.{Bool, true, false, cond}
use mathlib.Core.List.{List}
use Prim.Native.Nat.{ℕ, ◌≤◌}
use native.Mathlib.Omega.{arith}
use lib.Dec.{leb}
use lib.ListN.{length, take, drop}
use lib.Seq.{take_at}
use Rattle.refusals.specs.Numbers.{source_limit, depth_limit, print_room}
use Rattle.refusals.specs.Result.{Result, ok, refused}
use Rattle.lists.specs.Over.{over}
use Rattle.wide.specs.Bytes.{Bytes}
use Rattle.lexer.specs.BareTokens.{bare_tokens}
use Rattle.table.specs.Trees.{Trees}
use Rattle.table.specs.Decoding.{Found, found, table_of}
use Rattle.table.specs.Accepted.{Accepted}
use Rattle.table.proofs.Whole.{complete, sound}
use Rattle.reader.proofs.ReadGood.{read_good}
use Rattle.printer.specs.Layout.{page}
use Rattle.printer.specs.Looking.{page_looked}
use Rattle.printer.specs.Printing.{text, answered, leaves, printing, printed_into}
use Rattle.demands.specs.PrintThenFeed.{Yields, TextOf, GoodPrinted, ReadPrinted, PrintThenFeed}
use Rattle.demands.proofs.CutAnywhere.{cut_anywhere}
use Rattle.demands.proofs.Spellable.{Spellables, spellables}
use Rattle.demands.proofs.PrintedTokens.{printed}

-- over trees: their text at any width, if a source may be as long
pub page_yields : (xs : Trees) (w : ℕ) → Spellables xs → length (page xs w) ≤ source_limit → Yields (page xs w) xs
page_yields xs w h l ps n e c = ap (bare_tokens (page xs w)) (cut_anywhere (page xs w) ps n e l c) ∙ printed xs w h l

pub text_of : (t : List ℕ) (xs : Trees) (q w : ℕ) → Bytes t → table_of t ≡ ok (found xs q) → length (page xs w) ≤ source_limit → TextOf t (page xs w)
text_of t xs q w hb e l =
    let a : Accepted t xs q = sound t xs q hb e in
    record { trees = xs; good = a.good; is = a.is; yields = page_yields xs w (spellables xs depth_limit a.good) l }

pub print_then_feed : PrintThenFeed
unfolding printing printed_into
print_then_feed t w m n b hb e l = by (table_of t) refl e
  where
    roomy : (xs : Trees) (q : ℕ) → table_of t ≡ ok (found xs q) → (r : Bool)
        → cond r (ok (text (length (page xs w)) (page_looked xs w))) (refused print_room (length (page xs w))) ≡ ok (text m n) → TextOf t (take m (cond r (over (page xs w) b) b))
    roomy xs q f true h =
        let k : length (page xs w) ≡ m = cc in
        subst (TextOf t) (sym (take_at (page xs w) (drop (length (page xs w)) b) m k)) (text_of t xs q w hb f (subst (λ (x : ℕ). x ≤ source_limit) (sym k) l))
    roomy xs q f false h = let z : ◌≡◌ {A = ℕ} 0 1 = cc in absurd (omega arith)

    by : (f : Result (Found Trees)) → table_of t ≡ f → answered f w (length b) ≡ ok (text m n) → TextOf t (take m (leaves f w b))
    by (ok (found xs q)) f h = roomy xs q f (leb (length (page xs w)) (length b)) h
    by (refused n a) f h = let z : ◌≡◌ {A = ℕ} 0 1 = cc in absurd (omega arith)

pub good_printed : GoodPrinted
unfolding printing
good_printed xs w k g h = ap (λ (f : Result (Found Trees)). answered f w k) (complete xs g h)

pub read_printed : ReadPrinted
read_printed s xs w k e = let g = read_good s xs e in good_printed xs w k g.trees g.small
