-- Which tables are printed (document 02, 6/12: all good ones), and that their text, whole or through windows, cut anywhere, fed and closed, gives their tokens: THEOREMS good_printed, read_printed, print_then_feed, windows_then_feed.
use Rattle.std.specs.Prelude.{◌≡◌, List, ℕ, ◌+◌, ◌*◌, ◌≤◌, ◌<◌, length, take}
use Rattle.refusals.specs.Numbers.{source_limit, table_limit, depth_limit}
use Rattle.refusals.specs.Result.{ok}
use Rattle.wide.specs.Bytes.{Bytes}
use Rattle.lexer.specs.Streams.{ends}
use Rattle.lexer.specs.BareTokens.{bare_tokens}
use Rattle.feeder.specs.Feeding.{fresh_state}
use Rattle.table.specs.Trees.{Trees, trees_tokens, Goods, records_of}
use Rattle.reader.specs.Grammar.{file_of}
use Rattle.printer.specs.Layout.{page}
use Rattle.printer.specs.Looking.{page_looked}
use Rattle.printer.specs.Printing.{text, roomed, printing, printed_into}
use Rattle.windows.specs.declared.State.{State}
use Rattle.windows.specs.Filling.{end, fill_of, calls}
use Rattle.windows.specs.Joined.{Begins}
use Rattle.demands.specs.Driver.{drive, joined}

-- the source o, cut anywhere, fed and closed, yields exactly the trees' tokens in order, then the end
abbrev pub Yields : List ℕ → Trees → Type 0
Yields o xs = (ps : List (List ℕ)) (n : ℕ) → joined ps ≡ o → 2 * length o + length ps + 1 < n → bare_tokens o (drive n fresh_state ps) ≡ trees_tokens xs (ends (ok tt))

-- the table t holds good trees, and the text o yields their tokens
pub record TextOf (t o : List ℕ) : Type 0 where
  pub trees : Trees
  pub good : Goods trees depth_limit
  pub is : t ≡ records_of trees
  pub yields : Yields o trees

-- the table of good trees, whichever integers they hold, is printed where there is room for the text; 18 is all that is refused of it
abbrev pub GoodPrinted : Type 0
GoodPrinted = (xs : Trees) (w k : ℕ) → Goods xs depth_limit → length (records_of xs) ≤ table_limit → printing (records_of xs) w k ≡ roomed (page xs w) (page_looked xs w) k

-- and so is whatever was read
abbrev pub ReadPrinted : Type 0
ReadPrinted = (s : List ℕ) (xs : Trees) (w k : ℕ) → file_of s ≡ ok xs → printing (records_of xs) w k ≡ roomed (page xs w) (page_looked xs w) k

-- if a table is printed at a width, in m bytes of the lent buffer, and a source may be as long, then the table holds good trees, and these m
-- bytes yield exactly their tokens
abbrev pub PrintThenFeed : Type 0
PrintThenFeed = (t : List ℕ) (w m k : ℕ) (b : List ℕ) → Bytes t → printing t w (length b) ≡ ok (text m k) → m ≤ source_limit → TextOf t (take m (printed_into t w b))

-- if a call answers the end, then what the windows bs before it were given, joined, does the same
abbrev pub WindowsThenFeed : Type 0
WindowsThenFeed =
    (t : List ℕ) (w k : ℕ) (s : State) (bs : List (List ℕ)) (b : List ℕ) → Bytes t → Begins s → (fill_of t w (calls t w s bs).state b).answer ≡ ok (end k)
    → length (calls t w s bs).out ≤ source_limit → TextOf t (calls t w s bs).out
