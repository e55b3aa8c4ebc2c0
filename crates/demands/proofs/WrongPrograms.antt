-- Each of the wrong programs breaks a promise on a small input, computed. Assumes nothing.
use mathlib.Core.Path.{◌≡◌, sym, ap, ◌∙◌}
use mathlib.Core.List.{List, [], ◌∷◌}
use Prim.Native.Nat.{ℕ}
use native.Mathlib.Omega.{arith}
use lib.ListN.{length, get_or, replicate}
use Rattle.refusals.specs.Result.{ok, refused}
use Rattle.classes.specs.Classes.{class_of}
use Rattle.wide.specs.Bytes.{le, number}
use Rattle.lexer.specs.Tokens.{Token, token, rparen}
use Rattle.lexer.specs.Lexing.{skip, symbol_end, lex_in, next_token}
use Rattle.lexer.specs.Streams.{tokens_from}
use Rattle.feeder.specs.Machine.{closing, turn, step}
use Rattle.feeder.specs.Feeding.{more, ready, Fed, feed_from, feed_of, close_of}
use Rattle.records.specs.Records.{record_of, head_at}
use Rattle.table.specs.Costs.{costed, stored_cost}
use Rattle.table.specs.Trees.{Tree, symbol, none, more as and, runs_on, is_symbol, records, cost}
use Rattle.table.specs.Records.{record_at}
use Rattle.table.specs.Decoding.{items_at, step_at, tree_at, trees_at, table_of, shape_of}
use Rattle.printer.specs.Layout.{break_column, fits_in, lay, page_from}
use Rattle.printer.specs.Looking.{looks, looked, page_looked, lists}
use Rattle.printer.specs.Printing.{printed_into}
use Rattle.demands.specs.Driver.{drive_by}
use Rattle.demands.specs.WrongPrograms.{WrongPrograms}
use Rattle.demands.proofs.Layouts.{rule_tree}

no_token : (t : Token) → ok more ≡ ok (ready t) → ⊥
no_token t e = let z : ◌≡◌ {A = ℕ} 0 1 = cc in omega arith

-- `a`
abbrev a : Tree
a = symbol (97 ∷ [])

pub wrong_programs : WrongPrograms
unfolding drive_by feed_of feed_from close_of closing step turn class_of tokens_from next_token lex_in skip symbol_end printed_into table_of shape_of costed stored_cost trees_at tree_at items_at record_at head_at step_at number is_symbol runs_on break_column fits_in cost lay page_from records record_of le looks looked page_looked lists
wrong_programs = record {
  refuses_all_lem = λ number place e. let z : ◌≡◌ {A = ℕ} 0 1 = cc in omega arith;
  first_piece_lem = λ e. no_token (token rparen 1 1) (ap (λ (f : Fed). f.reply) e);
  first_piece_cut = λ e. let z : ◌≡◌ {A = ℕ} 0 1 = cc in omega arith;
  whole_piece_lem = λ e. let z : ◌≡◌ {A = ℕ} 2 1 = ap (λ (f : Fed). f.used) e in omega arith;
  whole_piece_cut = λ e. let z : ◌≡◌ {A = ℕ} 0 1 = cc in omega arith;
  -- at width 13 the sixth byte of `(rule (a b) c)` is LF, on one line it is a space
  one_line_lem = λ f. let e : ◌≡◌ {A = ℕ} 32 10 = ap (λ (l : List ℕ). get_or l 5 0) (f (records rule_tree) 13 (replicate 24 0)) in omega arith;
  -- the empty table leaves the buffer, and the table of `a` changes it
  same_bytes_lem = λ o f. let e : ◌≡◌ {A = ℕ} 0 97 = ap (λ (l : List ℕ). get_or l 0 0) (sym (f [] 0 (0 ∷ 0 ∷ [])) ∙ f (records a) 0 (0 ∷ 0 ∷ [])) in omega arith;
  leaves_all = λ f. let e : ◌≡◌ {A = ℕ} 0 97 = ap (λ (l : List ℕ). get_or l 0 0) (f (records a) 0 (0 ∷ 0 ∷ [])) in omega arith;
  one_line_text = λ f. let e : ◌≡◌ {A = ℕ} 32 10 = ap (λ (l : List ℕ). get_or l 5 0) (f (and rule_tree none) 13) in omega arith;
  -- no bytes are the text both of no tree and of one
  same_text = λ o f. let e : ◌≡◌ {A = ℕ} 0 2 = ap length (sym (f none 0) ∙ f (and a none) 0) in omega arith;
  -- no number is that of no tree and of a list; at width 14 `(rule (a b) c)` fits, and the list in it is not tested; a list is tested; the cost of `()` is 1
  same_count = λ k f. let e : ◌≡◌ {A = ℕ} 0 1 = sym (f none 0) ∙ f (and rule_tree none) 14 in omega arith;
  counts_all = λ f. let e : ◌≡◌ {A = ℕ} 2 1 = f (and rule_tree none) 14 in omega arith;
  counts_none = λ f. let e : ◌≡◌ {A = ℕ} 0 1 = f (and rule_tree none) 14 in omega arith;
  any_cost = λ f. let e : refused 25 0 ≡ ok tt = f 2 in let z : ◌≡◌ {A = ℕ} 0 1 = cc in omega arith;
}
