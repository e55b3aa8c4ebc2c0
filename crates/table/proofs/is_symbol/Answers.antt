-- `table::is_symbol`: the first byte decides, and then all the others.
use mathlib.Core.Path.{sym, ◌∙◌}
use native.Mathlib.Omega.{arith}
use lib.ListN.{drop}
use Rattle.std.proofs.Common.{rules, tests}
use Rattle.std.proofs.lemmas.List.{take_all, length-drop}
use Rattle.std.proofs.lemmas.Iterator.{YieldsList-from_slice}
use Rattle.std.proofs.lemmas.Iterator.Search.{all_from_yields_List}
use Rattle.classes.specs.Classes.{class_of, symbol_other}
use Rattle.table.proofs.Names.{begins, runs_all}
use Rattle.table.proofs.is_symbol.Goals as goal

pub returns-then-is_sym_first_char : goal.returns-then-is_sym_first_char
returns-then-is_sym_first_char c =
    let s = c.args.s.now in
    let e = c.iter.ensures.rest ∙ take_all _ (drop 1 s) (omega (arith, length-drop 1 s)) in
    all_from_yields_List (λ b. symbol_other (class_of b)) _ _ c.all.result c.all.ensures.ran (YieldsList-from_slice (drop 1 s) e) (λ x b q k. search (rules, tests))
    ∙ runs_all (drop 1 s) ∙ begins s (omega arith) (sym c.is_sym_first_char.ensures ∙ c.if-is_sym_first_char.true)
