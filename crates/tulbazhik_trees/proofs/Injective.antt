-- Two different answers of a print have different words.
use Prim.Native.Nat.{ℕ}
use mathlib.Core.Path.{◌≡◌, refl, ap, sym, ◌∙◌}
use mathlib.Core.Bool.{cond}
use mathlib.Core.List.{List}
use lib.Dec.{eqb}
use lib.ListN.{get_or}
use Rattle.refusals.specs.Result.{Result, ok, refused}
use Rattle.printer.specs.Printing.{Text, text}
use Rattle.words.specs.Words.{refused_answer}
use Rattle.tulbazhik_trees.specs.Texts.{print_words}

abbrev print_in : List ℕ → Result Text
print_in w = cond (eqb (get_or w 0 0) refused_answer) (refused (get_or w 2 0) (get_or w 1 0)) (ok (text (get_or w 2 0) (get_or w 6 0)))

print_back : (r : Result Text) → print_in (print_words r) ≡ r
unfolding print_words
print_back (ok (text n k)) = refl
print_back (refused n a) = refl

pub print_same : (a b : Result Text) → print_words a ≡ print_words b → a ≡ b
print_same a b e = sym (print_back a) ∙ ap print_in e ∙ print_back b
