-- What a print answers, as eight words for callers in C: the text's length, and the records that the fits test looked at.
use Rattle.std.specs.Prelude.{ℕ, List}
use Rattle.refusals.specs.Result.{Result, ok, refused}
use Rattle.printer.specs.Printing.{Text, text}
use Rattle.words.specs.Words.{text_words, refused_words}

unfoldable pub print_words : Result Text → List ℕ
print_words (ok (text n k)) = text_words n k
print_words (refused n a) = refused_words n a 0
