-- An answer as eight words, for callers in C (host/include/tulbazhik.h). Every function of the doors answers in these, whatever it answers.
use Rattle.std.specs.Prelude.{ℕ, ◌/◌, ◌%◌, ◌^◌, List, [], ◌∷◌}
use Rattle.std.specs.Int.{w128}
use Rattle.std.proofs.Common.{of_z}
use Rattle.refusals.specs.Result.{Result, ok, refused}
use Rattle.lexer.specs.Tokens.{Kind, lparen, rparen, at_sign, symbol, int, Token, Answer, end, is}
use Rattle.feeder.specs.Feeding.{Reply, more, finish, ready, Fed}

-- word 0, the kind of an answer
abbrev pub end_answer : ℕ
end_answer = 0

abbrev pub lparen_answer : ℕ
lparen_answer = 1

abbrev pub rparen_answer : ℕ
rparen_answer = 2

abbrev pub at_answer : ℕ
at_answer = 3

abbrev pub symbol_answer : ℕ
symbol_answer = 4

abbrev pub int_answer : ℕ
int_answer = 5

abbrev pub refused_answer : ℕ
refused_answer = 6

abbrev pub more_answer : ℕ
more_answer = 7

abbrev pub done_answer : ℕ
done_answer = 8

-- kind; a start or a place; a length or a refusal's number; an integer's high and low 64 bits (two's complement); bytes consumed; a count, below; the last is the side of a setting (tulbazhik_settings), and 0 in all answers here
abbrev pub eight : ℕ → ℕ → ℕ → ℕ → ℕ → ℕ → List ℕ
eight k p n h l u = k ∷ p ∷ n ∷ h ∷ l ∷ u ∷ 0 ∷ 0 ∷ []

abbrev pub kind_word : Kind → ℕ
kind_word lparen = lparen_answer
kind_word rparen = rparen_answer
kind_word at_sign = at_answer
kind_word symbol = symbol_answer
kind_word (int z) = int_answer

abbrev pub high_word : Kind → ℕ
high_word lparen = 0
high_word rparen = 0
high_word at_sign = 0
high_word symbol = 0
high_word (int z) = of_z w128 z / 2 ^ 64

abbrev pub low_word : Kind → ℕ
low_word lparen = 0
low_word rparen = 0
low_word at_sign = 0
low_word symbol = 0
low_word (int z) = of_z w128 z % 2 ^ 64

-- of a token, with the bytes consumed; below u is always those
abbrev pub token_words : Token → ℕ → List ℕ
token_words t u = eight (kind_word t.kind) t.start t.size (high_word t.kind) (low_word t.kind) u

abbrev pub end_words : ℕ → List ℕ
end_words u = eight end_answer 0 0 0 0 u

abbrev pub more_words : ℕ → List ℕ
more_words u = eight more_answer 0 0 0 0 u

-- a refusal's number and place
abbrev pub refused_words : ℕ → ℕ → ℕ → List ℕ
refused_words n a u = eight refused_answer a n 0 0 u

-- so many bytes were written into the room lent
abbrev pub done_words : ℕ → List ℕ
done_words n = eight done_answer 0 n 0 0 0

-- a text was written, or the end of one answered: with the records that the fits test looked at
abbrev pub counted_words : ℕ → ℕ → ℕ → List ℕ
counted_words k n c = k ∷ 0 ∷ n ∷ 0 ∷ 0 ∷ 0 ∷ c ∷ 0 ∷ []

abbrev pub text_words : ℕ → ℕ → List ℕ
text_words n c = counted_words done_answer n c

abbrev pub ended_words : ℕ → List ℕ
ended_words c = counted_words end_answer 0 c

-- of the uncut lexer's answer
unfoldable pub answer_words : Answer → List ℕ
answer_words (ok end) = end_words 0
answer_words (ok (is t)) = token_words t 0
answer_words (refused n a) = refused_words n a 0

-- of a call's answer, with the bytes consumed
unfoldable pub reply_words : Result Reply → ℕ → List ℕ
reply_words (ok more) u = more_words u
reply_words (ok finish) u = end_words u
reply_words (ok (ready t)) u = token_words t u
reply_words (refused n a) u = refused_words n a u

abbrev pub fed_words : Fed → List ℕ
fed_words f = reply_words f.reply f.used

-- of an answer that is the length of what was written
unfoldable pub length_words : Result ℕ → List ℕ
length_words (ok n) = done_words n
length_words (refused n a) = refused_words n a 0
