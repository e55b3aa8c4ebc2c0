-- For each public function of the doors for C two wrong answers that its promise rules out, on a given input, refuted by computation.
use mathlib.Core.Path.{◌≡◌, ap, ◌∙◌}
use mathlib.Core.Bool.{true, false, cond}
use mathlib.Core.List.{List, [], ◌∷◌}
use Prim.Native.Nat.{ℕ, ◌-◌, ◌^◌}
use native.Mathlib.Omega.{arith}
use lib.IntN.{pos, negsuc}
use lib.ListN.{get_or, replicate}
use Rattle.classes.specs.Classes.{class_of}
use Rattle.wide.specs.Value.{value_of}
use Rattle.wide.specs.Bytes.{le, number}
use Rattle.std.specs.Prelude.{Ok, Err}
use Rattle.lexer.specs.declared.Token.TheVariants as code
use Rattle.lexer.specs.declared.Lexed.TheVariants as lexed
use Rattle.lexer.specs.Tokens.{token_of, answer_of}
use Rattle.lexer.specs.Lexing.{skip, symbol_end, lex_in, next_token}
use Rattle.feeder.specs.declared.Mode.{Mode}
use Rattle.feeder.specs.declared.Mode.TheVariants.{Blank, Line, Opener, Symbol, Sign, Block, Zero, Digits}
use Rattle.feeder.specs.declared.Phase.{Phase}
use Rattle.feeder.specs.declared.Phase.TheVariants.{Live, Closed, Refused}
use Rattle.feeder.specs.declared.State.{State}
use Rattle.feeder.specs.declared.Answer.TheVariants as answer
use Rattle.feeder.specs.declared.Out.{Out}
use Rattle.feeder.specs.Machine.{turn, step, closing}
use Rattle.feeder.specs.Feeding.{live, closed, dead, fresh_state, feed_from, feed_of, close_of, reply_of}
use Rattle.records.specs.Records.{record_of, head_at}
use Rattle.table.specs.Costs.{costed, stored_cost}
use Rattle.table.specs.Trees.{runs_on, is_symbol, records, cost}
use Rattle.table.specs.Records.{record_at}
use Rattle.table.specs.Decoding.{items_at, step_at, tree_at, trees_at, table_of, shape_of}
use Rattle.reader.specs.Grammar.{read_items, read_tree, file_of}
use Rattle.reader.specs.Reading.{reading, read_into}
use Rattle.printer.specs.Layout.{fits_in, lay, page_from}
use Rattle.printer.specs.Looking.{looks, looked, page_looked}
use Rattle.printer.specs.Printing.{printing, printed_into}
use Rattle.words.specs.Words.{eight, end_answer, rparen_answer, symbol_answer, int_answer, refused_answer, more_answer, done_answer, token_words, refused_words, done_words, answer_words, reply_words, fed_words, length_words, text_words}
use Rattle.tulbazhik_trees.specs.Texts.{print_words}
use Rattle.tulbazhik_feed.specs.States.{pack_of, unpack_of, state_words}
use Rattle.tulbazhik_feed.proofs.Packed.{back}
use Rattle.demands.proofs.Refuted.{Not, wide}

-- two words of lists that are equal
word : (i : ℕ) (v w : List ℕ) → v ≡ w → get_or v i 0 ≡ get_or w i 0
word i v w e = ap (λ (l : List ℕ). get_or l i 0) e

-- ---- words

-- put_token: an integer's limbs swapped; a negative one's high limb as a magnitude; the bytes consumed left out
token_limbs : Not (eight int_answer 0 1 7 0 0 ≡ token_words (token_of (code.Int (wide (pos 0) 7) 1) 0) 0)
unfolding value_of
token_limbs e = let z : ◌≡◌ {A = ℕ} 7 0 = word 3 _ _ e in omega arith

token_magnitude : Not (eight int_answer 0 2 1 (2 ^ 64 - 1) 0 ≡ token_words (token_of (code.Int (wide (negsuc 0) (2 ^ 64 - 1)) 2) 0) 0)
unfolding value_of
token_magnitude e = let z : ◌≡◌ {A = ℕ} 1 (2 ^ 64 - 1) = word 3 _ _ e in omega arith

token_used : Not (eight rparen_answer 4 1 0 0 0 ≡ token_words (token_of code.RParen 4) 1)
token_used e = let z : ◌≡◌ {A = ℕ} 0 1 = word 5 _ _ e in omega arith

-- put_refusal: number and place swapped; told as done
refusal_swapped : Not (eight refused_answer 3 8 0 0 0 ≡ refused_words 3 8 0)
refusal_swapped e = let z : ◌≡◌ {A = ℕ} 3 8 = word 1 _ _ e in omega arith

refusal_done : Not (eight done_answer 8 3 0 0 0 ≡ refused_words 3 8 0)
refusal_done e = let z : ◌≡◌ {A = ℕ} 8 6 = word 0 _ _ e in omega arith

-- put_length: the length as a place; as bytes consumed
length_place : Not (eight done_answer 7 0 0 0 0 ≡ done_words 7)
length_place e = let z : ◌≡◌ {A = ℕ} 7 0 = word 1 _ _ e in omega arith

length_used : Not (eight done_answer 0 7 0 0 7 ≡ done_words 7)
length_used e = let z : ◌≡◌ {A = ℕ} 7 0 = word 5 _ _ e in omega arith

-- put_text: the count lost; as bytes consumed
text_uncounted : Not (eight done_answer 0 7 0 0 0 ≡ text_words 7 3)
text_uncounted e = let z : ◌≡◌ {A = ℕ} 0 3 = word 6 _ _ e in omega arith

text_used : Not (eight done_answer 0 7 0 0 3 ≡ text_words 7 3)
text_used e = let z : ◌≡◌ {A = ℕ} 3 0 = word 5 _ _ e in omega arith

-- put_lexed: a refusal's number and place swapped; the end as "more"
lexed_swapped : Not (eight refused_answer 3 8 0 0 0 ≡ answer_words (answer_of (Err (record { number = 3; place = 8 }))))
unfolding answer_words
lexed_swapped e = let z : ◌≡◌ {A = ℕ} 3 8 = word 1 _ _ e in omega arith

lexed_end : Not (eight more_answer 0 0 0 0 0 ≡ answer_words (answer_of (Ok lexed.End)))
unfolding answer_words
lexed_end e = let z : ◌≡◌ {A = ℕ} 7 0 = word 0 _ _ e in omega arith

-- put_out: "more" as the end; the bytes consumed as a place; 0 of them
abbrev more_out : Out
more_out = record { answer = Ok answer.More; used = 2 }

out_end : Not (eight end_answer 0 0 0 0 2 ≡ reply_words (reply_of more_out.answer) more_out.used)
unfolding reply_words
out_end e = let z : ◌≡◌ {A = ℕ} 0 7 = word 0 _ _ e in omega arith

out_place : Not (eight more_answer 2 0 0 0 0 ≡ reply_words (reply_of more_out.answer) more_out.used)
unfolding reply_words
out_place e = let z : ◌≡◌ {A = ℕ} 2 0 = word 1 _ _ e in omega arith

out_none : Not (eight more_answer 0 0 0 0 0 ≡ reply_words (reply_of more_out.answer) more_out.used)
unfolding reply_words
out_none e = let z : ◌≡◌ {A = ℕ} 0 2 = word 5 _ _ e in omega arith

-- ---- tulbazhik_lex

-- tulbazhik_next_token: start and length swapped; a start that counts from `at`; a refusal's number and place swapped
next_swapped : Not (eight symbol_answer 1 0 0 0 0 ≡ answer_words (next_token (97 ∷ []) 0))
unfolding answer_words next_token lex_in skip symbol_end class_of
next_swapped e = let z : ◌≡◌ {A = ℕ} 1 0 = word 1 _ _ e in omega arith

next_relative : Not (eight rparen_answer 0 1 0 0 0 ≡ answer_words (next_token (32 ∷ 41 ∷ []) 1))
unfolding answer_words next_token lex_in skip class_of
next_relative e = let z : ◌≡◌ {A = ℕ} 0 1 = word 1 _ _ e in omega arith

next_refused : Not (eight refused_answer 3 0 0 0 0 ≡ answer_words (next_token (12 ∷ []) 0))
unfolding answer_words next_token lex_in skip class_of
next_refused e = let z : ◌≡◌ {A = ℕ} 3 0 = word 1 _ _ e in omega arith

-- ---- tulbazhik_feed; words that are a state's mean that state

fresh_means : unpack_of (replicate 8 0) ≡ fresh_state
unfolding pack_of
fresh_means = back fresh_state tt

-- after `a`
symbol_means : unpack_of (3 ∷ 1 ∷ replicate 6 0) ≡ live (Symbol 0) 1
unfolding pack_of
symbol_means = back (live (Symbol 0) 1) tt

-- after `-0`
minus_means : unpack_of (6 ∷ 2 ∷ 0 ∷ 0 ∷ 1 ∷ 0 ∷ 0 ∷ 0 ∷ []) ≡ live (Zero 0 true) 2
unfolding pack_of
minus_means = back (live (Zero 0 true) 2) tt

closed_means : unpack_of (8 ∷ 5 ∷ replicate 6 0) ≡ closed 5
unfolding pack_of
closed_means = back (closed 5) tt

abbrev is_closed : Phase → ℕ
is_closed (Live m) = 0
is_closed Closed = 1
is_closed (Refused r) = 0

abbrev mode_minus : Mode → ℕ
mode_minus (Zero st m) = cond m 1 0
mode_minus Blank = 0
mode_minus Line = 0
mode_minus (Opener st) = 0
mode_minus (Symbol st) = 0
mode_minus (Sign st) = 0
mode_minus (Block st d h) = 0
mode_minus (Digits st m r x) = 0

abbrev minus_of : Phase → ℕ
minus_of (Live m) = mode_minus m
minus_of Closed = 0
minus_of (Refused r) = 0

-- states::pack: the place dropped; a literal's minus sign dropped
pack_place : Not (1 ∷ replicate 7 0 ≡ pack_of (live Line 5))
unfolding pack_of
pack_place e = let z : ◌≡◌ {A = ℕ} 0 5 = word 1 _ _ e in omega arith

pack_minus : Not (6 ∷ 2 ∷ replicate 6 0 ≡ pack_of (live (Zero 0 true) 2))
unfolding pack_of
pack_minus e = let z : ◌≡◌ {A = ℕ} 0 1 = word 4 _ _ e in omega arith

-- states::put: the words that a comment has no use for stay as they were; the place and the number of a refusal swapped
put_kept : Not (1 ∷ 5 ∷ replicate 6 9 ≡ pack_of (live Line 5))
unfolding pack_of
put_kept e = let z : ◌≡◌ {A = ℕ} 9 0 = word 2 _ _ e in omega arith

put_swapped : Not (9 ∷ 2 ∷ 6 ∷ 1 ∷ replicate 4 0 ≡ pack_of (dead 6 1 2))
unfolding pack_of
put_swapped e = let z : ◌≡◌ {A = ℕ} 6 1 = word 2 _ _ e in omega arith

-- states::unpack: a literal's minus sign lost; a closed state live again
unpack_minus : Not (live (Zero 0 false) 2 ≡ unpack_of (6 ∷ 2 ∷ 0 ∷ 0 ∷ 1 ∷ 0 ∷ 0 ∷ 0 ∷ []))
unpack_minus e = let z : ◌≡◌ {A = ℕ} 0 1 = ap (λ (s : State). minus_of s.phase) (e ∙ minus_means) in omega arith

unpack_closed : Not (live Blank 5 ≡ unpack_of (8 ∷ 5 ∷ replicate 6 0))
unpack_closed e = let z : ◌≡◌ {A = ℕ} 0 1 = ap (λ (s : State). is_closed s.phase) (e ∙ closed_means) in omega arith

-- tulbazhik_fresh: the words as they were; a byte was consumed
fresh_kept : Not (replicate 8 9 ≡ pack_of fresh_state)
unfolding pack_of
fresh_kept e = let z : ◌≡◌ {A = ℕ} 9 0 = word 0 _ _ e in omega arith

fresh_place : Not (0 ∷ 1 ∷ replicate 6 0 ≡ pack_of fresh_state)
unfolding pack_of
fresh_place e = let z : ◌≡◌ {A = ℕ} 1 0 = word 1 _ _ e in omega arith

-- tulbazhik_feed: the state as it was, after `a`; as it was after a refusal; 0 bytes consumed of `)`
feed_kept : Not (replicate 8 0 ≡ state_words (feed_of (unpack_of (replicate 8 0)) (97 ∷ [])))
unfolding pack_of feed_of feed_from step turn class_of
feed_kept e = let z : ◌≡◌ {A = ℕ} 0 3 = word 0 _ _ (e ∙ ap (λ (s : State). state_words (feed_of s (97 ∷ []))) fresh_means) in omega arith

feed_refused : Not (replicate 8 0 ≡ state_words (feed_of (unpack_of (replicate 8 0)) (12 ∷ [])))
unfolding pack_of feed_of feed_from step turn class_of
feed_refused e = let z : ◌≡◌ {A = ℕ} 0 9 = word 0 _ _ (e ∙ ap (λ (s : State). state_words (feed_of s (12 ∷ []))) fresh_means) in omega arith

feed_none : Not (eight rparen_answer 0 1 0 0 0 ≡ fed_words (feed_of (unpack_of (replicate 8 0)) (41 ∷ [])))
unfolding reply_words feed_of feed_from step turn class_of
feed_none e = let z : ◌≡◌ {A = ℕ} 0 1 = word 5 _ _ (e ∙ ap (λ (s : State). fed_words (feed_of s (41 ∷ []))) fresh_means) in omega arith

-- tulbazhik_close: the state stays live; the held symbol is dropped
close_live : Not (replicate 8 0 ≡ state_words (close_of (unpack_of (replicate 8 0))))
unfolding pack_of close_of closing
close_live e = let z : ◌≡◌ {A = ℕ} 0 8 = word 0 _ _ (e ∙ ap (λ (s : State). state_words (close_of s)) fresh_means) in omega arith

close_drops : Not (eight end_answer 0 0 0 0 0 ≡ fed_words (close_of (unpack_of (3 ∷ 1 ∷ replicate 6 0))))
unfolding reply_words close_of closing
close_drops e = let z : ◌≡◌ {A = ℕ} 0 4 = word 0 _ _ (e ∙ ap (λ (s : State). fed_words (close_of s)) symbol_means) in omega arith

-- ---- tulbazhik_trees

-- tulbazhik_read: the length as a place; a refusal's number and place swapped; a room changed by a refusal
read_place : Not (eight done_answer 7 0 0 0 0 ≡ length_words (reading (97 ∷ []) 7))
unfolding length_words reading file_of read_items read_tree records record_of le next_token lex_in skip symbol_end class_of
read_place e = let z : ◌≡◌ {A = ℕ} 7 0 = word 1 _ _ e in omega arith

read_swapped : Not (eight refused_answer 9 0 0 0 0 ≡ length_words (reading (41 ∷ []) 7))
unfolding length_words reading file_of read_items read_tree next_token lex_in skip class_of
read_swapped e = let z : ◌≡◌ {A = ℕ} 9 0 = word 1 _ _ e in omega arith

read_changed : Not (0 ∷ [] ≡ read_into (41 ∷ []) (1 ∷ []))
unfolding read_into file_of read_items read_tree next_token lex_in skip class_of
read_changed e = let z : ◌≡◌ {A = ℕ} 0 1 = word 0 _ _ e in omega arith

-- `a`, 7 bytes as a table and 2 as a text
abbrev one_symbol : List ℕ
one_symbol = 7 ∷ 0 ∷ 0 ∷ 0 ∷ 1 ∷ 0 ∷ 97 ∷ []

-- `()`, 14 bytes as a table and 3 as a text; the fits test looks at it
abbrev one_list : List ℕ
one_list = 14 ∷ 0 ∷ 0 ∷ 0 ∷ 5 ∷ 0 ∷ 0 ∷ 0 ∷ 0 ∷ 0 ∷ 1 ∷ 0 ∷ 0 ∷ 0 ∷ []

-- tulbazhik_print: 0 bytes; the bytes needed given as a length; a text changed where the room is too short; the count lost, or given with a refusal
print_none : Not (eight done_answer 0 0 0 0 0 ≡ print_words (printing one_symbol 0 2))
unfolding print_words printing table_of shape_of cost costed stored_cost trees_at tree_at record_at head_at step_at number is_symbol runs_on class_of lay page_from
print_none e = let z : ◌≡◌ {A = ℕ} 0 2 = word 2 _ _ e in omega arith

print_needed : Not (eight done_answer 0 2 0 0 0 ≡ print_words (printing one_symbol 0 1))
unfolding print_words printing table_of shape_of cost costed stored_cost trees_at tree_at record_at head_at step_at number is_symbol runs_on class_of lay page_from
print_needed e = let z : ◌≡◌ {A = ℕ} 8 6 = word 0 _ _ e in omega arith

print_changed : Not (97 ∷ [] ≡ printed_into one_symbol 0 (0 ∷ []))
unfolding printed_into table_of shape_of cost costed stored_cost trees_at tree_at record_at head_at step_at number is_symbol runs_on class_of lay page_from
print_changed e = let z : ◌≡◌ {A = ℕ} 97 0 = word 0 _ _ e in omega arith

print_uncounted : Not (eight done_answer 0 3 0 0 0 ≡ print_words (printing one_list 0 3))
unfolding print_words printing table_of shape_of costed stored_cost trees_at tree_at items_at record_at head_at step_at number is_symbol runs_on class_of fits_in cost lay page_from looks looked page_looked
print_uncounted e = let z : ◌≡◌ {A = ℕ} 0 1 = word 6 _ _ e in omega arith

print_counted : Not (6 ∷ 3 ∷ 18 ∷ 0 ∷ 0 ∷ 0 ∷ 1 ∷ 0 ∷ [] ≡ print_words (printing one_list 0 2))
unfolding print_words printing table_of shape_of costed stored_cost trees_at tree_at items_at record_at head_at step_at number is_symbol runs_on class_of fits_in cost lay page_from looks looked page_looked
print_counted e = let z : ◌≡◌ {A = ℕ} 1 0 = word 6 _ _ e in omega arith
