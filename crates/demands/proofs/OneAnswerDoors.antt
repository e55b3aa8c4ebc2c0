-- How little the promises of the doors for C leave open: two results that meet a promise are equal. Assumes nothing.
use mathlib.Core.Path.{sym, ◌∙◌}
use Rattle.demands.specs.OneAnswerDoors.{OneAnswerDoors}

pub one_answer_doors : OneAnswerDoors
one_answer_doors = record {
  words_put_token = λ κs a x y s t e f. e ∙ sym f;
  words_put_refusal = λ κs a x y s t e f. e ∙ sym f;
  words_put_length = λ κs a x y s t e f. e ∙ sym f;
  words_put_text = λ κs a x y s t e f. e ∙ sym f;
  words_put_lexed = λ κs a x y s t e f. e ∙ sym f;
  words_put_out = λ κs a x y s t e f. e ∙ sym f;
  tulbazhik_lex_tulbazhik_next_token = λ κs a x y s t e f. e ∙ sym f;
  tulbazhik_feed_tulbazhik_fresh = λ κs a x y s t e f. e ∙ sym f;
  tulbazhik_feed_tulbazhik_feed = λ κs a x y s t e f. (e.0 ∙ sym f.0, e.1 ∙ sym f.1);
  tulbazhik_feed_tulbazhik_close = λ κs a x y s t e f. (e.0 ∙ sym f.0, e.1 ∙ sym f.1);
  tulbazhik_feed_states_pack = λ κs a x y s t e f. e ∙ sym f;
  tulbazhik_feed_states_put = λ κs a x y s t e f. e ∙ sym f;
  tulbazhik_feed_states_unpack = λ κs a x y s t e f. e ∙ sym f;
  tulbazhik_trees_tulbazhik_read = λ κs a x y s t e f. (e.0 ∙ sym f.0, e.1 ∙ sym f.1);
  tulbazhik_windows_tulbazhik_fill = λ κs a x y s t e f. (e.0 ∙ sym f.0, e.1 ∙ sym f.1, e.2 ∙ sym f.2);
  tulbazhik_trees_tulbazhik_print = λ κs a x y s t e f. (e.0 ∙ sym f.0, e.1 ∙ sym f.1);
}
