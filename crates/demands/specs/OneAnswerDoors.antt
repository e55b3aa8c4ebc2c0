-- How little the promises of the doors for C leave open: of each public function, two results or lent memories that meet its own contract are equal: THEOREM one_answer_doors.
use Rattle.words.proofs.put_token.Reads as words-put-token
use Rattle.words.proofs.put_refusal.Reads as words-put-refusal
use Rattle.words.proofs.put_length.Reads as words-put-length
use Rattle.words.proofs.put_text.Reads as words-put-text
use Rattle.words.proofs.put_lexed.Reads as words-put-lexed
use Rattle.words.proofs.put_out.Reads as words-put-out
use Rattle.tulbazhik_lex.proofs.tulbazhik_next_token.Reads as tulbazhik-lex-tulbazhik-next-token
use Rattle.tulbazhik_feed.proofs.tulbazhik_fresh.Reads as tulbazhik-feed-tulbazhik-fresh
use Rattle.tulbazhik_feed.proofs.tulbazhik_feed.Reads as tulbazhik-feed-tulbazhik-feed
use Rattle.tulbazhik_feed.proofs.tulbazhik_close.Reads as tulbazhik-feed-tulbazhik-close
use Rattle.tulbazhik_feed.proofs.states.pack.Reads as tulbazhik-feed-states-pack
use Rattle.tulbazhik_feed.proofs.states.put.Reads as tulbazhik-feed-states-put
use Rattle.tulbazhik_feed.proofs.states.unpack.Reads as tulbazhik-feed-states-unpack
use Rattle.tulbazhik_trees.proofs.tulbazhik_read.Reads as tulbazhik-trees-tulbazhik-read
use Rattle.tulbazhik_trees.proofs.tulbazhik_print.Reads as tulbazhik-trees-tulbazhik-print
use Rattle.tulbazhik_windows.proofs.tulbazhik_fill.Reads as tulbazhik-windows-tulbazhik-fill
use Rattle.demands.specs.OneAnswer.{One, Left, LeftTwo, LeftThree}

-- a field a public function; of the lent memories the words of the state and of the answer, and the table, the text or the window
pub record OneAnswerDoors : Type 0 where
  pub words_put_token : Left words-put-token.Post (λ κs s. s.1.1.1.0.now)
  pub words_put_refusal : Left words-put-refusal.Post (λ κs s. s.1.1.0.now)
  pub words_put_length : Left words-put-length.Post (λ κs s. s.1.0.now)
  pub words_put_text : Left words-put-text.Post (λ κs s. s.1.1.0.now)
  pub words_put_lexed : Left words-put-lexed.Post (λ κs s. s.1.0.now)
  pub words_put_out : Left words-put-out.Post (λ κs s. s.1.0.now)
  pub tulbazhik_lex_tulbazhik_next_token : Left tulbazhik-lex-tulbazhik-next-token.Post (λ κs s. s.1.1.0.now)
  pub tulbazhik_feed_tulbazhik_fresh : Left tulbazhik-feed-tulbazhik-fresh.Post (λ κs s. s.0.now)
  pub tulbazhik_feed_tulbazhik_feed : LeftTwo tulbazhik-feed-tulbazhik-feed.Post (λ κs s. s.0.now) (λ κs s. s.1.1.0.now)
  pub tulbazhik_feed_tulbazhik_close : LeftTwo tulbazhik-feed-tulbazhik-close.Post (λ κs s. s.0.now) (λ κs s. s.1.0.now)
  pub tulbazhik_feed_states_pack : One tulbazhik-feed-states-pack.Post
  pub tulbazhik_feed_states_put : Left tulbazhik-feed-states-put.Post (λ κs s. s.1.0.now)
  pub tulbazhik_feed_states_unpack : One tulbazhik-feed-states-unpack.Post
  pub tulbazhik_trees_tulbazhik_read : LeftTwo tulbazhik-trees-tulbazhik-read.Post (λ κs s. s.1.1.0.now) (λ κs s. s.1.0.now)
  pub tulbazhik_trees_tulbazhik_print : LeftTwo tulbazhik-trees-tulbazhik-print.Post (λ κs s. s.1.1.1.0.now) (λ κs s. s.1.1.0.now)
  pub tulbazhik_windows_tulbazhik_fill : LeftThree tulbazhik-windows-tulbazhik-fill.Post (λ κs s. s.1.1.1.1.0.now) (λ κs s. s.1.1.0.now) (λ κs s. s.1.1.1.0.now)
