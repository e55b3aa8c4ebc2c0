-- What each public function promises, in the words of the definitions: its own contract (`Post`), as the prover reads it off the source, is this. What is refuted in
-- `Refuted`, `RefutedCalls` and `RefutedDoors` is refuted of these; settings have `PromisesSettings`. The arguments are `a`, in their order, the result is `x`, and `s` is what is lent as it is at the end.
use Rattle.std.specs.Prelude.{◌+◌, ◌*◌, ◌-◌, ◌≤◌, ◌≡◌, Some, length, get_or, drop, pos}
use Rattle.std.specs.Fmt.{DisplaysOnOk}
use Rattle.std.specs.Int.{w64}
use Rattle.std.proofs.Common.{of_z}
use Rattle.std.specs.Int.Signed.{lt_z}
use Rattle.refusals.specs.Numbers.{depth_limit, fault_at, refusal_text}
use Rattle.lists.specs.Over.{fitted}
use Rattle.classes.specs.Classes.{class_of, blank, line_end, semicolon, lparen, rparen, is_at_sign, symbol_first, symbol_other, high, digit_of, literal_byte}
use Rattle.classes.specs.Numbers.{named}
use Rattle.classes.specs.Runs.{symbol_run, line_run}
use Rattle.wide.specs.Value.{val, value, grown, integer_of, signed_of}
use Rattle.wide.specs.Text.{integer_text}
use Rattle.wide.specs.Bytes.{le, number_in, wide_bytes, wide_in}
use Rattle.lexer.specs.Tokens.{answer_of, token_of}
use Rattle.lexer.specs.declared.literal.Reading.TheVariants.{Empty as NoDigit}
use Rattle.lexer.specs.Literals.{grow, reading, literal_end, radix_of, concluded}
use Rattle.lexer.specs.Lexing.{next_token}
use Rattle.lexer.specs.Gaps.{gap_end}
use Rattle.feeder.specs.Feeding.{fresh_state, feed_of, close_of, fed_of, reply_of}
use Rattle.records.specs.Records.{head_of, head_at, record_of}
use Rattle.table.specs.Trees.{is_symbol}
use Rattle.table.specs.Kinds.{kind_named}
use Rattle.table.specs.Records.{record_at}
use Rattle.table.specs.Decoding.{step_at, tree_at, table_of, judged, verdict_of}
use Rattle.table.specs.Past.{past_symbol, past_of}
use Rattle.table.specs.Costs.{stored_cost}
use Rattle.table.specs.Walking.{first_of, own_wrong, Walks}
use Rattle.printer.specs.Layout.{break_column, fits_in}
use Rattle.printer.specs.Fitting.{fits_at}
use Rattle.printer.specs.Printing.{print_of, printing as printing_of, printed_into}
use Rattle.windows.specs.Machine.{state, fresh_state as fresh_window, phase_word, phase_in}
use Rattle.windows.specs.Filling.{fill_of, call_of, call_at}
use Rattle.reader.specs.Reading.{read_of, reading as reading_of, read_into}
use Rattle.words.specs.Words.{token_words, refused_words, done_words, text_words, answer_words, reply_words, fed_words, length_words}
use Rattle.tulbazhik_trees.specs.Texts.{print_words}
use Rattle.tulbazhik_feed.specs.States.{pack_of, unpack_of, state_words}
use Rattle.tulbazhik_windows.specs.States.{unpack_of as unpack_window, call_words, state_words as window_words}
use Rattle.refusals.proofs.Fault.at.Reads as refusals-fault-at
use Rattle.refusals.proofs.RefusalDisplay.fmt.Reads as refusals-refusal-display
use Rattle.lists.proofs.byte_at.Reads as lists-byte-at
use Rattle.lists.proofs.less.Reads as lists-less
use Rattle.lists.proofs.least.Reads as lists-least
use Rattle.lists.proofs.put.Reads as lists-put
use Rattle.classes.proofs.ClassFromU8.from.Reads as classes-class-from-u8
use Rattle.classes.proofs.class_of.Reads as classes-class-of
use Rattle.classes.proofs.class_in_loop.Reads as classes-class-in-loop
use Rattle.classes.proofs.is_blank.Reads as classes-is-blank
use Rattle.classes.proofs.is_line_end.Reads as classes-is-line-end
use Rattle.classes.proofs.is_semicolon.Reads as classes-is-semicolon
use Rattle.classes.proofs.is_lparen.Reads as classes-is-lparen
use Rattle.classes.proofs.is_rparen.Reads as classes-is-rparen
use Rattle.classes.proofs.is_at_sign.Reads as classes-is-at-sign
use Rattle.classes.proofs.is_high.Reads as classes-is-high
use Rattle.classes.proofs.is_sym_first_char.Reads as classes-is-sym-first-char
use Rattle.classes.proofs.is_sym_other_char.Reads as classes-is-sym-other-char
use Rattle.classes.proofs.digit_of.Reads as classes-digit-of
use Rattle.classes.proofs.is_literal_byte.Reads as classes-is-literal-byte
use Rattle.classes.proofs.runs.symbol_end.Reads as classes-runs-symbol-end
use Rattle.classes.proofs.runs.line_end.Reads as classes-runs-line-end
use Rattle.wide.proofs.as_unsigned.Reads as wide-as-unsigned
use Rattle.wide.proofs.negative.Reads as wide-negative
use Rattle.wide.proofs.with_sign.Reads as wide-with-sign
use Rattle.wide.proofs.grow.Reads as wide-grow
use Rattle.wide.proofs.text_len.Reads as wide-text-len
use Rattle.wide.proofs.put_text.Reads as wide-put-text
use Rattle.wide.proofs.put_u16.Reads as wide-put-u16
use Rattle.wide.proofs.put_u32.Reads as wide-put-u32
use Rattle.wide.proofs.put_wide.Reads as wide-put-wide
use Rattle.wide.proofs.u16_at.Reads as wide-u16-at
use Rattle.wide.proofs.u32_at.Reads as wide-u32-at
use Rattle.wide.proofs.wide_at.Reads as wide-wide-at
use Rattle.lexer.proofs.literal.grow.Reads as lexer-literal-grow
use Rattle.lexer.proofs.literal.digits_from.Reads as lexer-literal-digits-from
use Rattle.lexer.proofs.literal.radix_of.Reads as lexer-literal-radix-of
use Rattle.lexer.proofs.literal.concluded.Reads as lexer-literal-concluded
use Rattle.lexer.proofs.gap_end.Reads as lexer-gap-end
use Rattle.lexer.proofs.next_token.Reads as lexer-next-token
use Rattle.feeder.proofs.fresh.Reads as feeder-fresh
use Rattle.feeder.proofs.feed.Reads as feeder-feed
use Rattle.feeder.proofs.close.Reads as feeder-close
use Rattle.feeder_lent.proofs.feed_through.Reads as feeder-lent-feed-through
use Rattle.feeder_lent.proofs.close_through.Reads as feeder-lent-close-through
use Rattle.records.proofs.len_at.Reads as records-len-at
use Rattle.records.proofs.kind_at.Reads as records-kind-at
use Rattle.records.proofs.head_at.Reads as records-head-at
use Rattle.records.proofs.put_head.Reads as records-put-head
use Rattle.records.proofs.put.Reads as records-put
use Rattle.table.proofs.KindTryFromUsize.try_from.Reads as table-kind-try-from-usize
use Rattle.table.proofs.record_at.Reads as table-record-at
use Rattle.table.proofs.is_symbol.Reads as table-is-symbol
use Rattle.table.proofs.step_at.Reads as table-step-at
use Rattle.table.proofs.past_symbol.Reads as table-past-symbol
use Rattle.table.proofs.stored_cost.Reads as table-stored-cost
use Rattle.table.proofs.walk.earlier.Reads as table-walk-earlier
use Rattle.table.proofs.walk.own_wrong.Reads as table-walk-own-wrong
use Rattle.table.proofs.walk.walk_tree.Reads as table-walk-walk-tree
use Rattle.table.proofs.past.Reads as table-past
use Rattle.table.proofs.check.Reads as table-check
use Rattle.reader.proofs.read.Reads as reader-read
use Rattle.printer.proofs.cost.break_column.Reads as printer-cost-break-column
use Rattle.printer.proofs.cost.fits_in.Reads as printer-cost-fits-in
use Rattle.printer.proofs.cost.fits.Reads as printer-cost-fits
use Rattle.printer.proofs.print.Reads as printer-print
use Rattle.windows.proofs.U64FromPhase.from.Reads as windows-u64-from-phase
use Rattle.windows.proofs.PhaseFromU64.from.Reads as windows-phase-from-u64
use Rattle.windows.proofs.fresh.Reads as windows-fresh
use Rattle.windows.proofs.fill.Reads as windows-fill
use Rattle.windows.proofs.fill_in.Reads as windows-fill-in
use Rattle.words.proofs.put_token.Reads as words-put-token
use Rattle.words.proofs.put_refusal.Reads as words-put-refusal
use Rattle.words.proofs.put_length.Reads as words-put-length
use Rattle.words.proofs.put_text.Reads as words-put-text
use Rattle.words.proofs.put_lexed.Reads as words-put-lexed
use Rattle.words.proofs.put_out.Reads as words-put-out
use Rattle.tulbazhik_lex.proofs.tulbazhik_next_token.Reads as tulbazhik-lex-tulbazhik-next-token
use Rattle.tulbazhik_feed.proofs.tulbazhik_fresh.Reads as tulbazhik-feed-tulbazhik-fresh
use Rattle.tulbazhik_feed.proofs.tulbazhik_feed.Reads as tulbazhik-feed-tulbazhik-feed
use Rattle.tulbazhik_feed.proofs.tulbazhik_close.Reads as tulbazhik-feed-tulbazhik-close
use Rattle.tulbazhik_feed.proofs.states.pack.Reads as tulbazhik-feed-states-pack
use Rattle.tulbazhik_feed.proofs.states.put.Reads as tulbazhik-feed-states-put
use Rattle.tulbazhik_feed.proofs.states.unpack.Reads as tulbazhik-feed-states-unpack
use Rattle.tulbazhik_trees.proofs.tulbazhik_read.Reads as tulbazhik-trees-tulbazhik-read
use Rattle.tulbazhik_trees.proofs.tulbazhik_print.Reads as tulbazhik-trees-tulbazhik-print
use Rattle.tulbazhik_windows.proofs.tulbazhik_fill.Reads as tulbazhik-windows-tulbazhik-fill

-- what is printed of a refusal, through any writer `w`; of options such as a width nothing is said. It speaks of every type of writers, and so it is no field of `Promises`
abbrev pub PromisesPrinted : Type 2
PromisesPrinted = (W : _) (l : _) (w : _) (d : _) (κs : _) (a : _) (x : _) (s : _)
    → refusals-refusal-display.Post W l w d κs a x s ≡ (DisplaysOnOk w.write_str_gives a.1.0.now x (Some (refusal_text a.0.now)) s.1.0.now × Unit {0})

pub record Promises : Type 1 where
  pub refusals_fault_at : (κs : _) (a : _) (x : _) (s : _) → refusals-fault-at.Post κs a x s ≡ (x ≡ fault_at a.0 a.1.0)
  pub lists_byte_at : (κs : _) (a : _) (x : _) (s : _) → lists-byte-at.Post κs a x s ≡ (x ≡ get_or a.0.now a.1.0 0)
  pub lists_less : (κs : _) (a : _) (x : _) (s : _) → lists-less.Post κs a x s ≡ (x ≡ a.0 - a.1.0)
  pub lists_least : (κs : _) (a : _) (x : _) (s : _) → lists-least.Post κs a x s ≡ ((x ≤ a.1.0) × (a.0 ≤ a.1.0 → x ≡ a.0) × (a.1.0 ≤ a.0 → x ≡ a.1.0))
  pub lists_put : (κs : _) (a : _) (x : _) (s : _) → lists-put.Post κs a x s ≡ ((x ≡ length a.0.now) × (s.1.0.now ≡ fitted a.0.now a.1.0.now))
  pub classes_class_from_u8 : (κs : _) (a : _) (x : _) (s : _) → classes-class-from-u8.Post κs a x s ≡ (x ≡ named a.0)
  pub classes_class_of : (κs : _) (a : _) (x : _) (s : _) → classes-class-of.Post κs a x s ≡ (x ≡ class_of a.0)
  pub classes_class_in_loop : (κs : _) (a : _) (x : _) (s : _) → classes-class-in-loop.Post κs a x s ≡ (x ≡ class_of a.0)
  pub classes_is_blank : (κs : _) (a : _) (x : _) (s : _) → classes-is-blank.Post κs a x s ≡ (x ≡ blank (class_of a.0))
  pub classes_is_line_end : (κs : _) (a : _) (x : _) (s : _) → classes-is-line-end.Post κs a x s ≡ (x ≡ line_end (class_of a.0))
  pub classes_is_semicolon : (κs : _) (a : _) (x : _) (s : _) → classes-is-semicolon.Post κs a x s ≡ (x ≡ semicolon (class_of a.0))
  pub classes_is_lparen : (κs : _) (a : _) (x : _) (s : _) → classes-is-lparen.Post κs a x s ≡ (x ≡ lparen (class_of a.0))
  pub classes_is_rparen : (κs : _) (a : _) (x : _) (s : _) → classes-is-rparen.Post κs a x s ≡ (x ≡ rparen (class_of a.0))
  pub classes_is_at_sign : (κs : _) (a : _) (x : _) (s : _) → classes-is-at-sign.Post κs a x s ≡ (x ≡ is_at_sign (class_of a.0))
  pub classes_is_high : (κs : _) (a : _) (x : _) (s : _) → classes-is-high.Post κs a x s ≡ (x ≡ high a.0)
  pub classes_is_sym_first_char : (κs : _) (a : _) (x : _) (s : _) → classes-is-sym-first-char.Post κs a x s ≡ (x ≡ symbol_first (class_of a.0))
  pub classes_is_sym_other_char : (κs : _) (a : _) (x : _) (s : _) → classes-is-sym-other-char.Post κs a x s ≡ (x ≡ symbol_other (class_of a.0))
  pub classes_digit_of : (κs : _) (a : _) (x : _) (s : _) → classes-digit-of.Post κs a x s ≡ (x ≡ digit_of a.0)
  pub classes_is_literal_byte : (κs : _) (a : _) (x : _) (s : _) → classes-is-literal-byte.Post κs a x s ≡ (x ≡ literal_byte a.0)
  pub classes_runs_symbol_end : (κs : _) (a : _) (x : _) (s : _) → classes-runs-symbol-end.Post κs a x s ≡ (x ≡ symbol_run a.0.now a.1.0)
  pub classes_runs_line_end : (κs : _) (a : _) (x : _) (s : _) → classes-runs-line-end.Post κs a x s ≡ (x ≡ line_run a.0.now a.1.0)
  pub wide_as_unsigned : (κs : _) (a : _) (x : _) (s : _) → wide-as-unsigned.Post κs a x s ≡ (x ≡ of_z w64 a.0)
  pub wide_negative : (κs : _) (a : _) (x : _) (s : _) → wide-negative.Post κs a x s ≡ (x ≡ lt_z (value a.0) (pos 0))
  pub wide_with_sign : (κs : _) (a : _) (x : _) (s : _) → wide-with-sign.Post κs a x s ≡ (signed_of x ≡ integer_of a.1.0 (val a.0))
  pub wide_grow : (κs : _) (a : _) (x : _) (s : _) → wide-grow.Post κs a x s ≡ (x ≡ grown (val a.0 * a.1.0 + a.1.1.0))
  pub wide_text_len : (κs : _) (a : _) (x : _) (s : _) → wide-text-len.Post κs a x s ≡ (x ≡ length (integer_text (value a.0)))
  pub wide_put_text : (κs : _) (a : _) (x : _) (s : _) → wide-put-text.Post κs a x s ≡ ((x ≡ length (integer_text (value a.0))) × (s.1.0.now ≡ fitted (integer_text (value a.0)) a.1.0.now))
  pub wide_put_u16 : (κs : _) (a : _) (x : _) (s : _) → wide-put-u16.Post κs a x s ≡ (s.1.0.now ≡ fitted (le 2 a.0) a.1.0.now)
  pub wide_put_u32 : (κs : _) (a : _) (x : _) (s : _) → wide-put-u32.Post κs a x s ≡ (s.1.0.now ≡ fitted (le 4 a.0) a.1.0.now)
  pub wide_put_wide : (κs : _) (a : _) (x : _) (s : _) → wide-put-wide.Post κs a x s ≡ (s.1.0.now ≡ fitted (wide_bytes (value a.0)) a.1.0.now)
  pub wide_u16_at : (κs : _) (a : _) (x : _) (s : _) → wide-u16-at.Post κs a x s ≡ (x ≡ number_in 2 a.0.now a.1.0)
  pub wide_u32_at : (κs : _) (a : _) (x : _) (s : _) → wide-u32-at.Post κs a x s ≡ (x ≡ number_in 4 a.0.now a.1.0)
  pub wide_wide_at : (κs : _) (a : _) (x : _) (s : _) → wide-wide-at.Post κs a x s ≡ (value x ≡ wide_in a.0.now a.1.0)
  pub lexer_literal_grow : (κs : _) (a : _) (x : _) (s : _) → lexer-literal-grow.Post κs a x s ≡ (x ≡ grow a.0 a.1.0 a.1.1.0 a.1.1.1.0)
  pub lexer_literal_digits_from : (κs : _) (a : _) (x : _) (s : _) → lexer-literal-digits-from.Post κs a x s ≡ ((x.reading ≡ reading a.1.1.0 NoDigit (drop a.1.0 a.0.now) a.1.0) × (x.end ≡ literal_end (drop a.1.0 a.0.now) a.1.0))
  pub lexer_literal_radix_of : (κs : _) (a : _) (x : _) (s : _) → lexer-literal-radix-of.Post κs a x s ≡ (x ≡ radix_of a.0 a.1.0)
  pub lexer_literal_concluded : (κs : _) (a : _) (x : _) (s : _) → lexer-literal-concluded.Post κs a x s ≡ (answer_of x ≡ concluded a.0 a.1.0 a.1.1.0 a.1.1.1.0)
  pub lexer_gap_end : (κs : _) (a : _) (x : _) (s : _) → lexer-gap-end.Post κs a x s ≡ (x ≡ gap_end a.0.now a.1.0)
  pub lexer_next_token : (κs : _) (a : _) (x : _) (s : _) → lexer-next-token.Post κs a x s ≡ (answer_of x ≡ next_token a.0.now a.1.0)
  pub feeder_fresh : (κs : _) (a : _) (x : _) (s : _) → feeder-fresh.Post κs a x s ≡ (x ≡ fresh_state)
  pub feeder_feed : (κs : _) (a : _) (x : _) (s : _) → feeder-feed.Post κs a x s ≡ (fed_of x ≡ feed_of a.0 a.1.0.now)
  pub feeder_close : (κs : _) (a : _) (x : _) (s : _) → feeder-close.Post κs a x s ≡ (fed_of x ≡ close_of a.0)
  pub feeder_lent_feed_through : (κs : _) (a : _) (x : _) (s : _) → feeder-lent-feed-through.Post κs a x s ≡ (fed_of x ≡ feed_of a.0 a.1.0.now)
  pub feeder_lent_close_through : (κs : _) (a : _) (x : _) (s : _) → feeder-lent-close-through.Post κs a x s ≡ (fed_of x ≡ close_of a.0)
  pub records_len_at : (κs : _) (a : _) (x : _) (s : _) → records-len-at.Post κs a x s ≡ (x ≡ number_in 4 a.0.now a.1.0)
  pub records_kind_at : (κs : _) (a : _) (x : _) (s : _) → records-kind-at.Post κs a x s ≡ (x ≡ number_in 2 a.0.now (a.1.0 + 4))
  pub records_head_at : (κs : _) (a : _) (x : _) (s : _) → records-head-at.Post κs a x s ≡ (x ≡ head_at a.0.now a.1.0)
  pub records_put_head : (κs : _) (a : _) (x : _) (s : _) → records-put-head.Post κs a x s ≡ (s.1.1.0.now ≡ fitted (head_of a.0 a.1.0) a.1.1.0.now)
  pub records_put : (κs : _) (a : _) (x : _) (s : _) → records-put.Post κs a x s ≡ (s.1.1.0.now ≡ fitted (record_of a.0 a.1.0.now) a.1.1.0.now)
  pub table_kind_try_from_usize : (κs : _) (a : _) (x : _) (s : _) → table-kind-try-from-usize.Post κs a x s ≡ (x ≡ kind_named a.0)
  pub table_record_at : (κs : _) (a : _) (x : _) (s : _) → table-record-at.Post κs a x s ≡ (x ≡ record_at a.0.now a.1.0)
  pub table_is_symbol : (κs : _) (a : _) (x : _) (s : _) → table-is-symbol.Post κs a x s ≡ (x ≡ is_symbol a.0.now)
  pub table_step_at : (κs : _) (a : _) (x : _) (s : _) → table-step-at.Post κs a x s ≡ (x ≡ step_at a.0.now a.1.0 a.1.1.0)
  pub table_past_symbol : (κs : _) (a : _) (x : _) (s : _) → table-past-symbol.Post κs a x s ≡ (x ≡ past_symbol a.0.now a.1.0)
  pub table_stored_cost : (κs : _) (a : _) (x : _) (s : _) → table-stored-cost.Post κs a x s ≡ (x ≡ stored_cost a.0.now a.1.0)
  pub table_walk_earlier : (κs : _) (a : _) (x : _) (s : _) → table-walk-earlier.Post κs a x s ≡ (x ≡ first_of a.0 a.1.0)
  pub table_walk_own_wrong : (κs : _) (a : _) (x : _) (s : _) → table-walk-own-wrong.Post κs a x s ≡ (x ≡ own_wrong a.0.now a.1.0 a.1.1.0)
  pub table_walk_walk_tree : (κs : _) (a : _) (x : _) (s : _) → table-walk-walk-tree.Post κs a x s ≡ Walks a.0.now a.1.0 (tree_at a.0.now a.1.1.0 a.1.0) x
  pub table_past : (κs : _) (a : _) (x : _) (s : _) → table-past.Post κs a x s ≡ (x ≡ past_of a.1.0 (tree_at a.0.now depth_limit a.1.0))
  pub table_check : (κs : _) (a : _) (x : _) (s : _) → table-check.Post κs a x s ≡ (verdict_of x ≡ judged (table_of a.0.now))
  pub reader_read : (κs : _) (a : _) (x : _) (s : _) → reader-read.Post κs a x s ≡ ((read_of x ≡ reading_of a.0.now (length a.1.0.now)) × (s.1.0.now ≡ read_into a.0.now a.1.0.now))
  pub printer_cost_break_column : (κs : _) (a : _) (x : _) (s : _) → printer-cost-break-column.Post κs a x s ≡ (x ≡ break_column a.0)
  pub printer_cost_fits_in : (κs : _) (a : _) (x : _) (s : _) → printer-cost-fits-in.Post κs a x s ≡ (x ≡ fits_in a.0 a.1.0 a.1.1.0)
  pub printer_cost_fits : (κs : _) (a : _) (x : _) (s : _) → printer-cost-fits.Post κs a x s ≡ (x ≡ fits_at a.0.now a.1.0 a.1.1.0 a.1.1.1.0)
  pub printer_print : (κs : _) (a : _) (x : _) (s : _) → printer-print.Post κs a x s ≡ ((print_of x ≡ printing_of a.0.now a.1.0 (length a.1.1.0.now)) × (s.1.1.0.now ≡ printed_into a.0.now a.1.0 a.1.1.0.now))
  pub windows_u64_from_phase : (κs : _) (a : _) (x : _) (s : _) → windows-u64-from-phase.Post κs a x s ≡ (x ≡ phase_word a.0)
  pub windows_phase_from_u64 : (κs : _) (a : _) (x : _) (s : _) → windows-phase-from-u64.Post κs a x s ≡ (x ≡ phase_in a.0)
  pub windows_fresh : (κs : _) (a : _) (x : _) (s : _) → windows-fresh.Post κs a x s ≡ (x ≡ fresh_window)
  pub windows_fill : (κs : _) (a : _) (x : _) (s : _) → windows-fill.Post κs a x s ≡ (call_of x s.1.1.1.0.now ≡ fill_of a.0.now a.1.0 a.1.1.0 a.1.1.1.0.now)
  pub windows_fill_in : (κs : _) (a : _) (x : _) (s : _) → windows-fill-in.Post κs a x s ≡ (call_at x s.1.1.1.0.now s.1.1.1.1.0.now ≡ fill_of a.0.now a.1.0 (state a.1.1.0 a.1.1.1.0.now) a.1.1.1.1.0.now)
  pub words_put_token : (κs : _) (a : _) (x : _) (s : _) → words-put-token.Post κs a x s ≡ (s.1.1.1.0.now ≡ token_words (token_of a.0 a.1.0) a.1.1.0)
  pub words_put_refusal : (κs : _) (a : _) (x : _) (s : _) → words-put-refusal.Post κs a x s ≡ (s.1.1.0.now ≡ refused_words a.0.number a.0.place a.1.0)
  pub words_put_length : (κs : _) (a : _) (x : _) (s : _) → words-put-length.Post κs a x s ≡ (s.1.0.now ≡ done_words a.0)
  pub words_put_text : (κs : _) (a : _) (x : _) (s : _) → words-put-text.Post κs a x s ≡ (s.1.1.0.now ≡ text_words a.0 a.1.0)
  pub words_put_lexed : (κs : _) (a : _) (x : _) (s : _) → words-put-lexed.Post κs a x s ≡ (s.1.0.now ≡ answer_words (answer_of a.0))
  pub words_put_out : (κs : _) (a : _) (x : _) (s : _) → words-put-out.Post κs a x s ≡ (s.1.0.now ≡ reply_words (reply_of a.0.answer) a.0.used)
  pub tulbazhik_lex_tulbazhik_next_token : (κs : _) (a : _) (x : _) (s : _) → tulbazhik-lex-tulbazhik-next-token.Post κs a x s ≡ (s.1.1.0.now ≡ answer_words (next_token a.0.now a.1.0))
  pub tulbazhik_feed_tulbazhik_fresh : (κs : _) (a : _) (x : _) (s : _) → tulbazhik-feed-tulbazhik-fresh.Post κs a x s ≡ (s.0.now ≡ pack_of fresh_state)
  pub tulbazhik_feed_tulbazhik_feed : (κs : _) (a : _) (x : _) (s : _) → tulbazhik-feed-tulbazhik-feed.Post κs a x s ≡ ((s.0.now ≡ state_words (feed_of (unpack_of a.0.now) a.1.0.now)) × (s.1.1.0.now ≡ fed_words (feed_of (unpack_of a.0.now) a.1.0.now)))
  pub tulbazhik_feed_tulbazhik_close : (κs : _) (a : _) (x : _) (s : _) → tulbazhik-feed-tulbazhik-close.Post κs a x s ≡ ((s.0.now ≡ state_words (close_of (unpack_of a.0.now))) × (s.1.0.now ≡ fed_words (close_of (unpack_of a.0.now))))
  pub tulbazhik_feed_states_pack : (κs : _) (a : _) (x : _) (s : _) → tulbazhik-feed-states-pack.Post κs a x s ≡ (x ≡ pack_of a.0)
  pub tulbazhik_feed_states_put : (κs : _) (a : _) (x : _) (s : _) → tulbazhik-feed-states-put.Post κs a x s ≡ (s.1.0.now ≡ pack_of a.0)
  pub tulbazhik_feed_states_unpack : (κs : _) (a : _) (x : _) (s : _) → tulbazhik-feed-states-unpack.Post κs a x s ≡ (x ≡ unpack_of a.0)
  pub tulbazhik_trees_tulbazhik_read : (κs : _) (a : _) (x : _) (s : _) → tulbazhik-trees-tulbazhik-read.Post κs a x s ≡ ((s.1.1.0.now ≡ length_words (reading_of a.0.now (length a.1.0.now))) × (s.1.0.now ≡ read_into a.0.now a.1.0.now))
  pub tulbazhik_trees_tulbazhik_print : (κs : _) (a : _) (x : _) (s : _) → tulbazhik-trees-tulbazhik-print.Post κs a x s ≡ ((s.1.1.1.0.now ≡ print_words (printing_of a.0.now a.1.0 (length a.1.1.0.now))) × (s.1.1.0.now ≡ printed_into a.0.now a.1.0 a.1.1.0.now))
  pub tulbazhik_windows_tulbazhik_fill : (κs : _) (a : _) (x : _) (s : _) → tulbazhik-windows-tulbazhik-fill.Post κs a x s ≡ ((s.1.1.1.1.0.now ≡ call_words (fill_of a.0.now a.1.0 (unpack_window a.1.1.0.now) a.1.1.1.0.now)) × (s.1.1.0.now ≡ window_words (fill_of a.0.now a.1.0 (unpack_window a.1.1.0.now) a.1.1.1.0.now)) × (s.1.1.1.0.now ≡ (fill_of a.0.now a.1.0 (unpack_window a.1.1.0.now) a.1.1.1.0.now).window))
