-- How little the promises leave open: of each public function, two results (and two lent memories) that meet its promise are equal: THEOREM one_answer.
-- A promise is the function's own contract (`Post`), as the prover reads it off the source: a clause that is lost there is lost here.
use Rattle.std.specs.Prelude.{ℕ, ◌^◌, ◌<◌, ◌≡◌, List, Option, Some, None, Result, Ok, Err}
use Rattle.refusals.specs.declared.Refusal.{Refusal}
use Rattle.wide.specs.declared.Wide.{Wide}
use Rattle.lexer.specs.declared.Token.{Token as CodeToken}
use Rattle.lexer.specs.declared.Token.TheVariants as code
use Rattle.lexer.specs.declared.Lexed.{Lexed}
use Rattle.lexer.specs.declared.Lexed.TheVariants as lexed
use Rattle.feeder.specs.declared.State.{State}
use Rattle.feeder.specs.declared.Answer.{Answer}
use Rattle.feeder.specs.declared.Answer.TheVariants as answer
use Rattle.feeder.specs.declared.Out.{Out}
use Rattle.feeder.specs.declared.Fed.{Fed}
use Rattle.demands.specs.LentPromises.{FedIn, ClosedIn}
use Rattle.refusals.proofs.Fault.at.Reads as refusals-fault-at
use Rattle.lists.proofs.byte_at.Reads as lists-byte-at
use Rattle.lists.proofs.less.Reads as lists-less
use Rattle.lists.proofs.least.Reads as lists-least
use Rattle.lists.proofs.put.Reads as lists-put
use Rattle.classes.proofs.ClassFromU8.from.Reads as classes-class-from-u8
use Rattle.classes.proofs.class_of.Reads as classes-class-of
use Rattle.classes.proofs.class_in_loop.Reads as classes-class-in-loop
use Rattle.classes.proofs.is_blank.Reads as classes-is-blank
use Rattle.classes.proofs.is_line_end.Reads as classes-is-line-end
use Rattle.classes.proofs.is_semicolon.Reads as classes-is-semicolon
use Rattle.classes.proofs.is_lparen.Reads as classes-is-lparen
use Rattle.classes.proofs.is_rparen.Reads as classes-is-rparen
use Rattle.classes.proofs.is_at_sign.Reads as classes-is-at-sign
use Rattle.classes.proofs.is_high.Reads as classes-is-high
use Rattle.classes.proofs.is_sym_first_char.Reads as classes-is-sym-first-char
use Rattle.classes.proofs.is_sym_other_char.Reads as classes-is-sym-other-char
use Rattle.classes.proofs.digit_of.Reads as classes-digit-of
use Rattle.classes.proofs.is_literal_byte.Reads as classes-is-literal-byte
use Rattle.classes.proofs.runs.symbol_end.Reads as classes-runs-symbol-end
use Rattle.classes.proofs.runs.line_end.Reads as classes-runs-line-end
use Rattle.wide.proofs.as_unsigned.Reads as wide-as-unsigned
use Rattle.wide.proofs.negative.Reads as wide-negative
use Rattle.wide.proofs.with_sign.Reads as wide-with-sign
use Rattle.wide.proofs.grow.Reads as wide-grow
use Rattle.wide.proofs.text_len.Reads as wide-text-len
use Rattle.wide.proofs.put_text.Reads as wide-put-text
use Rattle.wide.proofs.put_u16.Reads as wide-put-u16
use Rattle.wide.proofs.put_u32.Reads as wide-put-u32
use Rattle.wide.proofs.put_wide.Reads as wide-put-wide
use Rattle.wide.proofs.u16_at.Reads as wide-u16-at
use Rattle.wide.proofs.u32_at.Reads as wide-u32-at
use Rattle.wide.proofs.wide_at.Reads as wide-wide-at
use Rattle.lexer.proofs.literal.grow.Reads as lexer-literal-grow
use Rattle.lexer.proofs.literal.digits_from.Reads as lexer-literal-digits-from
use Rattle.lexer.proofs.literal.radix_of.Reads as lexer-literal-radix-of
use Rattle.lexer.proofs.literal.concluded.Reads as lexer-literal-concluded
use Rattle.lexer.proofs.gap_end.Reads as lexer-gap-end
use Rattle.lexer.proofs.next_token.Reads as lexer-next-token
use Rattle.feeder.proofs.fresh.Reads as feeder-fresh
use Rattle.feeder.proofs.feed.Reads as feeder-feed
use Rattle.feeder.proofs.close.Reads as feeder-close
use Rattle.feeder_lent.proofs.feed_through.Reads as feeder-lent-feed-through
use Rattle.feeder_lent.proofs.close_through.Reads as feeder-lent-close-through
use Rattle.records.proofs.len_at.Reads as records-len-at
use Rattle.records.proofs.kind_at.Reads as records-kind-at
use Rattle.records.proofs.head_at.Reads as records-head-at
use Rattle.records.proofs.put_head.Reads as records-put-head
use Rattle.records.proofs.put.Reads as records-put
use Rattle.table.proofs.KindTryFromUsize.try_from.Reads as table-kind-try-from-usize
use Rattle.table.proofs.record_at.Reads as table-record-at
use Rattle.table.proofs.is_symbol.Reads as table-is-symbol
use Rattle.table.proofs.step_at.Reads as table-step-at
use Rattle.table.proofs.past_symbol.Reads as table-past-symbol
use Rattle.table.proofs.stored_cost.Reads as table-stored-cost
use Rattle.table.proofs.walk.earlier.Reads as table-walk-earlier
use Rattle.table.proofs.walk.own_wrong.Reads as table-walk-own-wrong
use Rattle.table.proofs.walk.walk_tree.Reads as table-walk-walk-tree
use Rattle.table.proofs.past.Reads as table-past
use Rattle.table.proofs.check.Reads as table-check
use Rattle.reader.proofs.read.Reads as reader-read
use Rattle.printer.proofs.cost.break_column.Reads as printer-cost-break-column
use Rattle.printer.proofs.cost.fits_in.Reads as printer-cost-fits-in
use Rattle.printer.proofs.cost.fits.Reads as printer-cost-fits
use Rattle.printer.proofs.print.Reads as printer-print
use Rattle.windows.proofs.U64FromPhase.from.Reads as windows-u64-from-phase
use Rattle.windows.proofs.PhaseFromU64.from.Reads as windows-phase-from-u64
use Rattle.windows.proofs.fresh.Reads as windows-fresh
use Rattle.windows.proofs.fill.Reads as windows-fill
use Rattle.windows.proofs.fill_in.Reads as windows-fill-in

-- A contract speaks of the lifetimes, the arguments, the result, and what is lent as it is at the function's end. Two results that meet it are equal
abbrev pub One : {K : Type 0} {A R S : K → Type 0} → ((κs : K) → A κs → R κs → S κs → Type 0) → Type 0
One {K} {A} {R} {S} P = (κs : K) (a : A κs) (x y : R κs) (s t : S κs) → P κs a x s → P κs a y t → x ≡ y

-- the same for results that the machine can hold
abbrev pub OneHeld : {K C : Type 0} {A S : K → Type 0} → (C → Type 0) → ((κs : K) → A κs → C → S κs → Type 0) → Type 0
OneHeld {K} {C} {A} {S} H P = (κs : K) (a : A κs) (x y : C) (s t : S κs) → H x → H y → P κs a x s → P κs a y t → x ≡ y

-- what is left in the lent memory m; in two of them, or three; and a result with one, and with two
abbrev pub Left : {K B : Type 0} {A R S : K → Type 0} → ((κs : K) → A κs → R κs → S κs → Type 0) → ((κs : K) → S κs → B) → Type 0
Left {K} {B} {A} {R} {S} P m = (κs : K) (a : A κs) (x y : R κs) (s t : S κs) → P κs a x s → P κs a y t → m κs s ≡ m κs t

abbrev pub LeftTwo : {K B C : Type 0} {A R S : K → Type 0} → ((κs : K) → A κs → R κs → S κs → Type 0) → ((κs : K) → S κs → B) → ((κs : K) → S κs → C) → Type 0
LeftTwo {K} {B} {C} {A} {R} {S} P m n =
    (κs : K) (a : A κs) (x y : R κs) (s t : S κs) → P κs a x s → P κs a y t → (m κs s ≡ m κs t) × (n κs s ≡ n κs t)

abbrev pub LeftThree : {K B C D : Type 0} {A R S : K → Type 0}
    → ((κs : K) → A κs → R κs → S κs → Type 0) → ((κs : K) → S κs → B) → ((κs : K) → S κs → C) → ((κs : K) → S κs → D) → Type 0
LeftThree {K} {B} {C} {D} {A} {R} {S} P m n o =
    (κs : K) (a : A κs) (x y : R κs) (s t : S κs) → P κs a x s → P κs a y t → (m κs s ≡ m κs t) × (n κs s ≡ n κs t) × (o κs s ≡ o κs t)

abbrev pub Both : {K B : Type 0} {A R S : K → Type 0} → ((κs : K) → A κs → R κs → S κs → Type 0) → ((κs : K) → S κs → B) → Type 0
Both {K} {B} {A} {R} {S} P m = (κs : K) (a : A κs) (x y : R κs) (s t : S κs) → P κs a x s → P κs a y t → (x ≡ y) × (m κs s ≡ m κs t)

abbrev pub BothTwo : {K B C : Type 0} {A R S : K → Type 0} → ((κs : K) → A κs → R κs → S κs → Type 0) → ((κs : K) → S κs → B) → ((κs : K) → S κs → C) → Type 0
BothTwo {K} {B} {C} {A} {R} {S} P m n =
    (κs : K) (a : A κs) (x y : R κs) (s t : S κs) → P κs a x s → P κs a y t → (x ≡ y) × (m κs s ≡ m κs t) × (n κs s ≡ n κs t)

-- the low limb of an integer that the machine can hold is below 2^64
abbrev pub WideFits : Wide → Type 0
WideFits w = w.lo < 2 ^ 64

abbrev pub SignedFits : Option Wide → Type 0
SignedFits (Some w) = WideFits w
SignedFits None = Unit {0}

abbrev pub TokenFits : CodeToken → Type 0
TokenFits code.LParen = Unit {0}
TokenFits code.RParen = Unit {0}
TokenFits code.At = Unit {0}
TokenFits (code.Symbol n) = Unit {0}
TokenFits (code.Int w n) = WideFits w

abbrev pub LexedFits : Result Lexed Refusal → Type 0
LexedFits (Ok lexed.End) = Unit {0}
LexedFits (Ok (lexed.Token t s)) = TokenFits t
LexedFits (Err r) = Unit {0}

abbrev pub AnswerFits : Result Answer Refusal → Type 0
AnswerFits (Ok answer.More) = Unit {0}
AnswerFits (Ok answer.End) = Unit {0}
AnswerFits (Ok (answer.Token t s)) = TokenFits t
AnswerFits (Err r) = Unit {0}

abbrev pub OutFits : Out → Type 0
OutFits o = AnswerFits o.answer

abbrev pub FedFits : Fed → Type 0
FedFits f = OutFits f.out

-- a field a public function, conversions too; the doors for C are in OneAnswerDoors, settings in OneAnswerSettings
pub record OneAnswer : Type 0 where
  pub refusals_fault_at : One refusals-fault-at.Post
  pub lists_byte_at : One lists-byte-at.Post
  pub lists_less : One lists-less.Post
  pub lists_least : One lists-least.Post
  pub lists_put : Both lists-put.Post (λ κs s. s.1.0.now)
  pub classes_class_from_u8 : One classes-class-from-u8.Post
  pub classes_class_of : One classes-class-of.Post
  pub classes_class_in_loop : One classes-class-in-loop.Post
  pub classes_is_blank : One classes-is-blank.Post
  pub classes_is_line_end : One classes-is-line-end.Post
  pub classes_is_semicolon : One classes-is-semicolon.Post
  pub classes_is_lparen : One classes-is-lparen.Post
  pub classes_is_rparen : One classes-is-rparen.Post
  pub classes_is_at_sign : One classes-is-at-sign.Post
  pub classes_is_high : One classes-is-high.Post
  pub classes_is_sym_first_char : One classes-is-sym-first-char.Post
  pub classes_is_sym_other_char : One classes-is-sym-other-char.Post
  pub classes_digit_of : One classes-digit-of.Post
  pub classes_is_literal_byte : One classes-is-literal-byte.Post
  pub classes_runs_symbol_end : One classes-runs-symbol-end.Post
  pub classes_runs_line_end : One classes-runs-line-end.Post
  pub wide_as_unsigned : One wide-as-unsigned.Post
  pub wide_negative : One wide-negative.Post
  pub wide_with_sign : OneHeld SignedFits wide-with-sign.Post
  pub wide_grow : One wide-grow.Post
  pub wide_text_len : One wide-text-len.Post
  pub wide_put_text : Both wide-put-text.Post (λ κs s. s.1.0.now)
  pub wide_put_u16 : Left wide-put-u16.Post (λ κs s. s.1.0.now)
  pub wide_put_u32 : Left wide-put-u32.Post (λ κs s. s.1.0.now)
  pub wide_put_wide : Left wide-put-wide.Post (λ κs s. s.1.0.now)
  pub wide_u16_at : One wide-u16-at.Post
  pub wide_u32_at : One wide-u32-at.Post
  pub wide_wide_at : OneHeld WideFits wide-wide-at.Post
  pub lexer_literal_grow : One lexer-literal-grow.Post
  pub lexer_literal_digits_from : One lexer-literal-digits-from.Post
  pub lexer_literal_radix_of : One lexer-literal-radix-of.Post
  pub lexer_literal_concluded : OneHeld LexedFits lexer-literal-concluded.Post
  pub lexer_gap_end : One lexer-gap-end.Post
  pub lexer_next_token : OneHeld LexedFits lexer-next-token.Post
  pub feeder_fresh : One feeder-fresh.Post
  pub feeder_feed : OneHeld FedFits feeder-feed.Post
  pub feeder_close : OneHeld FedFits feeder-close.Post
  pub feeder_lent_feed_through : OneHeld FedFits feeder-lent-feed-through.Post
  pub feeder_lent_close_through : OneHeld FedFits feeder-lent-close-through.Post
  pub records_len_at : One records-len-at.Post
  pub records_kind_at : One records-kind-at.Post
  pub records_head_at : One records-head-at.Post
  pub records_put_head : Left records-put-head.Post (λ κs s. s.1.1.0.now)
  pub records_put : Left records-put.Post (λ κs s. s.1.1.0.now)
  pub table_kind_try_from_usize : One table-kind-try-from-usize.Post
  pub table_record_at : One table-record-at.Post
  pub table_is_symbol : One table-is-symbol.Post
  pub table_step_at : One table-step-at.Post
  pub table_past_symbol : One table-past-symbol.Post
  pub table_stored_cost : One table-stored-cost.Post
  pub table_walk_earlier : One table-walk-earlier.Post
  pub table_walk_own_wrong : One table-walk-own-wrong.Post
  pub table_walk_walk_tree : One table-walk-walk-tree.Post
  pub table_past : One table-past.Post
  pub table_check : One table-check.Post
  pub reader_read : Both reader-read.Post (λ κs s. s.1.0.now)
  pub printer_cost_break_column : One printer-cost-break-column.Post
  pub printer_cost_fits_in : One printer-cost-fits-in.Post
  pub printer_cost_fits : One printer-cost-fits.Post
  pub printer_print : Both printer-print.Post (λ κs s. s.1.1.0.now)
  pub windows_u64_from_phase : One windows-u64-from-phase.Post
  pub windows_phase_from_u64 : One windows-phase-from-u64.Post
  pub windows_fresh : One windows-fresh.Post
  pub windows_fill : Both windows-fill.Post (λ κs s. s.1.1.1.0.now)
  pub windows_fill_in : BothTwo windows-fill-in.Post (λ κs s. s.1.1.1.0.now) (λ κs s. s.1.1.1.1.0.now)
  -- the lent entrance: what its contracts say stands in LentPromises
  pub feeder_lent_feed_in : (s : State) (piece : List ℕ) (x y : Out) (m n : State) → OutFits x → OutFits y → FedIn s piece x m → FedIn s piece y n → (x ≡ y) × (m ≡ n)
  pub feeder_lent_close_in : (s : State) (x y : Out) (m n : State) → OutFits x → OutFits y → ClosedIn s x m → ClosedIn s y n → (x ≡ y) × (m ≡ n)
