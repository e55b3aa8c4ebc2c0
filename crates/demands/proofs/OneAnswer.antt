-- How little the promises leave open: two results that meet a promise are equal. Assumes nothing.
use Prim.Native.Nat.{ℕ, ◌≤◌}
use mathlib.Core.Path.{◌≡◌, refl, sym, ap, ◌∙◌}
use mathlib.Core.Bool.{Bool, true, false}
use mathlib.Core.List.{List}
use native.Mathlib.Omega.{arith}
use lib.Dec.{leb}
use borrow.Author.Tests.{leb-true, leb-false}
use Rattle.std.specs.Prelude.{Option, Some, None, Result, Ok, Err}
use Rattle.refusals.specs.declared.Refusal.{Refusal}
use Rattle.wide.specs.declared.Wide.{Wide}
use Rattle.wide.specs.Value.{value, signed_of}
use Rattle.wide.proofs.Values.{value_same}
use Rattle.lexer.specs.declared.Token.{Token as CodeToken}
use Rattle.lexer.specs.declared.Token.TheVariants as code
use Rattle.lexer.specs.declared.Lexed.{Lexed}
use Rattle.lexer.specs.declared.Lexed.TheVariants as lexed
use Rattle.lexer.specs.declared.literal.Digits.{Digits}
use Rattle.lexer.specs.Tokens.{Token, token_of, answer_of}
use Rattle.lexer.specs.declared.literal.Reading.{Reading}
use Rattle.feeder.specs.declared.State.{State}
use Rattle.feeder.specs.declared.Answer.{Answer}
use Rattle.feeder.specs.declared.Answer.TheVariants as answer
use Rattle.feeder.specs.declared.Out.{Out}
use Rattle.feeder.specs.declared.Fed.{Fed}
use Rattle.feeder.specs.Feeding.{Fed as Called, reply_of, fed_of}
use Rattle.table.proofs.Walks.{one_walk}
use Rattle.table.specs.Decoding.{verdict_of, tree_at}
use Rattle.printer.specs.declared.Text.{Text}
use Rattle.printer.specs.Printing.{print_of}
use Rattle.reader.specs.Reading.{read_of}
use Rattle.windows.specs.declared.Answer.{Answer as WindowAnswer}
use Rattle.windows.specs.declared.Answer.TheVariants as window
use Rattle.windows.specs.declared.Filled.{Filled}
use Rattle.windows.specs.declared.Moved.{Moved}
use Rattle.windows.specs.declared.Cursor.{Cursor}
use Rattle.windows.specs.declared.State.{State as WindowState}
use Rattle.windows.specs.Filling.{Call, answer_of as part_of, call_of, call_at}
use Rattle.demands.specs.OneAnswer.{SignedFits, TokenFits, LexedFits, AnswerFits, OutFits, FedFits, OneAnswer}

-- ---- the views tell results apart that the machine can hold

pub refusal_same : (r s : Refusal) → r.number ≡ s.number → r.place ≡ s.place → r ≡ s
refusal_same r s e f = at r.number s.number r.place s.place e f
  where
    at : (n m a b : ℕ) → n ≡ m → a ≡ b → ◌≡◌ {A = Refusal} (record { number = n; place = a }) (record { number = m; place = b })
    at n m a b e f = rw (e, f) refl

signed_same : (a b : Option Wide) → SignedFits a → SignedFits b → signed_of a ≡ signed_of b → a ≡ b
signed_same (Some a) (Some b) p q e = let f : value a ≡ value b = cc in ap Some (value_same a b p q f)
signed_same (Some a) None p q e = cc
signed_same None (Some b) p q e = cc
signed_same None None p q e = refl

-- a token's kind and size decide its case
kind_same : (t u : CodeToken) (s r : ℕ) → TokenFits t → TokenFits u → (token_of t s).kind ≡ (token_of u r).kind → (token_of t s).size ≡ (token_of u r).size → t ≡ u
kind_same code.LParen code.LParen s r p q e f = refl
kind_same code.LParen code.RParen s r p q e f = cc
kind_same code.LParen code.At s r p q e f = cc
kind_same code.LParen (code.Symbol m) s r p q e f = cc
kind_same code.LParen (code.Int v m) s r p q e f = cc
kind_same code.RParen code.LParen s r p q e f = cc
kind_same code.RParen code.RParen s r p q e f = refl
kind_same code.RParen code.At s r p q e f = cc
kind_same code.RParen (code.Symbol m) s r p q e f = cc
kind_same code.RParen (code.Int v m) s r p q e f = cc
kind_same code.At code.LParen s r p q e f = cc
kind_same code.At code.RParen s r p q e f = cc
kind_same code.At code.At s r p q e f = refl
kind_same code.At (code.Symbol m) s r p q e f = cc
kind_same code.At (code.Int v m) s r p q e f = cc
kind_same (code.Symbol n) code.LParen s r p q e f = cc
kind_same (code.Symbol n) code.RParen s r p q e f = cc
kind_same (code.Symbol n) code.At s r p q e f = cc
kind_same (code.Symbol n) (code.Symbol m) s r p q e f = ap code.Symbol f
kind_same (code.Symbol n) (code.Int v m) s r p q e f = cc
kind_same (code.Int w n) code.LParen s r p q e f = cc
kind_same (code.Int w n) code.RParen s r p q e f = cc
kind_same (code.Int w n) code.At s r p q e f = cc
kind_same (code.Int w n) (code.Symbol m) s r p q e f = cc
kind_same (code.Int w n) (code.Int v m) s r p q e f =
    let z : value w ≡ value v = cc in ap (λ (x : Wide). code.Int x n) (value_same w v p q z) ∙ ap (code.Int v) f

pub token_same : (t u : CodeToken) (s r : ℕ) → TokenFits t → TokenFits u → token_of t s ≡ token_of u r → t ≡ u
token_same t u s r p q e = kind_same t u s r p q (ap (λ (x : Token). x.kind) e) (ap (λ (x : Token). x.size) e)

start_is : (t : CodeToken) (s : ℕ) → (token_of t s).start ≡ s
start_is code.LParen s = refl
start_is code.RParen s = refl
start_is code.At s = refl
start_is (code.Symbol n) s = refl
start_is (code.Int w n) s = refl

pub start_same : (t u : CodeToken) (s r : ℕ) → token_of t s ≡ token_of u r → s ≡ r
start_same t u s r e = sym (start_is t s) ∙ ap (λ (x : Token). x.start) e ∙ start_is u r

pub answer_same : (a b : Result Lexed Refusal) → LexedFits a → LexedFits b → answer_of a ≡ answer_of b → a ≡ b
answer_same (Ok lexed.End) (Ok lexed.End) p q e = refl
answer_same (Ok lexed.End) (Ok (lexed.Token u r)) p q e = cc
answer_same (Ok (lexed.Token t s)) (Ok lexed.End) p q e = cc
answer_same (Ok (lexed.Token t s)) (Ok (lexed.Token u r)) p q e =
    let z : token_of t s ≡ token_of u r = cc in
    ap (λ (x : CodeToken). Ok (lexed.Token x s)) (token_same t u s r p q z) ∙ ap (λ (k : ℕ). Ok (lexed.Token u k)) (start_same t u s r z)
answer_same (Ok lexed.End) (Err y) p q e = cc
answer_same (Ok (lexed.Token t s)) (Err y) p q e = cc
answer_same (Err x) (Ok lexed.End) p q e = cc
answer_same (Err x) (Ok (lexed.Token u r)) p q e = cc
answer_same (Err x) (Err y) p q e = ap Err (refusal_same x y (cc) (cc))

pub reply_same : (a b : Result Answer Refusal) → AnswerFits a → AnswerFits b → reply_of a ≡ reply_of b → a ≡ b
reply_same (Ok answer.More) (Ok answer.More) p q e = refl
reply_same (Ok answer.More) (Ok answer.End) p q e = cc
reply_same (Ok answer.More) (Ok (answer.Token u r)) p q e = cc
reply_same (Ok answer.More) (Err y) p q e = cc
reply_same (Ok answer.End) (Ok answer.More) p q e = cc
reply_same (Ok answer.End) (Ok answer.End) p q e = refl
reply_same (Ok answer.End) (Ok (answer.Token u r)) p q e = cc
reply_same (Ok answer.End) (Err y) p q e = cc
reply_same (Ok (answer.Token t s)) (Ok answer.More) p q e = cc
reply_same (Ok (answer.Token t s)) (Ok answer.End) p q e = cc
reply_same (Ok (answer.Token t s)) (Ok (answer.Token u r)) p q e =
    let z : token_of t s ≡ token_of u r = cc in
    ap (λ (x : CodeToken). Ok (answer.Token x s)) (token_same t u s r p q z) ∙ ap (λ (k : ℕ). Ok (answer.Token u k)) (start_same t u s r z)
reply_same (Ok (answer.Token t s)) (Err y) p q e = cc
reply_same (Err x) (Ok answer.More) p q e = cc
reply_same (Err x) (Ok answer.End) p q e = cc
reply_same (Err x) (Ok (answer.Token u r)) p q e = cc
reply_same (Err x) (Err y) p q e = ap Err (refusal_same x y (cc) (cc))

pub fed_same : (f g : Fed) → FedFits f → FedFits g → fed_of f ≡ fed_of g → f ≡ g
fed_same f g p q e =
    at f.out.answer g.out.answer f.out.used g.out.used f.state g.state
    (reply_same f.out.answer g.out.answer p q (ap (λ (x : Called). x.reply) e))
    (ap (λ (x : Called). x.used) e)
    (ap (λ (x : Called). x.state) e)
  where
    at : (a b : Result Answer Refusal) (m n : ℕ) (s t : State) → a ≡ b → m ≡ n → s ≡ t → ◌≡◌ {A = Fed} (record { out = record { answer = a; used = m }; state = s }) (record { out = record { answer = b; used = n }; state = t })
    at a b m n s t e f g = rw (e, f, g) refl

pub verdict_same : (a b : Result (Unit {0}) Refusal) → verdict_of a ≡ verdict_of b → a ≡ b
verdict_same (Ok x) (Ok y) e = refl
verdict_same (Ok x) (Err s) e = cc
verdict_same (Err r) (Ok y) e = cc
verdict_same (Err r) (Err s) e = ap Err (refusal_same r s (cc) (cc))

pub read_same : (a b : Result ℕ Refusal) → read_of a ≡ read_of b → a ≡ b
read_same (Ok n) (Ok m) e = ap Ok (cc)
read_same (Ok n) (Err s) e = cc
read_same (Err r) (Ok m) e = cc
read_same (Err r) (Err s) e = ap Err (refusal_same r s (cc) (cc))

text_same : (x y : Text) → x.len ≡ y.len → x.looked ≡ y.looked → x ≡ y
text_same x y e f = at x.len y.len x.looked y.looked e f
  where
    at : (n m j k : ℕ) → n ≡ m → j ≡ k → ◌≡◌ {A = Text} (record { len = n; looked = j }) (record { len = m; looked = k })
    at n m j k e f = rw (e, f) refl

pub print_same : (a b : Result Text Refusal) → print_of a ≡ print_of b → a ≡ b
print_same (Ok x) (Ok y) e = ap Ok (text_same x y (cc) (cc))
print_same (Ok x) (Err s) e = cc
print_same (Err r) (Ok y) e = cc
print_same (Err r) (Err s) e = ap Err (refusal_same r s (cc) (cc))

part_same : (a b : Result WindowAnswer Refusal) → part_of a ≡ part_of b → a ≡ b
part_same (Ok (window.Bytes n)) (Ok (window.Bytes m)) e = ap (λ (k : ℕ). Ok (window.Bytes k)) (cc)
part_same (Ok (window.Bytes n)) (Ok (window.End k)) e = cc
part_same (Ok (window.Bytes n)) (Err s) e = cc
part_same (Ok (window.End j)) (Ok (window.Bytes m)) e = cc
part_same (Ok (window.End j)) (Ok (window.End k)) e = ap (λ (n : ℕ). Ok (window.End n)) (cc)
part_same (Ok (window.End j)) (Err s) e = cc
part_same (Err r) (Ok (window.Bytes m)) e = cc
part_same (Err r) (Ok (window.End k)) e = cc
part_same (Err r) (Err s) e = ap Err (refusal_same r s (cc) (cc))

pub fill_same : (f g : Filled) (b c : List ℕ) → call_of f b ≡ call_of g c → (f ≡ g) × (b ≡ c)
fill_same f g b c e = (
  at f.answer g.answer f.state g.state (part_same f.answer g.answer (ap (λ (x : Call). x.answer) e)) (ap (λ (x : Call). x.state) e),
  ap (λ (x : Call). x.window) e,
)
  where
    at : (a b : Result WindowAnswer Refusal) (s t : WindowState) → a ≡ b → s ≡ t → ◌≡◌ {A = Filled} (record { answer = a; state = s }) (record { answer = b; state = t })
    at a b s t e f = rw (e, f) refl

pub moved_same : (m n : Moved) (k l b c : List ℕ) → call_at m k b ≡ call_at n l c → (m ≡ n) × (k ≡ l) × (b ≡ c)
moved_same m n k l b c e = (
  at m.answer n.answer m.cursor n.cursor (part_same m.answer n.answer (ap (λ (x : Call). x.answer) e)) (ap (λ (x : Call). x.state.cursor) e),
  ap (λ (x : Call). x.state.stack) e,
  ap (λ (x : Call). x.window) e,
)
  where
    at : (a b : Result WindowAnswer Refusal) (s t : Cursor) → a ≡ b → s ≡ t → ◌≡◌ {A = Moved} (record { answer = a; cursor = s }) (record { answer = b; cursor = t })
    at a b s t e f = rw (e, f) refl

-- the lesser of two, by which of them it is
least_same : (a b x y : ℕ) → (x ≤ b) × (a ≤ b → x ≡ a) × (b ≤ a → x ≡ b) → (y ≤ b) × (a ≤ b → y ≡ a) × (b ≤ a → y ≡ b) → x ≡ y
least_same a b x y e f = by (leb a b) refl
  where
    by : (t : Bool) → leb a b ≡ t → x ≡ y
    by true k = let l = leb-true a b k in e.1 l ∙ sym (f.1 l)
    by false k = let l : b ≤ a = omega (arith, leb-false a b k) in e.2 l ∙ sym (f.2 l)

digits_same : (x y : Digits) → x.reading ≡ y.reading → x.end ≡ y.end → x ≡ y
digits_same x y e f = at x.reading y.reading x.end y.end e f
  where
    at : (a b : Reading) (m k : ℕ) → a ≡ b → m ≡ k → ◌≡◌ {A = Digits} (record { reading = a; end = m }) (record { reading = b; end = k })
    at a b m k e f = rw (e, f) refl

-- a lent state beside an answer is a call's result
lent_same : (x y : Out) (m n : State) → OutFits x → OutFits y → fed_of (record { out = x; state = m }) ≡ fed_of (record { out = y; state = n }) → (x ≡ y) × (m ≡ n)
lent_same x y m n h k e =
    let z = fed_same (record { out = x; state = m }) (record { out = y; state = n }) h k e in
    (ap (λ (w : Fed). w.out) z, ap (λ (w : Fed). w.state) z)

pub one_answer : OneAnswer
one_answer = record {
  refusals_fault_at = λ κs a x y s t e f. e ∙ sym f;
  lists_byte_at = λ κs a x y s t e f. e ∙ sym f;
  lists_less = λ κs a x y s t e f. e ∙ sym f;
  lists_least = λ κs a x y s t e f. least_same _ _ x y e f;
  lists_put = λ κs a x y s t e f. (e.0 ∙ sym f.0, e.1 ∙ sym f.1);
  classes_class_from_u8 = λ κs a x y s t e f. e ∙ sym f;
  classes_class_of = λ κs a x y s t e f. e ∙ sym f;
  classes_class_in_loop = λ κs a x y s t e f. e ∙ sym f;
  classes_is_blank = λ κs a x y s t e f. e ∙ sym f;
  classes_is_line_end = λ κs a x y s t e f. e ∙ sym f;
  classes_is_semicolon = λ κs a x y s t e f. e ∙ sym f;
  classes_is_lparen = λ κs a x y s t e f. e ∙ sym f;
  classes_is_rparen = λ κs a x y s t e f. e ∙ sym f;
  classes_is_at_sign = λ κs a x y s t e f. e ∙ sym f;
  classes_is_high = λ κs a x y s t e f. e ∙ sym f;
  classes_is_sym_first_char = λ κs a x y s t e f. e ∙ sym f;
  classes_is_sym_other_char = λ κs a x y s t e f. e ∙ sym f;
  classes_digit_of = λ κs a x y s t e f. e ∙ sym f;
  classes_is_literal_byte = λ κs a x y s t e f. e ∙ sym f;
  classes_runs_symbol_end = λ κs a x y s t e f. e ∙ sym f;
  classes_runs_line_end = λ κs a x y s t e f. e ∙ sym f;
  wide_as_unsigned = λ κs a x y s t e f. e ∙ sym f;
  wide_negative = λ κs a x y s t e f. e ∙ sym f;
  wide_with_sign = λ κs a x y s t h k e f. signed_same x y h k (e ∙ sym f);
  wide_grow = λ κs a x y s t e f. e ∙ sym f;
  wide_text_len = λ κs a x y s t e f. e ∙ sym f;
  wide_put_text = λ κs a x y s t e f. (e.0 ∙ sym f.0, e.1 ∙ sym f.1);
  wide_put_u16 = λ κs a x y s t e f. e ∙ sym f;
  wide_put_u32 = λ κs a x y s t e f. e ∙ sym f;
  wide_put_wide = λ κs a x y s t e f. e ∙ sym f;
  wide_u16_at = λ κs a x y s t e f. e ∙ sym f;
  wide_u32_at = λ κs a x y s t e f. e ∙ sym f;
  wide_wide_at = λ κs a x y s t h k e f. value_same x y h k (e ∙ sym f);
  lexer_literal_grow = λ κs a x y s t e f. e ∙ sym f;
  lexer_literal_digits_from = λ κs a x y s t e f. digits_same x y (e.0 ∙ sym f.0) (e.1 ∙ sym f.1);
  lexer_literal_radix_of = λ κs a x y s t e f. e ∙ sym f;
  lexer_literal_concluded = λ κs a x y s t h k e f. answer_same x y h k (e ∙ sym f);
  lexer_gap_end = λ κs a x y s t e f. e ∙ sym f;
  lexer_next_token = λ κs a x y s t h k e f. answer_same x y h k (e ∙ sym f);
  feeder_fresh = λ κs a x y s t e f. e ∙ sym f;
  feeder_feed = λ κs a x y s t h k e f. fed_same x y h k (e ∙ sym f);
  feeder_close = λ κs a x y s t h k e f. fed_same x y h k (e ∙ sym f);
  feeder_lent_feed_through = λ κs a x y s t h k e f. fed_same x y h k (e ∙ sym f);
  feeder_lent_close_through = λ κs a x y s t h k e f. fed_same x y h k (e ∙ sym f);
  records_len_at = λ κs a x y s t e f. e ∙ sym f;
  records_kind_at = λ κs a x y s t e f. e ∙ sym f;
  records_head_at = λ κs a x y s t e f. e ∙ sym f;
  records_put_head = λ κs a x y s t e f. e ∙ sym f;
  records_put = λ κs a x y s t e f. e ∙ sym f;
  table_kind_try_from_usize = λ κs a x y s t e f. e ∙ sym f;
  table_record_at = λ κs a x y s t e f. e ∙ sym f;
  table_is_symbol = λ κs a x y s t e f. e ∙ sym f;
  table_step_at = λ κs a x y s t e f. e ∙ sym f;
  table_past_symbol = λ κs a x y s t e f. e ∙ sym f;
  table_stored_cost = λ κs a x y s t e f. e ∙ sym f;
  table_walk_earlier = λ κs a x y s t e f. e ∙ sym f;
  table_walk_own_wrong = λ κs a x y s t e f. e ∙ sym f;
  table_walk_walk_tree = λ κs a x y s t e f. one_walk a.0.now a.1.0 (tree_at a.0.now a.1.1.0 a.1.0) x y e f;
  table_past = λ κs a x y s t e f. e ∙ sym f;
  table_check = λ κs a x y s t e f. verdict_same x y (e ∙ sym f);
  reader_read = λ κs a x y s t e f. (read_same x y (e.0 ∙ sym f.0), e.1 ∙ sym f.1);
  printer_cost_break_column = λ κs a x y s t e f. e ∙ sym f;
  printer_cost_fits_in = λ κs a x y s t e f. e ∙ sym f;
  printer_cost_fits = λ κs a x y s t e f. e ∙ sym f;
  printer_print = λ κs a x y s t e f. (print_same x y (e.0 ∙ sym f.0), e.1 ∙ sym f.1);
  windows_u64_from_phase = λ κs a x y s t e f. e ∙ sym f;
  windows_phase_from_u64 = λ κs a x y s t e f. e ∙ sym f;
  windows_fresh = λ κs a x y s t e f. e ∙ sym f;
  windows_fill = λ κs a x y s t e f. fill_same x y _ _ (e ∙ sym f);
  windows_fill_in = λ κs a x y s t e f. moved_same x y _ _ _ _ (e ∙ sym f);
  feeder_lent_feed_in = λ s piece x y m n h k e f. lent_same x y m n h k (e ∙ sym f);
  feeder_lent_close_in = λ s x y m n h k e f. lent_same x y m n h k (e ∙ sym f);
}
