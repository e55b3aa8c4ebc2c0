-- For each public function of the lower crates two wrong answers that its promise rules out, on a given input, refuted by computation.
use mathlib.Core.Path.{◌≡◌, ap}
use mathlib.Core.Bool.{true, false}
use mathlib.Core.List.{List, [], ◌∷◌}
use Prim.Native.Nat.{ℕ, ◌+◌, ◌*◌, ◌-◌, ◌^◌, ◌≤◌}
use native.Mathlib.Omega.{arith}
use lib.IntN.{ℤ, pos, negsuc}
use lib.ListN.{length, get_or, replicate}
use lib.Signed.{lt_z}
use mir.Syntax.{w64}
use mir.Val.{of_z}
use Rattle.std.specs.Prelude.{Option, Some, None, codes}
use Rattle.std.specs.Fmt.{digits as in_decimal}
use Rattle.lists.specs.Over.{fitted}
use Rattle.refusals.specs.declared.Fault.TheVariants.{FormFeed}
use Rattle.refusals.specs.declared.Refusal.{Refusal}
use Rattle.refusals.specs.Numbers.{fault_at, refusal_text}
use Rattle.refusals.specs.Result.{ok, refused}
use Rattle.classes.specs.declared.Class.TheVariants.{Space, Digit, Other}
use Rattle.classes.specs.Classes.{class_of, blank, line_end, semicolon, lparen, rparen, is_at_sign, symbol_first, symbol_other, high, digit_of, literal_byte}
use Rattle.classes.specs.Numbers.{named}
use Rattle.classes.specs.Runs.{leading, symbol_run, line_run}
use Rattle.wide.specs.declared.Limbs.{Limbs}
use Rattle.wide.specs.declared.Wide.{Wide}
use Rattle.wide.specs.Value.{val, value, value_of, grown, is as integer, integer_of}
use Rattle.wide.specs.Text.{digits, is_lowest, integer_text}
use Rattle.wide.specs.Bytes.{le, number, number_in, wide_bytes, wide_in}
use Rattle.lexer.specs.declared.literal.Reading.{Reading}
use Rattle.lexer.specs.declared.literal.Reading.TheVariants.{Empty, Bad, Number}
use Rattle.lexer.specs.Tokens.{Answer, end, is, token, int, symbol}
use Rattle.lexer.specs.Literals.{taken, grow, reading, literal_end, radix_of, concluded, unsigned_in}
use Rattle.lexer.specs.Lexing.{skip, symbol_end, lex_in, next_token}
use Rattle.lexer.specs.Gaps.{skip_in, gap_end}

abbrev pub Not : Type 0 → Type 0
Not P = P → ⊥

abbrev pub wide : ℤ → ℕ → Wide
wide h l = record { hi = h; lo = l }

abbrev high_of : Option Limbs → ℕ
high_of (Some n) = n.hi
high_of None = 0

abbrev low_of : Reading → ℕ
low_of (Number n) = n.lo
low_of Empty = 0
low_of (Bad r) = 0

abbrev number_of : Reading → ℕ
number_of (Bad r) = r.number
number_of Empty = 0
number_of (Number n) = 0

abbrev digit_at : Reading → ℕ
digit_at (Bad r) = r.place
digit_at Empty = 0
digit_at (Number n) = 0

abbrev start_of : Answer → ℕ
start_of (ok (is t)) = t.start
start_of (ok end) = 0
start_of (refused n a) = 0

-- refusals::Fault::at: the place 0; the number that stands before it in the table
pub fault_start : Not (◌≡◌ {A = Refusal} (record { number = 3; place = 0 }) (fault_at FormFeed 8))
fault_start e = let f : ◌≡◌ {A = ℕ} 0 8 = ap (λ (r : Refusal). r.place) e in omega arith

pub fault_before : Not (◌≡◌ {A = Refusal} (record { number = 2; place = 8 }) (fault_at FormFeed 8))
fault_before e = let f : ◌≡◌ {A = ℕ} 2 3 = ap (λ (r : Refusal). r.number) e in omega arith

-- Display of refusals::Refusal: the place before the number; the number alone
told_swapped : Not (codes "refusal 8 at 3" ≡ refusal_text (record { number = 3; place = 8 }))
unfolding in_decimal
told_swapped e = let z : ◌≡◌ {A = ℕ} 56 51 = ap (λ (o : List ℕ). get_or o 8 0) e in omega arith

told_number : Not (codes "refusal 3" ≡ refusal_text (record { number = 3; place = 8 }))
unfolding in_decimal
told_number e = let z : ◌≡◌ {A = ℕ} 9 14 = ap length e in omega arith

-- lists::byte_at: 0 everywhere; the last byte past the end
byte_at_zero : Not (◌≡◌ {A = ℕ} 0 (get_or (7 ∷ []) 0 0))
byte_at_zero e = omega arith

byte_at_last : Not (◌≡◌ {A = ℕ} 7 (get_or (7 ∷ []) 1 0))
byte_at_last e = omega arith

-- lists::less: a difference that wraps; the distance
less_wraps : Not (2 ^ 64 - 1 ≡ 1 - 2)
less_wraps e = omega arith

less_distance : Not (1 ≡ 1 - 2)
less_distance e = omega arith

-- lists::least: the greater; always 0
abbrev Least : ℕ → ℕ → ℕ → Type 0
Least a b r = (r ≤ b) × (a ≤ b → r ≡ a) × (b ≤ a → r ≡ b)

least_greater : Not (Least 1 2 2)
least_greater e = let z : ◌≡◌ {A = ℕ} 2 1 = e.1 (omega arith) in omega arith

least_none : Not (Least 1 2 0)
least_none e = let z : ◌≡◌ {A = ℕ} 0 1 = e.1 (omega arith) in omega arith

-- lists::put: a room that is too short takes what it can; the bytes after the text go
put_cut : Not (1 ∷ [] ≡ fitted (1 ∷ 2 ∷ []) (7 ∷ []))
put_cut e = let z = ap (λ (o : List ℕ). get_or o 0 0) e in omega arith

put_rest : Not (1 ∷ 0 ∷ [] ≡ fitted (1 ∷ []) (7 ∷ 8 ∷ []))
put_rest e = let z = ap (λ (o : List ℕ). get_or o 1 0) e in omega arith

-- classes::class_of: form feed as a blank; vertical tab as a blank
class_form_feed : Not (Space ≡ class_of 12)
unfolding class_of
class_form_feed e = let z : ◌≡◌ {A = ℕ} 0 1 = cc in omega arith

class_vertical_tab : Not (Space ≡ class_of 11)
unfolding class_of
class_vertical_tab e = let z : ◌≡◌ {A = ℕ} 0 1 = cc in omega arith

-- classes::class_in_loop: byte 128 as a blank; `-` as a symbol's first byte
loop_high : Not (Space ≡ class_of 128)
unfolding class_of
loop_high e = let z : ◌≡◌ {A = ℕ} 0 1 = cc in omega arith

loop_minus : Not (Other ≡ class_of 45)
unfolding class_of
loop_minus e = let z : ◌≡◌ {A = ℕ} 0 1 = cc in omega arith

-- From<u8> for classes::Class: the minus sign's number as a digit's; a number past the last as a blank's
named_minus : Not (Digit ≡ named 7)
unfolding named
named_minus e = let z : ◌≡◌ {A = ℕ} 0 1 = cc in omega arith

named_past : Not (Space ≡ named 10)
unfolding named
named_past e = let z : ◌≡◌ {A = ℕ} 0 1 = cc in omega arith

-- classes::is_blank: form feed is one; CR is none
blank_form_feed : Not (true ≡ blank (class_of 12))
unfolding class_of
blank_form_feed e = let z : ◌≡◌ {A = ℕ} 0 1 = cc in omega arith

blank_return : Not (false ≡ blank (class_of 13))
unfolding class_of
blank_return e = let z : ◌≡◌ {A = ℕ} 0 1 = cc in omega arith

-- classes::is_line_end: only LF is one; a space is one
line_return : Not (false ≡ line_end (class_of 13))
unfolding class_of
line_return e = let z : ◌≡◌ {A = ℕ} 0 1 = cc in omega arith

line_space : Not (true ≡ line_end (class_of 32))
unfolding class_of
line_space e = let z : ◌≡◌ {A = ℕ} 0 1 = cc in omega arith

-- classes::is_semicolon: `:` is one; `;` is none
semicolon_colon : Not (true ≡ semicolon (class_of 58))
unfolding class_of
semicolon_colon e = let z : ◌≡◌ {A = ℕ} 0 1 = cc in omega arith

semicolon_none : Not (false ≡ semicolon (class_of 59))
unfolding class_of
semicolon_none e = let z : ◌≡◌ {A = ℕ} 0 1 = cc in omega arith

-- classes::is_lparen: `)` is one; `(` is none
lparen_close : Not (true ≡ lparen (class_of 41))
unfolding class_of
lparen_close e = let z : ◌≡◌ {A = ℕ} 0 1 = cc in omega arith

lparen_none : Not (false ≡ lparen (class_of 40))
unfolding class_of
lparen_none e = let z : ◌≡◌ {A = ℕ} 0 1 = cc in omega arith

-- classes::is_rparen: `(` is one; `)` is none
rparen_open : Not (true ≡ rparen (class_of 40))
unfolding class_of
rparen_open e = let z : ◌≡◌ {A = ℕ} 0 1 = cc in omega arith

rparen_none : Not (false ≡ rparen (class_of 41))
unfolding class_of
rparen_none e = let z : ◌≡◌ {A = ℕ} 0 1 = cc in omega arith

-- classes::is_at_sign: `A` is one; `@` is none
sign_letter : Not (true ≡ is_at_sign (class_of 65))
unfolding class_of
sign_letter e = let z : ◌≡◌ {A = ℕ} 0 1 = cc in omega arith

sign_none : Not (false ≡ is_at_sign (class_of 64))
unfolding class_of
sign_none e = let z : ◌≡◌ {A = ℕ} 0 1 = cc in omega arith

-- classes::is_high: `@` is; byte 128 is not
high_sign : Not (true ≡ high 64)
high_sign e = let z : ◌≡◌ {A = ℕ} 0 1 = cc in omega arith

high_none : Not (false ≡ high 128)
high_none e = let z : ◌≡◌ {A = ℕ} 0 1 = cc in omega arith

-- classes::is_sym_first_char: `-` begins a symbol; byte 200 begins none
first_minus : Not (true ≡ symbol_first (class_of 45))
unfolding class_of
first_minus e = let z : ◌≡◌ {A = ℕ} 0 1 = cc in omega arith

first_high : Not (false ≡ symbol_first (class_of 200))
unfolding class_of
first_high e = let z : ◌≡◌ {A = ℕ} 0 1 = cc in omega arith

-- classes::is_sym_other_char: `@` goes on in a symbol; a digit doesn't
other_at : Not (true ≡ symbol_other (class_of 64))
unfolding class_of
other_at e = let z : ◌≡◌ {A = ℕ} 0 1 = cc in omega arith

other_digit : Not (false ≡ symbol_other (class_of 48))
unfolding class_of
other_digit e = let z : ◌≡◌ {A = ℕ} 0 1 = cc in omega arith

-- classes::digit_of: upper case has no value; `g` is 16 and so is no digit, not 0
digit_upper : Not (16 ≡ digit_of 65)
unfolding digit_of
digit_upper e = omega arith

digit_none : Not (0 ≡ digit_of 103)
unfolding digit_of
digit_none e = omega arith

-- classes::is_literal_byte: no underscore; `g` too
literal_underscore : Not (false ≡ literal_byte 95)
unfolding literal_byte digit_of
literal_underscore e = let z : ◌≡◌ {A = ℕ} 0 1 = cc in omega arith

literal_letter : Not (true ≡ literal_byte 103)
unfolding literal_byte digit_of
literal_letter e = let z : ◌≡◌ {A = ℕ} 0 1 = cc in omega arith

-- classes::runs::symbol_end: a symbol stops before a digit; it runs on over `@`, here in the last of eight bytes
run_digit : Not (1 ≡ symbol_run (97 ∷ 49 ∷ 32 ∷ []) 0)
unfolding leading class_of
run_digit e = omega arith

run_sign : Not (8 ≡ symbol_run (97 ∷ 97 ∷ 97 ∷ 97 ∷ 97 ∷ 97 ∷ 97 ∷ 64 ∷ []) 0)
unfolding leading class_of
run_sign e = omega arith

-- classes::runs::line_end: a line ends at form feed; CR does not end it
run_form_feed : Not (1 ≡ line_run (97 ∷ 12 ∷ 10 ∷ []) 0)
unfolding leading class_of
run_form_feed e = omega arith

run_return : Not (2 ≡ line_run (97 ∷ 13 ∷ 10 ∷ []) 0)
unfolding leading class_of
run_return e = omega arith

-- wide::grow: a carry lost between the limbs; 2^128 let through
grow_carry : Not (Some (record { hi = 0; lo = 0 }) ≡ grown (2 ^ 63 * 2 + 0))
unfolding grown
grow_carry e = let z : ◌≡◌ {A = ℕ} 0 1 = ap high_of e in omega arith

grow_over : Not (Some (record { hi = 0; lo = 0 }) ≡ grown ((2 ^ 128 - 1) * 2 + 2))
unfolding grown
grow_over e = let z : ◌≡◌ {A = ℕ} 0 1 = cc in omega arith

-- wide::with_sign: saturated above 2^127-1; `-` with 2^127 let through
sign_saturates : Not (integer (pos (2 ^ 127 - 1)) ≡ integer_of false (2 ^ 128 - 1))
unfolding integer_of
sign_saturates e = let z : ◌≡◌ {A = ℕ} 0 1 = cc in omega arith

sign_lowest : Not (integer (negsuc (2 ^ 127 - 1)) ≡ integer_of true (2 ^ 127))
unfolding integer_of
sign_lowest e = let z : ◌≡◌ {A = ℕ} 0 1 = cc in omega arith

-- wide::as_unsigned: the magnitude of -1; 0 for the lowest
unsigned_magnitude : Not (◌≡◌ {A = ℕ} 1 (of_z w64 (negsuc 0)))
unsigned_magnitude e = omega arith

unsigned_lowest : Not (◌≡◌ {A = ℕ} 0 (of_z w64 (negsuc (2 ^ 63 - 1))))
unsigned_lowest e = omega arith

-- wide::negative: by the low limb; 0 is negative
negative_low : Not (true ≡ lt_z (value (wide (pos 0) (2 ^ 64 - 1))) (pos 0))
unfolding value_of
negative_low e = let z : ◌≡◌ {A = ℕ} 0 1 = cc in omega arith

negative_zero : Not (true ≡ lt_z (value (wide (pos 0) 0)) (pos 0))
unfolding value_of
negative_zero e = let z : ◌≡◌ {A = ℕ} 0 1 = cc in omega arith

-- wide::text_len: 0 for zero; the minus sign left out; the length of a decimal for -2^127
len_zero : Not (0 ≡ length (integer_text (value (wide (pos 0) 0))))
unfolding value_of is_lowest integer_text digits
len_zero e = omega arith

len_minus : Not (1 ≡ length (integer_text (value (wide (negsuc 0) (2 ^ 64 - 1)))))
unfolding value_of is_lowest integer_text digits
len_minus e = omega arith

len_lowest : Not (40 ≡ length (integer_text (value (wide (negsuc (2 ^ 63 - 1)) 0))))
unfolding value_of is_lowest integer_text digits
len_lowest e = omega arith

-- wide::put_text: a leading zero; a byte written where the room is too short
decimal_leading : Not (48 ∷ 55 ∷ [] ≡ fitted (integer_text (value (wide (pos 0) 7))) (0 ∷ 0 ∷ []))
unfolding value_of is_lowest integer_text digits
decimal_leading e = let z : ◌≡◌ {A = ℕ} 48 55 = cc in omega arith

decimal_short : Not (49 ∷ [] ≡ fitted (integer_text (value (wide (pos 0) 12))) (0 ∷ []))
unfolding value_of is_lowest integer_text digits
decimal_short e = let z : ◌≡◌ {A = ℕ} 49 0 = cc in omega arith

-- and for -2^127 its decimal; an upper-case X; a minus sign before its hexadecimal
lowest_decimal : Not (45 ∷ digits 39 (2 ^ 127) ≡ fitted (integer_text (value (wide (negsuc (2 ^ 63 - 1)) 0))) (replicate 40 0))
unfolding value_of is_lowest integer_text digits
lowest_decimal e = let z : ◌≡◌ {A = ℕ} 45 48 = cc in omega arith

lowest_upper : Not (48 ∷ 88 ∷ 56 ∷ replicate 31 48 ≡ fitted (integer_text (value (wide (negsuc (2 ^ 63 - 1)) 0))) (replicate 34 0))
unfolding value_of is_lowest integer_text digits
lowest_upper e = let z : ◌≡◌ {A = ℕ} 88 120 = cc in omega arith

lowest_minus : Not (45 ∷ 48 ∷ 120 ∷ 56 ∷ replicate 31 48 ≡ fitted (integer_text (value (wide (negsuc (2 ^ 63 - 1)) 0))) (replicate 35 0))
unfolding value_of is_lowest integer_text digits
lowest_minus e = let z : ◌≡◌ {A = ℕ} 45 48 = cc in omega arith

-- wide::put_u16: the most significant byte first; a byte past the number changed
u16_order : Not (0 ∷ 1 ∷ [] ≡ fitted (le 2 1) (9 ∷ 9 ∷ []))
unfolding le
u16_order e = let z : ◌≡◌ {A = ℕ} 0 1 = cc in omega arith

u16_past : Not (1 ∷ 0 ∷ 0 ∷ [] ≡ fitted (le 2 1) (9 ∷ 9 ∷ 9 ∷ []))
unfolding le
u16_past e = let z : ◌≡◌ {A = ℕ} 0 9 = cc in omega arith

-- wide::put_u32: two bytes only; bytes written where the room is too short
u32_two : Not (1 ∷ 0 ∷ 9 ∷ 9 ∷ [] ≡ fitted (le 4 1) (9 ∷ 9 ∷ 9 ∷ 9 ∷ []))
unfolding le
u32_two e = let z : ◌≡◌ {A = ℕ} 9 0 = cc in omega arith

u32_short : Not (1 ∷ 0 ∷ 0 ∷ [] ≡ fitted (le 4 1) (9 ∷ 9 ∷ 9 ∷ []))
unfolding le
u32_short e = let z : ◌≡◌ {A = ℕ} 1 9 = cc in omega arith

-- wide::put_wide: a minus sign lost; nothing written
wide_sign : Not (1 ∷ replicate 15 0 ≡ fitted (wide_bytes (negsuc 0)) (replicate 16 9))
unfolding le
wide_sign e = let z : ◌≡◌ {A = ℕ} 1 255 = cc in omega arith

wide_none : Not (replicate 16 9 ≡ fitted (wide_bytes (pos 0)) (replicate 16 9))
unfolding le
wide_none e = let z : ◌≡◌ {A = ℕ} 9 0 = cc in omega arith

-- wide::u16_at: the most significant byte first; what is left of a number that the end cuts
u16_at_order : Not (513 ≡ number_in 2 (2 ∷ 1 ∷ []) 0)
unfolding number
u16_at_order e = omega arith

u16_at_cut : Not (7 ≡ number_in 2 (7 ∷ []) 0)
unfolding number
u16_at_cut e = omega arith

-- wide::u32_at: two bytes for four; what is left of a number that the end cuts
u32_at_two : Not (1 ≡ number_in 4 (1 ∷ 0 ∷ 1 ∷ 0 ∷ []) 0)
unfolding number
u32_at_two e = omega arith

u32_at_cut : Not (7 ≡ number_in 4 (7 ∷ 0 ∷ 0 ∷ []) 0)
unfolding number
u32_at_cut e = omega arith

-- wide::wide_at: read without a sign; 16 bytes that the end cuts
wide_unsigned : Not (pos (2 ^ 128 - 1) ≡ wide_in (replicate 16 255) 0)
unfolding number
wide_unsigned e = let z : ◌≡◌ {A = ℕ} 0 1 = cc in omega arith

wide_cut : Not (pos 7 ≡ wide_in (7 ∷ []) 0)
unfolding number
wide_cut e = let z : ◌≡◌ {A = ℕ} 7 0 = cc in omega arith

-- lexer::literal::grow: an underscore counts as 0; over before foreign; the place of the last bad digit
grow_underscore : Not (Number (record { hi = 0; lo = 0 }) ≡ grow 10 (Number (record { hi = 0; lo = 1 })) 95 1)
unfolding grow
grow_underscore e = let z : ◌≡◌ {A = ℕ} 0 1 = ap low_of e in omega arith

grow_order : Not (Bad (record { number = 7; place = 39 }) ≡ grow 10 (Number (record { hi = 2 ^ 64 - 1; lo = 2 ^ 64 - 1 })) 97 39)
unfolding grow taken digit_of
grow_order e = let z : ◌≡◌ {A = ℕ} 7 6 = ap number_of e in omega arith

grow_last : Not (Bad (record { number = 6; place = 3 }) ≡ grow 10 (Bad (record { number = 6; place = 2 })) 98 3)
unfolding grow digit_of
grow_last e = let z : ◌≡◌ {A = ℕ} 3 2 = ap digit_at e in omega arith

-- lexer::literal::digits_from: `12ab` ends before `a`; a fault is forgotten; the place of `2` in `0b12` without the prefix
digits_stop : Not (2 ≡ literal_end (49 ∷ 50 ∷ 97 ∷ 98 ∷ []) 0)
unfolding literal_end literal_byte digit_of
digits_stop e = omega arith

digits_forget : Not (Number (record { hi = 0; lo = 12 }) ≡ reading 10 Empty (49 ∷ 97 ∷ 50 ∷ []) 0)
unfolding reading grow taken grown val literal_byte digit_of
digits_forget e = let z : ◌≡◌ {A = ℕ} 0 1 = cc in omega arith

digits_prefix : Not (Bad (record { number = 6; place = 1 }) ≡ reading 2 Empty (49 ∷ 50 ∷ []) 2)
unfolding reading grow taken grown val literal_byte digit_of
digits_prefix e = let z : ◌≡◌ {A = ℕ} 1 3 = ap digit_at e in omega arith

-- lexer::literal::radix_of: `0X` is radix 10; `1x` names one
radix_upper : Not (10 ≡ radix_of 48 88)
unfolding radix_of
radix_upper e = omega arith

radix_one : Not (16 ≡ radix_of 49 120)
unfolding radix_of
radix_one e = omega arith

-- lexer::literal::concluded: no digits read as 0; the place past a bad literal; its start
concluded_empty : Not (ok (is (token (int (pos 0)) 3 1)) ≡ concluded true 3 4 Empty)
unfolding concluded
concluded_empty e = let z : ◌≡◌ {A = ℕ} 0 1 = cc in omega arith

concluded_place : Not (refused 6 4 ≡ concluded false 0 4 (Bad (record { number = 6; place = 2 })))
unfolding concluded
concluded_place e = let z : ◌≡◌ {A = ℕ} 4 2 = cc in omega arith

concluded_start : Not (refused 6 0 ≡ concluded false 0 4 (Bad (record { number = 6; place = 2 })))
unfolding concluded
concluded_start e = let z : ◌≡◌ {A = ℕ} 0 2 = cc in omega arith

-- lexer::gap_end: a comment is no gap; of a block comment that is never closed, the end
gap_comment : Not (1 ≡ gap_end (32 ∷ 59 ∷ 97 ∷ 10 ∷ 97 ∷ []) 0)
unfolding skip_in skip class_of
gap_comment e = omega arith

gap_open : Not (3 ≡ gap_end (32 ∷ 40 ∷ 59 ∷ []) 0)
unfolding skip_in skip class_of
gap_open e = omega arith

-- lexer::next_token: a comment that ends at the first `;)`; `12ab` as 12; vertical tab as a blank
next_first_closer : Not (ok (is (token symbol 6 1)) ≡ next_token (40 ∷ 59 ∷ 40 ∷ 59 ∷ 59 ∷ 41 ∷ 120 ∷ 59 ∷ 41 ∷ []) 0)
unfolding next_token lex_in skip symbol_end class_of literal_byte digit_of taken grow reading literal_end radix_of concluded unsigned_in val grown integer_of
next_first_closer e = let z : ◌≡◌ {A = ℕ} 0 1 = cc in omega arith

next_twelve : Not (ok (is (token (int (pos 12)) 0 2)) ≡ next_token (49 ∷ 50 ∷ 97 ∷ 98 ∷ []) 0)
unfolding next_token lex_in skip symbol_end class_of literal_byte digit_of taken grow reading literal_end radix_of concluded unsigned_in val grown integer_of
next_twelve e = let z : ◌≡◌ {A = ℕ} 0 1 = cc in omega arith

next_vertical_tab : Not (ok (is (token symbol 1 1)) ≡ next_token (11 ∷ 97 ∷ []) 0)
unfolding next_token lex_in skip symbol_end class_of literal_byte digit_of taken grow reading literal_end radix_of concluded unsigned_in val grown integer_of
next_vertical_tab e = let z : ◌≡◌ {A = ℕ} 1 0 = ap start_of e in omega arith
