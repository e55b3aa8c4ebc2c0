-- Two different answers have different words: each is read back from its words. Assumes nothing.
use mathlib.Core.Path.{◌≡◌, refl, sym, ap, ◌∙◌}
use mathlib.Core.Bool.{cond}
use mathlib.Core.List.{List}
use Prim.Native.Nat.{ℕ, ◌+◌, ◌*◌, ◌/◌, ◌%◌, ◌^◌}
use native.Mathlib.Omega.{arith}
use lib.Dec.{eqb}
use lib.IntN.{ℤ}
use lib.ListN.{get_or}
use mir.Syntax.{w128}
use mir.Val.{SFits, of_z, to_z}
use mir.ValLaws.{to_z-of_z}
use Rattle.refusals.specs.Result.{Result, ok, refused}
use Rattle.lexer.specs.Tokens.{Kind, lparen, rparen, at_sign, symbol, int, Token, token, Answer, end, is}
use Rattle.feeder.specs.Feeding.{Reply, more, finish, ready, Fed}
use Rattle.words.specs.Words.{kind_word, high_word, low_word, token_words, answer_words, reply_words, fed_words, length_words, end_answer, lparen_answer, rparen_answer, at_answer, symbol_answer, refused_answer, more_answer}

-- an integer of 128 bits, as every token has
abbrev pub KindFits : Kind → Type 0
KindFits lparen = Unit {0}
KindFits rparen = Unit {0}
KindFits at_sign = Unit {0}
KindFits symbol = Unit {0}
KindFits (int z) = SFits w128 z

abbrev pub AnswerFits : Answer → Type 0
AnswerFits (ok end) = Unit {0}
AnswerFits (ok (is t)) = KindFits t.kind
AnswerFits (refused n a) = Unit {0}

abbrev pub ReplyFits : Result Reply → Type 0
ReplyFits (ok more) = Unit {0}
ReplyFits (ok finish) = Unit {0}
ReplyFits (ok (ready t)) = KindFits t.kind
ReplyFits (refused n a) = Unit {0}

abbrev kind_in : ℕ → ℕ → ℕ → Kind
kind_in k h l =
    cond (eqb k lparen_answer) lparen
    (cond (eqb k rparen_answer) rparen
    (cond (eqb k at_answer) at_sign
    (cond (eqb k symbol_answer) symbol
    (int (to_z w128 (h * 2 ^ 64 + l))))))

abbrev token_in : List ℕ → Token
token_in w = token (kind_in (get_or w 0 0) (get_or w 3 0) (get_or w 4 0)) (get_or w 1 0) (get_or w 2 0)

abbrev answer_in : List ℕ → Answer
answer_in w = cond (eqb (get_or w 0 0) end_answer) (ok end) (cond (eqb (get_or w 0 0) refused_answer) (refused (get_or w 2 0) (get_or w 1 0)) (ok (is (token_in w))))

abbrev reply_in : List ℕ → Result Reply
reply_in w =
    cond (eqb (get_or w 0 0) end_answer) (ok finish)
    (cond (eqb (get_or w 0 0) refused_answer) (refused (get_or w 2 0) (get_or w 1 0))
    (cond (eqb (get_or w 0 0) more_answer) (ok more) (ok (ready (token_in w)))))

abbrev length_in : List ℕ → Result ℕ
length_in w = cond (eqb (get_or w 0 0) refused_answer) (refused (get_or w 2 0) (get_or w 1 0)) (ok (get_or w 2 0))

joined : (z : ℤ) → SFits w128 z → to_z w128 (of_z w128 z / 2 ^ 64 * 2 ^ 64 + of_z w128 z % 2 ^ 64) ≡ z
joined z f = let e : of_z w128 z / 2 ^ 64 * 2 ^ 64 + of_z w128 z % 2 ^ 64 ≡ of_z w128 z = omega arith in ap (to_z w128) e ∙ to_z-of_z w128 z f

kind_back : (k : Kind) → KindFits k → kind_in (kind_word k) (high_word k) (low_word k) ≡ k
kind_back lparen f = refl
kind_back rparen f = refl
kind_back at_sign f = refl
kind_back symbol f = refl
kind_back (int z) f = ap int (joined z f)

token_back : (t : Token) (u : ℕ) → KindFits t.kind → token_in (token_words t u) ≡ t
token_back t u f = ap (λ (k : Kind). token k t.start t.size) (kind_back t.kind f)

-- a token's word 0 is no other answer's
told_answer : (k : Kind) (x y z : Answer) → cond (eqb (kind_word k) end_answer) x (cond (eqb (kind_word k) refused_answer) y z) ≡ z
told_answer lparen x y z = refl
told_answer rparen x y z = refl
told_answer at_sign x y z = refl
told_answer symbol x y z = refl
told_answer (int i) x y z = refl

told_reply : (k : Kind) (w x y z : Result Reply) → cond (eqb (kind_word k) end_answer) w (cond (eqb (kind_word k) refused_answer) x (cond (eqb (kind_word k) more_answer) y z)) ≡ z
told_reply lparen w x y z = refl
told_reply rparen w x y z = refl
told_reply at_sign w x y z = refl
told_reply symbol w x y z = refl
told_reply (int i) w x y z = refl

answer_back : (a : Answer) → AnswerFits a → answer_in (answer_words a) ≡ a
unfolding answer_words
answer_back (ok end) f = refl
answer_back (ok (is t)) f = told_answer t.kind _ _ _ ∙ ap (λ (x : Token). ok (is x)) (token_back t 0 f)
answer_back (refused n a) f = refl

reply_back : (r : Result Reply) (u : ℕ) → ReplyFits r → reply_in (reply_words r u) ≡ r
unfolding reply_words
reply_back (ok more) u f = refl
reply_back (ok finish) u f = refl
reply_back (ok (ready t)) u f = told_reply t.kind _ _ _ _ ∙ ap (λ (x : Token). ok (ready x)) (token_back t u f)
reply_back (refused n a) u f = refl

pub used_back : (r : Result Reply) (u : ℕ) → get_or (reply_words r u) 5 0 ≡ u
unfolding reply_words
used_back (ok more) u = refl
used_back (ok finish) u = refl
used_back (ok (ready t)) u = refl
used_back (refused n a) u = refl

length_back : (r : Result ℕ) → length_in (length_words r) ≡ r
unfolding length_words
length_back (ok n) = refl
length_back (refused n a) = refl

-- the uncut lexer's answers
pub answer_same : (a b : Answer) → AnswerFits a → AnswerFits b → answer_words a ≡ answer_words b → a ≡ b
answer_same a b f g e = sym (answer_back a f) ∙ ap answer_in e ∙ answer_back b g

-- a call's answer, and the bytes consumed
pub reply_same : (f g : Fed) → ReplyFits f.reply → ReplyFits g.reply → fed_words f ≡ fed_words g → f.reply ≡ g.reply
reply_same f g h k e = sym (reply_back f.reply f.used h) ∙ ap reply_in e ∙ reply_back g.reply g.used k

pub used_same : (f g : Fed) → fed_words f ≡ fed_words g → f.used ≡ g.used
used_same f g e = sym (used_back f.reply f.used) ∙ ap (λ (w : List ℕ). get_or w 5 0) e ∙ used_back g.reply g.used

-- an answer that is a length
pub length_same : (a b : Result ℕ) → length_words a ≡ length_words b → a ≡ b
length_same a b e = sym (length_back a) ∙ ap length_in e ∙ length_back b
