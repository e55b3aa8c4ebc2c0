-- THEOREMS: lexing is skipping, and then the token there (`lexed`); so what comes next from a place on comes next from behind the gap there (`gap_next_lem`), and it
-- is an `@` exactly if that byte is one (`gap_sign`, `gap_other`); and neither a blank nor a comment that is closed begins there (`gap_no_blank`, `gap_no_semicolon`,
-- `gap_opener`).
use Prim.Native.Nat.{ℕ, zero, suc, ◌+◌, ◌-◌, ◌≤◌, ◌<◌}
use mathlib.Core.Path.{◌≡◌, refl, sym, ap, subst⁻¹, ◌∙◌}
use mathlib.Core.List.{List, [], ◌∷◌}
use mathlib.Core.Bool.{Bool, true, false, cond, ◌&&◌}
use native.Mathlib.Numerals.{add-one}
use native.Mathlib.Omega.{arith}
use lib.Dec.{eqb, leb, ltb}
use lib.ListN.{length, get_or, drop, length-drop}
use borrow.Author.Tests.{leb-true, leb-false, ltb-true, ltb-false, le-ltb}
use Rattle.lists.proofs.Places.{first, next}
use Rattle.lists.proofs.Choice.{pick, and_left, true_false}
use Rattle.refusals.specs.Numbers.{source_limit, open_comment}
use Rattle.refusals.specs.Result.{ok, refused}
use Rattle.classes.specs.declared.Class.{Class}
use Rattle.classes.specs.declared.Class.TheVariants.{Space, LineEnd, Semicolon, LParen, RParen, AtSign, FormFeed, Minus, Digit, Other}
use Rattle.classes.specs.Classes.{class_of, blank, line_end, semicolon, lparen, rparen, is_at_sign}
use Rattle.classes.proofs.Firsts.{lparen_is, at_sign_is}
use Rattle.wide.specs.Value.{Integer, is as is_integer, none as no_integer, val, integer_of}
use Rattle.lexer.specs.Tokens.{Kind, lparen as open_paren, rparen as close_paren, at_sign, symbol, int, token, Answer, end, is}
use Rattle.lexer.specs.Literals.{Reading, Empty, Bad, Number, reading, literal_end, radix_of, signed, concluded, unsigned_in}
use Rattle.lexer.specs.Lexing.{Skip, Between, InLine, InBlock, Skipping, Stop, One, Two, leave, skip, token_in, skipped, lex_in, lex_at, next_token}
use Rattle.lexer.specs.Gaps.{Rest, before, unclosed, skip_in, skip_at, rest_place, gap_end}
use Rattle.lexer.proofs.Starts.{sign_within, lex_at_sign, skip_past}
use Rattle.lexer.proofs.Within.{byte, inside}

-- ---- lexing is skipping, and then a token

abbrev pub told : Rest → Answer
told (before [] i) = ok end
told (before (b ∷ l) i) = token_in (class_of b) b l i
told (unclosed p) = refused open_comment p

pub lexed : (n : ℕ) (m : Skip) (l : List ℕ) (i : ℕ) → lex_in n m l i ≡ told (skip_in n m l i)
unfolding lex_in skip_in
lexed n Between [] i = refl
lexed n InLine [] i = refl
lexed n (InBlock d p) [] i = refl
lexed (suc n) m (b ∷ l) i = lexed n m l (suc i)
lexed zero m (b ∷ l) i = by (skip m (class_of b) (class_of (get_or l 0 0)) i) (λ n k. lexed n k l (suc i))
  where
    by : (x : Skipping) → ((n : ℕ) (k : Skip) → lex_in n k l (suc i) ≡ told (skip_in n k l (suc i)))
        → skipped x (token_in (class_of b) b l i) (λ k. lex_in 0 k l (suc i)) (λ k. lex_in 1 k l (suc i))
        ≡ told (skipped x (before (b ∷ l) i) (λ k. skip_in 0 k l (suc i)) (λ k. skip_in 1 k l (suc i)))
    by Stop h = refl
    by (One k) h = h 0 k
    by (Two k) h = h 1 k

-- where skipping stops at one place, lexing gives one answer
pub lexed_at : (s : List ℕ) (i j : ℕ) → skip_at s i ≡ skip_at s j → lex_at s i ≡ lex_at s j
lexed_at s i j e = lexed 0 Between (drop i s) i ∙ ap told e ∙ sym (lexed 0 Between (drop j s) j)

pub lexed_unclosed : (s : List ℕ) (i p : ℕ) → skip_at s i ≡ unclosed p → lex_at s i ≡ refused open_comment p
lexed_unclosed s i p e = lexed 0 Between (drop i s) i ∙ ap told e

-- ---- skipping from where it stopped

rest_past : (s : List ℕ) (i : ℕ) → drop i s ≡ [] → length s ≤ i
rest_past s i e = let k : length s - i ≡ 0 = sym (length-drop i s) ∙ ap length e in omega arith

-- two bytes open a block comment
abbrev opener : List ℕ → ℕ → Bool
opener s p = lparen (class_of (get_or s p 0)) && semicolon (class_of (get_or s (p + 1) 0))

-- neither a blank nor a comment begins there, but one that is never closed
abbrev Stands : List ℕ → Rest → Type 0
Stands s (before [] i) = drop i s ≡ []
Stands s (before (b ∷ l) i) = (drop i s ≡ b ∷ l) × (blank (class_of b) ≡ false) × (semicolon (class_of b) ≡ false) × (opener s i ≡ false)
Stands s (unclosed p) = opener s p ≡ true

-- it stopped within the source, and from there it stops at once
record Kept (s : List ℕ) (x : Rest) : Type 0 where
  top : rest_place x ≤ length s
  same : skip_at s (rest_place x) ≡ x
  stands : Stands s x

-- a block comment was skipped from its opener on
abbrev Held : List ℕ → Skip → Rest → Type 0
Held s Between x = Unit {0}
Held s InLine x = Unit {0}
Held s (InBlock d p) x = (p < length s) × (skip_at s p ≡ x) × (opener s p ≡ true)

module _ (s : List ℕ) (b : ℕ) (l : List ℕ) (i : ℕ) (e : drop i s ≡ b ∷ l) (on : (n : ℕ) (m : Skip) → Held s m (skip_in n m l (suc i)) → Kept s (skip_in n m l (suc i))) where
  abbrev after : Skipping → Rest
  after x = skipped x (before (b ∷ l) i) (λ k. skip_in 0 k l (suc i)) (λ k. skip_in 1 k l (suc i))

  here : i < length s
  here = omega (arith, inside s i b l e)

  between : (x : Skipping) → skip_at s i ≡ after x → (t u v : Bool) → blank (class_of b) ≡ t → semicolon (class_of b) ≡ u → opener s i ≡ v
      → x ≡ cond t (One Between) (cond u (One InLine) (cond v (Two (InBlock 1 i)) Stop)) → Kept s (after x)
  between x k true u v ft fu fv f = rw f (on 0 Between tt)
  between x k false true v ft fu fv f = rw f (on 0 InLine tt)
  between x k false false true ft fu fv f = rw f (on 1 (InBlock 1 i) (here, k ∙ ap after f, fv))
  between x k false false false ft fu fv f = rw f (record { top = omega (arith, here); same = k ∙ ap after f; stands = (e, ft, fu, fv) })

  in_line_lem : (t : Bool) → Kept s (after (cond t (One Between) (One InLine)))
  in_line_lem true = on 0 Between tt
  in_line_lem false = on 0 InLine tt

  left : (d p : ℕ) (t : Bool) → Held s (InBlock d p) (after (Two (cond t Between (InBlock (d - 1) p)))) → Kept s (after (Two (cond t Between (InBlock (d - 1) p))))
  left d p true k = on 1 Between tt
  left d p false k = on 1 (InBlock (d - 1) p) k

  in_block : (d p : ℕ) (t u : Bool) → Held s (InBlock d p) (after (cond t (Two (InBlock (d + 1) p)) (cond u (Two (leave d p)) (One (InBlock d p)))))
      → Kept s (after (cond t (Two (InBlock (d + 1) p)) (cond u (Two (leave d p)) (One (InBlock d p)))))
  in_block d p true u k = on 1 (InBlock (d + 1) p) k
  in_block d p false true k = left d p (leb d 1) k
  in_block d p false false k = on 0 (InBlock d p) k

-- the two bytes there
opens : (s : List ℕ) (b : ℕ) (l : List ℕ) (i : ℕ) → drop i s ≡ b ∷ l → opener s i ≡ (lparen (class_of b) && semicolon (class_of (get_or l 0 0)))
opens s b l i e = rw (byte s i b l e, sym (first s (i + 1)) ∙ ap (λ (k : ℕ). get_or (drop k s) 0 0) (add-one i) ∙ ap (λ (m : List ℕ). get_or m 0 0) (next s i b l e)) refl

kept : (s l : List ℕ) (n : ℕ) (m : Skip) (i : ℕ) → drop i s ≡ l → i ≤ length s → Held s m (skip_in n m l i) → Kept s (skip_in n m l i)
unfolding skip_in skip
kept s [] n Between i e h k = record { top = h; same = rw e refl; stands = e }
kept s [] n InLine i e h k = record { top = h; same = rw e refl; stands = e }
kept s [] n (InBlock d p) i e h k = record { top = omega (arith, k.0); same = k.1; stands = k.2 }
kept s (b ∷ l) (suc n) m i e h k = kept s l n m (suc i) (next s i b l e) (omega (arith, inside s i b l e)) k
kept s (b ∷ l) zero Between i e h k =
    let c = class_of b in
    let c' = class_of (get_or l 0 0) in
    between s b l i e (λ n m g. kept s l n m (suc i) (next s i b l e) (omega (arith, inside s i b l e)) g)
    (skip Between c c' i) (rw e refl) (blank c) (semicolon c) (lparen c && semicolon c') refl refl (opens s b l i e) refl
kept s (b ∷ l) zero InLine i e h k =
    in_line_lem s b l i e (λ n m g. kept s l n m (suc i) (next s i b l e) (omega (arith, inside s i b l e)) g) (line_end (class_of b))
kept s (b ∷ l) zero (InBlock d p) i e h k =
    let c = class_of b in
    let c' = class_of (get_or l 0 0) in
    in_block s b l i e (λ n m g. kept s l n m (suc i) (next s i b l e) (omega (arith, inside s i b l e)) g)
    d p (lparen c && semicolon c') (semicolon c && rparen c') k

-- ---- no `@`

abbrev pub NoSignKind : Kind → Type 0
NoSignKind open_paren = Unit {0}
NoSignKind close_paren = Unit {0}
NoSignKind at_sign = ⊥
NoSignKind symbol = Unit {0}
NoSignKind (int z) = Unit {0}

abbrev pub NoSign : Answer → Type 0
NoSign (ok end) = Unit {0}
NoSign (refused n p) = Unit {0}
NoSign (ok (is t)) = NoSignKind t.kind

signed_no : (st e : ℕ) (x : Integer) → NoSign (signed st e x)
signed_no st e (is_integer z) = tt
signed_no st e no_integer = tt

digits_no : (minus : Bool) (st e : ℕ) (x : Reading) → NoSign (concluded minus st e x)
unfolding concluded
digits_no minus st e Empty = tt
digits_no minus st e (Bad r) = tt
digits_no minus st e (Number n) = signed_no st e (integer_of minus (val n))

literal_no : (minus : Bool) (st : ℕ) (l : List ℕ) (i : ℕ) → NoSign (unsigned_in minus st l i)
unfolding unsigned_in
literal_no minus st l i =
    let r = radix_of (get_or l 0 0) (get_or l 1 0) in
    pick NoSign (eqb r 10) (λ _. digits_no minus st (literal_end l i) (reading 10 Empty l i))
    (λ _. digits_no minus st (literal_end (drop 2 l) (suc (suc i))) (reading r Empty (drop 2 l) (suc (suc i))))

token_no : (c : Class) (b : ℕ) (l : List ℕ) (i : ℕ) → is_at_sign c ≡ false → NoSign (token_in c b l i)
token_no Space b l i h = tt
token_no LineEnd b l i h = tt
token_no Semicolon b l i h = tt
token_no LParen b l i h = tt
token_no RParen b l i h = tt
token_no AtSign b l i h = true_false h
token_no FormFeed b l i h = tt
token_no Minus b l i h = literal_no true i l (suc i)
token_no Digit b l i h = literal_no false i (b ∷ l) i
token_no Other b l i h = tt

-- ---- the gap

module _ (s : List ℕ) (at : ℕ) where
  gap_kept : at ≤ length s → Kept s (skip_at s at)
  gap_kept h = kept s (drop at s) 0 Between at refl h tt

  lexes : (p : ℕ) → length s ≤ source_limit → p ≤ length s → next_token s p ≡ lex_at s p
  unfolding next_token
  lexes p h k = rw (le-ltb source_limit (length s) h, le-ltb (length s) p k) refl

  pub gap_next_lem : next_token s (gap_end s at) ≡ next_token s at
  unfolding next_token
  gap_next_lem = by (ltb (length s) at) refl
    where
      by : (t : Bool) → ltb (length s) at ≡ t → next_token s (gap_end s at) ≡ next_token s at
      by true e = let h = ltb-true (length s) at e in ap (next_token s) (ap rest_place (skip_past s at (omega arith)))
      by false e =
          let h : at ≤ length s = ltb-false (length s) at e in
          rw (e, le-ltb (length s) (gap_end s at) (gap_kept h).top, lexed_at s (gap_end s at) at (gap_kept h).same) refl

  pub gap_sign : length s ≤ source_limit → is_at_sign (class_of (get_or s (gap_end s at) 0)) ≡ true → next_token s at ≡ ok (is (token at_sign (gap_end s at) 1))
  gap_sign h e =
      let k : gap_end s at < length s = sign_within s (gap_end s at) e in
      sym gap_next_lem ∙ lexes (gap_end s at) h (omega arith) ∙ lex_at_sign s (gap_end s at) k (at_sign_is (class_of (get_or s (gap_end s at) 0)) e)

  pub gap_other : is_at_sign (class_of (get_or s (gap_end s at) 0)) ≡ false → NoSign (next_token s at)
  unfolding next_token
  gap_other d =
      pick NoSign (ltb source_limit (length s)) (λ _. tt)
      (λ _. pick NoSign (ltb (length s) at) (λ _. tt) (λ e. subst⁻¹ NoSign (lexed 0 Between (drop at s) at) (by (skip_at s at) (gap_kept (ltb-false (length s) at e)) d)))
    where
      by : (x : Rest) → Kept s x → is_at_sign (class_of (get_or s (rest_place x) 0)) ≡ false → NoSign (told x)
      by (before [] i) k d = tt
      by (before (b ∷ l) i) k d = token_no (class_of b) b l i (ap (λ (n : ℕ). is_at_sign (class_of n)) (sym (byte s i b l k.stands.0)) ∙ d)
      by (unclosed p) k d = tt

  pub gap_lexed : lex_at s at ≡ lex_at s (gap_end s at)
  gap_lexed = by (leb at (length s)) refl
    where
      by : (t : Bool) → leb at (length s) ≡ t → lex_at s at ≡ lex_at s (gap_end s at)
      by true e = lexed_at s at (gap_end s at) (sym (gap_kept (leb-true at (length s) e)).same)
      by false e = ap (lex_at s) (sym (ap rest_place (skip_past s at (omega (arith, leb-false at (length s) e)))))

  module _ (lt : gap_end s at < length s) where
    gap_within : at ≤ length s
    gap_within = by (leb at (length s)) refl
      where
        by : (t : Bool) → leb at (length s) ≡ t → at ≤ length s
        by true e = leb-true at (length s) e
        by false e = let k : gap_end s at ≡ at = ap rest_place (skip_past s at (omega (arith, leb-false at (length s) e))) in omega arith

    -- the gap's end is no blank and no `;`, and `(;` there is never closed
    gap_stands : (blank (class_of (get_or s (gap_end s at) 0)) ≡ false) × (semicolon (class_of (get_or s (gap_end s at) 0)) ≡ false)
        × (opener s (gap_end s at) ≡ true → lex_at s at ≡ refused open_comment (gap_end s at))
    gap_stands = by (skip_at s at) refl (gap_kept gap_within) lt
      where
        by : (x : Rest) → skip_at s at ≡ x → Kept s x → rest_place x < length s
            → (blank (class_of (get_or s (rest_place x) 0)) ≡ false) × (semicolon (class_of (get_or s (rest_place x) 0)) ≡ false)
            × (opener s (rest_place x) ≡ true → lex_at s at ≡ refused open_comment (rest_place x))
        by (before [] i) e k lt = absurd (omega (arith, lt, rest_past s i k.stands))
        by (before (b ∷ l) i) e k lt =
            let t = k.stands in
            let w : get_or s i 0 ≡ b = byte s i b l t.0 in
            (ap (λ (n : ℕ). blank (class_of n)) w ∙ t.1, ap (λ (n : ℕ). semicolon (class_of n)) w ∙ t.2, λ o. true_false (sym o ∙ t.3))
        by (unclosed p) e k lt =
            let c = lparen_is (class_of (get_or s p 0)) (and_left _ _ k.stands) in
            (ap blank c, ap semicolon c, λ _. lexed_unclosed s at p e)

    pub gap_no_blank : blank (class_of (get_or s (gap_end s at) 0)) ≡ false
    gap_no_blank = gap_stands.0

    pub gap_no_semicolon : semicolon (class_of (get_or s (gap_end s at) 0)) ≡ false
    gap_no_semicolon = gap_stands.1

    pub gap_opener : lparen (class_of (get_or s (gap_end s at) 0)) ≡ true → semicolon (class_of (get_or s (gap_end s at + 1) 0)) ≡ true
        → lex_at s at ≡ refused open_comment (gap_end s at)
    gap_opener e f = gap_stands.2 (rw (e, f) refl)

-- what is known of a gap's end
pub ruleset gaps = (gap_lexed, gap_opener)
