-- Where what is read ends, and how many bytes its records take: at most 14.5 for each byte of the source, and 7.5 more. Assumes nothing.
use Prim.Native.Nat.{ℕ, ◌+◌, ◌*◌, ◌-◌, ◌≤◌, ◌<◌}
use mathlib.Core.Path.{◌≡◌, refl, ap, subst, subst⁻¹, ◌∙◌}
use mathlib.Core.List.{List, ◌++◌}
use native.Mathlib.Omega.{arith}
use lib.IntN.{ℤ}
use lib.ListN.{length, drop, length-append, length-drop}
use lib.Seq.{length-take-le}
use Rattle.refusals.specs.Numbers.{source_limit}
use Rattle.refusals.specs.Result.{ok, refused}
use Rattle.lexer.specs.Tokens.{Kind, lparen, rparen, at_sign, symbol, int, Token, past, Answer, end, is}
use Rattle.lexer.proofs.Within.{Lies, within, limited, apart}
use Rattle.wide.specs.Bytes.{wide_bytes}
use Rattle.wide.proofs.Numbers.{wide_length}
use Rattle.records.specs.Records.{head_len, record_of}
use Rattle.table.specs.Kinds.{symbol_kind, integer_kind, binding_kind, integer_len}
use Rattle.table.specs.Trees.{Tree, Trees, symbol as symbol_tree, integer, binding, list, none, more, count, records, records_of}
use Rattle.table.proofs.Costs.{list_records}
use Rattle.records.proofs.Heads.{length_record}
use Rattle.reader.specs.Grammar.{name_of, after}
use Rattle.reader.specs.PrivateWalk.{Lexes}
use Rattle.reader.proofs.Derivation.{Derives, DerivesAll}

-- the place of a token; of the end and of a refusal, the source's length l
abbrev pub place : ℕ → Answer → ℕ
place l (ok end) = l
place l (refused n p) = l
place l (ok (is t)) = t.start

-- the record of an integer of one byte is long, but another byte stands between it and the next: it owes one
abbrev owed : Kind → ℕ
owed lparen = 0
owed rparen = 0
owed at_sign = 0
owed symbol = 0
owed (int z) = 1

-- twice the bytes that may have been needed before a token: 14 for each byte before it, and 15 for each up to its end that is not owed
abbrev pub weigh : ℕ → Answer → ℕ
weigh l (ok end) = 29 * l + 15
weigh l (refused n p) = 29 * l + 15
weigh l (ok (is t)) = 14 * t.start + 15 * (past t - owed t.kind)

owed_one : (k : Kind) → owed k ≤ 1
owed_one lparen = omega arith
owed_one rparen = omega arith
owed_one at_sign = omega arith
owed_one symbol = omega arith
owed_one (int z) = omega arith

-- two integers in a row stand apart
owed_two : (k k' : Kind) (a b : ℕ) → ((y z : ℤ) → k ≡ int y → k' ≡ int z → a + 2 ≤ b) → a + 1 ≤ b → a + owed k + owed k' ≤ b
owed_two lparen k' a b h g = omega (arith, owed_one k')
owed_two rparen k' a b h g = omega (arith, owed_one k')
owed_two at_sign k' a b h g = omega (arith, owed_one k')
owed_two symbol k' a b h g = omega (arith, owed_one k')
owed_two (int y) lparen a b h g = omega arith
owed_two (int y) rparen a b h g = omega arith
owed_two (int y) at_sign a b h g = omega arith
owed_two (int y) symbol a b h g = omega arith
owed_two (int y) (int z) a b h g = omega (arith, h y z refl refl)

-- what a token of the lexer's says of the token after it
pub record Onward (s : List ℕ) (t : Token) (a : Answer) : Type 0 where
  pub some : 1 ≤ t.size
  pub to : past t ≤ place (length s) a
  pub top : place (length s) a ≤ length s
  pub small : length s ≤ source_limit
  pub weighs : 14 * past t + 15 * (past t + owed t.kind) ≤ weigh (length s) a

pub next_of : (s : List ℕ) (t : Token) → Lexes s (after s t)
next_of s t = record { place = past t; gives = refl }

pub after_lies : (s : List ℕ) (t : Token) → Lexes s (ok (is t)) → Onward s t (after s t)
after_lies s t h = by (after s t) refl
  where
    lies : Lies s h.place t
    lies = within s h.place t h.gives

    short : length s ≤ source_limit
    short = limited s h.place t h.gives

    by : (a : Answer) → after s t ≡ a → Onward s t a
    by (ok end) e =
        record { some = lies.some; to = lies.to; top = omega arith; small = short; weighs = omega (arith, lies.to, owed_one t.kind) }
    by (refused n p) e =
        record { some = lies.some; to = lies.to; top = omega arith; small = short; weighs = omega (arith, lies.to, owed_one t.kind) }
    by (ok (is u)) e =
        let w : Lies s (past t) u = within s (past t) u e in
        let two = owed_two t.kind u.kind (past t) (past u) (λ y z f g. apart s h.place t u y z h.gives e f g) (omega (arith, w.from, w.some)) in
        record {
          some = lies.some;
          to = w.from;
          top = omega (arith, w.to);
          small = short;
          weighs = omega (arith, w.from, two);
        }

-- the place past a token, a token's place, and its weight are at most the source's
pub past_top : (s : List ℕ) (t : Token) → Lexes s (ok (is t)) → past t ≤ length s
past_top s t h = (within s h.place t h.gives).to

pub place_top : (s : List ℕ) (a : Answer) → Lexes s a → place (length s) a ≤ length s
place_top s (ok end) h = omega arith
place_top s (refused n p) h = omega arith
place_top s (ok (is t)) h = omega (arith, past_top s t h)

pub weigh_top : (s : List ℕ) (a : Answer) → Lexes s a → weigh (length s) a ≤ 29 * length s + 15
weigh_top s (ok end) h = omega arith
weigh_top s (refused n p) h = omega arith
weigh_top s (ok (is t)) h = omega (arith, past_top s t h)

-- ---- the sizes of records

pub name_length : (s : List ℕ) (t : Token) → past t ≤ length s → length (name_of s t) ≡ t.size
name_length s t h = length-take-le t.size (drop t.start s) (rw (length-drop t.start s) (omega arith))

-- ---- the bounds: from the token a up to the token b, with the bytes n

pub record Spans (s : List ℕ) (a b : Answer) (n : ℕ) : Type 0 where
  pub lexes : Lexes s b
  pub on : place (length s) a < place (length s) b
  pub top : place (length s) b ≤ length s
  pub small : length s ≤ source_limit
  pub size : 2 * n + weigh (length s) a ≤ weigh (length s) b

-- the same of trees in a row, at most as many as bytes
pub record SpansAll (s : List ℕ) (a b : Answer) (k n : ℕ) : Type 0 where
  pub lexes : Lexes s b
  pub on : k + place (length s) a ≤ place (length s) b
  pub size : 2 * n + weigh (length s) a ≤ weigh (length s) b

symbol_spans : (s : List ℕ) (t : Token) → Lexes s (ok (is t)) → Spans s (ok (is t)) (after s t) (length (records (symbol_tree (name_of s t))))
unfolding records
symbol_spans s t h =
    let o = after_lies s t h in
    let n : length (record_of symbol_kind (name_of s t)) ≡ t.size + head_len = length_record symbol_kind (name_of s t) ∙ ap (λ (k : ℕ). k + head_len) (name_length s t (omega (arith, o.to, o.top))) in
    record {
      lexes = next_of s t;
      on = omega (arith, o.some, o.to);
      top = o.top;
      small = o.small;
      size = omega (arith, o.weighs, o.some);
    }

integer_spans : (s : List ℕ) (t : Token) (z : ℤ) → t.kind ≡ int z → Lexes s (ok (is t)) → Spans s (ok (is t)) (after s t) (length (records (integer z)))
unfolding records
integer_spans s t z k h =
    let o = after_lies s t h in
    let one : owed t.kind ≡ 1 = ap owed k in
    let n : length (record_of integer_kind (wide_bytes z)) ≡ integer_len = length_record integer_kind (wide_bytes z) ∙ ap (λ (k : ℕ). k + head_len) (wide_length z) in
    record {
      lexes = next_of s t;
      on = omega (arith, o.some, o.to);
      top = o.top;
      small = o.small;
      size = omega (arith, o.weighs, o.some);
    }

-- a name, and the token behind it
pub name_spans : (s : List ℕ) (t u : Token) → Lexes s (ok (is t)) → after s t ≡ ok (is u)
    → Spans s (ok (is t)) (after s u) (length (record_of binding_kind (name_of s t)))
name_spans s t u h e =
    let o : Onward s t (ok (is u)) = subst (Onward s t) e (after_lies s t h) in
    let w = after_lies s u (subst (Lexes s) e (next_of s t)) in
    let m : length (record_of binding_kind (name_of s t)) ≡ t.size + head_len =
    length_record binding_kind (name_of s t) ∙ ap (λ (k : ℕ). k + head_len) (name_length s t (omega (arith, o.to, o.top))) in
    record {
      lexes = next_of s u;
      on = omega (arith, o.some, o.to, w.some, w.to);
      top = w.top;
      small = o.small;
      size = omega (arith, o.weighs, o.some, w.weighs, w.some);
    }

binding_spans : (s : List ℕ) (t u : Token) (x : Tree) (b : Answer) → Lexes s (ok (is t)) → after s t ≡ ok (is u)
    → Spans s (after s u) b (length (records x)) → Spans s (ok (is t)) b (length (records (binding (name_of s t) x)))
unfolding records
binding_spans s t u x b h e w =
    let n = name_spans s t u h e in
    let l = length-append (record_of binding_kind (name_of s t)) (records x) in
    record { lexes = w.lexes; on = omega (arith, n.on, w.on); top = w.top; small = w.small; size = omega (arith, n.size, w.size) }

list_spans : (s : List ℕ) (t u : Token) (xs : Trees) → Lexes s (ok (is t)) → SpansAll s (after s t) (ok (is u)) (count xs) (length (records_of xs))
    → Spans s (ok (is t)) (after s u) (length (records (list xs)))
list_spans s t u xs h w =
    let o = after_lies s t h in
    let q = after_lies s u w.lexes in
    record {
      lexes = next_of s u;
      on = omega (arith, o.some, o.to, q.some, q.to, w.on);
      top = q.top;
      small = o.small;
      size = omega (arith, o.weighs, o.some, q.weighs, q.some, w.size, list_records xs);
    }

mutual
  unfolding Derives records

  pub spans : (x : Tree) (s : List ℕ) (d : ℕ) (a b : Answer) → Lexes s a → Derives x s d a b → Spans s a b (length (records x))
  spans (symbol_tree n) s d a b h w =
      let t = w.0 in
      subst⁻¹ (λ (c : Answer). Spans s c b (length (records (symbol_tree n)))) w.1
      (subst⁻¹ (λ (c : Answer). Spans s (ok (is t)) c (length (records (symbol_tree n)))) w.4
      (subst⁻¹ (λ (m : List ℕ). Spans s (ok (is t)) (after s t) (length (records (symbol_tree m)))) w.3 (symbol_spans s t (subst (Lexes s) w.1 h))))
  spans (integer z) s d a b h w =
      let t = w.0 in
      subst⁻¹ (λ (c : Answer). Spans s c b (length (records (integer z)))) w.1
      (subst⁻¹ (λ (c : Answer). Spans s (ok (is t)) c (length (records (integer z)))) w.3 (integer_spans s t z w.2 (subst (Lexes s) w.1 h)))
  spans (binding n x) s d a b h w =
      let t = w.0 in
      let u = w.1 in
      subst⁻¹ (λ (c : Answer). Spans s c b (length (records (binding n x)))) w.2
      (subst⁻¹ (λ (m : List ℕ). Spans s (ok (is t)) b (length (records (binding m x)))) w.4
      (binding_spans s t u x b (subst (Lexes s) w.2 h) w.5 (spans x s (d - 1) (after s u) b (next_of s u) w.8)))
  spans (list xs) s d a b h w =
      let t = w.0 in
      let u = w.1 in
      subst⁻¹ (λ (c : Answer). Spans s c b (length (records (list xs)))) w.2
      (subst⁻¹ (λ (c : Answer). Spans s (ok (is t)) c (length (records (list xs)))) w.7
      (list_spans s t u xs (subst (Lexes s) w.2 h) (spans_all xs s (d - 1) (after s t) (ok (is u)) (next_of s t) w.5)))

  pub spans_all : (xs : Trees) (s : List ℕ) (d : ℕ) (a b : Answer) → Lexes s a → DerivesAll xs s d a b → SpansAll s a b (count xs) (length (records_of xs))
  spans_all none s d a b h w =
      subst (λ (c : Answer). SpansAll s a c 0 0) w (record { lexes = h; on = omega arith; size = omega arith })
  spans_all (more x xs) s d a b h w =
      let f = spans x s d a w.0 h w.1 in
      let r = spans_all xs s d w.0 b f.lexes w.2 in
      let n : length (records x ++ records_of xs) ≡ length (records x) + length (records_of xs) = length-append (records x) (records_of xs) in
      record { lexes = r.lexes; on = omega (arith, f.on, r.on); size = omega (arith, f.size, r.size) }
