-- THEOREM `read_good`: what is read is a good table: its trees are good, it is not too long, and it is accepted as those trees.
use mathlib.Core.Path.{◌≡◌, refl, ap, sym, subst, subst⁻¹, ◌∙◌}
use mathlib.Core.Bool.{Bool, true, false, cond, ◌&&◌}
use mathlib.Core.List.{List, [], ◌∷◌}
use Prim.Native.Nat.{ℕ, suc, ◌+◌, ◌-◌, ◌^◌, ◌≤◌, ◌<◌}
use native.Mathlib.Omega.{arith}
use lib.Dec.{ltb}
use lib.IntN.{ℤ, pos, negsuc}
use lib.ListN.{length, take, drop, get_or, length-drop}
use lib.Seq.{take-nil}
use mir.Syntax.{w128}
use mir.Val.{SFits}
use borrow.Author.Tests.{ltb-false}
use Rattle.lists.proofs.Places.{next, first}
use Rattle.refusals.specs.Numbers.{source_limit, table_limit, depth_limit, too_long, past_source}
use Rattle.classes.specs.Classes.{class_of, symbol_first, symbol_other}
use Rattle.classes.specs.declared.Class.{Class}
use Rattle.classes.specs.declared.Class.TheVariants.{Other}
use Rattle.refusals.specs.Result.{Result, ok, refused, and_then}
use Rattle.lexer.specs.Tokens.{symbol, int, Token, past, Answer, end, is}
use Rattle.lexer.specs.Lexing.{symbol_end, lex_at, next_token}
use Rattle.lexer.proofs.Within.{Lies, Shaped, within, limited}
use Rattle.records.specs.Records.{head_len}
use Rattle.table.specs.Trees.{Tree, Trees, symbol as symbol_tree, integer, binding, list, none, more, runs_on, is_symbol, InRange, Good, Goods, records_of}
use Rattle.table.proofs.Whole.{complete}
use Rattle.reader.specs.Grammar.{name_of, after, One, Many, up_to, to_end, onward, read_items, read_tree, whole, file_of}
use Rattle.reader.specs.Promised.{ReadGood}
use Rattle.reader.specs.PrivateWalk.{Lexes}
use Rattle.reader.proofs.Derivation.{Derives, DerivesAll, ManyIs, items_is}
use Rattle.reader.proofs.Bounds.{spans, spans_all, next_of, past_top, place_top, name_length}
use Rattle.reader.proofs.Begins.{read_refused}
use Rattle.reader.proofs.WholeFiles.{file_by}

-- ---- a symbol's bytes

symbol_from : (l : List ℕ) (i : ℕ) → i ≤ symbol_end l i
unfolding symbol_end
symbol_from [] i = omega arith
symbol_from (b ∷ l) i = by (symbol_other (class_of b)) (symbol_from l (suc i))
  where
    by : (t : Bool) → suc i ≤ symbol_end l (suc i) → i ≤ cond t (symbol_end l (suc i)) i
    by true h = omega arith
    by false h = omega arith

runs : (l : List ℕ) (i : ℕ) → runs_on (take (symbol_end l i - i) l) ≡ true
unfolding symbol_end runs_on
runs [] i = ap runs_on (take-nil (i - i))
runs (b ∷ l) i = by (symbol_other (class_of b)) refl (symbol_from l (suc i)) (runs l (suc i))
  where
    by : (t : Bool) → symbol_other (class_of b) ≡ t → suc i ≤ symbol_end l (suc i) → runs_on (take (symbol_end l (suc i) - suc i) l) ≡ true
        → runs_on (take (cond t (symbol_end l (suc i)) i - i) (b ∷ l)) ≡ true
    by true e h r =
        let k : symbol_end l (suc i) - i ≡ suc (symbol_end l (suc i) - suc i) = omega arith in
        ap (λ (n : ℕ). runs_on (take n (b ∷ l))) k ∙ ap (λ (t : Bool). t && runs_on (take (symbol_end l (suc i) - suc i) l)) e ∙ r
    by false e h r = let k : i - i ≡ 0 = omega arith in ap (λ (n : ℕ). runs_on (take n (b ∷ l))) k

symbol_good : (s : List ℕ) (t : Token) → Lexes s (ok (is t)) → t.kind ≡ symbol → is_symbol (name_of s t) ≡ true
unfolding is_symbol
symbol_good s t h k = by (drop t.start s) refl
  where
    lies : Lies s h.place t
    lies = within s h.place t h.gives

    shaped : (class_of (get_or s t.start 0) ≡ Other) × (past t ≡ symbol_end (drop (suc t.start) s) (suc t.start))
    shaped = subst (Shaped s t.start t.size) k lies.shaped

    by : (l : List ℕ) → drop t.start s ≡ l → is_symbol (take t.size l) ≡ true
    by [] e = let z : length s - t.start ≡ 0 = sym (length-drop t.start s) ∙ ap length e in absurd (omega (arith, lies.some, lies.to))
    by (b ∷ l) e =
        let f : class_of b ≡ Other = ap (λ (r : List ℕ). class_of (get_or r 0 0)) (sym e) ∙ ap class_of (first s t.start) ∙ shaped.0 in
        let g : past t ≡ symbol_end l (suc t.start) = shaped.1 ∙ ap (λ (r : List ℕ). symbol_end r (suc t.start)) (next s t.start b l e) in
        let n : t.size ≡ suc (symbol_end l (suc t.start) - suc t.start) = omega (arith, lies.some) in
        ap (λ (m : ℕ). is_symbol (take m (b ∷ l))) n
        ∙ ap (λ (c : Class). symbol_first c && runs_on (take (symbol_end l (suc t.start) - suc t.start) l)) f ∙ runs l (suc t.start)

-- ---- trees

in_range : (z : ℤ) → SFits w128 z → InRange z
in_range (pos n) f = f.sfits
in_range (negsuc n) f = f.sfits

integer_good : (s : List ℕ) (t : Token) (z : ℤ) → Lexes s (ok (is t)) → t.kind ≡ int z → InRange z
integer_good s t z h k = in_range z (subst (Shaped s t.start t.size) k (within s h.place t h.gives).shaped).0

name_small : (s : List ℕ) (t : Token) → Lexes s (ok (is t)) → length (name_of s t) + head_len < 2 ^ 32
name_small s t h =
    let p = past_top s t h in
    let n = name_length s t p in
    let l = limited s h.place t h.gives in
    omega arith

mutual
  unfolding Derives Good

  good : (x : Tree) (s : List ℕ) (d : ℕ) (a b : Answer) → Lexes s a → Derives x s d a b → Good x d
  good (symbol_tree n) s d a b h w =
      let l = subst (Lexes s) w.1 h in
      (ap is_symbol w.3 ∙ symbol_good s w.0 l w.2, subst⁻¹ (λ (m : List ℕ). length m + head_len < 2 ^ 32) w.3 (name_small s w.0 l))
  good (integer z) s d a b h w = integer_good s w.0 z (subst (Lexes s) w.1 h) w.2
  good (binding n x) s d a b h w =
      let l = subst (Lexes s) w.2 h in (
        w.7,
        ap is_symbol w.4 ∙ symbol_good s w.0 l w.3,
        subst⁻¹ (λ (m : List ℕ). length m + head_len < 2 ^ 32) w.4 (name_small s w.0 l),
        good x s (d - 1) (after s w.1) b (next_of s w.1) w.8,
      )
  good (list xs) s d a b h w =
      let q = spans_all xs s (d - 1) (after s w.0) (ok (is w.1)) (next_of s w.0) w.5 in
      let r = q.lexes in
      let m = limited s r.place w.1 r.gives in
      let p = place_top s (ok (is w.1)) r in
      (w.4, omega (arith, q.on), goods xs s (d - 1) (after s w.0) (ok (is w.1)) (next_of s w.0) w.5)

  goods : (xs : Trees) (s : List ℕ) (d : ℕ) (a b : Answer) → Lexes s a → DerivesAll xs s d a b → Goods xs d
  goods none s d a b h w = tt
  goods (more x xs) s d a b h w =
      let q = spans x s d a w.0 h w.1 in
      (good x s d a w.0 h w.1, goods xs s d w.0 b q.lexes w.2)

-- ---- a whole source

pub first_of : (s : List ℕ) → Lexes s (next_token s 0)
first_of s = record { place = 0; gives = refl }

-- the trees of a file are all its items
file_items : (s : List ℕ) (xs : Trees) → file_of s ≡ ok xs → read_items (read_tree s depth_limit) (suc (length s)) (next_token s 0) ≡ ok (to_end xs)
unfolding file_of
file_items s xs e = by (read_items (read_tree s depth_limit) (suc (length s)) (next_token s 0)) e
  where
    by : (y : Result Many) → and_then y whole ≡ ok xs → y ≡ ok (to_end xs)
    by (ok (up_to ys t)) e = let z : ◌≡◌ {A = ℕ} 0 1 = cc in absurd (omega arith)
    by (ok (to_end ys)) e = let f : ys ≡ xs = cc in ap (λ (x : Trees). ok (to_end x)) f
    by (refused n p) e = let z : ◌≡◌ {A = ℕ} 0 1 = cc in absurd (omega arith)

pub file_derived : (s : List ℕ) (xs : Trees) → file_of s ≡ ok xs → DerivesAll xs s depth_limit (next_token s 0) (ok end)
file_derived s xs e =
    subst (λ (y : Result Many). ManyIs s depth_limit (next_token s 0) y) (file_items s xs e) (items_is s depth_limit (suc (length s)) (next_token s 0))

-- a source that is read is not too long
file_short : (s : List ℕ) (xs : Trees) → file_of s ≡ ok xs → length s ≤ source_limit
unfolding read_items next_token
file_short s xs e = by (ltb source_limit (length s)) refl
  where
    by : (b : Bool) → ltb source_limit (length s) ≡ b → length s ≤ source_limit
    by false f = ltb-false source_limit (length s) f
    by true f =
        let a : next_token s 0 ≡ refused too_long source_limit =
        ap (λ (b : Bool). cond b (refused too_long source_limit) (cond (ltb (length s) 0) (refused past_source (length s)) (lex_at s 0))) f in
        let r : read_tree s depth_limit (next_token s 0) ≡ refused too_long source_limit = ap (read_tree s depth_limit) a ∙ read_refused s depth_limit too_long source_limit in
        let i : read_items (read_tree s depth_limit) (suc (length s)) (next_token s 0) ≡ refused too_long source_limit =
        ap (λ (x : Result One). and_then x (onward (read_items (read_tree s depth_limit) (length s)))) r in
        let g : refused too_long source_limit ≡ ok xs = sym (file_by s (refused too_long source_limit) i) ∙ e in
        let z : ◌≡◌ {A = ℕ} 0 1 = cc in absurd (omega arith)

pub read_good : ReadGood
read_good s xs e =
    let w = file_derived s xs e in
    let q = spans_all xs s depth_limit (next_token s 0) (ok end) (first_of s) w in
    let l = file_short s xs e in
    let g = goods xs s depth_limit (next_token s 0) (ok end) (first_of s) w in
    let n : length (records_of xs) ≤ table_limit = omega (arith, q.size) in
    record { trees = g; small = n; accepted = complete xs g n }
