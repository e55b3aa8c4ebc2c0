-- The text of a list by its items, on a single line and wrapped alike: what stands before each item, the item, and the end. Assumes nothing.
use mathlib.Core.Path.{◌≡◌, refl, ap, ◌∙◌}
use mathlib.Core.Bool.{Bool, true, false, cond}
use mathlib.Core.List.{List, [], ◌∷◌, ◌++◌}
use Rattle.std.specs.Prelude.{Option}
use Rattle.std.specs.Bool.{then_some}
use Rattle.std.specs.Option.{option_to_list}
use lib.Dec.{eqb, ltb}
use borrow.Author.Tests.{lt-ltb, ne_eqb}
use Rattle.lists.specs.Rooms.{Puts}
use Prim.Native.Nat.{ℕ, zero, suc, ◌+◌, ◌*◌, ◌-◌, ◌<◌}
use native.Mathlib.Omega.{arith}
use native.Mathlib.Nat.{add-mul}
use lib.IntN.{ℤ}
use lib.ListN.{length, length-append}
use Rattle.wide.specs.Text.{integer_text}
use Rattle.table.specs.Trees.{Tree, Trees, symbol, integer, binding, list, none, more, count, cost, costs}
use Rattle.table.specs.Walking.{empties, empties_of}
use Rattle.printer.specs.Layout.{Wrap, SingleLine, bytes, column, named, nl, gap, inner, fits, lay, items}
use Rattle.printer.specs.PrivateWriting.{line, lines, closing, laid}

pub record Manner : Type 0 where
  pub before : Bool → List ℕ
  pub item : Bool → Tree → List ℕ
  pub end : Bool → List ℕ

-- the items from the first or from a later one, and the end
unfoldable pub rest : Manner → Trees → Bool → List ℕ
rest m none first = m.end first
rest m (more x xs) first = m.before first ++ (m.item first x ++ rest m xs false)

pub rest_more : (m : Manner) (x : Tree) (xs : Trees) (first : Bool) → rest m (more x xs) first ≡ m.before first ++ (m.item first x ++ rest m xs false)
unfolding rest
rest_more m x xs first = refl

pub rest_none : (m : Manner) (first : Bool) → rest m none first ≡ m.end first
unfolding rest
rest_none m first = refl

-- the bytes of the items alone
unfoldable pub sizes : Manner → Trees → Bool → ℕ
sizes m none first = 0
sizes m (more x xs) first = length (m.item first x) + sizes m xs false

later_size : (m : Manner) (xs : Trees) → length (rest m xs false) ≡ sizes m xs false + count xs * length (m.before false) + length (m.end false)
unfolding rest sizes
later_size m none = omega arith
later_size m (more x xs) =
    let a = length-append (m.before false) (m.item false x ++ rest m xs false) in
    let b = length-append (m.item false x) (rest m xs false) in
    let e : (count xs + 1) * length (m.before false) ≡ count xs * length (m.before false) + 1 * length (m.before false) = add-mul (count xs) 1 (length (m.before false)) in
    omega (arith, later_size m xs)

rest_size : (m : Manner) (xs : Trees) → length (m.before true) ≡ 0 → 0 < count xs
    → length (rest m xs true) ≡ sizes m xs true + (count xs - 1) * length (m.before false) + length (m.end false)
unfolding rest sizes
rest_size m none z h = absurd (omega arith)
rest_size m (more x xs) z h =
    let a = length-append (m.before true) (m.item true x ++ rest m xs false) in
    let b = length-append (m.item true x) (rest m xs false) in
    let e : count (more x xs) - 1 ≡ count xs = omega arith in
    rw e (omega (arith, later_size m xs))

-- ---- on a single line

abbrev pub flatly : Manner
flatly = record { before = λ first. cond first [] (32 ∷ []); item = λ first x. line x; end = λ first. 41 ∷ [] }

-- the space that the code puts before the i-th item
pub space_put : (i n : ℕ) (f : Option ℕ) (b b' : List ℕ) → f ≡ then_some (ltb 0 i) 32 → Puts (option_to_list f) n b b' → Puts (flatly.before (eqb i 0)) n b b'
space_put zero n f b b' e h = rw e at h
space_put (suc i) n f b b' e h = rw (ne_eqb (suc i) 0 (λ z. omega arith)) (rw (e, lt-ltb 0 (suc i) (omega arith)) at h)

lines_rest : (xs : Trees) (first : Bool) → lines xs first ≡ rest flatly xs first
unfolding line rest
lines_rest none first = refl
lines_rest (more x xs) first = ap (λ (r : List ℕ). cond first [] (32 ∷ []) ++ (line x ++ r)) (lines_rest xs false)

pub line_list : (xs : Trees) → line (list xs) ≡ 40 ∷ rest flatly xs true
unfolding line
line_list xs = ap (λ (r : List ℕ). 40 ∷ r) (lines_rest xs true)

pub line_symbol : (n : List ℕ) → line (symbol n) ≡ n
unfolding line
line_symbol n = refl

pub line_integer : (z : ℤ) → line (integer z) ≡ integer_text z
unfolding line
line_integer z = refl

pub line_binding : (n : List ℕ) (x : Tree) → line (binding n x) ≡ named n ++ line x
unfolding line
line_binding n x = refl

-- a tree on a single line takes what it costs, and a byte more for each empty list
mutual
  unfolding line cost empties

  pub line_size : (x : Tree) → length (line x) ≡ cost x + empties x
  line_size (symbol n) = omega arith
  line_size (integer z) = omega arith
  line_size (binding n x) = omega (arith, length-append (named n) (line x), length-append n (32 ∷ 64 ∷ 32 ∷ []), line_size x)
  line_size (list xs) = first_size xs

  first_size : (xs : Trees) → length (line (list xs)) ≡ cost (list xs) + empties (list xs)
  first_size none = refl
  first_size (more x xs) = omega (arith, length-append (line x) (lines xs false), line_size x, lines_size xs)

  lines_size : (xs : Trees) → length (lines xs false) ≡ count xs + 1 + costs xs + empties_of xs
  lines_size none = refl
  lines_size (more x xs) = omega (arith, length-append (line x) (lines xs false), line_size x, lines_size xs)

mutual
  unfolding lay line

  pub line_is : (x : Tree) (w i c : ℕ) → bytes (lay x SingleLine w i c) ≡ line x
  line_is (symbol n) w i c = refl
  line_is (integer z) w i c = refl
  line_is (binding n x) w i c = ap (λ (r : List ℕ). named n ++ r) (line_is x w i (c + length (named n)))
  line_is (list xs) w i c = ap (λ (r : List ℕ). 40 ∷ r) (lines_are xs true w i (c + 1))

  lines_are : (xs : Trees) (first : Bool) (w i c : ℕ) → bytes (items xs first SingleLine w i c) ≡ lines xs first
  lines_are none true w i c = refl
  lines_are none false w i c = refl
  lines_are (more x xs) true w i c =
      let d : ℕ = column (lay x SingleLine w i c) in
      rw (line_is x w i c, lines_are xs false w i d) refl
  lines_are (more x xs) false w i c =
      let d : ℕ = column (lay x SingleLine w i (c + 1)) in
      rw (line_is x w i (c + 1), lines_are xs false w i d) refl

-- ---- wrapped; c is the column behind the parenthesis

abbrev pub broken : ℕ → ℕ → ℕ → Manner
broken w i c = record {
  before = λ first. bytes (gap first Wrap i 0);
  item = λ first x. laid w (inner first Wrap i) (column (gap first Wrap i c)) x;
  end = λ first. closing first i;
}

-- behind the first item a line break follows, and the column before it decides nothing
later_same : (xs : Trees) (w i c k : ℕ) → items xs false Wrap w i c ≡ items xs false Wrap w i k
unfolding lay
later_same none w i c k = refl
later_same (more x xs) w i c k = refl

items_rest : (xs : Trees) (first : Bool) (w i c : ℕ) → bytes (items xs first Wrap w i c) ≡ rest (broken w i c) xs first
unfolding lay rest
items_rest none true w i c = refl
items_rest none false w i c = refl
items_rest (more x xs) true w i c =
    let k : ℕ = column (lay x Wrap w i c) in
    ap (λ (r : List ℕ). laid w i c x ++ r) (ap bytes (later_same xs w i k c) ∙ items_rest xs false w i c)
items_rest (more x xs) false w i c =
    let j : ℕ = column (nl (i + 1)) in
    let k : ℕ = column (lay x Wrap w (i + 1) j) in
    ap (λ (r : List ℕ). bytes (nl (i + 1)) ++ (laid w (i + 1) j x ++ r)) (ap bytes (later_same xs w i k c) ∙ items_rest xs false w i c)

pub laid_symbol : (n : List ℕ) (w i c : ℕ) → laid w i c (symbol n) ≡ n
unfolding lay
laid_symbol n w i c = refl

pub laid_integer : (z : ℤ) (w i c : ℕ) → laid w i c (integer z) ≡ integer_text z
unfolding lay
laid_integer z w i c = refl

pub laid_binding : (n : List ℕ) (x : Tree) (w i c k : ℕ) → k ≡ length (named n) → laid w i c (binding n x) ≡ named n ++ laid w i (c + k) x
unfolding lay
laid_binding n x w i c k e = rw e refl

pub laid_fits : (xs : Trees) (w i c : ℕ) → fits w c (list xs) ≡ true → laid w i c (list xs) ≡ line (list xs)
unfolding lay
laid_fits xs w i c e = rw e (line_is (list xs) w i c)

pub laid_list : (xs : Trees) (w i c : ℕ) → fits w c (list xs) ≡ false → laid w i c (list xs) ≡ 40 ∷ rest (broken w i (c + 1)) xs true
unfolding lay
laid_list xs w i c e = rw e (ap (λ (r : List ℕ). 40 ∷ r) (items_rest xs true w i (c + 1)))

-- each later item stands behind a line break, and so does the closing parenthesis
pub laid_size : (xs : Trees) (w i c : ℕ) → 0 < count xs → fits w c (list xs) ≡ false
    → length (laid w i c (list xs)) ≡ sizes (broken w i (c + 1)) xs true + (count xs - 1) * length (bytes (nl (i + 1))) + (length (bytes (nl i)) + 2)
laid_size xs w i c h e =
    let a = length-append (bytes (nl i)) (41 ∷ []) in
    ap length (laid_list xs w i c e) ∙ omega (arith, rest_size (broken w i (c + 1)) xs refl h)
