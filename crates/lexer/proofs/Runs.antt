-- Where runs of bytes end, in the lexer's own definitions: line comments and symbols. Assumes nothing.
use Prim.Native.Nat.{ℕ, suc, ◌+◌, ◌≤◌}
use mathlib.Core.Path.{◌≡◌, refl, sym, ap, ◌∙◌}
use mathlib.Core.List.{List, [], ◌∷◌}
use mathlib.Core.Bool.{Bool, true, false, not}
use native.Mathlib.Nat.{add-zero, add-suc, suc-add}
use lib.Dec.{leb}
use lib.ListN.{drop}
use borrow.Author.Tests.{leb-true, leb-false}
use native.Mathlib.Omega.{arith}
use Rattle.std.specs.Prelude.{max}
use lib.Seq.{drop-drop}
use Rattle.classes.specs.Classes.{class_of, blank, line_end, symbol_other}
use Rattle.classes.specs.Runs.{leading, line_run, symbol_run}
use Rattle.classes.specs.declared.Class.{Class}
use Rattle.classes.specs.declared.Class.TheVariants.{Space, LineEnd, Semicolon, LParen, RParen, AtSign, FormFeed, Minus, Digit, Other}
use Rattle.lexer.specs.Lexing.{Between, InLine, skip, symbol_end}
use Rattle.lexer.specs.Gaps.{before, skip_in, skip_at}

abbrev in_line : ℕ → Bool
in_line b = not (line_end (class_of b))

abbrev goes_on : ℕ → Bool
goes_on b = symbol_other (class_of b)

-- a line end is a blank
line_blank : (c : Class) → line_end c ≡ true → blank c ≡ true
line_blank Space e = refl
line_blank LineEnd e = refl
line_blank Semicolon e = e
line_blank LParen e = e
line_blank RParen e = e
line_blank AtSign e = e
line_blank FormFeed e = e
line_blank Minus e = e
line_blank Digit e = e
line_blank Other e = e

-- a line comment is passed with the bytes of its line
line_in : (s : List ℕ) (i : ℕ) → skip_in 0 InLine s i ≡ skip_in 0 Between (drop (leading in_line s) s) (i + leading in_line s)
unfolding skip_in leading skip
line_in [] i = ap (before []) (sym (add-zero i))
line_in (b ∷ s) i = by (line_end (class_of b)) refl (line_in s (suc i))
  where
    by : (t : Bool) → line_end (class_of b) ≡ t → skip_in 0 InLine s (suc i) ≡ skip_in 0 Between (drop (leading in_line s) s) (suc i + leading in_line s)
        → skip_in 0 InLine (b ∷ s) i ≡ skip_in 0 Between (drop (leading in_line (b ∷ s)) (b ∷ s)) (i + leading in_line (b ∷ s))
    by true e on = rw (e, add-zero i, line_blank (class_of b) e) refl
    by false e on = rw (e, add-suc i (leading in_line s), ← suc-add i (leading in_line s)) on

pub line_run_lem : (s : List ℕ) (at : ℕ) → skip_at s (line_run s at) ≡ skip_in 0 InLine (drop at s) at
line_run_lem s at = ap (λ (l : List ℕ). skip_in 0 Between l (line_run s at)) (sym (drop-drop (leading in_line (drop at s)) at s)) ∙ sym (line_in (drop at s) at)

symbol_in : (s : List ℕ) (i : ℕ) → i + leading goes_on s ≡ symbol_end s i
unfolding symbol_end leading
symbol_in [] i = add-zero i
symbol_in (b ∷ s) i = by (symbol_other (class_of b)) refl (symbol_in s (suc i))
  where
    by : (t : Bool) → symbol_other (class_of b) ≡ t → suc i + leading goes_on s ≡ symbol_end s (suc i) → i + leading goes_on (b ∷ s) ≡ symbol_end (b ∷ s) i
    by true e on = rw (e, add-suc i (leading goes_on s), ← suc-add i (leading goes_on s)) on
    by false e on = rw e (add-zero i)

pub symbol_run_lem : (s : List ℕ) (at : ℕ) → symbol_run s at ≡ symbol_end (drop at s) at
symbol_run_lem s at = symbol_in (drop at s) at

-- a loop from a place to the end of a list stops there, or at the place where that is past it
pub max_end : (f : ℕ → ℕ) (n at i : ℕ) → ((k : ℕ) → n ≤ k → f k ≡ k) → n ≤ i → (at ≤ n → i ≤ n) → f i ≡ f at → max at n ≡ f at
max_end f n at i past h k e = by (leb at n) refl
  where
    by : (t : Bool) → leb at n ≡ t → max at n ≡ f at
    by true g = let l = leb-true at n g in let m : max at n ≡ i = omega (arith, k l) in m ∙ sym (past i h) ∙ e
    by false g = let l = leb-false at n g in let m : max at n ≡ at = omega arith in m ∙ sym (past at (omega arith))
