-- The digits of a literal at a place of the source, a law for each outcome of a turn. Assumes nothing.
use Prim.Native.Nat.{ℕ, ◌+◌, ◌*◌, ◌^◌, ◌≤◌, ◌<◌}
use mathlib.Core.Path.{◌≡◌, sym, ap}
use mathlib.Core.List.{List}
use mathlib.Core.Bool.{true, false}
use native.Mathlib.Numerals.{add-one}
use lib.Dec.{eqb, leb, ltb}
use lib.ListN.{length, get_or, drop, drop_of_length-le}
use borrow.Author.Tests.{ltb-true}
use Rattle.lists.proofs.Choice.{pick}
use Rattle.lists.proofs.Places.{from}
use Rattle.refusals.specs.Numbers.{foreign_digit, too_large}
use Rattle.classes.specs.Classes.{digit_of, literal_byte}
use Rattle.wide.specs.Value.{val, grown, split}
use Rattle.lexer.specs.Literals.{Reading, Empty, Bad, Number, grew, taken, digit, grow, reading, literal_end}

module _ (s : List ℕ) (i : ℕ) where
  pub end_past : length s ≤ i → literal_end (drop i s) i ≡ i
  unfolding literal_end
  end_past h = rw (drop_of_length-le s h)

  module _ (h : i < length s) where
    pub end_stop : literal_byte (get_or s i 0) ≡ false → literal_end (drop i s) i ≡ i
    unfolding literal_end
    end_stop e = rw (from s i h, e)

    pub end_go : literal_byte (get_or s i 0) ≡ true → literal_end (drop i s) i ≡ literal_end (drop (i + 1) s) (i + 1)
    unfolding literal_end
    end_go e = rw (from s i h, e) (ap (literal_end (drop (i + 1) s)) (sym (add-one i)))

  module _ (r : ℕ) (x : Reading) where
    pub read_past : length s ≤ i → reading r x (drop i s) i ≡ x
    unfolding reading
    read_past h = rw (drop_of_length-le s h)

  module _ (h : i < length s) (r : ℕ) (x : Reading) where
    pub read_stop : literal_byte (get_or s i 0) ≡ false → reading r x (drop i s) i ≡ x
    unfolding reading
    read_stop e = rw (from s i h, e)

    pub read_go : literal_byte (get_or s i 0) ≡ true → reading r x (drop i s) i ≡ reading r (grow r x (get_or s i 0) i) (drop (i + 1) s) (i + 1)
    unfolding reading
    read_go e = rw (from s i h, e) (ap (reading r (grow r x (get_or s i 0) i) (drop (i + 1) s)) (sym (add-one i)))

-- what holds of every number, and of the two refusals of the digit at p, holds of one byte more
module _ (P : Reading → Type 0) (p : ℕ) (number : (v : ℕ) → v < 2 ^ 128 → P (Number (split v))) (foreign : P (Bad (record { number = foreign_digit; place = p })))
    (over : P (Bad (record { number = too_large; place = p }))) where
  of_grown : (v : ℕ) → P (grew (grown v) p)
  unfolding grown
  of_grown v = pick (λ g. P (grew g p)) (ltb v (2 ^ 128)) (λ e. number v (ltb-true v (2 ^ 128) e)) (λ _. over)

  of_taken : (r n d : ℕ) → P (taken r n d p)
  unfolding taken
  of_taken r n d = pick P (leb r d) (λ _. foreign) (λ _. of_grown (n * r + d))

  pub of_grow : (r : ℕ) (x : Reading) (b : ℕ) → P x → P (grow r x b p)
  unfolding grow
  of_grow r x b h = pick P (eqb b 95) (λ _. h) (λ _. by x h)
    where
      by : (x : Reading) → P x → P (digit r x (digit_of b) p)
      by Empty h = of_taken r 0 (digit_of b)
      by (Bad q) h = h
      by (Number n) h = of_taken r (val n) (digit_of b)

-- each outcome of a turn, for the loop over digits
pub ruleset turns = (end_past, end_stop, end_go, read_past, read_stop, read_go)
