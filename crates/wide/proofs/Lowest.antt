-- -2^127 by its two limbs, and no others. Assumes nothing.
use Rattle.std.proofs.Common.{◌≡◌, ◌-◌, ◌^◌, ◌<◌, Bool, true, false, ◌&&◌, eqb, ℤ, pos, negsuc, sym, refl, ap, ◌∙◌, eq-eqb, eqb-true}
use Rattle.std.specs.Ordering.{int_eq}
use Rattle.std.proofs.lemmas.Bool.Decides.{Decides-int_eq}
use Rattle.lists.proofs.Choice.{and_left, and_right, true_false}
use Rattle.wide.specs.Value.{Wide, value, value_of}
use Rattle.wide.specs.Text.{lowest_integer, is_lowest}
use Rattle.wide.proofs.Values.{value_high, value_low}

pub lowest_is : (z : ℤ) → is_lowest z ≡ true → z ≡ lowest_integer
unfolding is_lowest
lowest_is (pos n) e = absurd (true_false (sym e))
lowest_is (negsuc n) e = ap negsuc (eqb-true n (2 ^ 127 - 1) e)

is_lowest_lem : is_lowest lowest_integer ≡ true
unfolding is_lowest
is_lowest_lem = refl

both : (a b : Bool) → (b ≡ true → a ≡ true) → (a ≡ true → b ≡ true) → a ≡ b
both true true f g = refl
both true false f g = sym (g refl)
both false true f g = f refl
both false false f g = refl

pub limbs_lowest : (w x : Wide) → value x ≡ lowest_integer → w.lo < 2 ^ 64 → x.lo < 2 ^ 64 → (int_eq w.hi x.hi && eqb w.lo x.lo) ≡ is_lowest (value w)
limbs_lowest w x e fw fx = both (int_eq w.hi x.hi && eqb w.lo x.lo) (is_lowest (value w)) down up
  where
    down : is_lowest (value w) ≡ true → (int_eq w.hi x.hi && eqb w.lo x.lo) ≡ true
    down k =
        let v : value w ≡ value x = lowest_is (value w) k ∙ sym e in
        rw ((Decides-int_eq w.hi x.hi).1 (value_high w.hi x.hi w.lo x.lo fw fx v)) (eq-eqb w.lo x.lo (value_low w.hi x.hi w.lo x.lo fw fx v))

    up : (int_eq w.hi x.hi && eqb w.lo x.lo) ≡ true → is_lowest (value w) ≡ true
    up k =
        let a : w.hi ≡ x.hi = (Decides-int_eq w.hi x.hi).0 (and_left (int_eq w.hi x.hi) (eqb w.lo x.lo) k) in
        let b : w.lo ≡ x.lo = eqb-true w.lo x.lo (and_right (int_eq w.hi x.hi) (eqb w.lo x.lo) k) in
        ap is_lowest (ap (λ (z : ℤ). value_of z w.lo) a ∙ ap (value_of x.hi) b ∙ e) ∙ is_lowest_lem
