-- What a literal's number becomes, with a minus and without, and 2^127 by limbs. Assumes nothing.
use Rattle.std.proofs.Common.{◌≡◌, ℕ, ◌+◌, ◌-◌, ◌*◌, ◌/◌, ◌%◌, ◌^◌, ◌<◌, Bool, true, false, cond, ◌&&◌, eqb, ℤ, sym, ap, ap₂, ◌∙◌, to_z, eq-eqb, ne_eqb}
use lib.Arith.{digits_div, digits_mod}
use mir.Syntax.{w128}
use Rattle.lists.proofs.Choice.{true_false}
use Rattle.wide.specs.Value.{is, none, integer_of}

pub refuses : (b : Bool) (h l : ℕ) → b ≡ true → h ≡ 2 ^ 63 → l ≡ 0 → none ≡ integer_of b (h * 2 ^ 64 + l)
unfolding integer_of
refuses b h l t p q =
    let e : h * 2 ^ 64 + l ≡ 2 ^ 127 = ap (λ (x : ℕ). x * 2 ^ 64 + l) p ∙ ap (λ (y : ℕ). 2 ^ 63 * 2 ^ 64 + y) q in
    sym (ap (λ (x : Bool). integer_of x (h * 2 ^ 64 + l)) t
    ∙ ap (λ (x : Bool). cond x none (is (to_z w128 ((2 ^ 128 - (h * 2 ^ 64 + l)) % 2 ^ 128)))) (eq-eqb (h * 2 ^ 64 + l) (2 ^ 127) e))

pub negates : (b : Bool) (n m : ℕ) (z : ℤ) → b ≡ true → (n ≡ 2 ^ 127 → ⊥) → m ≡ (2 ^ 128 - n) % 2 ^ 128 → z ≡ to_z w128 m → is z ≡ integer_of b n
unfolding integer_of
negates b n m z t d e f =
    sym (ap (λ (x : Bool). integer_of x n) t ∙ ap (λ (x : Bool). cond x none (is (to_z w128 ((2 ^ 128 - n) % 2 ^ 128)))) (ne_eqb n (2 ^ 127) d)
    ∙ ap is (sym (f ∙ ap (to_z w128) e)))

pub keeps : (b : Bool) (n : ℕ) (z : ℤ) → b ≡ false → z ≡ to_z w128 n → is z ≡ integer_of b n
unfolding integer_of
keeps b n z t f = sym (ap (λ (x : Bool). integer_of x n) t ∙ ap is (sym f))

high_of_lem : (h l : ℕ) → l < 2 ^ 64 → h * 2 ^ 64 + l ≡ 2 ^ 127 → h ≡ 2 ^ 63
high_of_lem h l k e = sym (digits_div h {m = 2 ^ 64} {r = l} k) ∙ ap (λ (x : ℕ). x / 2 ^ 64) e

low_of : (h l : ℕ) → l < 2 ^ 64 → h * 2 ^ 64 + l ≡ 2 ^ 127 → l ≡ 0
low_of h l k e = sym (digits_mod h {m = 2 ^ 64} {r = l} k) ∙ ap (λ (x : ℕ). x % 2 ^ 64) e

-- other limbs are another number
pub unlike : (h l : ℕ) → l < 2 ^ 64 → (eqb h (2 ^ 63) && eqb l 0) ≡ false → h * 2 ^ 64 + l ≡ 2 ^ 127 → ⊥
unlike h l k f e =
    true_false (sym (ap₂ ◌&&◌ (eq-eqb h (2 ^ 63) (high_of_lem h l k e)) (eq-eqb l 0 (low_of h l k e))) ∙ f)
