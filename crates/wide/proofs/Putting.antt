-- Bytes of a number put at the front of a buffer, and the texts that fit it: the laws of the loops and of the returns. Assumes nothing.
use Rattle.std.proofs.Common.{◌≡◌, ℕ, ◌+◌, ◌-◌, ◌*◌, ◌^◌, ◌<◌, ◌≤◌, List, [], ◌∷◌, ◌++◌, length, take, drop, set, ℤ, sym, refl, ap, ◌∙◌, subst, arith, length-set, w64, SFits, of_z}
use Rattle.std.specs.Int.{to_le_bytes}
use borrow.Rule.Slice.PartMut.{put_mid}
use mir.Syntax.{w128}
use Rattle.lists.specs.Over.{over, fitted}
use Rattle.lists.proofs.Blocks.{fits_in, fitted_over, no_room}
use Rattle.lists.proofs.Writing.{Wrote, wrote_none, wrote_set, wrote_lent, wrote_length, part_length}
use Rattle.wide.specs.Bytes.{le, wide_bytes}
use Rattle.wide.specs.Value.{value_of}
use Rattle.wide.proofs.Numbers.{limb_bytes, le_length, two_limbs}
use Rattle.wide.proofs.Signs.{bits_of}

-- the lowest k bytes of a limb in front of what stood there
pub low_put : (k x : ℕ) (y b : List ℕ) → k ≤ 8 → k ≤ length b → y ≡ take k (to_le_bytes w64 x) → y ++ drop k b ≡ fitted (le k x) b
low_put k x y b h l e =
    fits_in (le k x) b _ (omega (arith, le_length k x)) (rw (le_length k x) (ap (λ (o : List ℕ). o ++ drop k b) (e ∙ limb_bytes k x h)))

pub low_none : (k x : ℕ) (b : List ℕ) → length b < k → b ≡ fitted (le k x) b
low_none k x b h = no_room (le k x) b (omega (arith, le_length k x))

-- two limbs one after the other: the second into the rest of the buffer
pub sixteen : (b b₁ ys : List ℕ) (u l : ℕ) (z : ℤ) → SFits w64 z → l < 2 ^ 64 → 16 ≤ length b → u ≡ of_z w64 z → b₁ ≡ fitted (le 8 l) b
    → ys ≡ fitted (le 8 u) (take (length b₁ - 8) (drop 8 b₁)) → put_mid 8 (length b₁ - 8) b₁ ys ≡ fitted (wide_bytes (value_of z l)) b
sixteen b b₁ ys u l z f k h e p q =
    let a : Wrote (le 8 l) b b₁ 8 = record { size = le_length 8 l; within = omega arith; holds = p ∙ fitted_over (le 8 l) b (omega (arith, le_length 8 l)) } in
    let room : 8 ≤ length (take (length b₁ - 8) (drop 8 b₁)) = omega (arith, part_length 8 b₁, wrote_length a) in
    let w = wrote_lent a (le 8 u) ys 8 (le_length 8 u) (omega arith) (q ∙ fitted_over (le 8 u) (take (length b₁ - 8) (drop 8 b₁)) (omega (arith, le_length 8 u))) in
    let t : wide_bytes (value_of z l) ≡ le 8 l ++ le 8 u = ap (le 16) (bits_of z l f k ∙ ap (λ (x : ℕ). x * 2 ^ 64 + l) (sym e)) ∙ two_limbs u l k in
    fits_in (wide_bytes (value_of z l)) b _ (omega (arith, le_length 16 (of_z w128 (value_of z l)))) (w.holds ∙ ap (λ (o : List ℕ). over o b) (sym t))

-- a minus sign, then the digits into the rest of the buffer
pub minus_put : (b ys ds : List ℕ) → length ds < length b → ys ≡ over ds (take (length (set b 0 45) - 1) (drop 1 (set b 0 45)))
    → Wrote (45 ∷ ds) b (put_mid 1 (length (set b 0 45) - 1) (set b 0 45) ys) (1 + length ds)
minus_put b ys ds h e =
    let a : Wrote (45 ∷ []) b (set b 0 45) 1 = wrote_set (wrote_none b) 45 (omega arith) in
    wrote_lent a ds ys (length ds) refl (omega arith) e

pub minus_room : (b : List ℕ) (k : ℕ) → k < length b → k ≤ length (take (length (set b 0 45) - 1) (drop 1 (set b 0 45)))
minus_room b k h = omega (arith, part_length 1 (set b 0 45), length-set b 0 45)

-- a text that was put under another name
pub put_as : (o s b b' : List ℕ) (n : ℕ) → o ≡ s → (n ≡ length s) × (b' ≡ fitted s b) → (n ≡ length o) × (b' ≡ fitted o b)
put_as o s b b' n e h = subst (λ (x : List ℕ). (n ≡ length x) × (b' ≡ fitted x b)) (sym e) h
