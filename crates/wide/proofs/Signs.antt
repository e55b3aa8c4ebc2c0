-- A limb's two readings, with and without a sign, and what negation and the sign are on two limbs. Assumes nothing.
use Rattle.std.proofs.Common.{◌≡◌, ℕ, suc, ◌+◌, ◌-◌, ◌*◌, ◌%◌, ◌^◌, ◌<◌, ◌≤◌, Bool, true, false, ◌⊎◌, ℤ, pos, negsuc, nat_abs, sym, refl, ap, ◌∙◌, inl, inr, ⊎_elim, lt_of_lt_of_le, add-suc, mod-eq_of_lt, pos_of_ne-zero, suc-mul, add-mul, le-add_left, arith, w64, SFits, to_z, of_z, ltb-true, le-ltb}
use Rattle.std.specs.Bool.{FalseIff}
use Rattle.std.specs.Int.{from_bool}
use lib.Arith.{digits_lt, le-zero}
use lib.Signed.{lt_z}
use mir.Syntax.{w128}
use mir.ValLaws.{to_z_pos, to_z-neg}
use Rattle.wide.specs.Value.{value_of}
use Rattle.wide.proofs.TwoLimbs.{which}
use Rattle.wide.proofs.Values.{value_pos, value_neg}

-- two numbers of two digits whose low digits make up a whole base, and the high ones all but one of it
pub whole : (B h l k m : ℕ) → h + k + 1 ≡ B → l + m ≡ B → (h * B + l) + (k * B + m) ≡ B * B
whole B h l k m e f =
    let p : (h + suc k) * B ≡ B * B = ap (λ (x : ℕ). x * B) (omega arith) in
    omega (arith, add-mul h (suc k) B, suc-mul k B)

pub minus : (N a b : ℕ) → a + b ≡ N → 0 < b → a ≡ (N - b) % N
minus N a b e h =
    let s : N - b ≡ a = omega arith in
    let l : a < N = omega arith in
    sym (ap (λ (x : ℕ). x % N) s ∙ mod-eq_of_lt l)

-- the bits of two limbs, read with a sign
pub joined : (h l : ℕ) → h < 2 ^ 64 → l < 2 ^ 64 → value_of (to_z w64 h) l ≡ to_z w128 (h * 2 ^ 64 + l)
joined h l a b = ⊎_elim low high (which h (2 ^ 63))
  where
    low : h < 2 ^ 63 → value_of (to_z w64 h) l ≡ to_z w128 (h * 2 ^ 64 + l)
    low p = ap (λ (z : ℤ). value_of z l) (to_z_pos w64 h p) ∙ value_pos h l ∙ sym (to_z_pos w128 (h * 2 ^ 64 + l) (digits_lt {q = h} {m = 2 ^ 63} {r = l} {c = 2 ^ 64} p b))

    high : 2 ^ 63 ≤ h → value_of (to_z w64 h) l ≡ to_z w128 (h * 2 ^ 64 + l)
    high p =
        let k : ℕ = 2 ^ 64 - suc h in
        let m : ℕ = 2 ^ 64 - suc l in
        let kl : k < 2 ^ 63 = omega arith in
        let ml : m < 2 ^ 64 = omega arith in
        let e : 2 ^ 64 - suc k ≡ h = omega arith in
        let w : (h * 2 ^ 64 + l) + (k * 2 ^ 64 + suc m) ≡ 2 ^ 128 = whole (2 ^ 64) h l k (suc m) (omega arith) (omega arith) in
        let d : 2 ^ 128 - suc (k * 2 ^ 64 + m) ≡ h * 2 ^ 64 + l = differs (h * 2 ^ 64 + l) (k * 2 ^ 64 + m) (k * 2 ^ 64) m (2 ^ 128) refl w in
        ap (λ (z : ℤ). value_of z l) (ap (to_z w64) (sym e) ∙ to_z-neg w64 k kl) ∙ value_neg k l b
        ∙ sym (ap (to_z w128) (sym d) ∙ to_z-neg w128 (k * 2 ^ 64 + m) (digits_lt {q = k} {m = 2 ^ 63} {r = m} {c = 2 ^ 64} kl ml))
      where
        differs : (x y a b N : ℕ) → y ≡ a + b → x + (a + suc b) ≡ N → N - suc y ≡ x
        differs x y a b N e f = omega arith

wraps : (x y : ℕ) → x < 2 ^ 64 → y < 2 ^ 64 → (x + y) % 2 ^ 64 ≡ 0 → 0 < y → x + y ≡ 2 ^ 64
wraps x y a b e h = omega arith

wraps_none : (x b g : ℕ) → x < 2 ^ 64 → (x + b) % 2 ^ 64 ≡ g → b ≡ 0 → x ≡ g
wraps_none x b g h e z = omega arith

wraps_one : (x y b g : ℕ) → x < 2 ^ 64 → y < 2 ^ 64 → (x + b) % 2 ^ 64 ≡ g → b ≡ 1 → (g + y) % 2 ^ 64 ≡ 0 → x + y + 1 ≡ 2 ^ 64
wraps_one x y b g h k e z f = omega arith

some_high : (h l : ℕ) → 0 < h → 0 < h * 2 ^ 64 + l
some_high h l q = omega arith

no_limbs : (h l : ℕ) → h ≡ 0 → l ≡ 0 → h * 2 ^ 64 + l ≡ 0
no_limbs h l p q = omega arith

wraps_zero : (x y : ℕ) → x < 2 ^ 64 → (x + y) % 2 ^ 64 ≡ 0 → y ≡ 0 → x ≡ 0
wraps_zero x y h e f = omega arith

pub negated_law : (h l h' l' g b : ℕ) → h < 2 ^ 64 → l < 2 ^ 64 → h' < 2 ^ 64 → l' < 2 ^ 64 → g < 2 ^ 64 → (l' + l) % 2 ^ 64 ≡ 0 → (g + h) % 2 ^ 64 ≡ 0 → (h' + b) % 2 ^ 64 ≡ g
    → ((l ≡ 0) × (b ≡ 0)) ⊎ ((0 < l) × (b ≡ 1)) → h' * 2 ^ 64 + l' ≡ (2 ^ 128 - (h * 2 ^ 64 + l)) % 2 ^ 128
negated_law h l h' l' g b bh bl bh' bl' bg el eg eh (inr p) =
    minus (2 ^ 128) (h' * 2 ^ 64 + l') (h * 2 ^ 64 + l) (whole (2 ^ 64) h' l' h l (wraps_one h' h b g bh' bh eh p.1 eg) (wraps l' l bl' bl el p.0)) (lt_of_lt_of_le p.0 (le-add_left l (h * 2 ^ 64)))
negated_law h l h' l' g b bh bl bh' bl' bg el eg eh (inl p) = ⊎_elim none some (which 0 h)
  where
    zl : l' ≡ 0
    zl = wraps_zero l' l bl' el p.0

    none : 0 < h → h' * 2 ^ 64 + l' ≡ (2 ^ 128 - (h * 2 ^ 64 + l)) % 2 ^ 128
    none q = minus (2 ^ 128) (h' * 2 ^ 64 + l') (h * 2 ^ 64 + l) (sums (2 ^ 64) h' l' h l (ap (λ (x : ℕ). x + h) (wraps_none h' b g bh' eh p.1) ∙ wraps g h bg bh eg q) zl p.0) (some_high h l q)
      where
        sums : (B h l k m : ℕ) → h + k ≡ B → l ≡ 0 → m ≡ 0 → (h * B + l) + (k * B + m) ≡ B * B
        sums B h l k m e f g = omega (arith, add-mul h k B, ap (λ (x : ℕ). x * B) e)

    some : h ≤ 0 → h' * 2 ^ 64 + l' ≡ (2 ^ 128 - (h * 2 ^ 64 + l)) % 2 ^ 128
    some q =
        let e : h' * 2 ^ 64 + l' ≡ 0 = no_limbs h' l' (wraps_none h' b g bh' eh p.1 ∙ wraps_zero g h bg eg (le-zero q)) zl in
        let f : h * 2 ^ 64 + l ≡ 0 = no_limbs h l (le-zero q) p.0 in
        e ∙ sym (ap (λ (x : ℕ). (2 ^ 128 - x) % 2 ^ 128) f)

-- the borrow, as the library tells of it
pub borrowed : (l b : ℕ) (t : Bool) → FalseIff t (l ≤ 0) → b ≡ from_bool t → ((l ≡ 0) × (b ≡ 0)) ⊎ ((0 < l) × (b ≡ 1))
borrowed l b false f e = inl (omega arith, e)
borrowed l b true f e = inr (pos_of_ne-zero (λ z. f (omega arith)), e)

-- the sign is that of the high limb
pub sign : (z : ℤ) (l : ℕ) → l < 2 ^ 64 → lt_z z (pos 0) ≡ lt_z (value_of z l) (pos 0)
sign (pos n) l h = le-ltb n 0 (omega arith) ∙ sym (ap (λ (x : ℤ). lt_z x (pos 0)) (value_pos n l) ∙ le-ltb (n * 2 ^ 64 + l) 0 (omega arith))
sign (negsuc n) l h = sym (ap (λ (x : ℤ). lt_z x (pos 0)) (value_neg n l h))

-- the magnitude, from the bits of the high limb
pub size_below : (z : ℤ) (l : ℕ) → SFits w64 z → l < 2 ^ 64 → lt_z (value_of z l) (pos 0) ≡ true → (2 ^ 128 - (of_z w64 z * 2 ^ 64 + l)) % 2 ^ 128 ≡ nat_abs (value_of z l)
size_below (pos n) l f h b = let p : n < 0 = ltb-true n 0 (sign (pos n) l h ∙ b) in absurd (omega arith)
size_below (negsuc k) l f h b =
    let kl : k < 2 ^ 63 = f.sfits in
    let m : ℕ = 2 ^ 64 - suc l in
    let g : ℕ = 2 ^ 64 - suc k in
    let w : (k * 2 ^ 64 + suc m) + (g * 2 ^ 64 + l) ≡ 2 ^ 128 = whole (2 ^ 64) k (suc m) g l (omega arith) (omega arith) in
    sym (ap nat_abs (value_neg k l h) ∙ sym (add-suc (k * 2 ^ 64) m) ∙ minus (2 ^ 128) (k * 2 ^ 64 + suc m) (g * 2 ^ 64 + l) w (some_high g l (omega arith)))

pub size_above : (z : ℤ) (l : ℕ) → l < 2 ^ 64 → lt_z (value_of z l) (pos 0) ≡ false → of_z w64 z * 2 ^ 64 + l ≡ nat_abs (value_of z l)
size_above (pos n) l h b = sym (ap nat_abs (value_pos n l))
size_above (negsuc k) l h b = let e : true ≡ false = sign (negsuc k) l h ∙ b in let z : ◌≡◌ {A = ℕ} 0 1 = cc in absurd (omega arith)

-- the bits of the value are the two limbs' bits
pub bits_of : (z : ℤ) (l : ℕ) → SFits w64 z → l < 2 ^ 64 → of_z w128 (value_of z l) ≡ of_z w64 z * 2 ^ 64 + l
bits_of (pos n) l f h = ap (of_z w128) (value_pos n l)
bits_of (negsuc k) l f h =
    let kl : k < 2 ^ 63 = f.sfits in
    let m : ℕ = 2 ^ 64 - suc l in
    let g : ℕ = 2 ^ 64 - suc k in
    ap (of_z w128) (value_neg k l h) ∙ differs (g * 2 ^ 64 + l) (k * 2 ^ 64) m (2 ^ 128) (whole (2 ^ 64) g l k (suc m) (omega arith) (omega arith))
  where
    differs : (x a b N : ℕ) → x + (a + suc b) ≡ N → N - suc (a + b) ≡ x
    differs x a b N f = omega arith
