-- What a lent buffer holds while its front is written: byte by byte, by lending its rest on. Assumes nothing.
use mathlib.Core.Path.{◌≡◌, refl, ap, ◌∙◌}
use mathlib.Core.List.{List, [], ◌∷◌, ◌++◌, append_assoc, append-nil}
use Prim.Native.Nat.{ℕ, ◌+◌, ◌-◌, ◌≤◌, ◌<◌}
use native.Mathlib.Omega.{arith}
use native.Mathlib.Numerals.{add-one}
use lib.ListN.{length, take, drop, set, length-append, length-drop, drop_of_length-le}
use lib.Seq.{drop-cons, set_at, take_at, drop_at, drop-drop, take_all}
use borrow.Rule.Slice.PartMut.{put_mid}
use Rattle.lists.specs.Over.{over}

pub over_length : (o b : List ℕ) → length o ≤ length b → length (over o b) ≡ length b
over_length o b h = simp (length-append, length-drop) (omega arith)

pub over_set : (o b : List ℕ) (w x : ℕ) → length o ≡ w → w < length b → set (over o b) w x ≡ over (o ++ (x ∷ [])) b
over_set o b w x e h =
    rw e (ap (λ (r : List ℕ). set (o ++ r) w x) (drop-cons b w 0 h)
    ∙ set_at o _ _ x w e
    ∙ simp (length-append, append_assoc, e, add-one))

-- of the buffer b₀ the first w bytes are now o, and b holds the rest as b₀ did
pub record Wrote (o b₀ b : List ℕ) (w : ℕ) : Type 0 where
  pub size : length o ≡ w
  pub within : w ≤ length b₀
  pub holds : b ≡ over o b₀

pub wrote_none : (b : List ℕ) → Wrote [] b b 0
wrote_none b = record { size = refl; within = omega arith; holds = refl }

pub wrote_length : {o b₀ b : List ℕ} {w : ℕ} → Wrote o b₀ b w → length b ≡ length b₀
wrote_length {o} {b₀} h = ap length h.holds ∙ over_length o b₀ (omega (arith, h.size, h.within))

-- a byte is stored at the first free place
pub wrote_set : {o b₀ b : List ℕ} {w : ℕ} → Wrote o b₀ b w → (x : ℕ) → w < length b₀ → Wrote (o ++ (x ∷ [])) b₀ (set b w x) (w + 1)
wrote_set {o} {b₀} {b} {w} h x lt = record {
  size = simp length-append (omega (arith, h.size));
  within = omega arith;
  holds = ap (λ (r : List ℕ). set r w x) h.holds ∙ over_set o b₀ w x h.size lt;
}

-- what `&mut b[w..]` holds
pub part_drop : (w : ℕ) (b : List ℕ) → take (length b - w) (drop w b) ≡ drop w b
part_drop w b = take_all (length b - w) (drop w b) (simp length-drop (omega arith))

pub part_length : (w : ℕ) (b : List ℕ) → length (take (length b - w) (drop w b)) ≡ length b - w
part_length w b = rw part_drop (length-drop w b)

-- `&mut b[w..]` was lent, and came back with n bytes o' at its front
pub wrote_lent : {o b₀ b : List ℕ} {w : ℕ} → Wrote o b₀ b w → (o' ys : List ℕ) (n : ℕ) → length o' ≡ n → w + n ≤ length b₀
    → ys ≡ over o' (take (length b - w) (drop w b)) → Wrote (o ++ o') b₀ (put_mid w (length b - w) b ys) (w + n)
wrote_lent {o} {b₀} {b} {w} h o' ys n en le ey = record {
  size = simp length-append (omega (arith, h.size));
  within = le;
  holds =
      let ew : length o ≡ w = h.size in
      let back : drop w b ≡ drop w b₀ = ap (drop w) h.holds ∙ drop_at o (drop (length o) b₀) w ew ∙ ap (λ (k : ℕ). drop k b₀) ew in
      let front : take w b ≡ o = ap (take w) h.holds ∙ take_at o (drop (length o) b₀) w ew in
      let none : drop (length b - w) (drop w b) ≡ [] = drop_of_length-le (drop w b) {i = length b - w} (simp length-drop (omega arith)) in
      let ys' : ys ≡ o' ++ drop (w + length o') b₀ = ey ∙ rw (part_drop w b, back) (ap (λ (r : List ℕ). o' ++ r) (drop-drop (length o') w b₀)) in
      rw (none, front, ys') (simp (append-nil, append_assoc, length-append, ew));
}
