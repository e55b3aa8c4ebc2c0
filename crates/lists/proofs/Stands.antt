-- Bytes that stand in a list at a place: taken apart, joined, and read back. Assumes nothing.
use mathlib.Core.Path.{◌≡◌, refl, ap, sym, ◌∙◌}
use mathlib.Core.List.{List, [], ◌++◌, append_assoc}
use Prim.Native.Nat.{ℕ, ◌+◌, ◌-◌, ◌≤◌}
use native.Mathlib.Omega.{arith}
use lib.ListN.{length, take, drop, length-append, length-drop, take-append-drop}
use lib.Seq.{drop_at, take_at, drop-drop, length-take-le}

abbrev pub Stands : List ℕ → ℕ → List ℕ → Type 0
Stands t p bs = drop p t ≡ bs ++ drop (p + length bs) t

module _ (t : List ℕ) (p : ℕ) (a b : List ℕ) where
  whole : p + length (a ++ b) ≡ p + length a + length b
  whole = simp length-append (omega arith)

  pub stands_right : Stands t p (a ++ b) → Stands t (p + length a) b
  stands_right h =
      sym (drop-drop (length a) p t) ∙ ap (drop (length a)) (h ∙ append_assoc a b (drop (p + length (a ++ b)) t))
      ∙ drop_at a (b ++ drop (p + length (a ++ b)) t) (length a) refl ∙ ap (λ (k : ℕ). b ++ drop k t) whole

  pub stands_left : Stands t p (a ++ b) → Stands t p a
  stands_left h =
      h ∙ append_assoc a b (drop (p + length (a ++ b)) t)
      ∙ ap (λ (r : List ℕ). a ++ r) (ap (λ (k : ℕ). b ++ drop k t) whole ∙ sym (stands_right h))

  pub stands_join : Stands t p a → Stands t (p + length a) b → Stands t p (a ++ b)
  stands_join h g =
      h ∙ ap (λ (r : List ℕ). a ++ r) g ∙ sym (append_assoc a b (drop (p + length a + length b) t))
      ∙ ap (λ (k : ℕ). (a ++ b) ++ drop k t) (sym whole)

pub stands_take : (t : List ℕ) (p : ℕ) (bs : List ℕ) → Stands t p bs → (k : ℕ) → length bs ≡ k → take k (drop p t) ≡ bs
stands_take t p bs h k e = ap (take k) h ∙ take_at bs (drop (p + length bs) t) k e

pub stands_none : (t : List ℕ) (p : ℕ) → Stands t p []
stands_none t p = let e : p + 0 ≡ p = omega arith in rw e refl

pub stands_length : (t : List ℕ) (p : ℕ) (bs : List ℕ) → p ≤ length t → Stands t p bs → p + length bs ≤ length t
stands_length t p bs h s =
    let e : length t - p ≡ length bs + (length t - (p + length bs)) =
    sym (length-drop p t) ∙ ap length s ∙ length-append bs (drop (p + length bs) t)
    ∙ ap (λ (k : ℕ). length bs + k) (length-drop (p + length bs) t) in
    omega arith

-- any part of a list stands where it was taken
pub part_size : (t : List ℕ) (p k : ℕ) → p + k ≤ length t → length (take k (drop p t)) ≡ k
part_size t p k h = length-take-le k (drop p t) (rw (length-drop p t) (omega arith))

pub stands_part : (t : List ℕ) (p k : ℕ) → p + k ≤ length t → Stands t p (take k (drop p t))
stands_part t p k h =
    sym (take-append-drop k (drop p t))
    ∙ ap (λ (r : List ℕ). take k (drop p t) ++ r) (drop-drop k p t ∙ ap (λ (n : ℕ). drop (p + n) t) (sym (part_size t p k h)))
