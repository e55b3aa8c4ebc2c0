-- A room that has the bytes of a text holds them in the end; one that is too short may hold anything. Assumes nothing.
use mathlib.Core.Path.{◌≡◌, subst}
use mathlib.Core.List.{List, [], ◌∷◌, ◌++◌, append_assoc}
use Prim.Native.Nat.{ℕ, ◌+◌, ◌≤◌}
use native.Mathlib.Omega.{arith}
use lib.ListN.{length, set}
use Rattle.lists.proofs.Writing.{Wrote, wrote_set}

-- three bytes behind n
pub wrote_three : {o b₀ b : List ℕ} {n : ℕ} → Wrote o b₀ b n → n + 3 ≤ length b₀ → (x y z : ℕ)
    → Wrote (o ++ (x ∷ y ∷ z ∷ [])) b₀ (set (set (set b n x) (n + 1) y) (n + 2) z) (n + 3)
wrote_three {o} {b₀} {b} {n} h l x y z =
    let w = wrote_set (wrote_set (wrote_set h x (omega arith)) y (omega arith)) z (omega arith) in
    let e2 : n + 1 + 1 ≡ n + 2 = omega arith in
    let e3 : n + 1 + 1 + 1 ≡ n + 3 = omega arith in
    subst (λ (k : ℕ). Wrote (o ++ (x ∷ y ∷ z ∷ [])) b₀ (set (set (set b n x) (n + 1) y) (n + 2) z) k) e3
    (subst (λ (k : ℕ). Wrote (o ++ (x ∷ y ∷ z ∷ [])) b₀ (set (set (set b n x) (n + 1) y) k z) (n + 1 + 1 + 1)) e2
    (subst (λ (r : List ℕ). Wrote r b₀ (set (set (set b n x) (n + 1) y) (n + 1 + 1) z) (n + 1 + 1 + 1)) (simp append_assoc) w))
