-- A room that has the bytes of a text holds them in the end; one that is too short may hold anything. Assumes nothing.
use mathlib.Core.Path.{◌≡◌, sym, subst⁻¹, ◌∙◌}
use mathlib.Core.List.{List, ◌++◌}
use Prim.Native.Nat.{ℕ, ◌+◌, ◌-◌, ◌≤◌}
use native.Mathlib.Omega.{arith}
use lib.ListN.{length, take, drop, length-append}
use borrow.Rule.Slice.PartMut.{put_mid}
use Rattle.lists.specs.Over.{over}
use Rattle.lists.specs.Rooms.{Filled, Puts}
use Rattle.lists.proofs.Writing.{Wrote, wrote_lent, wrote_length, part_length}

-- one text after the other: the second went into the rest of the room from r, its first free byte where the room is long enough
pub puts_both : (o o' b b₁ ys : List ℕ) (n k r : ℕ) → Puts o n b b₁ → (n ≤ length b₁ → r ≡ n) → Puts o' k (take (length b₁ - r) (drop r b₁)) ys
    → Puts (o ++ o') (n + k) b (put_mid r (length b₁ - r) b₁ ys)
puts_both o o' b b₁ ys n k r f er g =
    let s : length (o ++ o') ≡ n + k = length-append o o' ∙ omega (arith, f.0, g.0) in (
      sym s,
      λ l.
          let w : Wrote o b b₁ n = record { size = sym f.0; within = omega (arith, f.0); holds = f.1 (omega (arith, f.0)) } in
          let e : r ≡ n = er (omega (arith, wrote_length w, f.0)) in
          let there : Filled o' (take (length b₁ - n) (drop n b₁)) ys → put_mid n (length b₁ - n) b₁ ys ≡ over (o ++ o') b =
          λ h. (wrote_lent w o' ys k (sym g.0) (omega (arith, f.0)) (h (rw (part_length n b₁) (omega (arith, wrote_length w, f.0, g.0))))).holds in
          subst⁻¹ (λ (j : ℕ). Filled o' (take (length b₁ - j) (drop j b₁)) ys → put_mid j (length b₁ - j) b₁ ys ≡ over (o ++ o') b) e there g.1,
    )
