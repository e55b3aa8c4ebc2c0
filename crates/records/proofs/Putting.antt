-- A record put at the front of a buffer: its head, then its payload into the rest. Assumes nothing.
use mathlib.Core.Path.{◌≡◌, refl, ap, sym, ◌∙◌}
use mathlib.Core.List.{List, ◌++◌}
use Prim.Native.Nat.{ℕ, ◌+◌, ◌-◌, ◌≤◌}
use native.Mathlib.Omega.{arith}
use lib.ListN.{length, take, drop}
use borrow.Rule.Slice.PartMut.{put_mid}
use Rattle.lists.specs.Over.{over, fitted}
use Rattle.lists.proofs.Blocks.{fits_in, fitted_over}
use Rattle.lists.proofs.Writing.{over_length, Wrote, wrote_lent, wrote_length, part_length}
use Rattle.wide.specs.Bytes.{le}
use Rattle.wide.proofs.Numbers.{le_length}
use Rattle.records.specs.Records.{head_len, head_of, record_of}
use Rattle.records.proofs.Heads.{head_length}

-- the length, and the kind behind it
pub head_put : (kind len : ℕ) (b b₁ ys : List ℕ) → head_len ≤ length b → b₁ ≡ fitted (le 4 len) b → ys ≡ fitted (le 2 kind) (take (length b₁ - 4) (drop 4 b₁))
    → put_mid 4 (length b₁ - 4) b₁ ys ≡ fitted (head_of kind len) b
head_put kind len b b₁ ys h p q =
    let a : Wrote (le 4 len) b b₁ 4 = record { size = le_length 4 len; within = omega arith; holds = p ∙ fitted_over (le 4 len) b (omega (arith, le_length 4 len)) } in
    let room : 2 ≤ length (take (length b₁ - 4) (drop 4 b₁)) = omega (arith, part_length 4 b₁, wrote_length a) in
    let w = wrote_lent a (le 2 kind) ys 2 (le_length 2 kind) (omega arith) (q ∙ fitted_over (le 2 kind) (take (length b₁ - 4) (drop 4 b₁)) (omega (arith, le_length 2 kind))) in
    fits_in (head_of kind len) b _ (omega (arith, head_length kind len)) w.holds

-- in a room that has the record's bytes, and of which the part behind the head was lent on
pub with_head : (kind len : ℕ) (p b₀ b ys : List ℕ) → length p + head_len ≡ len → len ≤ length b₀ → b ≡ fitted (head_of kind len) b₀
    → ys ≡ fitted p (take (length b - head_len) (drop head_len b)) → put_mid head_len (length b - head_len) b ys ≡ over (record_of kind p) b₀
unfolding record_of
with_head kind len p b₀ b ys el h eb ey =
    let eo : b ≡ over (head_of kind len) b₀ = eb ∙ fitted_over (head_of kind len) b₀ (omega (arith, head_length kind len)) in
    let k : length b ≡ length b₀ = ap length eo ∙ over_length (head_of kind len) b₀ (omega (arith, head_length kind len)) in
    let w : Wrote (head_of kind len) b₀ b head_len = record { size = head_length kind len; within = omega arith; holds = eo } in
    let y : ys ≡ over p (take (length b - head_len) (drop head_len b)) =
    ey ∙ fitted_over p (take (length b - head_len) (drop head_len b)) (rw (part_length head_len b) (omega arith)) in
    let m = wrote_lent w p ys (length p) refl (omega arith) y in
    m.holds ∙ ap (λ (n : ℕ). over (head_of kind n ++ p) b₀) (sym el)
