-- What is put into the rest of a room stands behind what it held before. Assumes nothing.
use mathlib.Core.Path.{◌≡◌, refl, sym, ap, ◌∙◌}
use mathlib.Core.List.{List, [], ◌++◌, append_assoc, append-nil}
use Prim.Native.Nat.{ℕ, ◌+◌, ◌-◌, ◌<◌, min}
use native.Mathlib.Omega.{arith}
use lib.IntN.{ℤ}
use lib.ListN.{length, take, drop, length-append, length-drop, take-append-drop, drop_of_length-le}
use lib.Seq.{take_at, drop_at, drop-drop}
use borrow.Rule.Slice.PartMut.{put_mid}
use Rattle.std.proofs.lemmas.List.{take_min, drop_min}
use Rattle.wide.specs.Bytes.{wide_bytes}
use Rattle.wide.proofs.Numbers.{wide_length}
use Rattle.records.specs.Records.{head_len, record_of}
use Rattle.records.proofs.Heads.{length_record}
use Rattle.lists.specs.Over.{over, fitted}
use Rattle.lists.specs.Rooms.{Puts}
use Rattle.lists.proofs.Blocks.{fitted_over, no_room}
use Rattle.lists.proofs.Writing.{part_drop}

-- a room of just as many bytes holds what is put there and nothing else
pub fitted_just : (o b : List ℕ) → length o ≡ length b → fitted o b ≡ o
fitted_just o b e = fitted_over o b (omega arith) ∙ ap (λ (r : List ℕ). o ++ r) (drop_of_length-le b {i = length o} (omega arith)) ∙ append-nil o

-- the rest of a room from p on, lent
put_rest : (b ys : List ℕ) (p : ℕ) → put_mid p (length b - p) b ys ≡ take p b ++ ys
put_rest b ys p =
    let nothing : drop (length b - p) (drop p b) ≡ [] = drop_of_length-le (drop p b) {i = length b - p} (simp length-drop (omega arith)) in
    rw (nothing, append-nil) refl

-- a record that does not fit there is not put
pub kept_behind : (k p : ℕ) (o b : List ℕ) → length b < p + length o + head_len → take p b ++ fitted (record_of k o) (drop p b) ≡ b
kept_behind k p o b l =
    ap (λ (r : List ℕ). take p b ++ r) (sym (no_room (record_of k o) (drop p b) (rw (length-drop p b) (omega (arith, length_record k o))))) ∙ take-append-drop p b

pub just_wide : (z : ℤ) (b : List ℕ) → length b ≡ 16 → fitted (wide_bytes z) b ≡ wide_bytes z
just_wide z b e = fitted_just (wide_bytes z) b (wide_length z ∙ sym e)

-- the same of a room that may end before p
pub lent_behind : (b ys : List ℕ) (p r : ℕ) → r ≡ min (length b) p → put_mid r (length b - r) b ys ≡ take p b ++ ys
lent_behind b ys p r e = put_rest b ys r ∙ ap (λ (x : List ℕ). x ++ ys) (ap (λ (i : ℕ). take i b) (e ∙ omega arith) ∙ take_min p b)

pub rest_behind : (b : List ℕ) (p r : ℕ) → r ≡ min (length b) p → take (length b - r) (drop r b) ≡ drop p b
rest_behind b p r e = part_drop r b ∙ ap (λ (i : ℕ). drop i b) (e ∙ omega arith) ∙ drop_min p b

-- one text after the other: the second went behind the first n bytes
pub puts_behind : (o o' b₀ b ys : List ℕ) (n k : ℕ) → Puts o n b₀ b → length b ≡ length b₀ → Puts o' k (drop n b) ys → Puts (o ++ o') (n + k) b₀ (take n b ++ ys)
puts_behind o o' b₀ b ys n k p e q =
    let s : length (o ++ o') ≡ n + k = length-append o o' ∙ omega (arith, p.0, q.0) in (
      sym s,
      λ l.
          let h : b ≡ over o b₀ = p.1 (omega (arith, p.0)) in
          let front : take n b ≡ o = ap (take n) h ∙ take_at o (drop (length o) b₀) n (sym p.0) in
          let back : drop n b ≡ drop n b₀ = ap (drop n) h ∙ drop_at o (drop (length o) b₀) n (sym p.0) ∙ ap (λ (j : ℕ). drop j b₀) (sym p.0) in
          let y : ys ≡ o' ++ drop (length o') (drop n b₀) = q.1 (omega (arith, length-drop n b, q.0)) ∙ ap (over o') back in
          rw (front, y, drop-drop, s, q.0) (sym (append_assoc o o' (drop (n + length o') b₀))),
    )
