-- A room whose front is written in two blocks that overlap. Assumes nothing.
use mathlib.Core.Path.{◌≡◌, refl, ap, sym, ◌∙◌}
use mathlib.Core.List.{List, ◌++◌}
use Prim.Native.Nat.{ℕ, ◌+◌, ◌-◌, ◌≤◌, ◌<◌}
use native.Mathlib.Omega.{arith}
use lib.ListN.{length, take, drop, length-drop, take-append-drop}
use lib.Seq.{length-take-le, take-length, take-take, take-append-le, take_all, drop_at, drop-drop}
use borrow.Rule.Slice.PartMut.{put_mid}
use mathlib.Core.Bool.{cond}
use borrow.Author.Tests.{le-leb, lt-leb}
use Rattle.lists.specs.Over.{over, fitted}
use Rattle.lists.proofs.Writing.{Wrote, wrote_lent, part_drop, over_length}

-- the first k bytes of s, then the last k at their place: all of s, where no byte is left out between the two
pub overlap : (k : ℕ) (s b b' ys : List ℕ) → k ≤ length s → length s ≤ k + k → length s ≤ length b → b' ≡ over (take k s) b
    → ys ≡ over (take k (take (length s - (length s - k)) (drop (length s - k) s))) (take (length b' - (length s - k)) (drop (length s - k) b'))
    → put_mid (length s - k) (length b' - (length s - k)) b' ys ≡ over s b
overlap k s b b' ys hk h2 hb e ey =
    let j : ℕ = length s - k in
    let lk : length (take k s) ≡ k = length-take-le k s hk in
    let lj : length (take j s) ≡ j = length-take-le j s (omega arith) in
    let lb : length b' ≡ length b = ap length e ∙ over_length (take k s) b (omega arith) in
    let front : take j b' ≡ take j s = ap (take j) e ∙ take-append-le j (take k s) (drop (length (take k s)) b) (omega arith) ∙ take-take j k s (omega arith) in
    let whole : b' ≡ over (take j s) b' = sym (take-append-drop j b') ∙ rw (front, lj) refl in
    let first : Wrote (take j s) b' b' j = record { size = lj; within = omega arith; holds = whole } in
    let ld : length (drop j s) ≡ k = length-drop j s ∙ omega arith in
    let last : take k (take (length s - j) (drop j s)) ≡ drop j s = ap (take k) (part_drop j s) ∙ take_all k (drop j s) (omega arith) in
    let w = wrote_lent first (drop j s) ys k ld (omega arith) (ey ∙ ap (λ (o : List ℕ). over o (take (length b' - j) (drop j b'))) last) in
    let past : drop k b' ≡ drop k b = ap (drop k) e ∙ drop_at (take k s) (drop (length (take k s)) b) k lk ∙ ap (λ (i : ℕ). drop i b) lk in
    let n : length s ≡ k + j = omega arith in
    let rest : drop (length s) b' ≡ drop (length s) b =
    ap (λ (i : ℕ). drop i b') n ∙ sym (drop-drop j k b') ∙ ap (drop j) past ∙ drop-drop j k b ∙ ap (λ (i : ℕ). drop i b) (sym n) in
    w.holds ∙ ap (λ (o : List ℕ). over o b') (take-append-drop j s) ∙ ap (λ (r : List ℕ). s ++ r) rest

-- a copy of all of s
pub copied : (s b b' : List ℕ) (n : ℕ) → n ≡ length s → b' ≡ take n s ++ drop n b → b' ≡ over s b
copied s b b' n e h = h ∙ rw (e, take-length s) refl

-- where there is room, and where there is none
pub fitted_over : (s b : List ℕ) → length s ≤ length b → fitted s b ≡ over s b
fitted_over s b l = ap (λ t. cond t (over s b) b) (le-leb (length s) (length b) l)

pub fits_in : (s b b' : List ℕ) → length s ≤ length b → b' ≡ over s b → b' ≡ fitted s b
fits_in s b b' l e = e ∙ sym (fitted_over s b l)

pub no_room : (s b : List ℕ) → length b < length s → b ≡ fitted s b
no_room s b l = sym (ap (λ t. cond t (over s b) b) (lt-leb (length s) (length b) l))
