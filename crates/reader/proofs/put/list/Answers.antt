-- `reader::put::list`: the count, then the cost, in a payload of their own.
use mathlib.Core.Path.{◌≡◌, refl, ap, sym, ◌∙◌}
use mathlib.Core.List.{List, [], ◌++◌, append-nil}
use Prim.Native.Nat.{ℕ}
use native.Mathlib.Omega.{arith}
use lib.ListN.{length, take, drop, length-append, drop_of_length-le}
use lib.Seq.{take_at, drop_at, take_all}
use borrow.Rule.Slice.PartMut.{put_mid}
use Rattle.lists.specs.Over.{fitted}
use Rattle.wide.specs.Bytes.{le}
use Rattle.wide.proofs.Numbers.{le_length}
use Rattle.reader.proofs.Behind.{fitted_just}
use Rattle.reader.proofs.put.list.Goals as goal

payload_is : (n v : ℕ) (z x y : List ℕ) → length z ≡ 4 → x ≡ fitted (le 4 n) z → y ≡ fitted (le 4 v) (take 4 (drop 4 (x ++ z))) → put_mid 4 4 (x ++ z) y ≡ le 4 n ++ le 4 v
payload_is n v z x y e ex ey =
    let ex' : x ≡ le 4 n = ex ∙ fitted_just (le 4 n) z (le_length 4 n ∙ sym e) in
    let lx : length x ≡ 4 = ap length ex' ∙ le_length 4 n in
    let back : drop 4 (x ++ z) ≡ z = drop_at x z 4 lx in
    let past : drop 4 (drop 4 (x ++ z)) ≡ [] = ap (drop 4) back ∙ drop_of_length-le z {i = 4} (omega arith) in
    let ey' : y ≡ le 4 v = ey ∙ ap (λ (r : List ℕ). fitted (le 4 v) (take 4 r)) back ∙ ap (fitted (le 4 v)) (take_all 4 z (omega arith)) ∙ fitted_just (le 4 v) z (le_length 4 v ∙ sym e) in
    rw (take_at x z 4 lx, past, append-nil y, ex', ey') refl

payload_length : (n v : ℕ) → length (le 4 n ++ le 4 v) ≡ 8
payload_length n v = length-append (le 4 n) (le 4 v) ∙ omega (arith, le_length 4 n, le_length 4 v)

pub slice_bounds-placed-end : goal.slice_bounds-placed-end
slice_bounds-placed-end c =
    let a = c.args in
    sym (ap length (payload_is a.n a.cost _ _ _ refl c.put_u32.ensures c.put_u32-2.ensures) ∙ payload_length a.n a.cost)

pub placed-requires : goal.placed-requires
placed-requires c =
    let a = c.args in
    rw (payload_is a.n a.cost _ _ _ refl c.put_u32.ensures c.put_u32-2.ensures) (omega (arith, payload_length a.n a.cost), omega arith)

pub returns : goal.returns
returns c =
    let a = c.args in
    rw (c.placed.ensures.1, payload_is a.n a.cost _ _ _ refl c.put_u32.ensures c.put_u32-2.ensures) refl
