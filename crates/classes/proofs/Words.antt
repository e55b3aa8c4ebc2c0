-- Eight bytes of a list and their number, as the library reads it. Assumes nothing.
use Rattle.std.proofs.Common.{◌≡◌, ℕ, ◌+◌, ◌-◌, ◌<◌, List, get_or, take, drop, ap, ◌∙◌, arith, get_or-take}
use Rattle.std.specs.Int.{w64, from_le_bytes}
use lib.Seq.{get_or-drop}
use Rattle.std.specs.Array.{IsFirstChunk}
use lib.Seq.{take-take}
use Rattle.classes.specs.PrivateWords.{number}

pub number_eight : (s bs : List ℕ) (i : ℕ) → IsFirstChunk (take (i + 8 - i) (drop i s)) bs 8 → from_le_bytes w64 bs ≡ number 8 s i
unfolding number
number_eight s bs i chunk =
    let eight : i + 8 - i ≡ 8 = omega arith in
    let e : bs ≡ take 8 (drop i s) = chunk.same ∙ ap (take 8) (ap (λ (k : ℕ). take k (drop i s)) eight) ∙ take-take 8 8 (drop i s) (omega arith) in
    let at : (j : ℕ) → j < 8 → get_or bs j 0 ≡ get_or s (i + j) 0 =
    λ j h. ap (λ (l : List ℕ). get_or l j 0) e ∙ get_or-take 8 (drop i s) j 0 h ∙ get_or-drop i s j 0 in
    let b0 = at 0 (omega arith) in
    let b1 = at 1 (omega arith) in
    let b2 = at 2 (omega arith) in
    let b3 = at 3 (omega arith) in
    let b4 = at 4 (omega arith) in
    let b5 = at 5 (omega arith) in
    let b6 = at 6 (omega arith) in
    let b7 = at 7 (omega arith) in
    let e0 : i + 0 ≡ i = omega arith in
    let e2 : i + 1 + 1 ≡ i + 2 = omega arith in
    let e3 : i + 2 + 1 ≡ i + 3 = omega arith in
    let e4 : i + 3 + 1 ≡ i + 4 = omega arith in
    let e5 : i + 4 + 1 ≡ i + 5 = omega arith in
    let e6 : i + 5 + 1 ≡ i + 6 = omega arith in
    let e7 : i + 6 + 1 ≡ i + 7 = omega arith in
    rw (b0, b1, b2, b3, b4, b5, b6, b7, e0, e2, e3, e4, e5, e6, e7) (omega arith)
