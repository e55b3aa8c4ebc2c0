-- An integer's text, made in a room of 40 bytes. Assumes nothing.
use Rattle.std.proofs.Common.{◌≡◌, ℕ, ◌≤◌, List, length, take, drop, ℤ, sym, ap, ◌∙◌, arith, take_at}
use Rattle.lists.specs.Over.{over, fitted}
use Rattle.lists.proofs.Blocks.{fitted_over}
use Rattle.lists.proofs.Writing.{over_length}
use Rattle.wide.specs.Text.{integer_text}
use Rattle.wide.proofs.Decimals.{integer_top}

pub integer_room : (z : ℤ) (b b' : List ℕ) (n : ℕ) → length b ≡ 40 → n ≡ length (integer_text z) → b' ≡ fitted (integer_text z) b → (n ≤ length b') × (take n b' ≡ integer_text z)
integer_room z b b' n eb en e =
    let l : length (integer_text z) ≤ length b = omega (arith, integer_top z, eb) in
    let f : b' ≡ over (integer_text z) b = e ∙ fitted_over (integer_text z) b l in
    (omega (arith, en, ap length f ∙ over_length (integer_text z) b l, l), ap (take n) f ∙ take_at (integer_text z) (drop (length (integer_text z)) b) n (sym en))
