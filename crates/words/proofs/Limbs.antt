-- The words of an integer are its limbs. Assumes nothing.
use mathlib.Core.Path.{◌≡◌, refl}
use Prim.Native.Nat.{ℕ, ◌^◌, ◌<◌}
use lib.Arith.{digits_div, digits_mod}
use lib.IntN.{ℤ}
use mir.Syntax.{w64}
use mir.Val.{SFits, of_z}
use Rattle.wide.specs.Value.{value_of}
use Rattle.wide.proofs.Signs.{bits_of}
use Rattle.lexer.specs.Tokens.{token, int}
use Rattle.words.specs.Words.{eight, int_answer, token_words}

-- the limbs are the high and the low 64 bits
pub int_words : (z : ℤ) (l s n u h : ℕ) → SFits w64 z → l < 2 ^ 64 → h ≡ of_z w64 z → eight int_answer s n h l u ≡ token_words (token (int (value_of z l)) s n) u
int_words z l s n u h f b e = rw (bits_of z l f b, digits_div (of_z w64 z) {m = 2 ^ 64} {r = l} b, digits_mod (of_z w64 z) {m = 2 ^ 64} {r = l} b, e) refl
