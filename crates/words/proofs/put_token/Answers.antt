-- `words::put_token`: a line for each kind.
use mathlib.Core.Path.{ap, ◌∙◌}
use native.Mathlib.Omega.{arith}
use mir.Syntax.{w64}
use mir.Val.{SFits, of_z}
use mir.ValLaws.{to_z-of_z}
use Rattle.words.proofs.Limbs.{int_words}
use Rattle.words.proofs.put_token.Goals as goal

pub returns-in-Int : goal.returns-in-Int
returns-in-Int c =
    let w = c.in-Int.w in
    let f : SFits w64 w.hi = record { sfits = omega arith } in
    rw (c.kind_of.ensures, c.size_of.ensures, c.in-Int.is)
    (int_words w.hi w.lo _ _ _ _ f (omega arith) (c.as_unsigned.ensures ∙ ap (of_z w64) (to_z-of_z w64 w.hi f)))
