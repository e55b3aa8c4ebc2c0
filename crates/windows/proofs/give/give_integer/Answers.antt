-- `windows::give::give_integer`: the text is made in 40 bytes of its own, and given from there.
use Rattle.std.proofs.Common.{ℕ, List, length, replicate, sym, refl, ap, ◌∙◌, subst, arith}
use Rattle.wide.specs.Text.{integer_text}
use Rattle.table.proofs.Walks.{integer_value}
use Rattle.windows.specs.PrivateGiving.{Given}
use Rattle.windows.proofs.Giving.{integer_room}
use Rattle.windows.proofs.give.give_integer.Goals as goal

pub slice_bounds-text-end : goal.slice_bounds-text-end
slice_bounds-text-end c = let p = c.put_text-n in (integer_room _ (replicate 40 0) _ _ refl p.ensures.0 p.ensures.1).0

pub slice_bounds-give-end : goal.slice_bounds-give-end
slice_bounds-give-end c = let p = c.put_text-n in let d = integer_room _ (replicate 40 0) _ _ refl p.ensures.0 p.ensures.1 in p.ensures.0 ∙ ap length (sym d.1)

pub returns : goal.returns
returns c = let a = c.args in let p = c.put_text-n in let g = c.give in let d = integer_room _ (replicate 40 0) _ _ refl p.ensures.0 p.ensures.1 in let z = integer_value a.t.now a.at _ (omega (arith, c.requires)) c.wide_at.ensures in subst (λ (o : List ℕ). Given o a.from a.out.now g.new.out g.result) (d.1 ∙ ap integer_text z) g.ensures
