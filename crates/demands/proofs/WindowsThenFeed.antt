-- What the windows of a table were given up to the end, joined, cut anywhere, fed and closed, yields exactly the table's tokens. Assumes nothing.
use mathlib.Core.Path.{◌≡◌, refl, ap, sym, ◌∙◌, subst, subst⁻¹}
use mathlib.Core.Bool.{true}
use mathlib.Core.List.{List, [], ◌∷◌}
use Prim.Native.Nat.{ℕ, ◌≤◌}
use native.Mathlib.Omega.{arith}
use lib.ListN.{length, drop, length-drop}
use lib.Seq.{take_all}
use Rattle.refusals.specs.Numbers.{source_limit}
use Rattle.refusals.specs.Result.{Result, ok, refused}
use Rattle.table.specs.Trees.{Trees}
use Rattle.table.specs.Decoding.{Found, found, table_of}
use Rattle.printer.specs.Layout.{page}
use Rattle.printer.specs.Looking.{page_looked}
use Rattle.windows.specs.declared.State.{State}
use Rattle.windows.specs.Machine.{is_fresh}
use Rattle.windows.specs.Filling.{end, Call, fill_of, calls, answer_for, room}
use Rattle.windows.proofs.Joined.{windows_joined, windows_refused}
use Rattle.demands.specs.PrintThenFeed.{TextOf, WindowsThenFeed}
use Rattle.demands.proofs.PrintThenFeed.{text_of}

-- calls on a table that is refused leave the state fresh
refused_calls : (t : List ℕ) (w n a : ℕ) (s : State) → is_fresh s.cursor.phase ≡ true → table_of t ≡ refused n a → (bs : List (List ℕ)) → (calls t w s bs).state ≡ s
unfolding calls
refused_calls t w n a s e f [] = refl
refused_calls t w n a s e f (b ∷ bs) =
    ap (λ (c : Call). (calls t w c.state bs).state) (windows_refused t w n a s b e f) ∙ refused_calls t w n a s e f bs

-- where the end is answered nothing is left
none_left : (o : List ℕ) (j k n : ℕ) → answer_for o j n ≡ ok (end k) → o ≡ []
none_left [] j k n e = refl
none_left (b ∷ o) j k n e = let z : ◌≡◌ {A = ℕ} 0 1 = cc in absurd (omega arith)

pub windows_then_feed : WindowsThenFeed
windows_then_feed t w j s bs b hb h e l = by (table_of t) refl
  where
    by : (y : Result (Found Trees)) → table_of t ≡ y → TextOf t (calls t w s bs).out
    by (refused n a) f =
        let r : (fill_of t w s b).answer ≡ ok (end j) = subst (λ (y : State). (fill_of t w y b).answer ≡ ok (end j)) (refused_calls t w n a s h.fresh f bs) e in
        let g : refused n a ≡ ok (end j) = sym (ap (λ (c : Call). c.answer) (windows_refused t w n a s b h.fresh f)) ∙ r in
        let z : ◌≡◌ {A = ℕ} 0 1 = cc in absurd (omega arith)
    by (ok (found xs q)) f =
        let a = windows_joined t w xs q s hb f h bs in
        let g : drop (room bs) (page xs w) ≡ [] = none_left (drop (room bs) (page xs w)) (page_looked xs w) j (length b) (sym (a.answer b) ∙ e) in
        let k : length (page xs w) ≤ room bs = omega (arith, sym (length-drop (room bs) (page xs w)) ∙ ap length g) in
        let all : (calls t w s bs).out ≡ page xs w = a.joined ∙ take_all (room bs) (page xs w) k in
        subst⁻¹ (TextOf t) all (text_of t xs q w hb f (subst (λ (o : List ℕ). length o ≤ source_limit) all l))
