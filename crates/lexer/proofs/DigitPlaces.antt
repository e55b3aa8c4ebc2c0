-- THEOREM digit_named: a literal that is refused for a digit names the first such digit from the left. Assumes nothing.
use Prim.Native.Nat.{ℕ, suc, ◌-◌}
use mathlib.Core.Path.{◌≡◌, refl, sym, ap, subst, ◌∙◌}
use mathlib.Core.List.{List, [], ◌∷◌}
use mathlib.Core.Bool.{Bool, true, false, cond}
use native.Mathlib.Omega.{arith}
use lib.Dec.{eqb}
use Rattle.lists.proofs.Choice.{pick}
use Rattle.refusals.specs.declared.Refusal.{Refusal}
use Rattle.classes.specs.Classes.{literal_byte}
use Rattle.lexer.specs.DigitPlaces.{Unrefused, Named, DigitNamed}
use Rattle.lexer.proofs.Digits.{of_grow}
use Rattle.lexer.specs.Literals.{Reading, Empty, Bad, Number, grow, reading}

-- ---- a digit that is refused is refused at its place

abbrev Placed : ℕ → Reading → Type 0
Placed i Empty = Unit {0}
Placed i (Bad q) = q.place ≡ i
Placed i (Number n) = Unit {0}

placed_kept : (x : Reading) (i : ℕ) → Unrefused x → Placed i x
placed_kept Empty i g = tt
placed_kept (Bad q) i g = absurd g
placed_kept (Number n) i g = tt

placed : (r : ℕ) (x : Reading) (b i : ℕ) → Unrefused x → Placed i (grow r x b i)
placed r x b i g = of_grow (Placed i) i (λ v l. tt) refl refl r x b (placed_kept x i g)

-- ---- and stays refused

stays_grow : (r : ℕ) (q : Refusal) (b i : ℕ) → grow r (Bad q) b i ≡ Bad q
unfolding grow
stays_grow r q b i = pick (λ y. y ≡ Bad q) (eqb b 95) (λ _. refl) (λ _. refl)

stays : (r : ℕ) (q : Refusal) (l : List ℕ) (i : ℕ) → reading r (Bad q) l i ≡ Bad q
unfolding reading
stays r q [] i = refl
stays r q (b ∷ l) i = pick (λ y. y ≡ Bad q) (literal_byte b) (λ _. rw (stays_grow r q b i) (stays r q l (suc i))) (λ _. refl)

-- ---- so the first one is named

abbrev place_of : Reading → ℕ
place_of Empty = 0
place_of (Bad q) = q.place
place_of (Number n) = 0

module _ (r : ℕ) (x : Reading) (b : ℕ) (l : List ℕ) (i : ℕ) (q : Refusal) (f : literal_byte b ≡ true) where
  here : Unrefused x → (p : Refusal) → grow r x b i ≡ Bad p → p.place ≡ i → Bad p ≡ Bad q → Named r x (b ∷ l) i q
  unfolding reading
  here g p e h k =
      let s : p.place ≡ q.place = ap place_of k in
      let z : q.place - i ≡ 0 = omega arith in
      record {
        from = omega arith;
        within = omega arith;
        one = rw z f;
        before = rw z g;
        with = rw (z, f) (e ∙ k);
      }

  later : (y : Reading) → grow r x b i ≡ y → Named r y l (suc i) q → Named r x (b ∷ l) i q
  unfolding reading
  later y e n =
      let z : q.place - i ≡ suc (q.place - suc i) = omega (arith, n.from) in
      record {
        from = omega (arith, n.from);
        within = omega (arith, n.within);
        one = rw z n.one;
        before = rw (z, f, e) n.before;
        with = rw (z, f, e) n.with;
      }

named : (r : ℕ) (x : Reading) (l : List ℕ) (i : ℕ) (q : Refusal) → Unrefused x → reading r x l i ≡ Bad q → Named r x l i q
unfolding reading
named r x [] i q g e = absurd (subst Unrefused e g)
named r x (b ∷ l) i q g e = by (λ y. named r y l (suc i) q) (literal_byte b) refl e
  where
    on : ((y : Reading) → Unrefused y → reading r y l (suc i) ≡ Bad q → Named r y l (suc i) q) → literal_byte b ≡ true
        → (y : Reading) → grow r x b i ≡ y → Placed i y → reading r y l (suc i) ≡ Bad q → Named r x (b ∷ l) i q
    on ih f Empty h p k = later r x b l i q f Empty h (ih Empty tt k)
    on ih f (Number n) h p k = later r x b l i q f (Number n) h (ih (Number n) tt k)
    on ih f (Bad o) h p k = here r x b l i q f g o h p (sym (stays r o l (suc i)) ∙ k)

    by : ((y : Reading) → Unrefused y → reading r y l (suc i) ≡ Bad q → Named r y l (suc i) q) → (t : Bool) → literal_byte b ≡ t
        → cond t (reading r (grow r x b i) l (suc i)) x ≡ Bad q → Named r x (b ∷ l) i q
    by ih true f k = on ih f (grow r x b i) refl (placed r x b i g) k
    by ih false f k = absurd (subst Unrefused k g)

pub digit_named : DigitNamed
digit_named r l i q e = named r Empty l i q tt e
