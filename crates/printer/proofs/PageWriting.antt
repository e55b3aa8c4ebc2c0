-- The trees of a table one after the other: what is done of the page, what is left, and the records looked at; and the answer of `print`. Assumes nothing.
use mathlib.Core.Path.{◌≡◌, refl, ap, sym, subst, subst⁻¹, ◌∙◌}
use mathlib.Core.Bool.{Bool, true, false, cond}
use mathlib.Core.List.{List, [], ◌∷◌, ◌++◌, append_assoc, append-nil}
use Prim.Native.Nat.{ℕ, ◌+◌, ◌*◌, ◌-◌, ◌≤◌, ◌<◌, min}
use Rattle.std.specs.Prelude.{Option, Result as CodeResult, Ok, Err}
use Rattle.std.specs.Bool.{then_some}
use Rattle.std.specs.Option.{option_to_list}
use native.Mathlib.Omega.{arith}
use lib.ListN.{length, length-append, take, drop}
use lib.Dec.{ltb, lit≤}
use borrow.Author.Tests.{lt-ltb, ltb-false, le-leb, lt-leb}
use borrow.Rule.Slice.PartMut.{put_mid}
use Rattle.refusals.specs.Numbers.{table_limit, depth_limit, too_long, print_room}
use Rattle.refusals.specs.Result.{Result, ok, refused}
use Rattle.wide.specs.Bytes.{Bytes}
use Rattle.refusals.specs.declared.Refusal.{Refusal}
use Rattle.table.specs.Trees.{Tree, Trees, none, more, records}
use Rattle.table.specs.Costs.{costed, costed_all}
use Rattle.table.specs.Decoding.{Found, found, and_then, tree_at, trees_at, shape_of, table_of}
use Rattle.printer.specs.Layout.{Wrap, page_from, page}
use Rattle.printer.specs.Looking.{page_looked}
use Rattle.printer.specs.Printing.{text, printing, printed_into, print_of}
use Rattle.printer.specs.PrivateTrees.{Right, tree_of, trees_of, next_of}
use Rattle.lists.specs.Rooms.{Filled, Puts}
use Rattle.printer.specs.PrivateWriting.{Written, laid, seen, framed}
use Rattle.printer.specs.PrivateMeasuring.{Summed}
use Rattle.printer.specs.declared.Text.{Text}
use Rattle.table.proofs.Costs.{both_right}
use Rattle.table.proofs.Spans.{tree_span}
use Rattle.table.proofs.Whole.{accepted_shape}
use Rattle.table.proofs.Steps.{Read, read_begin, read_tree_lem, read_stop, read_end}
use Rattle.lists.proofs.Rooms.{puts_both}
use Rattle.printer.proofs.LayoutBounds.{right_len}
use Rattle.printer.proofs.LookedBound.{right_looked}

-- ---- one tree with what stands around it

-- the LF between two trees
abbrev between : Bool → List ℕ
between later = cond later (10 ∷ []) []

between_le : (later : Bool) → length (between later) ≤ 1
between_le true = omega arith
between_le false = omega arith

framed_le : (later : Bool) (w : ℕ) (x : Tree) → length (framed later w x) ≤ length (laid w 0 0 x) + 2
framed_le later w x =
    let s = length-append (between later) (laid w 0 0 x ++ (10 ∷ [])) in
    let r = length-append (laid w 0 0 x) (10 ∷ []) in
    omega (arith, between_le later)

-- the LF that the code puts before a tree at `at`
first : (at : ℕ) (f : Option ℕ) → f ≡ then_some (ltb 0 at) 10 → option_to_list f ≡ between (ltb 0 at)
first at f e = rw e (by (ltb 0 at))
  where
    by : (b : Bool) → option_to_list (then_some b 10) ≡ between b
    by true = refl
    by false = refl

pub first_le : (at n : ℕ) (f : Option ℕ) → f ≡ then_some (ltb 0 at) 10 → n ≡ length (option_to_list f) → n ≤ 1
first_le at n f e en = omega (arith, ap length (first at f e), between_le (ltb 0 at))

-- the three parts were put into the rest of the room, one after the other
pub node_out : (at w a l k q r₁ r₂ : ℕ) (f : Option ℕ) (y : Result (Found Tree)) (b b₁ b₂ ys zs : List ℕ) → f ≡ then_some (ltb 0 at) 10 → Puts (option_to_list f) a b b₁ → r₁ ≡ min a (length b₁)
    → Written (laid w 0 0) y q l (take (length b₁ - r₁) (drop r₁ b₁)) ys → b₂ ≡ put_mid r₁ (length b₁ - r₁) b₁ ys
    → r₂ ≡ min (a + l) (length b₂) → Puts (10 ∷ []) k (take (length b₂ - r₂) (drop r₂ b₂)) zs
    → Written (framed (ltb 0 at) w) y q (a + l + k) b (put_mid r₂ (length b₂ - r₂) b₂ zs)
node_out at w a l k q r₁ r₂ f y b b₁ b₂ ys zs ef fa e₁ fl eb e₂ fk =
    let o : List ℕ = between (ltb 0 at) in
    let x : List ℕ = laid w 0 0 (tree_of y) in
    let fa' : Puts o a b b₁ = subst (λ (v : List ℕ). Puts v a b b₁) (first at f ef) fa in
    let two = subst⁻¹ (λ (u : List ℕ). Puts (o ++ x) (a + l) b u) eb (puts_both o x b b₁ ys a l r₁ fa' (λ l. omega arith) fl.1) in
    (fl.0, subst (λ (v : List ℕ). Puts v (a + l + k) b (put_mid r₂ (length b₂ - r₂) b₂ zs)) (append_assoc o x (10 ∷ [])) (puts_both (o ++ x) (10 ∷ []) b b₂ zs (a + l) k r₂ two (λ l. omega arith) fk))

-- ---- of the page the bytes o are done, for which k records were looked at, and the trees from p are left

pub record Paging (t : List ℕ) (w : ℕ) (o : List ℕ) (k p : ℕ) : Type 0 where
  pub read : Read t p
  pub left : (ys : Trees) → page (read.pre ys) w ≡ o ++ page_from (ltb 0 p) ys w
  pub counted : (ys : Trees) → page_looked (read.pre ys) w ≡ k + page_looked ys w
  pub costs : (ys : Trees) → costed_all t (read.pre ys) 0 ≡ ok tt → costed_all t ys p ≡ ok tt

more_page : (later : Bool) (x : Tree) (xs : Trees) (w : ℕ) → page_from later (more x xs) w ≡ between later ++ (laid w 0 0 x ++ (10 ∷ page_from true xs w))
unfolding page_from
more_page later x xs w = refl

more_looked : (x : Tree) (xs : Trees) (w : ℕ) → page_looked (more x xs) w ≡ seen w 0 0 x + page_looked xs w
unfolding page_looked
more_looked x xs w = refl

-- the bytes of the tree at p
abbrev pub node : List ℕ → ℕ → ℕ → List ℕ
node t w p = framed (ltb 0 p) w (tree_of (tree_at t depth_limit p))

-- a table that is right has a shape, and right costs
record Shaped (t : List ℕ) : Type 0 where
  same : table_of t ≡ shape_of t
  right : Right (shape_of t)
  costs : costed_all t (trees_of (shape_of t)) 0 ≡ ok tt

shaped : (t : List ℕ) → Right (table_of t) → Shaped t
shaped t r = by (table_of t) refl r
  where
    by : (y : Result (Found Trees)) → table_of t ≡ y → Right y → Shaped t
    by (ok (found xs q)) e r = let a = accepted_shape t xs q e in record { same = e ∙ sym a.0; right = rw a.0 tt; costs = rw a.0 a.1 }
    by (refused n a) e r = absurd r

-- what holds of the trees done before any others holds of all
all_left : (t : List ℕ) (p : ℕ) (g : Read t p) → Right (shape_of t) → (P : Trees → Type 0) → ((ys : Trees) → P (g.pre ys)) → P (trees_of (shape_of t))
all_left t p g r P h = by (trees_at t g.k p) g.whole
  where
    by : (y : Result (Found Trees)) → shape_of t ≡ and_then y (λ ys q. ok (found (g.pre ys) q)) → P (trees_of (shape_of t))
    by (ok (found ys q)) e = rw e (h ys)
    by (refused b a) e = absurd (subst Right e r)

-- the tree at p is right
abbrev Here : List ℕ → ℕ → Result (Found Tree) → Type 0
Here t p y = Right y × (costed t (tree_of y) p ≡ ok tt)

paging_step : (t : List ℕ) (w : ℕ) (o : List ℕ) (k p : ℕ) → Paging t w o k p → p < length t → Right (table_of t)
    → Here t p (tree_at t depth_limit p) × Paging t w (o ++ node t w p) (k + seen w 0 0 (tree_of (tree_at t depth_limit p))) (next_of (tree_at t depth_limit p))
unfolding costed
paging_step t w o k p g l r = by (tree_at t depth_limit p) refl
  where
    join : (a b c d : List ℕ) → a ++ (b ++ (c ++ (10 ∷ d))) ≡ (a ++ (b ++ (c ++ (10 ∷ [])))) ++ d
    join a b c d = simp append_assoc

    by : (y : Result (Found Tree)) → tree_at t depth_limit p ≡ y → Here t p y × Paging t w (o ++ framed (ltb 0 p) w (tree_of y)) (k + seen w 0 0 (tree_of y)) (next_of y)
    by (refused n a) e = absurd (subst Right (read_stop t p g.read n a l e) r)
    by (ok (found x q)) e =
        let n = read_tree_lem t p g.read q x l e in
        let z = shaped t r in
        let both : (ys : Trees) → costed_all t (n.rest.pre ys) 0 ≡ ok tt → (costed t x p ≡ ok tt) × (costed_all t ys (p + length (records x)) ≡ ok tt) =
        λ ys f.
        both_right (costed t x p) (λ _. costed_all t ys (p + length (records x))) (g.costs (more x ys) (subst (λ (xs : Trees). costed_all t xs 0 ≡ ok tt) (n.pre_is ys) f)) in (
          (tt, all_left t q n.rest z.right (λ (xs : Trees). costed_all t xs 0 ≡ ok tt → costed t x p ≡ ok tt) (λ ys f. (both ys f).0) z.costs),
          record {
            read = n.rest;
            left =
                λ ys.
                ap (λ (xs : Trees). page xs w) (n.pre_is ys) ∙ g.left (more x ys) ∙ ap (λ (s : List ℕ). o ++ s) (more_page (ltb 0 p) x ys w)
                ∙ join o (between (ltb 0 p)) (laid w 0 0 x) (page_from true ys w)
                ∙ ap (λ (b : Bool). (o ++ framed (ltb 0 p) w x) ++ page_from b ys w) (sym (lt-ltb 0 q (omega (arith, n.past))));
            counted = λ ys. ap (λ (xs : Trees). page_looked xs w) (n.pre_is ys) ∙ g.counted (more x ys) ∙ omega (arith, more_looked x ys w);
            costs = λ ys f. subst⁻¹ (λ (j : ℕ). costed_all t ys j ≡ ok tt) (tree_span t depth_limit p q x g.read.within e).0 (both ys f).1;
          },
        )

paging_end : (t : List ℕ) (w : ℕ) (o : List ℕ) (k p : ℕ) → Paging t w o k p → Right (table_of t) → length t ≤ p
    → (page (trees_of (table_of t)) w ≡ o) × (page_looked (trees_of (table_of t)) w ≡ k)
unfolding page_from page_looked
paging_end t w o k p g r l =
    let e = (shaped t r).same ∙ read_end t p g.read l in (
      ap (λ (y : Result (Found Trees)). page (trees_of y) w) e ∙ g.left none ∙ append-nil o,
      ap (λ (y : Result (Found Trees)). page_looked (trees_of y) w) e ∙ g.counted none ∙ omega arith,
    )

-- n bytes are done
pub record Pages (t : List ℕ) (w : ℕ) (b₀ b : List ℕ) (n k p : ℕ) : Type 0 where
  pub o : List ℕ
  pub paging : Paging t w o k p
  pub right : Right (table_of t)
  pub held : Puts o n b₀ b
  pub small : n ≤ 128 * p
  pub few : k ≤ p
  pub kept : length b ≡ length b₀

short : (t : List ℕ) → Right (table_of t) → length t ≤ table_limit
unfolding shape_of
short t r = by (ltb table_limit (length t)) refl (shaped t r).right
  where
    by : (b : Bool) → ltb table_limit (length t) ≡ b → Right (cond b (refused too_long table_limit) (trees_at t (length t + 1) 0)) → length t ≤ table_limit
    by true e k = absurd k
    by false e k = ltb-false table_limit (length t) e

pub pages_begin : (t : List ℕ) (w : ℕ) (b : List ℕ) → Right (table_of t) → Pages t w b b 0 0 0
pages_begin t w b r = record {
  o = [];
  paging = record { read = read_begin t (short t r); left = λ ys. refl; counted = λ ys. omega arith; costs = λ ys e. e };
  right = r;
  held = (refl, λ l. refl);
  small = omega arith;
  few = omega arith;
  kept = refl;
}

module _ {t : List ℕ} {w : ℕ} {b₀ b : List ℕ} {n k p : ℕ} (h : Pages t w b₀ b n k p) where
  step : p < length t
      → Here t p (tree_at t depth_limit p) × Paging t w (h.o ++ node t w p) (k + seen w 0 0 (tree_of (tree_at t depth_limit p))) (next_of (tree_at t depth_limit p))
  step l = paging_step t w h.o k p h.paging l h.right

  pub pages_within : p ≤ length t
  pages_within = h.paging.read.within

  pub pages_limit : length t ≤ table_limit
  pages_limit = h.paging.read.limit

  pub pages_tree : p < length t → Right (tree_at t depth_limit p)
  pages_tree l = (step l).0.0

  pub pages_cost : p < length t → costed t (tree_of (tree_at t depth_limit p)) p ≡ ok tt
  pages_cost l = (step l).0.1

  pub pages_bound : Bytes t → p < length t → (length (laid w 0 0 (tree_of (tree_at t depth_limit p))) + 300 ≤ 128 * (next_of (tree_at t depth_limit p) - p)) × (p < next_of (tree_at t depth_limit p))
      × (next_of (tree_at t depth_limit p) ≤ length t)
  pages_bound hb l = right_len t depth_limit p Wrap w 0 0 hb pages_within (lit≤ tt) (pages_tree l)

  pub pages_step : Bytes t → p < length t → (q l x r : ℕ) (ys : List ℕ) → Written (framed (ltb 0 p) w) (tree_at t depth_limit p) q l (take (length b - r) (drop r b)) ys
      × (x ≡ seen w 0 0 (tree_of (tree_at t depth_limit p)))
      → r ≡ min n (length b) → length (put_mid r (length b - r) b ys) ≡ length b
      → Pages t w b₀ (put_mid r (length b - r) b ys) (n + l) (k + x) q
  pages_step hb lt q l x r ys g er lk =
      let f = g.0 in
      let s = pages_bound hb lt in
      let m = right_looked t depth_limit p w 0 0 pages_within (pages_tree lt) in
      let z = framed_le (ltb 0 p) w (tree_of (tree_at t depth_limit p)) in
      record {
        o = h.o ++ node t w p;
        paging = subst⁻¹ (λ (v : ℕ). Paging t w (h.o ++ node t w p) (k + x) v) f.0 (subst⁻¹ (λ (v : ℕ). Paging t w (h.o ++ node t w p) (k + v) (next_of (tree_at t depth_limit p))) g.1 (step lt).1);
        right = h.right;
        held = puts_both h.o (node t w p) b₀ b ys n l r h.held (λ l. omega arith) f.1;
        small = omega (arith, s.0, s.1, h.small, f.0, f.1.0, z);
        few = omega (arith, s.1, h.few, f.0, g.1, m);
        kept = lk ∙ h.kept;
      }

  pub pages_end : length t ≤ p → Filled (page (trees_of (table_of t)) w) b₀ b × (k ≡ page_looked (trees_of (table_of t)) w)
  pages_end l = let e = paging_end t w h.o k p h.paging h.right l in (subst⁻¹ (λ (o : List ℕ). Filled o b₀ b) e.0 h.held.1, sym e.1)

-- ---- the answer

abbrev Answer : List ℕ → ℕ → List ℕ → List ℕ → CodeResult Text Refusal → Type 0
Answer t w b b' r = (print_of r ≡ printing t w (length b)) × (b' ≡ printed_into t w b)

pub print_right : (y : Result (Found Trees)) (w n : ℕ) → Summed y w (Ok n) → Right y × (n ≡ length (page (trees_of y) w))
print_right (ok (found xs q)) w n s = (tt, s)
print_right (refused m a) w n s = absurd s

refused_of : (y : Result (Found Trees)) (w : ℕ) (r : Refusal) → Summed y w (Err r) → y ≡ refused r.number r.place
refused_of (ok (found xs q)) w r s = absurd s
refused_of (refused n a) w r s = rw (s.0, s.1) refl

pub print_no : (t : List ℕ) (w : ℕ) (b : List ℕ) (r : Refusal) → Summed (table_of t) w (Err r) → Answer t w b b (Err r)
unfolding printing printed_into
print_no t w b r s = rw (refused_of (table_of t) w r s) (refl, refl)

module _ (t : List ℕ) (n w : ℕ) (b : List ℕ) (s : Summed (table_of t) w (Ok n)) where
  short_of : (y : Result (Found Trees)) → Summed y w (Ok n) → table_of t ≡ y → length b < n → Answer t w b b (Err (record { number = print_room; place = n }))
  unfolding printing printed_into
  short_of (refused m c) f ey l = absurd f
  short_of (ok (found xs q)) f ey l = rw (ey, lt-leb (length (page xs w)) (length b) (omega arith)) (ap (refused print_room) f, refl)

  pub print_short : length b < n → (r : Refusal) → r ≡ record { number = print_room; place = n } → Answer t w b b (Err r)
  print_short l r e = rw e (short_of (table_of t) s refl l)

  text_of : (y : Result (Found Trees)) → Summed y w (Ok n) → table_of t ≡ y → n ≤ length b → (b' : List ℕ) (k : ℕ)
      → Filled (page (trees_of y) w) b b' × (k ≡ page_looked (trees_of y) w) → Answer t w b b' (Ok (record { len = n; looked = k }))
  unfolding printing printed_into
  text_of (refused m c) f ey l b' k g = absurd f
  text_of (ok (found xs q)) f ey l b' k g =
      let h : length (page xs w) ≤ length b = omega arith in
      rw (ey, le-leb (length (page xs w)) (length b) h) (ap (λ (j : ℕ). ok (text j k)) f ∙ ap (λ (j : ℕ). ok (text (length (page xs w)) j)) g.1, g.0 h)

  pub print_text : n ≤ length b → (b' : List ℕ) (k : ℕ) → Filled (page (trees_of (table_of t)) w) b b' × (k ≡ page_looked (trees_of (table_of t)) w)
      → Answer t w b b' (Ok (record { len = n; looked = k }))
  print_text l b' k g = text_of (table_of t) s refl l b' k g
