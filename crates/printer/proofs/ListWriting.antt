-- What is known while a tree is written into a room that may be too short: at each record, and after each item of a list. Assumes nothing.
use mathlib.Core.Path.{◌≡◌, refl, ap, sym, subst, subst⁻¹, ◌∙◌}
use mathlib.Core.Bool.{Bool, true, false}
use mathlib.Core.List.{List, [], ◌∷◌, ◌++◌, append_assoc}
use Prim.Native.Nat.{ℕ, ◌+◌, ◌-◌, ◌≤◌, ◌<◌, min}
use native.Mathlib.Omega.{arith}
use lib.Dec.{eqb}
use lib.ListN.{length, length-append, take, drop}
use borrow.Author.Tests.{ne_eqb}
use borrow.Rule.Slice.PartMut.{put_mid}
use Rattle.refusals.specs.Result.{Result, ok, refused}
use Rattle.table.specs.Kinds.{list_len}
use Rattle.table.specs.Trees.{Tree, Trees, binding, list, none, more}
use Rattle.table.specs.Decoding.{Found, found, items_at, tree_at}
use Rattle.table.proofs.Steps.{Gone, gone_begin, gone_item, gone_stop, gone_end}
use Rattle.printer.specs.Layout.{Wrap, column, named, gap, inner, fits}
use Rattle.printer.specs.PrivateTrees.{Right, tree_of, trees_of, next_of}
use Rattle.lists.specs.Rooms.{Puts}
use Rattle.printer.specs.PrivateWriting.{Written, line, laid}
use Rattle.printer.proofs.CheckedRecords.{Made, right_is, found_end, items_left}
use Rattle.lists.proofs.Rooms.{puts_both}
use Rattle.printer.proofs.ListTexts.{Manner, rest, rest_more, rest_none, broken, laid_fits, laid_list}
use Rattle.printer.proofs.LayoutBounds.{item_column_le}

pub atom_written : (text : Tree → List ℕ) (y : Result (Found Tree)) (x : Tree) (q n : ℕ) (o b b' : List ℕ) → y ≡ ok (found x q) → text x ≡ o → Puts o n b b' → Written text y q n b b'
atom_written text y x q n o b b' ey ex h =
    subst⁻¹ (λ (z : Result (Found Tree)). Written text z q n b b') ey (refl, subst⁻¹ (λ (v : List ℕ). Puts v n b b') ex h)

-- ---- a binding: its tree's text stands behind the name

module _ (text text' : Tree → List ℕ) (nm : List ℕ) (d : ℕ) (y z : Result (Found Tree)) (f : (x : Tree) → text (binding nm x) ≡ named nm ++ text' x)
    (h : Made d (binding nm) tree_of y z) where
  binding_text : text (tree_of y) ≡ named nm ++ text' (tree_of z)
  binding_text = ap (λ (v : Result (Found Tree)). text (tree_of v)) h.is ∙ f (tree_of z)

  pub binding_size : (k : ℕ) → k ≡ length (named nm) → length (text (tree_of y)) ≡ k + length (text' (tree_of z))
  binding_size k e = ap length binding_text ∙ length-append (named nm) (text' (tree_of z)) ∙ omega arith

  pub binding_written : (q k len r : ℕ) (b b₁ ys : List ℕ) → Puts (named nm) k b b₁ → r ≡ min k (length b₁)
      → Written text' z q len (take (length b₁ - r) (drop r b₁)) ys → Written text y q (k + len) b (put_mid r (length b₁ - r) b₁ ys)
  binding_written q k len r b b₁ ys p er g = (
    g.0 ∙ sym (ap next_of h.is),
    subst⁻¹ (λ (v : List ℕ). Puts v (k + len) b (put_mid r (length b₁ - r) b₁ ys)) binding_text
        (puts_both (named nm) (text' (tree_of z)) b b₁ ys k len r p (λ l. omega arith) g.1),
  )

-- ---- a list, in either manner

module _ (t : List ℕ) (at d n : ℕ) (m : Manner) (c : ℕ) where
  -- the n items behind the record at `at`, and the list of them
  abbrev all : Result (Found Trees)
  all = items_at (tree_at t (d - 1)) n (at + list_len)

  abbrev pub whole : List ℕ
  whole = 40 ∷ rest m (trees_of all) true

  -- len bytes o are done, and the items from the i-th on are left; b₀ held the parenthesis, in whatever room e that was
  pub record Filling (b₀ b : List ℕ) (len p i : ℕ) : Type 0 where
    pub gone : Gone (tree_at t (d - 1)) n (at + list_len) i p
    pub o : List ℕ
    pub size : length o ≡ len
    pub some : 0 < len
    pub text : (ys : Trees) → 40 ∷ rest m (gone.pre ys) true ≡ o ++ rest m ys (eqb i 0)
    pub held : (e : List ℕ) → Puts (40 ∷ []) 1 e b₀ → Puts o len e b
    pub right : Right all
    pub within : p ≤ length t
    pub deeper : 0 < d
    pub small : c + length whole ≤ 4294967296
    pub kept : length b ≡ length b₀

  pub filling_begin : (text : Tree → List ℕ) → text (list (trees_of all)) ≡ whole → (b₀ : List ℕ) (len : ℕ) → Made d list trees_of (tree_at t d at) all
      → c + length (text (tree_of (tree_at t d at))) ≤ 4294967296 → at + list_len ≤ length t → len ≡ 1 → Filling b₀ b₀ len (at + list_len) 0
  filling_begin text is b₀ len h s l el =
      rw el
      record {
        gone = gone_begin (tree_at t (d - 1)) n (at + list_len);
        o = 40 ∷ [];
        size = refl;
        some = omega arith;
        text = λ ys. refl;
        held = λ e p. p;
        right = h.right;
        within = l;
        deeper = h.deeper;
        small = subst (λ (v : List ℕ). c + length v ≤ 4294967296) (ap (λ (y : Result (Found Tree)). text (tree_of y)) h.is ∙ is) s;
        kept = refl;
      }

  -- what is done is no more than the whole
  done_le : (k i p : ℕ) (g : Gone (tree_at t (d - 1)) n (at + list_len) i p) → Right all → ((ys : Trees) → k ≤ length (40 ∷ rest m (g.pre ys) true)) → k ≤ length whole
  done_le k i p g r text = items_left g r (λ (xs : Trees). k ≤ length (40 ∷ rest m xs true)) text

module _ {t : List ℕ} {at d n : ℕ} {m : Manner} {c : ℕ} {b₀ b : List ℕ} {len p i : ℕ} (h : Filling t at d n m c b₀ b len p i) where
  abbrev tree : Tree
  tree = tree_of (tree_at t (d - 1) p)

  -- the same at the names that a join of two ways gives
  pub filling_is : (b' : List ℕ) (len' p' : ℕ) → b' ≡ b → len' ≡ len → p' ≡ p → Filling t at d n m c b₀ b' len' p' i
  filling_is b' len' p' eb el ep = rw (eb, el, ep) h

  item_right : i < n → Right (tree_at t (d - 1) p)
  item_right l = by (tree_at t (d - 1) p) refl
    where
      by : (y : Result (Found Tree)) → tree_at t (d - 1) p ≡ y → Right y
      by (ok (found x q)) e = tt
      by (refused a k) e = absurd (subst Right (gone_stop (tree_at t (d - 1)) n (at + list_len) i p h.gone a k l e) h.right)

  -- the item at p, behind what stands before it
  pub record Item : Type 0 where
    pub right : Right (tree_at t (d - 1) p)
    pub low : p < next_of (tree_at t (d - 1) p)
    pub high : next_of (tree_at t (d - 1) p) ≤ length t
    pub room : len + length (m.before (eqb i 0)) + length (m.item (eqb i 0) tree) ≤ length (whole t at d n m c)

  abbrev on : i < n → Gone (tree_at t (d - 1)) n (at + list_len) (i + 1) (next_of (tree_at t (d - 1) p))
  on l = gone_item (tree_at t (d - 1)) n (at + list_len) i p h.gone _ tree l (right_is (tree_at t (d - 1) p) (item_right l))

  more_text : (ys : Trees) → 40 ∷ rest m (h.gone.pre (more tree ys)) true ≡ ((h.o ++ m.before (eqb i 0)) ++ m.item (eqb i 0) tree) ++ rest m ys false
  more_text ys = h.text (more tree ys) ∙ ap (λ (r : List ℕ). h.o ++ r) (rest_more m tree ys (eqb i 0)) ∙ join h.o (m.before (eqb i 0)) (m.item (eqb i 0) tree) (rest m ys false)
    where
      join : (a b c d : List ℕ) → a ++ (b ++ (c ++ d)) ≡ ((a ++ b) ++ c) ++ d
      join a b c d = simp append_assoc

  pub filling_item : i < n → Item
  filling_item l =
      let g = found_end t (d - 1) p h.within (item_right l) in
      let s : List ℕ = m.before (eqb i 0) in
      let x : List ℕ = m.item (eqb i 0) tree in
      let a : length ((h.o ++ s) ++ x) ≡ length (h.o ++ s) + length x = length-append (h.o ++ s) x in
      let a1 : length (h.o ++ s) ≡ length h.o + length s = length-append h.o s in
      record {
        right = item_right l;
        low = g.0;
        high = g.1;
        room = done_le t at d n m c (len + length s + length x) (i + 1) (next_of (tree_at t (d - 1) p)) (on l) h.right
            (λ ys. omega (arith, h.size, a, a1, ap length (more_text ys) ∙ length-append ((h.o ++ s) ++ x) (rest m ys false)));
      }

  -- one item more, behind what stands before it: both were put into the rest of the room
  pub filling_step : i < n → (k r₁ r₂ q il : ℕ) (ys zs b₁ : List ℕ) → r₁ ≡ min len (length b) → Puts (m.before (eqb i 0)) k (take (length b - r₁) (drop r₁ b)) ys
      → b₁ ≡ put_mid r₁ (length b - r₁) b ys → length b₁ ≡ length b → r₂ ≡ min (len + k) (length b₁)
      → Written (m.item (eqb i 0)) (tree_at t (d - 1) p) q il (take (length b₁ - r₂) (drop r₂ b₁)) zs → length (put_mid r₂ (length b₁ - r₂) b₁ zs) ≡ length b₁
      → Filling t at d n m c b₀ (put_mid r₂ (length b₁ - r₂) b₁ zs) (len + k + il) q (i + 1)
  filling_step l k r₁ r₂ q il ys zs b₁ e₁ f₁ eb l₁ e₂ f₂ l₂ =
      let later : eqb (i + 1) 0 ≡ false = ne_eqb (i + 1) 0 (λ e. omega arith) in
      let s : List ℕ = m.before (eqb i 0) in
      let x : List ℕ = m.item (eqb i 0) tree in
      let a : length ((h.o ++ s) ++ x) ≡ length (h.o ++ s) + length x = length-append (h.o ++ s) x in
      let a1 : length (h.o ++ s) ≡ length h.o + length s = length-append h.o s in
      rw f₂.0
      record {
        gone = on l;
        o = (h.o ++ s) ++ x;
        size = omega (arith, h.size, f₁.0, f₂.1.0, a, a1);
        some = omega (arith, h.some);
        text = λ ys. more_text ys ∙ ap (λ (v : Bool). ((h.o ++ s) ++ x) ++ rest m ys v) (sym later);
        held =
            λ e v.
            puts_both (h.o ++ s) x e b₁ zs (len + k) il r₂
            (subst⁻¹ (λ (u : List ℕ). Puts (h.o ++ s) (len + k) e u) eb (puts_both h.o s e b ys len k r₁ (h.held e v) (λ l. omega arith) f₁)) (λ l. omega arith) f₂.1;
        right = h.right;
        within = (filling_item l).high;
        deeper = h.deeper;
        small = h.small;
        kept = l₂ ∙ l₁ ∙ h.kept;
      }

  -- all items are done
  done : n ≤ i → (trees_of (all t at d n m c) ≡ h.gone.pre none) × (next_of (all t at d n m c) ≡ p) × (whole t at d n m c ≡ h.o ++ m.end (eqb n 0))
  done l =
      let e = gone_end (tree_at t (d - 1)) n (at + list_len) i p h.gone l in
      let k : i ≡ n = omega (arith, h.gone.few) in (
        ap trees_of e,
        ap next_of e,
        ap (λ (y : Result (Found Trees)). 40 ∷ rest m (trees_of y) true) e ∙ h.text none ∙ ap (λ (r : List ℕ). h.o ++ r) (rest_none m (eqb i 0)) ∙ ap (λ (j : ℕ). h.o ++ m.end (eqb j 0)) k,
      )

  pub end_size : n ≤ i → (k : ℕ) → k ≡ length (m.end (eqb n 0)) → length (whole t at d n m c) ≡ len + k
  end_size l k e = ap length (done l).2 ∙ length-append h.o (m.end (eqb n 0)) ∙ omega (arith, h.size)

  -- and the parenthesis closes
  pub filling_end : n ≤ i → (text : Tree → List ℕ) (e : List ℕ) → Made d list trees_of (tree_at t d at) (all t at d n m c)
      → text (list (trees_of (all t at d n m c))) ≡ whole t at d n m c → (k : ℕ) → Puts (40 ∷ []) k e b₀ → (cl r : ℕ) (ys : List ℕ) → r ≡ min len (length b)
      → Puts (m.end (eqb n 0)) cl (take (length b - r) (drop r b)) ys → Written text (tree_at t d at) p (len + cl) e (put_mid r (length b - r) b ys)
  filling_end l text e made is k f cl r ys er g =
      let v : text (tree_of (tree_at t d at)) ≡ h.o ++ m.end (eqb n 0) = ap (λ (y : Result (Found Tree)). text (tree_of y)) made.is ∙ is ∙ (done l).2 in (
        sym (ap next_of made.is ∙ (done l).1),
        subst⁻¹ (λ (u : List ℕ). Puts u (len + cl) e (put_mid r (length b - r) b ys)) v
            (puts_both h.o (m.end (eqb n 0)) e b ys len cl r (h.held e (refl, f.1)) (λ l. omega arith) g),
      )

-- ---- a list that is tested

module _ (d : ℕ) (y : Result (Found Tree)) (z : Result (Found Trees)) (w i c : ℕ) (h : Made d list trees_of y z) where
  pub fitting_written : fits w c (tree_of y) ≡ true → (q len : ℕ) (b b' : List ℕ) → Written line y q len b b' → Written (laid w i c) y q len b b'
  fitting_written f q len b b' g =
      let e = laid_fits (trees_of z) w i c (subst (λ (x : Tree). fits w c x ≡ true) (ap tree_of h.is) f) in
      (g.0, subst⁻¹ (λ (x : Tree). Puts (laid w i c x) len b b') (ap tree_of h.is) (subst⁻¹ (λ (o : List ℕ). Puts o len b b') e (subst (λ (x : Tree). Puts (line x) len b b') (ap tree_of h.is) g.1)))

  pub wrapped_text : fits w c (tree_of y) ≡ false → laid w i c (list (trees_of z)) ≡ 40 ∷ rest (broken w i (c + 1)) (trees_of z) true
  wrapped_text f = laid_list (trees_of z) w i c (subst (λ (x : Tree). fits w c x ≡ false) (ap tree_of h.is) f)

-- the item at p of a wrapped list, at the indent j and the column k
module _ (w ind : ℕ) {t : List ℕ} {at d n c : ℕ} {b₀ b : List ℕ} {len p i : ℕ} (h : Filling t at d n (broken w ind (c + 1)) c b₀ b len p i) (l : i < n) (j k : ℕ)
    (ej : j ≡ inner (eqb i 0) Wrap ind) (ek : k ≡ column (gap (eqb i 0) Wrap ind (c + 1))) where
  pub wrapped_ready : k + length (laid w j k (tree_of (tree_at t (d - 1) p))) ≤ 4294967296
  wrapped_ready = rw (ej, ek) (omega (arith, (filling_item h l).room, h.small, h.some, item_column_le (eqb i 0) ind (c + 1)))

  pub wrapped_item : (q il : ℕ) (r r' : List ℕ) → Written (laid w j k) (tree_at t (d - 1) p) q il r r'
      → Written ((broken w ind (c + 1)).item (eqb i 0)) (tree_at t (d - 1) p) q il r r'
  wrapped_item q il r r' g =
      subst (λ (v : ℕ). Written (laid w (inner (eqb i 0) Wrap ind) v) (tree_at t (d - 1) p) q il r r') ek
      (subst (λ (v : ℕ). Written (laid w v k) (tree_at t (d - 1) p) q il r r') ej g)
