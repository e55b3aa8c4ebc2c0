-- The machine at a tree's first record puts the layout of the tree, counts the records that the fits test looks at for it, and goes on with the lists that are open.
-- Assumes that the table is within its limit.
use Rattle.std.proofs.Common.{◌≡◌, ℕ, suc, ◌+◌, ◌-◌, ◌%◌, ◌^◌, ◌<◌, ◌≤◌, Bool, true, false, cond, eqb, leb, List, [], ◌∷◌, ◌++◌, length, get_or, set, sym, refl, ap, ◌∙◌, subst, append_assoc, append-nil, zero-add, arith, lit<, length-append, length-set, drop_of_length-le, get_or-set_other, get_or-set_same, le-ltb, lt-ltb, ne_eqb, leb-false, leb-true}
use mathlib.Core.Path.{subst⁻¹}
use borrow.Author.Tests.{lt-leb}
use Rattle.std.specs.Prelude.{Result as CodeResult, Ok}
use Rattle.refusals.specs.Numbers.{table_limit, depth_limit}
use Rattle.refusals.specs.declared.Fault.{Fault}
use Rattle.wide.specs.Bytes.{le, wide_bytes}
use Rattle.wide.specs.Text.{integer_text}
use Rattle.wide.proofs.Numbers.{wide_length}
use Rattle.wide.proofs.Decimals.{integer_low}
use Rattle.records.specs.Records.{head_len, record_of}
use Rattle.records.proofs.Heads.{stood, stood_payload, length_record}
use Rattle.table.specs.Kinds.{symbol_kind, integer_kind, binding_kind, list_kind, integer_len, list_len}
use Rattle.table.specs.Trees.{Tree, Trees, symbol, integer, binding, list, none, more, count, is_symbol, Good, Goods, cost, records, records_of}
use Rattle.table.specs.declared.Record.{Record}
use Rattle.table.specs.declared.Record.TheVariants.{Symbol, Integer, Binding, List as ListOf}
use Rattle.table.specs.Records.{record_at}
use Rattle.lists.proofs.Stands.{Stands, stands_left, stands_right, stands_length}
use Rattle.table.proofs.Costs.{list_size}
use Rattle.table.proofs.Heads.{Sized, good_sized, reads, value_read, some}
use Rattle.printer.specs.Layout.{Wrapping, Wrap, SingleLine, bytes, column, break_column, put, nl, next, named, gap, inner, back, wrapped, fits_in, fits, lay, items, page_from, page}
use Rattle.printer.specs.Looking.{looks, tests, looked, looked_of, page_looked}
use Rattle.printer.specs.Fitting.{tested, fits_at}
use Rattle.printer.proofs.Fits.{fits_stands}
use Rattle.printer.proofs.LayoutBounds.{inner_le}
use Rattle.windows.specs.Machine.{Phase, Node, Sign, Gap, Back, Close, Line, Between, Done, Cursor, State, state, is_done, is_fresh, leaves, broken, single_margin, mode_of, node_put, put_of, close_phase, past, test_for, margin_for, plus, held, held_due, held_margin, opened, node_next, started, next_of}

-- from s the machine puts o, byte after byte, and is then done, with `total` records looked at; of the next put nothing is given yet
pub data Prints (t : List ℕ) (w total : ℕ) : State → List ℕ → Type 0 where
  over : (s : State) (o : List ℕ) → is_done s.cursor.phase ≡ true → s.cursor.looked ≡ total → o ≡ [] → Prints t w total s o
  puts : (s : State) (o r : List ℕ) → is_done s.cursor.phase ≡ false → (is_fresh s.cursor.phase ≡ false) × (s.cursor.given ≡ 0) → 0 < length (put_of t s.cursor)
      → o ≡ put_of t s.cursor ++ r → Prints t w total (next_of t w s) r → Prints t w total s o

-- a cursor of whose next put nothing is given, with j as its count of records looked at
abbrev pub cursor : Phase → ℕ → ℕ → ℕ → ℕ → ℕ → ℕ → ℕ → Cursor
cursor f p k d g l i j = record { phase = f; at = p; depth = k; due = d; margin = g; left = l; indent = i; given = 0; looked = j }

-- a cursor and a state of whose next put nothing is given, after u records were looked at: a cursor's count is cut to 32 bits, so that u needs no bound
abbrev pub cur : Phase → ℕ → ℕ → ℕ → ℕ → ℕ → ℕ → ℕ → Cursor
cur f p k d g l i u = cursor f p k d g l i (u % 2 ^ 32)

abbrev pub st : Phase → ℕ → ℕ → ℕ → ℕ → ℕ → ℕ → ℕ → List ℕ → State
st f p k d g l i u z = state (cur f p k d g l i u) z

-- ---- the stack

-- a stack that holds what another holds of the lowest k lists
pub record Same (k : ℕ) (a b : List ℕ) : Type 0 where
  pub size : depth_limit ≤ length b
  pub at : (j : ℕ) → j < k → get_or a j 0 ≡ get_or b j 0

pub same_refl : (k : ℕ) (a : List ℕ) → depth_limit ≤ length a → Same k a a
same_refl k a e = record { size = e; at = λ j h. refl }

pub same_set : (k : ℕ) (a : List ℕ) (x : ℕ) → depth_limit ≤ length a → Same k a (set a k x)
same_set k a x e = record { size = rw (length-set a k x) e; at = λ j l. sym (get_or-set_other a k j x 0 (λ f. absurd (omega arith))) }

pub same_then : {k : ℕ} {a b c : List ℕ} → Same k a b → Same k b c → Same k a c
same_then h g = record { size = g.size; at = λ j l. h.at j l ∙ g.at j l }

pub same_down : {k : ℕ} {a b : List ℕ} → Same (k + 1) a b → Same k a b
same_down g = record { size = g.size; at = λ j l. g.at j (omega arith) }

-- the two numbers of a word of the stack
pub held_due_lem : (d g : ℕ) → d < 4294967296 → held_due (held d g) ≡ d
held_due_lem d g h = omega arith

pub held_margin_lem : (d g : ℕ) → d < 4294967296 → g < 256 → held_margin (held d g) ≡ g
held_margin_lem d g h l = omega arith

-- at place k the stack holds a list's due and margin
pub record Kept (z : List ℕ) (k d g : ℕ) : Type 0 where
  pub due : held_due (get_or z k 0) ≡ d
  pub margin : held_margin (get_or z k 0) ≡ g

pub kept_set : (z : List ℕ) (k d g : ℕ) → k < length z → d < 4294967296 → g < 256 → Kept (set z k (held d g)) k d g
kept_set z k d g h l m =
    let e : get_or (set z k (held d g)) k 0 ≡ held d g = get_or-set_same z k (held d g) 0 h in
    record { due = ap held_due e ∙ held_due_lem d g l; margin = ap held_margin e ∙ held_margin_lem d g l m }

pub kept_same : (z y : List ℕ) (k d g : ℕ) → Same (k + 1) z y → Kept z k d g → Kept y k d g
kept_same z y k d g s h =
    let e : get_or y k 0 ≡ get_or z k 0 = sym (s.at k (omega arith)) in
    record { due = ap held_due e ∙ h.due; margin = ap held_margin e ∙ h.margin }

-- ---- margins, names and the fits test

-- the margin of a list that is laid in a mode at indent i
abbrev pub margin_at : Wrapping → ℕ → ℕ
margin_at SingleLine i = single_margin
margin_at Wrap i = i

mode_margin : (m : Wrapping) (i : ℕ) → i < single_margin → mode_of (margin_at m i) ≡ m
mode_margin SingleLine i h = refl
mode_margin Wrap i h = rw (ne_eqb i single_margin (λ e. omega arith)) refl

margin_lt : (m : Wrapping) (i : ℕ) → i < single_margin → margin_at m i < 256
margin_lt SingleLine i h = lit< tt
margin_lt Wrap i h = omega arith

some_bytes : (n : List ℕ) → is_symbol n ≡ true → 0 < length n
unfolding is_symbol
some_bytes [] e = cc
some_bytes (b ∷ n) e = omega arith

wrap_single : SingleLine ≡ Wrap → ⊥
wrap_single z = cc

-- what a column leaves of the line leaves that column, or one past the width
left_test : (w c : ℕ) (x : Tree) → tested (fits w (leaves w (leaves w c)) x) (looks w (leaves w (leaves w c))) ≡ tested (fits w c x) (looks w c)
unfolding fits_in looks
left_test w c x = by (leb c w) refl
  where
    past_width : (q : ℕ) → w < q → tested (fits w q x) (looks w q) ≡ tested false 0
    past_width q l = rw (lt-leb q w l) refl

    by : (z : Bool) → leb c w ≡ z → tested (fits w (leaves w (leaves w c)) x) (looks w (leaves w (leaves w c))) ≡ tested (fits w c x) (looks w c)
    by true e = let l = leb-true c w e in let f : leaves w (leaves w c) ≡ c = omega (arith, l) in ap (λ (q : ℕ). tested (fits w q x) (looks w q)) f
    by false e = let l = leb-false c w e in past_width (leaves w (leaves w c)) (omega (arith, l)) ∙ sym (past_width c l)

wrap_back : (m : Wrapping) (w c : ℕ) (x : Tree) → wrapped m w c x ≡ Wrap → m ≡ Wrap
wrap_back SingleLine w c x e = e
wrap_back Wrap w c x e = refl

margin_is : (f : Bool) (ind i : ℕ) → ind ≡ i → margin_for f ind ≡ margin_at (cond f SingleLine Wrap) i
margin_is true ind i e = refl
margin_is false ind i e = e

-- ---- counts

-- b records more
plus_is : (u b : ℕ) → plus (u % 2 ^ 32) b ≡ (b + u) % 2 ^ 32
plus_is u b = omega arith

-- a records more, then b
both_counts : (a b u : ℕ) → a + b + u ≡ b + (a + u)
both_counts a b u = omega arith

module _ (t : List ℕ) (lim : length t ≤ table_limit) (w total : ℕ) where
  -- after a tree that ends before p at column c, whatever the stack holds above the k lists that are open, and at any indent
  abbrev pub After : ℕ → ℕ → ℕ → ℕ → List ℕ → ℕ → ℕ → List ℕ → Type 0
  After k d g u z p c o = (z' : List ℕ) (i : ℕ) → Same k z z' → Prints t w total (state (past (cur Node p k d g (leaves w c) i u) p (leaves w c)) z') o

  -- the same by another sum for the count and the place
  after_at : (k d g c : ℕ) (z o : List ℕ) (u v p q : ℕ) → u ≡ v → p ≡ q → After k d g u z p c o → After k d g v z q c o
  after_at k d g c z o u v p q e f h = subst (λ (j : ℕ). After k d g j z q c o) e (subst (λ (j : ℕ). After k d g u z j c o) f h)

  one : (s s' : State) (a o : List ℕ) → is_done s.cursor.phase ≡ false → (is_fresh s.cursor.phase ≡ false) × (s.cursor.given ≡ 0) → put_of t s.cursor ≡ a
      → 0 < length a → next_of t w s ≡ s' → Prints t w total s' o → Prints t w total s (a ++ o)
  one s s' a o nd g e l en h = puts s (a ++ o) o nd g (rw e l) (rw e refl) (subst⁻¹ (λ (y : State). Prints t w total y o) en h)

  -- the put of a record, and the state after it, by the record that is read
  node : (p k d g l i u : ℕ) (z : List ℕ) (x : CodeResult Record Fault) → x ≡ record_at t p
      → (put_of t (cur Node p k d g l i u) ≡ node_put t p x) × (next_of t w (st Node p k d g l i u z) ≡ node_next t w (st Node p k d g l i u z) x)
  unfolding put_of next_of
  node p k d g l i u z x e = (rw e refl, rw e refl)

  -- an atom: its bytes, and what follows it
  atom : (p k d g c ind u len : ℕ) (z a o : List ℕ) (x : CodeResult Record Fault) → x ≡ record_at t p → node_put t p x ≡ a → 0 < length a
      → node_next t w (st Node p k d g (leaves w c) ind u z) x ≡ state (past (cur Node p k d g (leaves w c) ind u) (p + len) (leaves w c - length a)) z
      → depth_limit ≤ length z → After k d g u z (p + len) (c + length a) o
      → Prints t w total (st Node p k d g (leaves w c) ind u z) (a ++ o)
  atom p k d g c ind u len z a o x ex ea l en ez h =
      let s : State = st Node p k d g (leaves w c) ind u z in
      let n = node p k d g (leaves w c) ind u z x ex in
      let f : leaves w c - length a ≡ leaves w (c + length a) = omega arith in
      one s (state (past s.cursor (p + len) (leaves w (c + length a))) z) a o refl (refl, refl) (n.0 ∙ ea) l
      (n.1 ∙ en ∙ ap (λ (j : ℕ). state (past s.cursor (p + len) j) z) f) (h z ind (same_refl k z ez))

  -- `)`, and what follows the list that it closes: the one around it comes back from the stack
  shut : (p k d g d' g' c ind u : ℕ) (z o : List ℕ) → Kept z k d g → Prints t w total (state (past (cur Node p k d g (leaves w (c + 1)) ind u) p (leaves w (c + 1))) z) o
      → Prints t w total (st Close p (k + 1) d' g' (leaves w c) ind u z) ((41 ∷ []) ++ o)
  unfolding put_of next_of
  shut p k d g d' g' c ind u z o hk h =
      let e : k + 1 - 1 ≡ k = omega arith in
      let f : leaves w c - 1 ≡ leaves w (c + 1) = omega arith in
      one (st Close p (k + 1) d' g' (leaves w c) ind u z) (state (past (cur Node p k d g (leaves w (c + 1)) ind u) p (leaves w (c + 1))) z) (41 ∷ []) o refl (refl, refl) refl
      (omega arith) (rw (e, f, hk.due, hk.margin) refl) h

  -- after an item, with n more of them due
  after_item : (p k l ind u n i : ℕ) (m : Wrapping) (z : List ℕ) → i < single_margin
      → state (past (cur Node p (k + 1) n (margin_at m i) l ind u) p l) z ≡ st (cond (eqb n 0) (close_phase m) Gap) p (k + 1) n (margin_at m i) l ind u z
  after_item p k l ind u n i m z h = rw (ne_eqb (k + 1) 0 (λ y. omega arith), mode_margin m i h) refl

  -- the new line before `)`, where one stands, and `)`
  ended : (p k d g d' ind u i c : ℕ) (m : Wrapping) (z o : List ℕ) → Kept z k d g
      → Prints t w total (state (past (cur Node p k d g (leaves w (column (next (back false m i c) (put (41 ∷ []))))) ind u) p (leaves w (column (next (back false m i c) (put (41 ∷ [])))))) z) o
      → Prints t w total (st (close_phase m) p (k + 1) d' (margin_at m i) (leaves w c) ind u z) (bytes (next (back false m i c) (put (41 ∷ []))) ++ o)
  unfolding put_of next_of
  ended p k d g d' ind u i c SingleLine z o hk h = shut p k d g d' single_margin c ind u z o hk h
  ended p k d g d' ind u i c Wrap z o hk h =
      let q : bytes (nl i) ++ ((41 ∷ []) ++ o) ≡ (bytes (nl i) ++ (41 ∷ [])) ++ o = sym (append_assoc (bytes (nl i)) (41 ∷ []) o) in
      subst (Prints t w total (st Back p (k + 1) d' i (leaves w c) ind u z)) q
      (one (st Back p (k + 1) d' i (leaves w c) ind u z) (st Close p (k + 1) d' i (broken w i) ind u z) (bytes (nl i)) ((41 ∷ []) ++ o) refl (refl, refl)
      refl (omega arith) refl (shut p k d g d' i (break_column i) ind u z o hk h))

  -- the gap before a later item
  gapped : (p k ind u i c n : ℕ) (m : Wrapping) (z o : List ℕ) → i < single_margin
      → ((j : ℕ) → (m ≡ Wrap → j ≡ inner false m i) → Prints t w total (st Node p (k + 1) n (margin_at m i) (leaves w (column (gap false m i c))) j u z) o)
      → Prints t w total (st Gap p (k + 1) (suc n) (margin_at m i) (leaves w c) ind u z) (bytes (gap false m i c) ++ o)
  unfolding put_of next_of
  gapped p k ind u i c n SingleLine z o hi h =
      let f : leaves w c - 1 ≡ leaves w (c + 1) = omega arith in
      let e : suc n - 1 ≡ n = omega arith in
      one (st Gap p (k + 1) (suc n) single_margin (leaves w c) ind u z) (st Node p (k + 1) n single_margin (leaves w (c + 1)) ind u z) (32 ∷ []) o refl (refl, refl)
      refl (omega arith) (rw (f, e) refl) (h ind (λ y. absurd (wrap_single y)))
  gapped p k ind u i c n Wrap z o hi h =
      let e : suc n - 1 ≡ n = omega arith in
      let ne = ne_eqb i single_margin (λ y. omega arith) in
      one (st Gap p (k + 1) (suc n) i (leaves w c) ind u z) (st Node p (k + 1) n i (broken w (i + 1)) (i + 1) u z) (bytes (nl (i + 1))) o refl (refl, refl)
      (rw ne refl) (omega arith) (rw (ne, e) refl) (h (i + 1) (λ y. refl))

  -- the cursor behind the `(` of a list of n items, by its test
  behind : (x : Tree) (n p k d g i ind c u : ℕ) (m : Wrapping) → fits_at t p w (leaves w (leaves w c)) ≡ tested (fits w c x) (looks w c) → (m ≡ Wrap → ind ≡ i)
      → opened (cur Node p k d g (leaves w c) ind u) n (test_for t w (cur Node p k d g (leaves w c) ind u) m)
      ≡ cur (cond (eqb n 0) Close Node) (p + list_len) (k + 1) (n - 1) (margin_at (wrapped m w c x) i) (leaves w c - 1) ind (tests m w c + u)
  behind x n p k d g i ind c u SingleLine e h = rw (plus_is u 0) refl
  behind x n p k d g i ind c u Wrap e h = rw (e, margin_is (fits w c x) ind i (h refl), plus_is u (looks w c)) refl

  -- a list: what is put, and the state behind its `(`
  opened_is : (xs : Trees) (a p k d g i ind c u : ℕ) (m : Wrapping) (z : List ℕ) → Good (list xs) a → p ≤ length t → Stands t p (records (list xs))
      → k < depth_limit → mode_of g ≡ m → (m ≡ Wrap → ind ≡ i)
      → (put_of t (cur Node p k d g (leaves w c) ind u) ≡ 40 ∷ [])
      × (next_of t w (st Node p k d g (leaves w c) ind u z)
      ≡ st (cond (eqb (count xs) 0) Close Node) (p + list_len) (k + 1) (count xs - 1) (margin_at (wrapped m w c (list xs)) i) (leaves w c - 1) ind (tests m w c + u) (set z k (held d g)))
  opened_is xs a p k d g i ind c u m z good hp s hk em hi =
      let sz = good_sized (list xs) a good in
      let n = node p k d g (leaves w c) ind u z (Ok (ListOf (count xs))) (reads (list xs) t p sz hp s) in
      let q : ℕ = leaves w (leaves w c) in
      let b = behind (list xs) (count xs) p k d g i ind c u m (fits_stands t p w q xs lim hp s ∙ left_test w c (list xs)) hi in
      (n.0, n.1 ∙ rw (lt-ltb k depth_limit hk, em, b) refl)

  after_back : (k d g u p c : ℕ) (z y o : List ℕ) → Same k z y → After k d g u z p c o → After k d g u y p c o
  after_back k d g u p c z y o a h x j s = h x j (same_then a s)

  -- a binding's name and ` @ `
  bound : (p k d g ind u c : ℕ) (z n b o : List ℕ) (x : Tree) → Sized (binding n x) → p ≤ length t → Stands t p (records (binding n x)) → 0 < length n
      → Prints t w total (st Node (p + (length n + head_len)) k d g (leaves w (c + length (named n))) ind u z) (b ++ o)
      → Prints t w total (st Node p k d g (leaves w c) ind u z) ((named n ++ b) ++ o)
  unfolding put_of next_of records Sized
  bound p k d g ind u c z n b o x sz hp s l h =
      let len : ℕ = length n + head_len in
      let sg : List ℕ = 32 ∷ 64 ∷ 32 ∷ [] in
      let e : length n + head_len - head_len ≡ length n = omega arith in
      let f : leaves w c - length n - 3 ≡ leaves w (c + length (named n)) = simp length-append (omega arith) in
      let nd = node p k d g (leaves w c) ind u z (Ok (Binding len)) (reads (binding n x) t p sz hp s) in
      let nm = stood_payload t p binding_kind n (stood t p binding_kind n hp (lit< tt) sz.0 (stands_left t p (record_of binding_kind n) (records x) s)) in
      let s1 : State = st Sign (p + len) k d g (leaves w c - length n) ind u z in
      let q : n ++ (sg ++ (b ++ o)) ≡ ((n ++ sg) ++ b) ++ o = sym (append_assoc n sg (b ++ o)) ∙ sym (append_assoc (n ++ sg) b o) in
      subst (Prints t w total (st Node p k d g (leaves w c) ind u z)) q
      (one (st Node p k d g (leaves w c) ind u z) s1 n (sg ++ (b ++ o)) refl (refl, refl) (nd.0 ∙ nm) l
      (nd.1 ∙ ap (λ (j : ℕ). st Sign (p + len) k d g (leaves w c - j) ind u z) e)
      (one s1 (st Node (p + len) k d g (leaves w (c + length (named n))) ind u z) sg (b ++ o) refl (refl, refl) refl (omega arith)
      (ap (λ (j : ℕ). st Node (p + len) k d g j ind u z) f) h))

  mutual
    unfolding lay looked records Good

    -- THE MACHINE AT A TREE: with k lists open, of the innermost of which d items are due at margin g, and a more to be opened; in mode m at indent i and column c, after u records were looked at
    pub tree : (x : Tree) (a p k d g i ind c u : ℕ) (m : Wrapping) (z o : List ℕ) → Good x a → p ≤ length t → Stands t p (records x)
        → k + a ≤ depth_limit → i + a ≤ depth_limit → depth_limit ≤ length z → (d < 4294967296) × (g < 256) → mode_of g ≡ m → (m ≡ Wrap → ind ≡ i)
        → After k d g (looked x m w i c + u) z (p + length (records x)) (column (lay x m w i c)) o
        → Prints t w total (st Node p k d g (leaves w c) ind u z) (bytes (lay x m w i c) ++ o)
    tree (symbol n) a p k d g i ind c u m z o good hp s hk hi ez hd em hin h =
        let e : length n + head_len - head_len ≡ length n = omega arith in
        atom p k d g c ind u (length n + head_len) z n o (Ok (Symbol (length n + head_len))) (reads (symbol n) t p (good_sized (symbol n) a good) hp s)
        (stood_payload t p symbol_kind n (stood t p symbol_kind n hp (lit< tt) good.1 s)) (some_bytes n good.0)
        (ap (λ (j : ℕ). state (past (cur Node p k d g (leaves w c) ind u) (p + (length n + head_len)) (leaves w c - j)) z) e) ez
        (after_at k d g (c + length n) z o _ _ _ _ (zero-add u) (ap (λ (j : ℕ). p + j) (length_record symbol_kind n)) h)
    tree (integer v) a p k d g i ind c u m z o good hp s hk hi ez hd em hin h =
        let r = value_read v t p good hp s in
        let e : length (record_of integer_kind (wide_bytes v)) ≡ integer_len = length_record integer_kind (wide_bytes v) ∙ rw (wide_length v) refl in
        atom p k d g c ind u integer_len z (integer_text v) o (Ok Integer) (reads (integer v) t p (good_sized (integer v) a good) hp s)
        (ap integer_text r) (integer_low v)
        (rw r refl) ez
        (after_at k d g (c + length (integer_text v)) z o _ _ _ _ (zero-add u) (ap (λ (j : ℕ). p + j) e) h)
    tree (binding n x) a p k d g i ind c u m z o good hp s hk hi ez hd em hin h =
        bound p k d g ind u c z n (bytes (lay x m w i (c + length (named n)))) o x (good_sized (binding n x) a good) hp s (some_bytes n good.1)
        (let sz = length_record binding_kind n in
        let q : p + length (record_of binding_kind n) ≡ p + (length n + head_len) = ap (λ (j : ℕ). p + j) sz in
        tree x (a - 1) (p + (length n + head_len)) k d g i ind (c + length (named n)) u m z o good.3
        (rw (sym q) (stands_length t p (record_of binding_kind n) hp (stands_left t p (record_of binding_kind n) (records x) s)))
        (subst (λ (j : ℕ). Stands t j (records x)) q (stands_right t p (record_of binding_kind n) (records x) s)) (omega arith) (omega arith) ez hd em hin
        (subst (λ (j : ℕ). After k d g (looked x m w i (c + length (named n)) + u) z j (column (lay x m w i (c + length (named n)))) o) (simp length-append (omega (arith, sz))) h))
    tree (list xs) a p k d g i ind c u m z o good hp s hk hi ez hd em hin h =
        let n : ℕ = count xs in
        let b = good.0 in
        let op = opened_is xs a p k d g i ind c u m z good hp s (omega (arith, b)) em hin in
        let mm : Wrapping = wrapped m w c (list xs) in
        let f : leaves w c - 1 ≡ leaves w (c + 1) = omega arith in
        let v : ℕ = tests m w c + u in
        let l : ℕ = looked_of xs true mm w i (c + 1) in
        let hd1 : List ℕ = record_of list_kind (le 4 n ++ le 4 (cost (list xs))) in
        let e : p + length hd1 ≡ p + list_len = ap (λ (j : ℕ). p + j) (list_size n (cost (list xs))) in
        let s1 : Stands t (p + list_len) (records_of xs) = subst (λ (j : ℕ). Stands t j (records_of xs)) e (stands_right t p hd1 (records_of xs) s) in
        let hp1 : p + list_len ≤ length t = omega (arith, e, stands_length t p hd1 hp (stands_left t p hd1 (records_of xs) s)) in
        let q : p + length (hd1 ++ records_of xs) ≡ p + list_len + length (records_of xs) = simp length-append (omega (arith, e)) in
        let y : List ℕ = set z k (held d g) in
        let s2 : ℕ → State = λ (j : ℕ). st (cond (eqb n 0) Close Node) (p + list_len) (k + 1) (n - 1) (margin_at mm i) j ind v y in
        let c2 : ℕ = column (items xs true mm w i (c + 1)) in
        let sm : Same k z y = same_set k z (held d g) ez in
        one (st Node p k d g (leaves w c) ind u z) (s2 (leaves w (c + 1))) (40 ∷ []) (bytes (items xs true mm w i (c + 1)) ++ o) refl (refl, refl) op.0 (omega arith)
        (op.1 ∙ ap s2 f)
        (firsts xs (a - 1) (p + list_len) k d g i ind (c + 1) v mm y o good.2 good.1 hp1 s1 (omega (arith, b)) (omega (arith, b)) sm.size
        (kept_set z k d g (omega (arith, b)) hd.0 hd.1) (λ r. hin (wrap_back m w c (list xs) r))
        (after_back k d g (l + v) (p + list_len + length (records_of xs)) c2 z y o sm (after_at k d g c2 z o _ _ _ _ (both_counts (tests m w c) l u) q h)))

    -- behind the `(` of a list, around which d items are due at margin g
    pub firsts : (xs : Trees) (a p k d g i ind c u : ℕ) (m : Wrapping) (z o : List ℕ) → Goods xs a → count xs < 4294967296 → p ≤ length t → Stands t p (records_of xs)
        → k + 1 + a ≤ depth_limit → i + 1 + a ≤ depth_limit → depth_limit ≤ length z → Kept z k d g → (m ≡ Wrap → ind ≡ i)
        → After k d g (looked_of xs true m w i c + u) z (p + length (records_of xs)) (column (items xs true m w i c)) o
        → Prints t w total (st (cond (eqb (count xs) 0) Close Node) p (k + 1) (count xs - 1) (margin_at m i) (leaves w c) ind u z) (bytes (items xs true m w i c) ++ o)
    firsts none a p k d g i ind c u m z o good hn hp s hk hi ez kt hin h =
        let q : p + 0 ≡ p = omega arith in
        shut p k d g 0 (margin_at m i) c ind u z o kt (after_at k d g (c + 1) z o _ _ _ _ (zero-add u) q h z ind (same_refl k z ez))
    firsts (more x xs) a p k d g i ind c u m z o good hn hp s hk hi ez kt hin h =
        let n : ℕ = count xs in
        let g1 : ℕ = margin_at m i in
        let e : suc n - 1 ≡ n = omega arith in
        let sx : Stands t p (records x) = stands_left t p (records x) (records_of xs) s in
        let q : p + length (records x ++ records_of xs) ≡ p + length (records x) + length (records_of xs) = simp length-append (omega arith) in
        let c2 : ℕ = column (lay x m w i c) in
        let bx : List ℕ = bytes (lay x m w i c) in
        let bs : List ℕ = bytes (items xs false m w i c2) in
        let ra : bx ++ (bs ++ o) ≡ (bx ++ bs) ++ o = sym (append_assoc bx bs o) in
        let s0 : State = st Node p (k + 1) n g1 (leaves w c) ind u z in
        let v : ℕ = looked x m w i c + u in
        let l : ℕ = looked_of xs false m w i c2 in
        let cl : After k d g (l + v) z (p + length (records x) + length (records_of xs)) (column (items xs false m w i c2)) o =
        after_at k d g (column (items xs false m w i c2)) z o _ _ _ _ (both_counts (looked x m w i c) l u) q h in
        let is : st (cond (eqb (suc n) 0) Close Node) p (k + 1) (suc n - 1) g1 (leaves w c) ind u z ≡ s0 = rw (ne_eqb (suc n) 0 (λ y. omega arith), e) refl in
        subst⁻¹ (λ (y : State). Prints t w total y ((bx ++ bs) ++ o)) is
        (subst (Prints t w total s0) ra
        (tree x a p (k + 1) n g1 i ind c u m z (bs ++ o) good.0 hp sx hk (omega arith) ez (omega arith, margin_lt m i (omega arith)) (mode_margin m i (omega arith)) hin
        (λ y j sm. later xs a (p + length (records x)) k d g i j c2 v m y o good.1 (omega arith) (stands_length t p (records x) hp sx)
        (stands_right t p (records x) (records_of xs) s) hk hi sm.size (kept_same z y k d g sm kt)
        (after_back k d g (l + v) (p + length (records x) + length (records_of xs)) (column (items xs false m w i c2)) z y o (same_down sm) cl))))

    -- behind an item of a list
    pub later : (xs : Trees) (a p k d g i ind c u : ℕ) (m : Wrapping) (z o : List ℕ) → Goods xs a → count xs < 4294967296 → p ≤ length t → Stands t p (records_of xs)
        → k + 1 + a ≤ depth_limit → i + 1 + a ≤ depth_limit → depth_limit ≤ length z → Kept z k d g
        → After k d g (looked_of xs false m w i c + u) z (p + length (records_of xs)) (column (items xs false m w i c)) o
        → Prints t w total (state (past (cur Node p (k + 1) (count xs) (margin_at m i) (leaves w c) ind u) p (leaves w c)) z) (bytes (items xs false m w i c) ++ o)
    later none a p k d g i ind c u m z o good hn hp s hk hi ez kt h =
        let q : p + 0 ≡ p = omega arith in
        let e : ℕ = column (next (back false m i c) (put (41 ∷ []))) in
        subst⁻¹ (λ (y : State). Prints t w total y (bytes (next (back false m i c) (put (41 ∷ []))) ++ o)) (after_item p k (leaves w c) ind u 0 i m z (omega arith))
        (ended p k d g 0 ind u i c m z o kt (after_at k d g e z o _ _ _ _ (zero-add u) q h z ind (same_refl k z ez)))
    later (more x xs) a p k d g i ind c u m z o good hn hp s hk hi ez kt h =
        let n : ℕ = count xs in
        let g1 : ℕ = margin_at m i in
        let ga : List ℕ = bytes (gap false m i c) in
        let c1 : ℕ = column (gap false m i c) in
        let c2 : ℕ = column (lay x m w (inner false m i) c1) in
        let bx : List ℕ = bytes (lay x m w (inner false m i) c1) in
        let bs : List ℕ = bytes (items xs false m w i c2) in
        let ra : ga ++ (bx ++ (bs ++ o)) ≡ (ga ++ (bx ++ bs)) ++ o =
        ap (λ (r : List ℕ). ga ++ r) (sym (append_assoc bx bs o)) ∙ sym (append_assoc ga (bx ++ bs) o) in
        let v : ℕ = looked x m w (inner false m i) c1 + u in
        let l : ℕ = looked_of xs false m w i c2 in
        let s0 : State = st Gap p (k + 1) (suc n) g1 (leaves w c) ind u z in
        let is : state (past (cur Node p (k + 1) (suc n) g1 (leaves w c) ind u) p (leaves w c)) z ≡ s0 =
        after_item p k (leaves w c) ind u (suc n) i m z (omega arith) ∙ rw (ne_eqb (suc n) 0 (λ y. omega arith)) refl in
        let sx : Stands t p (records x) = stands_left t p (records x) (records_of xs) s in
        let q : p + length (records x ++ records_of xs) ≡ p + length (records x) + length (records_of xs) = simp length-append (omega arith) in
        let cl : After k d g (l + v) z (p + length (records x) + length (records_of xs)) (column (items xs false m w i c2)) o =
        after_at k d g (column (items xs false m w i c2)) z o _ _ _ _ (both_counts (looked x m w (inner false m i) c1) l u) q h in
        subst⁻¹ (λ (y : State). Prints t w total y ((ga ++ (bx ++ bs)) ++ o)) is
        (subst (Prints t w total s0) ra
        (gapped p k ind u i c n m z (bx ++ (bs ++ o)) (omega arith)
        (λ j ej. tree x a p (k + 1) n g1 (inner false m i) j c1 u m z (bs ++ o) good.0 hp sx hk (omega (arith, inner_le false m i)) ez
        (omega arith, margin_lt m i (omega arith)) (mode_margin m i (omega arith)) ej
        (λ y j2 sm. later xs a (p + length (records x)) k d g i j2 c2 v m y o good.1 (omega arith) (stands_length t p (records x) hp sx)
        (stands_right t p (records x) (records_of xs) s) hk hi sm.size (kept_same z y k d g sm kt)
        (after_back k d g (l + v) (p + length (records x) + length (records_of xs)) (column (items xs false m w i c2)) z y o (same_down sm) cl)))))

  -- ---- the trees of a table, one after the other

  -- the LF after a tree, and what follows it
  line : (xs : Trees) (q l j u : ℕ) (z : List ℕ) → Goods xs depth_limit → q ≤ length t → Stands t q (records_of xs) → q + length (records_of xs) ≡ length t
      → depth_limit ≤ length z → (page_looked xs w + u) % 2 ^ 32 ≡ total → Prints t w total (st Line q 0 0 0 l j u z) (10 ∷ page_from true xs w)
  unfolding put_of next_of Good records page_from page_looked
  line none q l j u z good hq s e ez eu =
      one (st Line q 0 0 0 l j u z) (st Done q 0 0 0 l j u z) (10 ∷ []) [] refl (refl, refl) refl (omega arith)
      (rw (le-ltb q (length t) (omega arith)) refl) (over (st Done q 0 0 0 l j u z) [] refl (ap (λ (v : ℕ). v % 2 ^ 32) (sym (zero-add u)) ∙ eu) refl)
  line (more x xs) q l j u z good hq s e ez eu =
      let low = some x in
      let sx : Stands t q (records x) = stands_left t q (records x) (records_of xs) s in
      let sum : length (records x ++ records_of xs) ≡ length (records x) + length (records_of xs) = length-append (records x) (records_of xs) in
      let r : List ℕ = bytes (lay x Wrap w 0 0) ++ (10 ∷ page_from true xs w) in
      one (st Line q 0 0 0 l j u z) (st Between q 0 0 0 l j u z) (10 ∷ []) ((10 ∷ []) ++ r) refl (refl, refl) refl (omega arith)
      (rw (lt-ltb q (length t) (omega (arith, sum, low))) refl)
      (one (st Between q 0 0 0 l j u z) (st Node q 0 0 0 (leaves w 0) 0 u z) (10 ∷ []) r refl (refl, refl) refl (omega arith) refl
      (tree x depth_limit q 0 0 0 0 0 0 u Wrap z (10 ∷ page_from true xs w) good.0 hq sx (omega arith) (omega arith) ez (lit< tt, lit< tt) refl (λ y. refl)
      (λ y i sm. line xs (q + length (records x)) (leaves w (column (lay x Wrap w 0 0))) i (looked x Wrap w 0 0 + u) y good.1 (stands_length t q (records x) hq sx)
      (stands_right t q (records x) (records_of xs) s) (omega (arith, sum)) sm.size
      (ap (λ (v : ℕ). v % 2 ^ 32) (sym (both_counts (looked x Wrap w 0 0) (page_looked xs w) u)) ∙ eu))))

  -- THE MACHINE FROM ITS START PUTS THE PAGE, whatever the stack holds
  pub page_puts : (xs : Trees) (s : State) → Goods xs depth_limit → t ≡ records_of xs → depth_limit ≤ length s.stack → page_looked xs w % 2 ^ 32 ≡ total
      → Prints t w total (started t w s) (page xs w)
  unfolding Good records page_from page_looked
  page_puts none s good e ez eu = over (started t w s) [] (rw e refl) eu refl
  page_puts (more x xs) s good e ez eu =
      let low = some x in
      let h : Stands t 0 (records x ++ records_of xs) =
      e ∙ sym (append-nil (records x ++ records_of xs)) ∙ ap (λ (r : List ℕ). (records x ++ records_of xs) ++ r) (sym (drop_of_length-le t {i = 0 + length (records x ++ records_of xs)} (omega (arith, ap length e)))) in
      let sum : length t ≡ length (records x) + length (records_of xs) = ap length e ∙ length-append (records x) (records_of xs) in
      let sx : Stands t 0 (records x) = stands_left t 0 (records x) (records_of xs) h in
      let b : started t w s ≡ st Node 0 0 0 0 (leaves w 0) 0 0 s.stack = rw (ne_eqb (length t) 0 (λ y. omega (arith, sum, low))) refl in
      subst⁻¹ (λ (y : State). Prints t w total y (bytes (lay x Wrap w 0 0) ++ (10 ∷ page_from true xs w))) b
      (tree x depth_limit 0 0 0 0 0 0 0 0 Wrap s.stack (10 ∷ page_from true xs w) good.0 (omega arith) sx (omega arith) (omega arith) ez (lit< tt, lit< tt) refl (λ y. refl)
      (λ y i sm. line xs (0 + length (records x)) (leaves w (column (lay x Wrap w 0 0))) i (looked x Wrap w 0 0 + 0) y good.1 (omega (arith, sum))
      (stands_right t 0 (records x) (records_of xs) h) (omega (arith, sum)) sm.size (omega (arith, eu))))
