-- The token at hand as a tree: a symbol, an integer, or a list by what its items come to. Assumes nothing.
use Prim.Native.Nat.{ℕ, suc, ◌+◌, ◌*◌, ◌-◌, ◌≤◌, ◌<◌}
use mathlib.Core.Path.{◌≡◌, refl, sym, ap, subst, ◌∙◌}
use mathlib.Core.Bool.{Bool, false}
use mathlib.Core.List.{List, [], ◌++◌, append_assoc, append-nil}
use native.Mathlib.Omega.{arith}
use lib.ListN.{length, get_or, take, drop, length-append, length-drop, drop_of_length-le}
use lib.Seq.{drop_at, drop-drop, length-take-le}
use borrow.Rule.Slice.PartMut.{put_mid}
use Rattle.refusals.specs.Numbers.{source_limit, table_limit, list_open}
use Rattle.refusals.specs.Result.{Result, ok, refused, and_then}
use Rattle.lists.specs.Over.{over, fitted}
use Rattle.lists.proofs.Blocks.{fitted_over}
use Rattle.lists.proofs.Writing.{part_drop, part_length}
use Rattle.classes.specs.Classes.{class_of, is_at_sign}
use Rattle.wide.specs.Bytes.{le, wide_bytes}
use Rattle.wide.specs.Text.{integer_text}
use Rattle.wide.specs.Value.{value}
use Rattle.wide.specs.declared.Wide.{Wide}
use Rattle.wide.proofs.Numbers.{wide_length}
use Rattle.lexer.specs.Tokens.{lparen, symbol, int, Token, token, past, Answer, is}
use Rattle.lexer.specs.Lexing.{next_token}
use Rattle.lexer.specs.Gaps.{gap_end}
use Rattle.lexer.proofs.Skips.{gap_next_lem, gap_other}
use Rattle.lexer.proofs.Within.{Shaped, within, limited}
use Rattle.records.specs.Records.{head_len, record_of}
use Rattle.records.proofs.Heads.{length_record}
use Rattle.table.specs.Kinds.{symbol_kind, integer_kind, list_kind, integer_len, list_len}
use Rattle.table.specs.Trees.{symbol as symbol_tree, integer, list, count, cost, costs, records, records_of}
use Rattle.table.proofs.Costs.{costs_le, list_size, list_records}
use Rattle.reader.specs.Grammar.{name_of, after, got, Many, up_to, to_end, listed, read_items, read_tree}
use Rattle.reader.specs.PrivateWalk.{Lexes, opens, CostTold, TreeIs, StoppedBy, ItemsAre}
use Rattle.reader.specs.declared.Many.{Many as ManyRead}
use Rattle.reader.specs.declared.Stop.{Stop}
use Rattle.reader.specs.declared.Stop.TheVariants as stop
use Rattle.reader.proofs.Derivation.{ManyIs, items_is}
use Rattle.reader.proofs.Bounds.{place, SpansAll, spans_all, name_length, after_lies, past_top, weigh_top}
use Rattle.reader.proofs.Begins.{read_name, read_int, read_list}

-- a token ends in a source that is not too long
pub past_small : (s : List ℕ) (t : Token) → Lexes s (ok (is t)) → (past t ≤ length s) × (length s ≤ source_limit)
past_small s t l = (past_top s t l, limited s l.place t l.gives)

-- the bytes of a symbol, as the code slices them
pub sliced : (s : List ℕ) (p m : ℕ) → take (p + m - p) (drop p s) ≡ name_of s (token symbol p m)
sliced s p m = ap (λ (i : ℕ). take i (drop p s)) (omega arith)

pub sliced_small : (s : List ℕ) (p m : ℕ) → p + m ≤ length s → length s ≤ source_limit → length (take (p + m - p) (drop p s)) ≤ source_limit
sliced_small s p m h l = rw sliced (omega (arith, name_length s (token symbol p m) h))

-- what the code's test for an `@` tells of the byte
pub sign_told : (r v : Bool) (b k : ℕ) → b ≡ k → r ≡ is_at_sign (class_of b) → r ≡ v → is_at_sign (class_of k) ≡ v
sign_told r v b k e f g = sym (ap (λ (n : ℕ). is_at_sign (class_of n)) e) ∙ sym f ∙ g

-- the items were put from the place w on, and then the list's own record in front of them
front : (h e b ys b' : List ℕ) (w : ℕ) → length h ≡ w → w ≤ length b → ys ≡ over e (take (length b - w) (drop w b))
    → b' ≡ over h (put_mid w (length b - w) b ys) → b' ≡ over (h ++ e) b
front h e b ys b' w eh le ey eb =
    let nothing : drop (length b - w) (drop w b) ≡ [] = drop_of_length-le (drop w b) {i = length b - w} (simp length-drop (omega arith)) in
    let tail : drop w (put_mid w (length b - w) b ys) ≡ ys =
    drop_at (take w b) (ys ++ drop (length b - w) (drop w b)) w (length-take-le w b le) ∙ rw nothing (append-nil ys) in
    let ys' : ys ≡ e ++ drop (w + length e) b = ey ∙ rw part_drop (ap (λ (r : List ℕ). e ++ r) (drop-drop (length e) w b)) in
    eb ∙ ap (λ (j : ℕ). h ++ drop j (put_mid w (length b - w) b ys)) eh ∙ ap (λ (r : List ℕ). h ++ r) (tail ∙ ys')
    ∙ simp (append_assoc, length-append, eh)

module _ (s : List ℕ) (d : ℕ) where
  -- a symbol of m bytes k, with no `@` behind the gap after it
  pub symbol_hand : (p m q i r : ℕ) (k b : List ℕ) → k ≡ name_of s (token symbol p m) → Lexes s (ok (is (token symbol p m))) → q ≡ gap_end s (p + m)
      → is_at_sign (class_of (get_or s q 0)) ≡ false → CostTold i (length k) (length k + head_len) r → length b ≡ r
      → TreeIs s (read_tree s d (ok (is (token symbol p m)))) (record { place = q; size = m + head_len; cost = i }) b (fitted (record_of symbol_kind k) b)
  unfolding records cost
  symbol_hand p m q i r k b ek l eq alone h er =
      let short : length k ≡ m = ap length ek ∙ name_length s (token symbol p m) (past_top s (token symbol p m) l) in
      let long : length (record_of symbol_kind k) ≡ length k + head_len = length_record symbol_kind k in
      record {
        tree = symbol_tree k;
        reads = read_name s d (token symbol p m) refl (gap_other s (p + m) (ap (λ (i : ℕ). is_at_sign (class_of (get_or s i 0))) (sym eq) ∙ alone))
            ∙ ap (λ (x : Answer). ok (got (symbol_tree (name_of s (token symbol p m))) x)) (sym (ap (next_token s) eq ∙ gap_next_lem s (p + m)))
            ∙ ap (λ (n : List ℕ). ok (got (symbol_tree n) (next_token s q))) (sym ek);
        size = omega (arith, short, long);
        told = (h.0, λ f. h.1 (omega (arith, long)));
        filled = λ f. fitted_over (record_of symbol_kind k) b f;
      }

  pub int_hand : (w : Wide) (p n i r : ℕ) (b : List ℕ) → CostTold i (length (integer_text (value w))) integer_len r → length b ≡ r
      → TreeIs s (read_tree s d (ok (is (token (int (value w)) p n)))) (record { place = p + n; size = integer_len; cost = i }) b
      (fitted (record_of integer_kind (wide_bytes (value w))) b)
  unfolding records cost
  int_hand w p n i r b h er =
      let long : length (record_of integer_kind (wide_bytes (value w))) ≡ integer_len = length_record integer_kind (wide_bytes (value w)) ∙ omega (arith, wide_length (value w)) in
      record {
        tree = integer (value w);
        reads = read_int s d (token (int (value w)) p n) (value w) refl;
        size = sym long;
        told = (h.0, λ f. h.1 (omega arith));
        filled = λ f. fitted_over (record_of integer_kind (wide_bytes (value w))) b f;
      }

  -- a list whose `(` stands at p
  module _ (p : ℕ) (l : Lexes s (opens p)) where
    abbrev its : Result Many
    its = read_items (read_tree s (d - 1)) (suc (length s)) (next_token s (p + 1))

    pub items_on : (p < place (length s) (next_token s (p + 1))) × (place (length s) (next_token s (p + 1)) ≤ length s)
    items_on = let o = after_lies s (token lparen p 1) l in (omega (arith, o.to), o.top)

    list_hand : (d ≡ 0 → ⊥) → (y : Result Many) → its ≡ y → read_tree s d (opens p) ≡ and_then y (listed s (token lparen p 1))
    list_hand h y g = read_list s d (token lparen p 1) refl h ∙ ap (λ (z : Result Many). and_then z (listed s (token lparen p 1))) g

    pub no_items_hand : (d ≡ 0 → ⊥) → (m q : ℕ) → its ≡ refused m q → read_tree s d (opens p) ≡ refused m q
    no_items_hand h m q g = list_hand h (refused m q) g

    module _ (r : ManyRead) (b₁ ys : List ℕ) (t : ItemsAre its r b₁ ys) where
      abbrev stopped : (st : Stop) → r.stop ≡ st → StoppedBy its t.trees st
      stopped st g = subst (StoppedBy its t.trees) g t.stopped

      pub open_hand : (d ≡ 0 → ⊥) → r.stop ≡ stop.End → read_tree s d (opens p) ≡ refused list_open p
      open_hand h g = list_hand h (ok (to_end t.trees)) (stopped stop.End g)

      module _ (q : ℕ) (g : r.stop ≡ stop.Close q) where
        abbrev u : Token
        u = (stopped (stop.Close q) g).0

        abbrev reads : its ≡ ok (up_to t.trees u)
        reads = (stopped (stop.Close q) g).1

        abbrev stands : q ≡ u.start
        stands = (stopped (stop.Close q) g).2

        items_are : ManyIs s (d - 1) (next_token s (p + 1)) (ok (up_to t.trees u))
        items_are = subst (ManyIs s (d - 1) (next_token s (p + 1))) reads (items_is s (d - 1) (suc (length s)) (next_token s (p + 1)))

        items_span : SpansAll s (next_token s (p + 1)) (ok (is u)) (count t.trees) (length (records_of t.trees))
        items_span = spans_all t.trees s (d - 1) (next_token s (p + 1)) (ok (is u)) (record { place = p + 1; gives = refl }) items_are.0

        pub items_small : (q + 1 ≤ source_limit + 1) × (r.size ≤ table_limit) × (r.n + r.cost ≤ 2 * table_limit)
        items_small =
            let e = items_span.lexes in
            let z = limited s e.place u e.gives in
            let top : r.size ≤ table_limit = omega (arith, t.size, items_span.size, z, weigh_top s (ok (is u)) e) in
            (omega (arith, stands, z, past_top s u e), top, omega (arith, t.number, t.size, t.told.0, costs_le t.trees))

        -- a `)` has one byte
        one_byte : u.size ≡ 1
        one_byte = subst (Shaped s u.start u.size) items_are.1 (within s items_span.lexes.place u items_span.lexes.gives).shaped

        pub listed_hand : (d ≡ 0 → ⊥) → (b b' : List ℕ) (k i : ℕ) → b₁ ≡ take (length b - k) (drop k b) → (list_len ≤ length b → k ≡ list_len)
            → length (put_mid k (length b - k) b ys) ≡ length b → b' ≡ fitted (record_of list_kind (le 4 r.n ++ le 4 i)) (put_mid k (length b - k) b ys) → i ≡ r.n + 1 + r.cost
            → TreeIs s (read_tree s d (opens p)) (record { place = q + 1; size = r.size + list_len; cost = i }) b b'
        unfolding records cost
        listed_hand h b b' k i eb ek el e' ei =
            let xs = t.trees in
            let H : List ℕ = record_of list_kind (le 4 (count xs) ++ le 4 (cost (list xs))) in
            let long : length H ≡ list_len = list_size (count xs) (cost (list xs)) in
            let all : length (H ++ records_of xs) ≡ list_len + length (records_of xs) = list_records xs in
            let there : list_len + length (records_of xs) ≤ length b → k ≡ list_len = λ f. ek (omega arith) in
            let inside : list_len + length (records_of xs) ≤ length b → length (records_of xs) ≤ length b₁ =
            λ f. let ek' : k ≡ list_len = there f in let part : length b₁ ≡ length b - k = ap length eb ∙ part_length k b in omega arith in
            let costly : list_len + length (records_of xs) ≤ length b → i ≡ cost (list xs) =
            λ f. let ev : r.cost ≡ costs xs = t.told.1 (inside f) in omega (arith, t.number) in
            let next : after s u ≡ next_token s (q + 1) = ap (next_token s) (omega (arith, stands, one_byte)) in
            record {
              tree = list xs;
              reads = list_hand h (ok (up_to xs u)) reads ∙ ap (λ (a : Answer). ok (got (list xs) a)) next;
              size = omega (arith, t.size, all);
              told = (omega (arith, t.number, t.told.0), λ big. costly (omega (arith, all)));
              filled = λ big.
                  let fits : list_len + length (records_of xs) ≤ length b = omega (arith, all) in
                  let ek' : k ≡ list_len = there fits in
                  let ey : ys ≡ over (records_of xs) (take (length b - list_len) (drop list_len b)) =
                  t.filled (inside fits) ∙ ap (over (records_of xs)) (eb ∙ ap (λ (j : ℕ). take (length b - j) (drop j b)) ek') in
                  let hb : b' ≡ over H (put_mid list_len (length b - list_len) b ys) =
                  e' ∙ ap (λ (j : ℕ). fitted (record_of list_kind (le 4 j ++ le 4 i)) (put_mid k (length b - k) b ys)) t.number
                  ∙ ap (λ (j : ℕ). fitted (record_of list_kind (le 4 (count xs) ++ le 4 j)) (put_mid k (length b - k) b ys)) (costly fits)
                  ∙ fitted_over H (put_mid k (length b - k) b ys) (omega (arith, long, el, all)) ∙ ap (λ (j : ℕ). over H (put_mid j (length b - j) b ys)) ek' in
                  front H (records_of xs) b ys b' list_len long (omega (arith, all)) ey hb;
            }
