-- What is printed of trees at any width has exactly their tokens. Assumes nothing.
use mathlib.Core.Path.{◌≡◌, refl, sym, ap, ◌∙◌, subst}
use mathlib.Core.List.{List, [], ◌∷◌, ◌++◌, append_assoc}
use mathlib.Core.Bool.{Bool, true, false}
use Prim.Native.Nat.{ℕ, ◌+◌, ◌*◌, ◌≤◌}
use lib.ListN.{length}
use Rattle.refusals.specs.Numbers.{source_limit}
use Rattle.refusals.specs.Result.{ok}
use Rattle.classes.specs.Classes.{class_of, semicolon}
use Rattle.lexer.specs.Streams.{Series, ends, then, tokens_of}
use Rattle.lexer.specs.BareTokens.{Bare, close_paren, bare_tokens}
use Rattle.table.specs.Trees.{Tree, Trees, symbol, integer, binding, list, none, more, is_symbol, tree_tokens, trees_tokens}
use Rattle.printer.specs.Layout.{Wrapping, Wrap, SingleLine, bytes, column, gap, inner, back, wrapped, named, lay, items, page_from, page}
use Rattle.lists.proofs.Choice.{true_false}
use Rattle.demands.proofs.IntegerTokens.{starts}
use Rattle.demands.proofs.RestTokens.{Sep, space, line, close, Clear, first_byte, Gives, gives_end, gives_symbol, gives_integer, gives_open, gives_close, gives_at, gives_space, gives_line, gives_spaces, source_gives}
use Rattle.demands.proofs.Spellable.{Spellable, Spellables}

regroup : (a b c r : List ℕ) → a ++ (b ++ (c ++ r)) ≡ (a ++ (b ++ c)) ++ r
regroup a b c r = ap (λ (l : List ℕ). a ++ l) (sym (append_assoc b c r)) ∙ sym (append_assoc a (b ++ c) r)

regroup_name : (n b r : List ℕ) → n ++ (32 ∷ 64 ∷ 32 ∷ (b ++ r)) ≡ (named n ++ b) ++ r
regroup_name n b r = sym (append_assoc (named n) b r ∙ append_assoc n (32 ∷ 64 ∷ 32 ∷ []) (b ++ r))

-- ---- how a text begins

clear_name : (n r : List ℕ) → is_symbol n ≡ true → Clear (n ++ r)
clear_name [] r h = unfold is_symbol in true_false (sym h)
clear_name (b ∷ n) r h = ap semicolon (first_byte b n h)

clear_lay : (x : Tree) (m : Wrapping) (w i c : ℕ) (r : List ℕ) → Spellable x → Clear (bytes (lay x m w i c) ++ r)
unfolding Spellable lay
clear_lay (symbol n) m w i c r h = clear_name n r h
clear_lay (integer z) m w i c r h = starts z r h
clear_lay (binding n x) m w i c r h = subst Clear (regroup_name n (bytes (lay x m w i (c + length (named n)))) r) (clear_name n _ h.0)
clear_lay (list xs) m w i c r h = unfold class_of in refl

-- behind `(`: the first item, or `)`
clear_items : (xs : Trees) (m : Wrapping) (w i c : ℕ) (r : List ℕ) → Spellables xs → Clear (bytes (items xs true m w i c) ++ r)
unfolding Spellable items
clear_items none m w i c r h = unfold class_of in refl
clear_items (more x xs) m w i c r h =
    let b = lay x m w i c in
    subst Clear (regroup [] (bytes b) (bytes (items xs false m w i (column b))) r) (clear_lay x m w i c _ h.0)

-- behind an item: a space or LF before the next, LF or nothing before `)`
sep_items : (xs : Trees) (m : Wrapping) (w i c : ℕ) (r : List ℕ) → Sep (bytes (items xs false m w i c) ++ r)
unfolding items
sep_items none SingleLine w i c r = close
sep_items none Wrap w i c r = line
sep_items (more x xs) SingleLine w i c r = space
sep_items (more x xs) Wrap w i c r = line

-- ---- the text of trees, before a rest

module _ (s : List ℕ) (limit : length s ≤ source_limit) where
  gives_gap : (first : Bool) (m : Wrapping) (i c : ℕ) (l : List ℕ) (y : Series Bare) → Gives s y l → Gives s y (bytes (gap first m i c) ++ l)
  gives_gap true m i c l y g = g
  gives_gap false SingleLine i c l y g = gives_space s limit l y g
  gives_gap false Wrap i c l y g = gives_line s limit _ y (gives_spaces s limit (4 * (i + 1)) l y g)

  gives_back : (first : Bool) (m : Wrapping) (i c : ℕ) (l : List ℕ) (y : Series Bare) → Gives s y l → Gives s y (bytes (back first m i c) ++ l)
  gives_back true m i c l y g = g
  gives_back false SingleLine i c l y g = g
  gives_back false Wrap i c l y g = gives_line s limit _ y (gives_spaces s limit (4 * i) l y g)

  mutual
    unfolding Spellable lay tree_tokens

    gives_lay : (x : Tree) → Spellable x → (m : Wrapping) (w i c : ℕ) (y : Series Bare) (r : List ℕ) → Sep r → Gives s y r → Gives s (tree_tokens x y) (bytes (lay x m w i c) ++ r)
    gives_lay (symbol n) h m w i c y r k g = gives_symbol s limit n r y h k g
    gives_lay (integer z) h m w i c y r k g = gives_integer s limit z r y h k g
    gives_lay (binding n x) h m w i c y r k g =
        let b = lay x m w i (c + length (named n)) in
        subst (Gives s (tree_tokens (binding n x) y)) (regroup_name n (bytes b) r)
        (gives_symbol s limit n _ _ h.0 space
        (gives_space s limit _ _ (gives_at s limit _ _ (gives_space s limit _ _ (gives_lay x h.1 m w i (c + length (named n)) y r k g)))))
    gives_lay (list xs) h m w i c y r k g =
        let v : Wrapping = wrapped m w c (list xs) in
        gives_open s limit _ _ (clear_items xs v w i (c + 1) r h) (gives_items xs h true v w i (c + 1) y r g)

    gives_items : (xs : Trees) → Spellables xs → (first : Bool) (m : Wrapping) (w i c : ℕ) (y : Series Bare) (r : List ℕ) → Gives s y r
        → Gives s (trees_tokens xs (then close_paren y)) (bytes (items xs first m w i c) ++ r)
    gives_items none h first m w i c y r g =
        subst (Gives s (then close_paren y)) (sym (append_assoc (bytes (back first m i c)) (41 ∷ []) r)) (gives_back first m i c (41 ∷ r) _ (gives_close s limit r y g))
    gives_items (more x xs) h first m w i c y r g =
        let a = gap first m i c in
        let b = lay x m w (inner first m i) (column a) in
        let e = items xs false m w i (column b) in
        subst (Gives s (trees_tokens (more x xs) (then close_paren y))) (regroup (bytes a) (bytes b) (bytes e) r)
        (gives_gap first m i c _ _
        (gives_lay x h.0 m w (inner first m i) (column a) _ _ (sep_items xs m w i (column b) r) (gives_items xs h.1 false m w i (column b) y r g)))

  gives_page : (later : Bool) (xs : Trees) (w : ℕ) → Spellables xs → Gives s (trees_tokens xs (ends (ok tt))) (page_from later xs w)
  unfolding Spellable page_from tree_tokens
  gives_page later none w h = gives_end s limit
  gives_page true (more x xs) w h = gives_line s limit _ _ (gives_lay x h.0 Wrap w 0 0 _ _ line (gives_line s limit _ _ (gives_page true xs w h.1)))
  gives_page false (more x xs) w h = gives_lay x h.0 Wrap w 0 0 _ _ line (gives_line s limit _ _ (gives_page true xs w h.1))

-- THEOREM printed: the text of trees at any width, if a source may be as long, has exactly the trees' tokens in order, then the end
pub printed : (xs : Trees) (w : ℕ) → Spellables xs → length (page xs w) ≤ source_limit → bare_tokens (page xs w) (tokens_of (page xs w)) ≡ trees_tokens xs (ends (ok tt))
printed xs w h l = source_gives (page xs w) (trees_tokens xs (ends (ok tt))) (gives_page (page xs w) l false xs w h)
