-- `reader::read_items` and `reader::read_tree`: the source bytes left, paired with a phase, fall; the loop over items is one record.
use mathlib.Core.Path.{◌≡◌, refl, sym}
use Prim.Native.Nat.{ℕ, suc, ◌+◌, ◌*◌, ◌-◌, ◌≤◌}
use native.Mathlib.Omega.{arith}
use lib.ListN.{length, length-drop}
use borrow.Author.Rules.{rules}
use borrow.Rule.Slice.PartMut.{same_len_mid}
use Rattle.std.specs.Prelude.{Ok}
use Rattle.std.proofs.lemmas.Result.{err_from_is_err_and}
use Rattle.refusals.specs.Numbers.{source_limit, table_limit}
use Rattle.refusals.specs.Result.{ok}
use Rattle.lexer.specs.Tokens.{symbol, token, is}
use Rattle.lexer.specs.Lexing.{next_token}
use Rattle.lexer.proofs.Starts.{sign_within}
use Rattle.reader.specs.Grammar.{read_tree, read_items}
use Rattle.reader.proofs.Behind.{lent_behind, rest_behind}
use Rattle.reader.proofs.Walk.{Turn, starts, size_top, number_top, turn_small, no_token_turn, no_tree_turn, due_close_turn, due_end_turn, close_turn, end_turn, tree_turn, deep_turn, bind_turn}
use Rattle.reader.proofs.AtHand.{past_small, sign_told, sliced, sliced_small, symbol_hand, int_hand, items_on, no_items_hand, open_hand, items_small, listed_hand}
use Rattle.reader.proofs.Begins.{read_at, read_deep}
use Rattle.reader.proofs.+read_items_read_tree.Goals as goal
use Rattle.reader.proofs.+read_items_read_tree.Goals.{read_items-In-Symbol, read_items-In-Int, read_items-Joined-token, read_items-in-Symbol+then-is_at_sign+else-due-depth, read_items-in-Symbol+else-is_at_sign, read_items-in-Int, read_items-in-LParen+in_ok-list-in-LParen, read_tree-In-Close}

pub read_items-loop-token-init : goal.read_items-loop-token-init
read_items-loop-token-init t c =
    let a = c.args in
    starts a.src.now a.depth (next_token a.src.now a.at) a.room.now (record { place = a.at; gives = refl })

pub read_items-returns-in_err-next_token : goal.read_items-returns-in_err-next_token
read_items-returns-in_err-next_token t c =
    let p = err_from_is_err_and c.from_residual.result c.from_residual.ensures.1 in
    rw (p.1, p.2) (no_token_turn c.loop-token.invariant _ _ (sym c.in_err-next_token.ensures))

pub read_items-returns-in-End : goal.read_items-returns-in-End
read_items-returns-in-End t c =
    let e = rw c.in-End.is at c.in_ok-next_token.ensures in
    rw c.at.ensures (due_end_turn c.loop-token.invariant (sym e) c.if-due-gt0.true)

pub read_items-returns-in-End-2 : goal.read_items-returns-in-End-2
read_items-returns-in-End-2 t c =
    let e = rw c.in-End.is at c.in_ok-next_token.ensures in
    end_turn c.loop-token.invariant (sym e) (omega arith)

pub read_items-returns-in-RParen : goal.read_items-returns-in-RParen
read_items-returns-in-RParen t c =
    let e = rw (c.in-Token.is, c.in-RParen.is) at c.in_ok-next_token.ensures in
    rw c.at-in-RParen.ensures (due_close_turn c.loop-token.invariant _ (sym e) c.if-due-gt0-2.true)

pub read_items-returns-in-RParen-2 : goal.read_items-returns-in-RParen-2
read_items-returns-in-RParen-2 t c =
    let e = rw (c.in-Token.is, c.in-RParen.is) at c.in_ok-next_token.ensures in
    close_turn c.loop-token.invariant _ (sym e) (omega arith)

pub read_items-returns-in-At : goal.read_items-returns-in-At
read_items-returns-in-At t c =
    let e = rw (c.in-Token.is, c.in-At.is) at c.in_ok-next_token.ensures in
    rw c.at-in-At.ensures (no_tree_turn c.loop-token.invariant _ _ (rw (← e) (read_at _ _ _ refl)))

-- the symbol at hand, and where it ends
symbol-at : (t : ℕ) (c : read_items-In-Symbol t) → next_token c.args.src.now c.loop-token.at ≡ ok (is (token symbol c.in-Token.start c.in-Symbol.len))
symbol-at t c = let e = rw (c.in-Token.is, c.in-Symbol.is) at c.in_ok-next_token.ensures in sym e

symbol-ends : (t : ℕ) (c : read_items-In-Symbol t) → (c.in-Token.start + c.in-Symbol.len ≤ length c.args.src.now) × (length c.args.src.now ≤ source_limit)
symbol-ends t c = past_small c.args.src.now (token symbol c.in-Token.start c.in-Symbol.len) (record { place = c.loop-token.at; gives = symbol-at t c })

pub read_items-overflow_add-end : goal.read_items-overflow_add-end
read_items-overflow_add-end t c = let h = symbol-ends t c in omega arith

-- a binding's name
pub read_items-returns-then-due-depth : goal.read_items-returns-then-due-depth
read_items-returns-then-due-depth t c =
    rw c.at-then-due-depth.ensures
    (deep_turn c.loop-token.invariant _ _ (symbol-at t (goal.at.read_items-returns-then-due-depth t c).In-Symbol) _ c.gap_end-next.ensures
    (sign_told _ _ _ _ c.byte_at.ensures c.is_at_sign.ensures c.if-is_at_sign.true) c.if-due-depth.true)

pub read_items-overflow_add-one : goal.read_items-overflow_add-one
read_items-overflow_add-one t c =
    let h = symbol-ends t (goal.at.read_items-overflow_add-one t c).In-Symbol in
    omega (arith, sign_within c.args.src.now _ (sign_told _ _ _ _ c.byte_at.ensures c.is_at_sign.ensures c.if-is_at_sign.true))

pub read_items-overflow_add-one-then-is_at_sign : goal.read_items-overflow_add-one-then-is_at_sign
read_items-overflow_add-one-then-is_at_sign t c = let h = symbol-ends t (goal.at.read_items-overflow_add-one-then-is_at_sign t c).In-Symbol in omega arith

pub read_items-slice_bounds-name-end : goal.read_items-slice_bounds-name-end
read_items-slice_bounds-name-end t c = (symbol-ends t (goal.at.read_items-slice_bounds-name-end t c).In-Symbol).0

pub read_items-name-requires : goal.read_items-name-requires
read_items-name-requires t c =
    let h = symbol-ends t (goal.at.read_items-name-requires t c).In-Symbol in
    (sliced_small c.args.src.now c.in-Token.start c.in-Symbol.len h.0 h.1, size_top c.loop-token.invariant h.1)

-- a symbol
pub read_items-overflow_add-n : goal.read_items-overflow_add-n
read_items-overflow_add-n t c = let h = symbol-ends t (goal.at.read_items-overflow_add-n t c).In-Symbol in omega (arith, number_top c.loop-token.invariant)

pub read_items-overflow_add-one-else-is_at_sign : goal.read_items-overflow_add-one-else-is_at_sign
read_items-overflow_add-one-else-is_at_sign t c = let h = symbol-ends t (goal.at.read_items-overflow_add-one-else-is_at_sign t c).In-Symbol in omega arith

pub read_items-slice_bounds-name-end-else-is_at_sign : goal.read_items-slice_bounds-name-end-else-is_at_sign
read_items-slice_bounds-name-end-else-is_at_sign t c = (symbol-ends t (goal.at.read_items-slice_bounds-name-end-else-is_at_sign t c).In-Symbol).0

pub read_items-name-requires-else-is_at_sign : goal.read_items-name-requires-else-is_at_sign
read_items-name-requires-else-is_at_sign t c =
    let h = symbol-ends t (goal.at.read_items-name-requires-else-is_at_sign t c).In-Symbol in
    (sliced_small c.args.src.now c.in-Token.start c.in-Symbol.len h.0 h.1, size_top c.loop-token.invariant h.1)

-- an integer, and a list
int-ends : (t : ℕ) (c : read_items-In-Int t) → (c.in-Token.start + c.in-Int.len ≤ length c.args.src.now) × (length c.args.src.now ≤ source_limit)
int-ends t c = let e = rw (c.in-Token.is, c.in-Int.is) at c.in_ok-next_token.ensures in past_small c.args.src.now _ (record { place = c.loop-token.at; gives = sym e })

pub read_items-overflow_add-n-in-Int : goal.read_items-overflow_add-n-in-Int
read_items-overflow_add-n-in-Int t c = let h = int-ends t c in omega (arith, number_top c.loop-token.invariant)

pub read_items-overflow_add-one-in-Int : goal.read_items-overflow_add-one-in-Int
read_items-overflow_add-one-in-Int t c = let h = int-ends t (goal.at.read_items-overflow_add-one-in-Int t c).In-Int in omega arith

pub read_items-integer-requires : goal.read_items-integer-requires
read_items-integer-requires t c = size_top c.loop-token.invariant (int-ends t (goal.at.read_items-integer-requires t c).In-Int).1

pub read_items-overflow_add-n-in-LParen : goal.read_items-overflow_add-n-in-LParen
read_items-overflow_add-n-in-LParen t c =
    let e = rw (c.in-Token.is, c.in-LParen.is) at c.in_ok-next_token.ensures in
    let h = past_small c.args.src.now _ (record { place = c.loop-token.at; gives = sym e }) in
    omega (arith, number_top c.loop-token.invariant)

-- a name or a tree was read; a list is read off the call itself, so that code may stand between it and its `?`
turn : (t : ℕ) (c : read_items-Joined-token t)
    → let l = c.loop-token in let m = c.match-token in
    Turn c.args.src.now c.args.depth (read_items (read_tree c.args.src.now c.args.depth) (suc (length c.args.src.now)) (next_token c.args.src.now c.args.at)) (next_token c.args.src.now c.args.at)
    c.args.room.now (next_token c.args.src.now l.at) (next_token c.args.src.now m.one.place) m.due m.n (l.size + m.one.size) (l.cost + m.one.cost) m.room
turn t c =
    let l = c.loop-token in
    let left = length-drop l.size l.room in
    elim c.match-token.branch [
      | read_items-in-Symbol+then-is_at_sign+else-due-depth w ↦
          let e = rw (c.in-Token.is, w.in-Symbol.is) at c.in_ok-next_token.ensures in
          rw (w.one-is, w.room-is, w.due-is, w.n-is)
          (bind_turn l.invariant _ _ (sym e) _ w.gap_end-next.ensures (sign_told _ _ _ _ w.byte_at.ensures w.is_at_sign.ensures w.if-is_at_sign.true)
          _ _ _ (sliced c.args.src.now c.in-Token.start w.in-Symbol.len) w.if-due-depth.false w.name.ensures w.name.auto.room)
      | read_items-in-Symbol+else-is_at_sign w ↦
          let e = rw (c.in-Token.is, w.in-Symbol.is) at c.in_ok-next_token.ensures in
          let h = symbol_hand c.args.src.now (c.args.depth - l.due) _ _ _ _ _ _ _ (sliced c.args.src.now c.in-Token.start w.in-Symbol.len) (record { place = l.at; gives = sym e })
          w.gap_end-next.ensures (sign_told _ _ _ _ w.byte_at.ensures w.is_at_sign.ensures w.if-is_at_sign.false) w.name-else-is_at_sign.ensures.0 left in
          rw (w.one-is, w.room-is, w.due-is, w.n-is) (tree_turn l.invariant _ e _ _ _ h w.name-else-is_at_sign.ensures.1 w.name-else-is_at_sign.auto.room)
      | read_items-in-Int w ↦
          let e = rw (c.in-Token.is, w.in-Int.is) at c.in_ok-next_token.ensures in
          let h = int_hand c.args.src.now (c.args.depth - l.due) _ _ _ _ _ _ w.integer.ensures.0 left in
          rw (w.one-is, w.room-is, w.due-is, w.n-is) (tree_turn l.invariant _ e _ _ _ h w.integer.ensures.1 w.integer.auto.room)
      | read_items-in-LParen+in_ok-list-in-LParen w ↦
          let e = rw (c.in-Token.is, w.in-LParen.is) at c.in_ok-next_token.ensures in
          let r = w.min-rest.result in
          let g : w.read_tree.result ≡ Ok w.in_ok-list-in-LParen.list = search rules in
          let h = rw (rest_behind l.room l.size r w.min-rest.ensures, g) at w.read_tree.ensures in
          rw (w.one-is, w.room-is, w.due-is, w.n-is)
          (tree_turn l.invariant _ e _ _ _ h (lent_behind l.room _ l.size r w.min-rest.ensures) (same_len_mid r (length l.room - r) l.room w.read_tree.new.room w.read_tree.auto.room))
    ]

pub read_items-overflow_add-size : goal.read_items-overflow_add-size
read_items-overflow_add-size t c = let q = turn t (goal.at.read_items-overflow_add-size t c).Joined-token in omega (arith, (turn_small q).0)

pub read_items-overflow_add-cost : goal.read_items-overflow_add-cost
read_items-overflow_add-cost t c = let q = turn t (goal.at.read_items-overflow_add-cost t c).Joined-token in omega (arith, (turn_small q).1)

pub read_items-loop-token-smaller : goal.read_items-loop-token-smaller
read_items-loop-token-smaller t c = let q = turn t (goal.at.read_items-loop-token-smaller t c).Joined-token in omega (arith, q.on, q.top)

pub read_items-loop-token-preserved : goal.read_items-loop-token-preserved
read_items-loop-token-preserved t c = (turn t (goal.at.read_items-loop-token-preserved t c).Joined-token).going

pub read_tree-returns-then-depth-eq0 : goal.read_tree-returns-then-depth-eq0
read_tree-returns-then-depth-eq0 t c = rw c.at.ensures (read_deep _ _ _ refl c.if-depth-eq0.true)

pub read_tree-overflow_add-start : goal.read_tree-overflow_add-start
read_tree-overflow_add-start t c = let h = past_small _ _ c.requires in omega (arith, h.0, h.1)

pub read_tree-read_items-requires : goal.read_tree-read_items-requires
read_tree-read_items-requires t c = let h = items_on c.args.src.now c.args.depth c.args.start c.requires in (omega (arith, h.0, h.1), tt)

pub read_tree-returns-in_err-items : goal.read_tree-returns-in_err-items
read_tree-returns-in_err-items t c =
    let p = err_from_is_err_and c.from_residual.result c.from_residual.ensures.1 in
    rw (p.1, p.2) (no_items_hand c.args.src.now c.args.depth c.args.start c.requires c.if-depth-eq0.false _ _ c.in_err-items.ensures)

-- the items of a list that is closed: their place, their bytes, and what they cost
closed-small : (t : ℕ) (c : read_tree-In-Close t)
    → (c.in-Close.place + 1 ≤ source_limit + 1) × (c.in_ok-items.items.size ≤ table_limit) × (c.in_ok-items.items.n + c.in_ok-items.items.cost ≤ 2 * table_limit)
closed-small t c = items_small c.args.src.now c.args.depth c.args.start c.requires _ _ _ c.in_ok-items.ensures _ c.in-Close.is

pub read_tree-overflow_add-cost : goal.read_tree-overflow_add-cost
read_tree-overflow_add-cost t c = omega (arith, (closed-small t (goal.at.read_tree-overflow_add-cost t c).In-Close).2)

pub read_tree-overflow_add-cost-in-Close : goal.read_tree-overflow_add-cost-in-Close
read_tree-overflow_add-cost-in-Close t c = omega (arith, (closed-small t (goal.at.read_tree-overflow_add-cost-in-Close t c).In-Close).2)

pub read_tree-overflow_add-result : goal.read_tree-overflow_add-result
read_tree-overflow_add-result t c = omega (arith, (closed-small t (goal.at.read_tree-overflow_add-result t c).In-Close).0)

pub read_tree-overflow_add-result-in-Close : goal.read_tree-overflow_add-result-in-Close
read_tree-overflow_add-result-in-Close t c = omega (arith, (closed-small t (goal.at.read_tree-overflow_add-result-in-Close t c).In-Close).1)

pub read_tree-returns-in-End : goal.read_tree-returns-in-End
read_tree-returns-in-End t c =
    rw c.at-in-End.ensures (open_hand c.args.src.now c.args.depth c.args.start c.requires _ _ _ c.in_ok-items.ensures c.if-depth-eq0.false c.in-End.is)

pub read_tree-returns-in-Close : goal.read_tree-returns-in-Close
read_tree-returns-in-Close t c =
    let a = c.args in
    let r = c.min-rest.result in
    listed_hand a.src.now a.depth a.start c.requires _ _ _ c.in_ok-items.ensures _ c.in-Close.is c.if-depth-eq0.false a.room.now _ r _ refl (λ h. omega arith)
    (same_len_mid r (length a.room.now - r) a.room.now c.read_items.new.room c.read_items.auto.room) c.list.ensures refl
