-- The grammar over the tokens of a source (document 01, 'Trees and their table', 'Order'): the trees, or the first refusal.
use Rattle.std.specs.Prelude.{ℕ, zero, suc, Bool, true, false, cond, List, length, take, drop}
use Rattle.refusals.specs.Numbers.{depth_limit, no_list_open, list_open, no_symbol, no_tree, too_deep}
use Rattle.refusals.specs.Result.{Result, ok, refused, and_then}
use Rattle.lexer.specs.Tokens.{Kind, lparen, rparen, at_sign, symbol, int, Token, past, Answer, end, is}
use Rattle.lexer.specs.Lexing.{next_token}
use Rattle.table.specs.Trees.{Tree, Trees, symbol as symbol_tree, integer, binding, list, none, more}

-- the bytes of a symbol, and the token after a token
abbrev pub name_of : List ℕ → Token → List ℕ
name_of s t = take t.size (drop t.start s)

abbrev pub after : List ℕ → Token → Answer
after s t = next_token s (past t)

-- what begins with the token at hand: a tree, and the token after it; a `)`; or the source's end
pub data One : Type 0 where
  got : Tree → Answer → One
  closed : Token → One
  ended : One

-- trees in a row, and what stopped them: a `)`, or the source's end
pub data Many : Type 0 where
  up_to : Trees → Token → Many
  to_end : Trees → Many

abbrev pub cons : Tree → Many → Result Many
cons x (up_to xs t) = ok (up_to (more x xs) t)
cons x (to_end xs) = ok (to_end (more x xs))

-- a tree goes before those that follow it
abbrev pub onward : (Answer → Result Many) → One → Result Many
onward rest (got x a) = and_then (rest a) (cons x)
onward rest (closed t) = ok (up_to none t)
onward rest ended = ok (to_end none)

-- trees in a row from the token at hand, each read by f; fewer than k of them. 0 is the number of no refusal
unfoldable pub read_items : (Answer → Result One) → ℕ → Answer → Result Many
read_items f zero a = refused 0 0
read_items f (suc k) a = and_then (f a) (onward (read_items f k))

-- a list whose `(` is the token t, by its items: open at the end it is refused at its `(`
abbrev pub listed : List ℕ → Token → Many → Result One
listed s t (up_to xs u) = ok (got (list xs) (after s u))
listed s t (to_end xs) = refused list_open t.start

-- a binding of a name, by what follows its `@`: `)` or the end directly after it is refused there
abbrev pub bound : List ℕ → List ℕ → One → Result One
bound s n (got x a) = ok (got (binding n x) a)
bound s n (closed t) = refused no_tree t.start
bound s n ended = refused no_tree (length s)

-- x for an `@`, y for any other kind
abbrev pub if_at : {A : Type 0} → Kind → A → A → A
if_at at_sign x y = x
if_at lparen x y = y
if_at rparen x y = y
if_at symbol x y = y
if_at (int z) x y = y

-- a symbol t by the token after it: an `@` makes it a binding's name, which opens one level more
abbrev pub named : List ℕ → Bool → (Answer → Result One) → Token → Answer → Result One
named s deeper sub t (ok end) = ok (got (symbol_tree (name_of s t)) (ok end))
named s deeper sub t (refused n a) = ok (got (symbol_tree (name_of s t)) (refused n a))
named s deeper sub t (ok (is u)) =
    if_at u.kind (cond deeper (and_then (sub (after s u)) (bound s (name_of s t))) (refused too_deep t.start)) (ok (got (symbol_tree (name_of s t)) (ok (is u))))

-- the tree that the token t begins; `deeper` says if one more list or binding may be open, and `sub` and `items` read one level further in
abbrev pub begun : List ℕ → Bool → (Answer → Result One) → (Answer → Result Many) → Token → Kind → Result One
begun s deeper sub items t lparen = cond deeper (and_then (items (after s t)) (listed s t)) (refused too_deep t.start)
begun s deeper sub items t rparen = ok (closed t)
begun s deeper sub items t at_sign = refused no_symbol t.start
begun s deeper sub items t symbol = named s deeper sub t (after s t)
begun s deeper sub items t (int z) = ok (got (integer z) (after s t))

abbrev pub of_token : List ℕ → Bool → (Answer → Result One) → (Answer → Result Many) → Answer → Result One
of_token s deeper sub items (ok end) = ok ended
of_token s deeper sub items (refused n a) = refused n a
of_token s deeper sub items (ok (is t)) = begun s deeper sub items t t.kind

-- what begins with the token at hand, with d lists and bindings still to be opened
unfoldable pub read_tree : List ℕ → ℕ → Answer → Result One
read_tree s zero a = of_token s false (λ _. ok ended) (λ _. refused 0 0) a
read_tree s (suc d) a = of_token s true (read_tree s d) (read_items (read_tree s d) (suc (length s))) a

-- a file is any number of trees; a `)` with no list open is refused
abbrev pub whole : Many → Result Trees
whole (up_to xs t) = refused no_list_open t.start
whole (to_end xs) = ok xs

-- the trees of a source, or the first refusal in order; a source that is too long is refused by its first token
unfoldable pub file_of : List ℕ → Result Trees
file_of s = and_then (read_items (read_tree s depth_limit) (suc (length s)) (next_token s 0)) whole
