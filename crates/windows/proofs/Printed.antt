-- The windows joined are what an ordinary print writes, and what it refuses but for room the first call refuses; a turn on a state that calls come to gives
-- a byte at least, which is why a call's work is in proportion to its bytes. The first assumes that the table's elements are bytes.
use Rattle.std.proofs.Common.{◌≡◌, ℕ, ◌-◌, ◌<◌, Bool, true, false, cond, leb, List, length, take, drop, sym, refl, ap, subst, arith, length-drop, length-take-le, take_at, leb-false}
use mathlib.Core.Path.{subst⁻¹}
use Rattle.refusals.specs.Numbers.{print_room}
use Rattle.refusals.specs.Result.{Result, ok, refused}
use Rattle.lists.specs.Over.{over}
use Rattle.table.specs.Trees.{Trees}
use Rattle.table.specs.Decoding.{Found, found, table_of}
use Rattle.printer.specs.Layout.{page}
use Rattle.printer.specs.Looking.{page_looked}
use Rattle.printer.specs.Printing.{text, answered, leaves, printing, printed_into}
use Rattle.windows.specs.Machine.{State, put_of, next_of}
use Rattle.windows.specs.Filling.{ran, rest, more_given, turn, call, fill_of}
use Rattle.windows.specs.Joined.{Windowed, WindowsPrinted, PrintRefused}
use Rattle.windows.proofs.Joined.{Rests, none_left, some_left, windows_joined, windows_refused}

pub windows_printed : WindowsPrinted
unfolding printing printed_into
windows_printed t w n k b s hb e h bs = by (table_of t) refl e
  where
    by : (y : Result (Found Trees)) → table_of t ≡ y → answered y w (length b) ≡ ok (text n k) → Windowed t w s bs (take n (leaves y w b)) k
    by (refused m a) f g = cc
    by (ok (found xs q)) f g = sized (leb (length (page xs w)) (length b)) g
      where
        sized : (z : Bool) → cond z (ok (text (length (page xs w)) (page_looked xs w))) (refused print_room (length (page xs w))) ≡ ok (text n k)
            → Windowed t w s bs (take n (cond z (over (page xs w) b) b)) k
        sized true r =
            let en : length (page xs w) ≡ n = cc in
            let ek : page_looked xs w ≡ k = cc in
            subst⁻¹ (λ (o : List ℕ). Windowed t w s bs o k) (take_at (page xs w) (drop (length (page xs w)) b) n en) (subst (Windowed t w s bs (page xs w)) ek (windows_joined t w xs q s hb f h bs))
        sized false r = cc

pub print_refused : PrintRefused
unfolding printing
print_refused t w k n a s b h e other = by (table_of t) refl e
  where
    by : (y : Result (Found Trees)) → table_of t ≡ y → answered y w k ≡ refused n a → fill_of t w s b ≡ call (refused n a) s b
    by (refused m c) f g =
        let em : m ≡ n = cc in
        let ec : c ≡ a = cc in
        windows_refused t w n a s b h (rw (sym em, sym ec) f)
    by (ok (found xs q)) f g = sized (leb (length (page xs w)) k) g
      where
        sized : (z : Bool) → cond z (ok (text (length (page xs w)) (page_looked xs w))) (refused print_room (length (page xs w))) ≡ refused n a → fill_of t w s b ≡ call (refused n a) s b
        sized true j = cc
        sized false j = absurd (other cc)

-- where bytes are left, a turn gives one
pub turn_gives : (t : List ℕ) (w total : ℕ) (s : State) (o : List ℕ) (n : ℕ) → Rests t w total s o → 0 < length o → 0 < n → 0 < length (turn t w s n).out
turn_gives t w total s o n (none_left _ _ e u f) l h = absurd (omega (arith, ap length f))
turn_gives t w total s o n (some_left _ _ r e b lt f p) l h = by (leb (length (rest t s)) n) refl
  where
    size : length (rest t s) ≡ length (put_of t s.cursor) - s.cursor.given
    size = length-drop s.cursor.given (put_of t s.cursor)

    by : (z : Bool) → leb (length (rest t s)) n ≡ z → 0 < length (cond z (ran (rest t s) (next_of t w s)) (ran (take n (rest t s)) (more_given s n))).out
    by true k = omega (arith, lt, size)
    by false k = let g = leb-false (length (rest t s)) n k in let z = length-take-le n (rest t s) (omega (arith, g)) in omega (arith, z)
