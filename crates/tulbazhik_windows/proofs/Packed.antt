-- A cursor whose numbers fit their types comes back from its words; so does every answer. Assumes nothing.
use mathlib.Core.Path.{◌≡◌, refl, sym, ap, ◌∙◌}
use mathlib.Core.Bool.{cond}
use mathlib.Core.List.{List, [], ◌∷◌, append_assoc}
use Prim.Native.Nat.{ℕ, zero, suc, ◌+◌, ◌*◌, ◌/◌, ◌%◌, ◌≤◌, ◌<◌}
use native.Mathlib.Omega.{arith}
use lib.Dec.{eqb}
use lib.ListN.{length, length-set, get_or, set}
use lib.Seq.{sets, drop-drop, get_or-set_same, get_or-set_other}
use borrow.Rule.Slice.PartMut.{put_mid}
use Rattle.std.proofs.lemmas.List.Edits.{sets-eq}
use Rattle.refusals.specs.Result.{ok, refused}
use Rattle.words.specs.Words.{end_answer, refused_answer}
use Rattle.windows.specs.declared.Phase.{Phase}
use Rattle.windows.specs.declared.Phase.TheVariants.{Fresh, Node, Sign, Gap, Back, Close, Line, Between, Done}
use Rattle.windows.specs.declared.Cursor.{Cursor}
use Rattle.windows.specs.Filling.{part, end, Answer}
use Rattle.tulbazhik_windows.specs.States.{cursor_words, stored, part_words, phase_word, phase_in, cursor_in}

-- words stored from a place on: what lies below it stays, and they are read there
pub sets_below : (xs w : List ℕ) (i j : ℕ) → j < i → get_or (sets w i xs) j 0 ≡ get_or w j 0
sets_below [] w i j h = refl
sets_below (x ∷ xs) w i j h = sets_below xs (set w i x) (suc i) j (omega arith) ∙ get_or-set_other w i j x 0 (λ e. omega arith)

sets_at : (xs w : List ℕ) (i k : ℕ) → k < length xs → i + length xs ≤ length w → get_or (sets w i xs) (i + k) 0 ≡ get_or xs k 0
sets_at [] w i k h r = omega arith
sets_at (x ∷ xs) w i zero h r =
    let e : i + 0 ≡ i = omega arith in
    rw e (sets_below xs (set w i x) (suc i) i (omega arith) ∙ get_or-set_same w i x 0 (omega arith))
sets_at (x ∷ xs) w i (suc k) h r =
    let e : i + suc k ≡ suc i + k = omega arith in
    rw e (sets_at xs (set w i x) (suc i) k (omega arith) (omega (arith, length-set w i x)))

-- the items due are 32 bits, the margin and the indent a byte
abbrev pub Fits : Cursor → Type 0
Fits c = (c.due < 4294967296) × (c.margin < 256) × (c.indent < 256) × (c.looked < 4294967296)

-- the words as the code stores them, all at once
pub stored_at : (c : Cursor) (w ys : List ℕ) → length w ≡ 72 → ys ≡ cursor_words c → put_mid 64 8 w ys ≡ stored c w
unfolding stored
stored_at c w ys l e = rw (e, sets-eq (cursor_words c) w 64 (omega arith), append_assoc, drop-drop 8 64 w) refl

phase_back : (f : Phase) → phase_in (phase_word f) ≡ f
unfolding phase_in
phase_back Fresh = refl
phase_back Node = refl
phase_back Sign = refl
phase_back Gap = refl
phase_back Back = refl
phase_back Close = refl
phase_back Line = refl
phase_back Between = refl
phase_back Done = refl

-- the two numbers of a word
low_half : (d k : ℕ) → d < 4294967296 → (d + 4294967296 * k) % 4294967296 ≡ d
low_half d k h = omega arith

high_half : (d k : ℕ) → d < 4294967296 → k < 4294967296 → (d + 4294967296 * k) / 4294967296 % 4294967296 ≡ k
high_half d k h l = omega arith

pub back : (c : Cursor) (w : List ℕ) → length w ≡ 72 → Fits c → cursor_in (stored c w) ≡ c
unfolding cursor_in stored
back c w l f =
    let at : (k : ℕ) → k < 8 → get_or (sets w 64 (cursor_words c)) (64 + k) 0 ≡ get_or (cursor_words c) k 0 = λ k h. sets_at (cursor_words c) w 64 k h (omega arith) in
    let m : c.margin % 256 ≡ c.margin = omega arith in
    let i : c.indent % 256 ≡ c.indent = omega arith in
    rw (at 0 (omega arith), at 1 (omega arith), at 2 (omega arith), at 3 (omega arith), at 4 (omega arith), at 5 (omega arith), at 6 (omega arith), at 7 (omega arith), low_half c.due c.looked f.0, high_half c.due c.looked f.0 f.3, m, i, phase_back c.phase) refl

-- two different answers have different words
abbrev part_in : List ℕ → Answer
part_in w = cond (eqb (get_or w 0 0) end_answer) (ok (end (get_or w 6 0))) (cond (eqb (get_or w 0 0) refused_answer) (refused (get_or w 2 0) (get_or w 1 0)) (ok (part (get_or w 2 0))))

part_back : (a : Answer) → part_in (part_words a) ≡ a
unfolding part_words
part_back (ok (part n)) = refl
part_back (ok (end k)) = refl
part_back (refused n a) = refl

pub part_same : (a b : Answer) → part_words a ≡ part_words b → a ≡ b
part_same a b e = sym (part_back a) ∙ ap part_in e ∙ part_back b
