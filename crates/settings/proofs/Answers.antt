-- What is looked up after a write, and past what is skipped: THEOREMS written_project, written_house, others_project, others_house, width_written, width_behind, style_written, style_behind, skipped. Assumes nothing.
use Prim.Native.Nat.{ℕ, ◌+◌, ◌^◌, ◌<◌}
use mathlib.Core.Path.{◌≡◌, refl, ap, sym, ◌∙◌}
use mathlib.Core.Bool.{Bool, true, false, cond}
use mathlib.Core.List.{List, [], ◌∷◌}
use native.Mathlib.Omega.{arith}
use borrow.Author.Tests.{ltb-false, eqb-true, eq-eqb, ne_eqb}
use lib.Dec.{eqb, ltb, lit<}
use lib.ListN.{length}
use Rattle.refusals.specs.Result.{Result, ok, refused}
use Rattle.lists.proofs.Choice.{pick}
use Rattle.wide.specs.Bytes.{Bytes, le, number}
use Rattle.wide.proofs.Numbers.{number_le}
use Rattle.records.specs.Records.{head_len}
use Rattle.settings.specs.Kinds.{width_kind, style_kind, first_skipped}
use Rattle.settings.specs.Files.{Setting, bytes_of, settings_of}
use Rattle.settings.specs.LookUps.{Side, Project, House, Value, Held, absent, held, held_from, Sided, given, faulty, each_sided, checked, chosen, look_up, width_in, bytes_in}
use Rattle.settings.specs.Writing.{replaced, copy_of, width_setting, style_setting}
use Rattle.settings.specs.Kept.{value_in, Copies, WrittenProject, WrittenHouse, OthersProject, OthersHouse, WidthWritten, WidthBehind, StyleWritten, StyleBehind, known_of, Skipped}
use Rattle.settings.proofs.Copies.{copied, copy_good}

-- ---- values without their places

abbrev bytes_of_lem : Value → List ℕ
bytes_of_lem v = v.bytes

abbrev placed : List ℕ → Held
placed b = held (record { place = 0; bytes = b })

abbrev strip : Held → Held
strip absent = absent
strip (held v) = placed v.bytes

-- the value of a kind, whatever stands before it
unfoldable sought : ℕ → List Setting → Held
sought kind [] = absent
sought kind (y ∷ ys) = cond (eqb y.kind kind) (placed y.value) (sought kind ys)

sought_is : (kind at : ℕ) (ys : List Setting) → strip (held_from kind at ys) ≡ sought kind ys
unfolding held_from sought
sought_is kind at [] = refl
sought_is kind at (y ∷ ys) = by (eqb y.kind kind) (sought_is kind (at + length (bytes_of y)) ys)
  where
    by : (t : Bool) → strip (held_from kind (at + length (bytes_of y)) ys) ≡ sought kind ys
        → strip (cond t (held (record { place = at + head_len; bytes = y.value })) (held_from kind (at + length (bytes_of y)) ys)) ≡ cond t (placed y.value) (sought kind ys)
    by true e = refl
    by false e = e

-- the answer by the two files as they were read
abbrev value_by : ℕ → Result (List Setting) → Result (List Setting) → Sided (List ℕ)
value_by kind p h = each_sided bytes_of_lem (checked Project p (λ ps. checked House h (λ hs. chosen (sought kind ps) (sought kind hs))))

chosen_strip : (a b : Held) → each_sided bytes_of_lem (chosen a b) ≡ each_sided bytes_of_lem (chosen (strip a) (strip b))
chosen_strip (held a) b = refl
chosen_strip absent (held b) = refl
chosen_strip absent absent = refl

value_by_lem : (kind : ℕ) (p h : List ℕ) → value_in kind p h ≡ value_by kind (settings_of p) (settings_of h)
unfolding look_up
value_by_lem kind p h = by (settings_of p) (settings_of h)
  where
    by : (x y : Result (List Setting))
        → each_sided bytes_of_lem (checked Project x (λ ps. checked House y (λ hs. chosen (held_from kind 0 ps) (held_from kind 0 hs)))) ≡ value_by kind x y
    by (ok ps) (ok hs) =
        chosen_strip (held_from kind 0 ps) (held_from kind 0 hs) ∙ rw (sought_is kind 0 ps, sought_is kind 0 hs) refl
    by (ok ps) (refused n a) = refl
    by (refused n a) y = refl

-- files that have the same value of a kind answer alike, as project's and as house file
module _ (kind : ℕ) (f g : List ℕ) (ys zs : List Setting) (e : settings_of f ≡ ok ys) (e' : settings_of g ≡ ok zs) (s : sought kind ys ≡ sought kind zs) where
  alike_project : (h : List ℕ) → value_in kind f h ≡ value_in kind g h
  alike_project h = value_by_lem kind f h ∙ rw (e, e') (by (settings_of h)) ∙ sym (value_by_lem kind g h)
    where
      by : (r : Result (List Setting)) → value_by kind (ok ys) r ≡ value_by kind (ok zs) r
      by (ok hs) = ap (λ (x : Held). each_sided bytes_of_lem (chosen x (sought kind hs))) s
      by (refused n a) = refl

  alike_house : (p : List ℕ) → value_in kind p f ≡ value_in kind p g
  alike_house p = value_by_lem kind p f ∙ rw (e, e') (by (settings_of p)) ∙ sym (value_by_lem kind p g)
    where
      by : (r : Result (List Setting)) → value_by kind r (ok ys) ≡ value_by kind r (ok zs)
      by (ok ps) = ap (λ (x : Held). each_sided bytes_of_lem (chosen (sought kind ps) x)) s
      by (refused n a) = refl

-- ---- after a write

sought_written : (y : Setting) (ys : List Setting) → sought y.kind (replaced y ys) ≡ placed y.value
unfolding sought replaced
sought_written y [] = rw (eq-eqb y.kind y.kind refl) refl
sought_written y (x ∷ xs) =
    pick (λ (l : List Setting). sought y.kind l ≡ placed y.value) (eqb x.kind y.kind)
    (λ _. rw (eq-eqb y.kind y.kind refl) refl)
    (λ e. rw e (sought_written y xs))

sought_other : (kind : ℕ) (y : Setting) → (kind ≡ y.kind → ⊥) → (ys : List Setting) → sought kind (replaced y ys) ≡ sought kind ys
unfolding sought replaced
sought_other kind y n [] = rw (ne_eqb y.kind kind (λ e. n (sym e))) refl
sought_other kind y n (x ∷ xs) =
    pick (λ (l : List Setting). sought kind l ≡ sought kind (x ∷ xs)) (eqb x.kind y.kind)
    (λ e. rw (ne_eqb y.kind kind (λ q. n (sym q)), ne_eqb x.kind kind (λ q. n (sym q ∙ eqb-true x.kind y.kind e))) refl)
    (λ _. ap (cond (eqb x.kind kind) (placed x.value)) (sought_other kind y n xs))

module _ (f : List ℕ) (y : Setting) (c : List ℕ) (k : Copies f y c) where
  before : List Setting
  before = (copied f y k.room c k.copy).settings

  was : settings_of f ≡ ok before
  unfolding before
  was = (copied f y k.room c k.copy).read

  now_is : settings_of c ≡ ok (replaced y before)
  now_is = copy_good f before y k.room c k.bytes was k.kind k.copy

pub written_project : WrittenProject
written_project f y c h hs k e =
    value_by_lem y.kind c h ∙ rw (now_is f y c k, e) (rw (sought_written y (before f y c k)) refl)

pub written_house : WrittenHouse
written_house f y c p ps k e a =
    let none : sought y.kind ps ≡ absent = sym (sought_is y.kind 0 ps) ∙ ap strip a in
    value_by_lem y.kind p c ∙ rw (now_is f y c k, e) (rw (none, sought_written y (before f y c k)) refl)

pub others_project : OthersProject
others_project f y c kind h k n =
    alike_project kind c f (replaced y (before f y c k)) (before f y c k) (now_is f y c k) (was f y c k) (sought_other kind y n (before f y c k)) h

pub others_house : OthersHouse
others_house f y c kind p k n =
    alike_house kind c f (replaced y (before f y c k)) (before f y c k) (now_is f y c k) (was f y c k) (sought_other kind y n (before f y c k)) p

-- the same of a number, and of a part of a file
numbered : (x : Sided Value) → each_sided (λ (v : Value). number v.bytes) x ≡ each_sided number (each_sided bytes_of_lem x)
numbered (given s v) = refl
numbered (faulty s n a) = refl

bytes_given : (x : Sided Value) (s : Side) (b : List ℕ) → each_sided bytes_of_lem x ≡ given s b → bytes_in x ≡ b
bytes_given (given s' v) s b e = cc
bytes_given (faulty s' n a) s b e = cc

width_by : (w : ℕ) → w < 2 ^ 32 → (p h : List ℕ) (s : Side) → value_in width_kind p h ≡ given s (le 4 w) → width_in p h ≡ given s w
width_by w hw p h s e = numbered (look_up width_kind p h) ∙ ap (each_sided number) e ∙ ap (given s) (number_le 4 w hw)

width_copy : (f : List ℕ) (w room : ℕ) (c : List ℕ) → Bytes f → copy_of f (width_setting w) room ≡ ok c → Copies f (width_setting w) c
width_copy f w room c hb ec = record { bytes = hb; kind = lit< tt; room = room; copy = ec }

pub width_written : WidthWritten
width_written f w room c h hs hb hw ec e = width_by w hw c h Project (written_project f (width_setting w) c h hs (width_copy f w room c hb ec) e)

pub width_behind : WidthBehind
width_behind f w room c p ps hb hw ec e a = width_by w hw p c House (written_house f (width_setting w) c p ps (width_copy f w room c hb ec) e a)

style_copy : (f name : List ℕ) (room : ℕ) (c : List ℕ) → Bytes f → copy_of f (style_setting name) room ≡ ok c → Copies f (style_setting name) c
style_copy f name room c hb ec = record { bytes = hb; kind = lit< tt; room = room; copy = ec }

pub style_written : StyleWritten
style_written f name room c h hs hb ec e =
    bytes_given (look_up style_kind c h) Project name (written_project f (style_setting name) c h hs (style_copy f name room c hb ec) e)

pub style_behind : StyleBehind
style_behind f name room c p ps hb ec e a =
    bytes_given (look_up style_kind p c) House name (written_house f (style_setting name) c p ps (style_copy f name room c hb ec) e a)

-- ---- past what is skipped

sought_known : (kind : ℕ) → kind < first_skipped → (ys : List Setting) → sought kind (known_of ys) ≡ sought kind ys
unfolding sought known_of
sought_known kind h [] = refl
sought_known kind h (y ∷ ys) =
    pick (λ (l : List Setting). sought kind l ≡ sought kind (y ∷ ys)) (ltb y.kind first_skipped)
    (λ _. ap (cond (eqb y.kind kind) (placed y.value)) (sought_known kind h ys))
    (λ e. rw (ne_eqb y.kind kind (omega (arith, ltb-false y.kind first_skipped e))) (sought_known kind h ys))

pub skipped : Skipped
skipped f g ys zs kind h e e' s l =
    let q : sought kind ys ≡ sought kind zs = sym (sought_known kind l ys) ∙ ap (sought kind) s ∙ sought_known kind l zs in
    (alike_project kind f g ys zs e e' q h, alike_house kind f g ys zs e e' q h)
