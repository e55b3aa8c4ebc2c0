-- Where a refused file is at fault: THEOREM fault_placed. Assumes nothing.
use Rattle.std.specs.Prelude.{Option, Some, None}
use Prim.Native.Nat.{ℕ, zero, suc, ◌+◌, ◌-◌, ◌≤◌, ◌<◌}
use mathlib.Core.Path.{◌≡◌, refl, ap, subst, ◌∙◌}
use mathlib.Core.Bool.{true, false}
use mathlib.Core.Logic.{inl, inr}
use mathlib.Core.List.{List, [], ◌∷◌, ◌++◌}
use native.Mathlib.Omega.{arith}
use borrow.Author.Tests.{ltb-true, ltb-false}
use lib.Dec.{ltb}
use lib.ListN.{length, take, drop}
use lib.Seq.{take-append-add}
use Rattle.refusals.specs.Numbers.{settings_limit, bad_settings}
use Rattle.refusals.specs.Result.{Result, ok, refused, and_then}
use Rattle.lists.proofs.Choice.{pick}
use Rattle.wide.specs.Bytes.{Bytes}
use Rattle.records.specs.declared.Head.{Head}
use Rattle.records.specs.Records.{head, head_len, record_of, payload, head_at}
use Rattle.records.proofs.Heads.{HeadIn, head_in}
use Rattle.settings.specs.Kinds.{value_fits}
use Rattle.settings.specs.Files.{Setting, setting_is, file_of, among, GoodFrom, of_head, settings_at, is_edition, settings_of}
use Rattle.settings.specs.Kept.{kinds_on, is_good, Fault, FaultPlaced}
use Rattle.settings.proofs.Standing.{read_length, read_front, read_good}

-- the first bad record from a place on, after those of the kinds `before`
record BadFrom (f before : List ℕ) (at a : ℕ) : Type 0 where
  front : List Setting
  from : at ≤ a
  within : a < length f
  bytes : take (a - at) (drop at f) ≡ file_of front
  good : GoodFrom before front
  bad : is_good (kinds_on before front) (head_at f a) ≡ false

abbrev Placed : List ℕ → List ℕ → ℕ → Result (List Setting) → Type 0
Placed f before at (ok ys) = Unit {0}
Placed f before at (refused n a) = (n ≡ bad_settings) × BadFrom f before at a

bad_here : (f before : List ℕ) (at : ℕ) → at < length f → is_good before (head_at f at) ≡ false → Placed f before at (refused bad_settings at)
unfolding file_of GoodFrom
bad_here f before at h e =
    let z : at - at ≡ 0 = omega arith in
    (refl, record { front = []; from = omega arith; within = h; bytes = rw z refl; good = tt; bad = e })

module _ (f before : List ℕ) (at kind len : ℕ) (hb : Bytes f) (h : HeadIn f at (Some (head kind len))) (room : at + len ≤ length f) where
  bad_more : value_fits kind (len - head_len) ≡ true → among kind before ≡ false → (r : Result (List Setting)) → Placed f (kind ∷ before) (at + len) r
      → Placed f before at (and_then r (λ ys. ok (setting_is kind (payload f at len) ∷ ys)))
  unfolding file_of
  bad_more fits new (ok ys) p = tt
  bad_more fits new (refused n a) p =
      let b = p.1 in
      let o : List ℕ = record_of kind (payload f at len) in
      let k : a - at ≡ length o + (a - (at + len)) = omega (arith, b.from, read_length f at kind len h.2 room) in (
        p.0,
        record {
          front = setting_is kind (payload f at len) ∷ b.front;
          from = omega (arith, b.from);
          within = b.within;
          bytes =
              ap (take (a - at)) (read_front f at kind len hb h room) ∙ ap (λ (i : ℕ). take i (o ++ drop (at + len) f)) k
              ∙ take-append-add o (drop (at + len) f) (a - (at + len)) ∙ ap (λ (r : List ℕ). o ++ r) b.bytes;
          good = read_good f at kind len hb h room before b.front fits new b.good;
          bad = b.bad;
        },
      )

placed_head : (f before : List ℕ) (at : ℕ) (rest : List ℕ → ℕ → Result (List Setting)) → Bytes f → at < length f
    → ((before' : List ℕ) (at' : ℕ) → at' ≤ length f → at + head_len ≤ at' → Placed f before' at' (rest before' at')) → (x : Option Head) → head_at f at ≡ x → HeadIn f at x
    → Placed f before at (of_head f before at x rest)
placed_head f before at rest hb ha later None e h = bad_here f before at ha (rw e refl)
placed_head f before at rest hb ha later (Some x) e h =
    let P : Result (List Setting) → Type 0 = Placed f before at in
    let kind : ℕ = x.kind in
    let len : ℕ = x.len in
    let room : at + len ≤ length f = omega (arith, h.2, h.3) in
    pick P (value_fits kind (len - head_len)) (λ fits.
    pick P (among kind before) (λ old. bad_here f before at ha (rw e (rw (fits, old) refl))) (λ new.
    bad_more f before at kind len hb h room fits new (rest (kind ∷ before) (at + len)) (later (kind ∷ before) (at + len) room (omega (arith, h.2)))))
    (λ not. bad_here f before at ha (rw e (rw not refl)))

placed : (n : ℕ) (f before : List ℕ) (at : ℕ) → Bytes f → at ≤ length f → Placed f before at (settings_at n f before at)
unfolding settings_at
placed zero f before at hb ha = tt
placed (suc n) f before at hb ha =
    pick (Placed f before at) (ltb at (length f))
    (λ e. placed_head f before at (settings_at n f) hb (ltb-true at (length f) e) (λ before' at' l m. placed n f before' at' hb l) (head_at f at) refl (head_in f at))
    (λ _. tt)

abbrev Faulty : List ℕ → Result (List Setting) → Type 0
Faulty f (ok ys) = Unit {0}
Faulty f (refused n a) = Fault f n a

first_bad : (f : List ℕ) → length f ≤ settings_limit → is_edition (head_at f 0) ≡ true → (r : Result (List Setting)) → Placed f [] 0 r → Faulty f r
first_bad f hl e (ok ys) p = tt
first_bad f hl e (refused n a) p =
    let b = p.1 in
    let z : a - 0 ≡ a = omega arith in
    inr (hl, p.0, inr (record { edition = e; front = b.front; within = b.within; bytes = rw z at b.bytes; good = b.good; bad = b.bad }))

pub fault_placed : FaultPlaced
unfolding settings_of
fault_placed f n a hb e = subst (Faulty f) e (
    pick (Faulty f) (ltb settings_limit (length f)) (λ l. inl (ltb-true settings_limit (length f) l, refl, refl)) (λ l.
    let hl : length f ≤ settings_limit = ltb-false settings_limit (length f) l in
    pick (Faulty f) (is_edition (head_at f 0)) (λ i. first_bad f hl i (settings_at (length f) f [] 0) (placed (length f) f [] 0 hb (omega arith)))
    (λ i. inr (hl, refl, inl (i, refl)))))
