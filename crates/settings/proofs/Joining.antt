-- A copy put together of three parts: the file's front, a record, the file's rest. Assumes nothing.
use Prim.Native.Nat.{ℕ, ◌+◌, ◌-◌, ◌/◌, ◌≤◌, ◌<◌}
use mathlib.Core.Path.{◌≡◌, refl, sym, ap, ◌∙◌}
use mathlib.Core.Bool.{true}
use mathlib.Core.List.{List, ◌++◌, append_assoc}
use native.Mathlib.Nat.{div-div-eq-div-mul}
use native.Mathlib.Omega.{arith}
use Rattle.std.specs.Int.{w32, to_le_bytes}
use lib.ListN.{length, take, drop, length-append, length-drop}
use lib.Seq.{length-take-le}
use borrow.Author.Tests.{lt-ltb, le-ltb}
use borrow.Rule.Slice.PartMut.{put_mid}
use Rattle.refusals.specs.Numbers.{settings_limit, too_long, print_room}
use Rattle.refusals.specs.Result.{Result, ok, refused}
use Rattle.lists.specs.Over.{over, fitted}
use Rattle.lists.proofs.Blocks.{fitted_over}
use Rattle.lists.proofs.Writing.{Wrote, wrote_lent, wrote_length, part_drop, part_length}
use Rattle.records.specs.Records.{head_len, record_of}
use Rattle.wide.specs.Bytes.{le}
use Rattle.records.proofs.Heads.{length_record}
use Rattle.settings.specs.Kinds.{value_fits}
use Rattle.settings.specs.Writing.{sized, laid}
use Rattle.settings.specs.PrivateFinding.{splice_of}

-- an answer and a room, by what the copy comes to
pub answered : (x y : Result (List ℕ)) (b : List ℕ) → x ≡ y → (sized y ≡ sized x) × (laid y b ≡ laid x b)
answered x y b e = (sym (ap sized e), sym (ap (λ (z : Result (List ℕ)). laid z b) e))

module _ (f value : List ℕ) (at next kind room : ℕ) (order : at ≤ next) (inside : next ≤ length f) where
  abbrev copy : List ℕ
  copy = take at f ++ (record_of kind value ++ drop next f)

  -- what is left of the file behind the record
  abbrev rest : List ℕ
  rest = take (length f - next) (drop next f)

  abbrev size : ℕ
  size = at + (length value + head_len) + length rest

  front_length : length (take at f) ≡ at
  front_length = length-take-le at f (omega arith)

  copy_length : length copy ≡ size
  copy_length =
      length-append (take at f) (record_of kind value ++ drop next f)
      ∙ omega (arith, front_length, length-append (record_of kind value) (drop next f), length_record kind value, length-drop next f, part_length next f)

  module _ (e : value_fits kind (length value) ≡ true) where
    pub copy_long : settings_limit < size → splice_of f at next kind value room ≡ refused too_long settings_limit
    copy_long h = rw (e, copy_length, lt-ltb settings_limit size h) refl

    module _ (h : size ≤ settings_limit) where
      pub copy_roomless : room < size → splice_of f at next kind value room ≡ refused print_room size
      copy_roomless l = rw (e, copy_length, le-ltb settings_limit size h, lt-ltb room size l) refl

      pub copy_fits : size ≤ room → splice_of f at next kind value room ≡ ok copy
      copy_fits l = rw (e, copy_length, le-ltb settings_limit size h, le-ltb room size l) refl

  pub copy_size : size ≡ length copy
  copy_size = sym copy_length

  -- the three parts, each into the rest of the room that the one before left
  pub three : (b b₁ ys₁ ys₂ : List ℕ) → size ≤ length b → b₁ ≡ fitted (take at f) b
      → ys₁ ≡ fitted (record_of kind value) (take (length b₁ - at) (drop at b₁))
      → (let b₂ : List ℕ = put_mid at (length b₁ - at) b₁ ys₁ in
      let n : ℕ = at + (length value + head_len) in
      ys₂ ≡ fitted rest (take (length b₂ - n) (drop n b₂)) → put_mid n (length b₂ - n) b₂ ys₂ ≡ over copy b)
  three b b₁ ys₁ ys₂ h e₁ e₂ e₃' =
      let w₁ : Wrote (take at f) b b₁ at = record { size = front_length; within = omega arith; holds = e₁ ∙ fitted_over (take at f) b (omega (arith, front_length)) } in
      let lf : length rest ≡ length f - next = part_length next f in
      let l₁ : length b₁ ≡ length b = wrote_length w₁ in
      let lr : length (record_of kind value) ≡ length value + head_len = length_record kind value in
      let w₂ = wrote_lent w₁ (record_of kind value) ys₁ (length value + head_len) lr (omega arith)
      (e₂ ∙ fitted_over (record_of kind value) (take (length b₁ - at) (drop at b₁)) (rw (part_length at b₁) (omega (arith, lr, l₁)))) in
      let n : ℕ = at + (length value + head_len) in
      let b₂ : List ℕ = put_mid at (length b₁ - at) b₁ ys₁ in
      let l₂ : length b₂ ≡ length b = wrote_length w₂ in
      let ld : length (drop next f) ≡ length f - next = length-drop next f in
      let e₃ : ys₂ ≡ fitted (drop next f) (take (length b₂ - n) (drop n b₂)) = e₃' ∙ ap (λ (o : List ℕ). fitted o (take (length b₂ - n) (drop n b₂))) (part_drop next f) in
      let w₃ = wrote_lent w₂ (drop next f) ys₂ (length f - next) ld (omega (arith, lf))
      (e₃ ∙ fitted_over (drop next f) (take (length b₂ - n) (drop n b₂)) (rw (part_length n b₂) (omega (arith, ld, l₂)))) in
      w₃.holds ∙ ap (λ (o : List ℕ). over o b) (append_assoc (take at f) (record_of kind value) (drop next f))

-- the four bytes of a width, as the library takes them
pub width_value : (w : ℕ) → to_le_bytes w32 w ≡ le 4 w
unfolding le
width_value w =
    let a : w / 65536 ≡ w / 256 / 256 = sym (div-div-eq-div-mul w 256 256) in
    let b : w / 16777216 ≡ w / 256 / 256 / 256 = sym (div-div-eq-div-mul w 65536 256) ∙ ap (λ (x : ℕ). x / 256) a in
    rw (a, b) refl
