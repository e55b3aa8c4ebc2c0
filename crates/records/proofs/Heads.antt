-- A record that stands at a place is read back, and what is read there stands there. Assumes nothing.
use Rattle.std.specs.Prelude.{Option, Some, None}
use mathlib.Core.Path.{◌≡◌, refl, ap, sym, subst, ◌∙◌}
use mathlib.Core.List.{List}
use Prim.Native.Nat.{ℕ, ◌+◌, ◌-◌, ◌^◌, ◌≤◌, ◌<◌}
use native.Mathlib.Omega.{arith}
use lib.Dec.{ltb}
use lib.ListN.{length, take, drop, length-append}
use borrow.Author.Tests.{le-leb, lt-ltb, le-ltb, ltb-false}
use Rattle.lists.proofs.Choice.{pick}
use Rattle.lists.proofs.Stands.{Stands, stands_left, stands_right, stands_take, stands_length, stands_join, stands_part, part_size}
use Rattle.wide.specs.Bytes.{Bytes, le, number, number_at, number_in}
use Rattle.wide.proofs.Numbers.{bytes_part, le_length, le_number_of, number_le, number_lt}
use Rattle.records.specs.Records.{Head, head, head_len, head_of, record_of, len_at, kind_at, payload, head_at}

pub head_length : (kind len : ℕ) → length (head_of kind len) ≡ head_len
unfolding le
head_length kind len = refl

pub length_record : (kind : ℕ) (bs : List ℕ) → length (record_of kind bs) ≡ length bs + head_len
unfolding record_of
length_record kind bs = length-append (head_of kind (length bs + head_len)) bs ∙ omega (arith, head_length kind (length bs + head_len))

-- within a list the number in k bytes is the one that stands there
pub within_is : (k : ℕ) (t : List ℕ) (p r : ℕ) → p + k ≤ length t → r ≡ number_in k t p → number_at k t p ≡ r
within_is k t p r h e = sym (e ∙ rw (le-leb (p + k) (length t) h) refl)

-- ---- the head at a place, by the tests that the code makes

pub past_end : (t : List ℕ) (at : ℕ) → length t < at → None ≡ head_at t at
unfolding head_at
past_end t at h = rw (lt-ltb (length t - at) head_len (omega arith)) refl

pub too_few : (t : List ℕ) (at : ℕ) → length t - at < head_len → None ≡ head_at t at
unfolding head_at
too_few t at h = rw (lt-ltb (length t - at) head_len h) refl

module _ (t : List ℕ) (at len : ℕ) (few : head_len ≤ length t - at) (e : len ≡ number_in 4 t at) where
  pub cut : length t - at < len → None ≡ head_at t at
  unfolding head_at
  cut h = rw (within_is 4 t at len (omega arith) e, le-ltb (length t - at) head_len few, lt-ltb (length t - at) len h) refl

  pub below : len ≤ length t - at → len < head_len → None ≡ head_at t at
  unfolding head_at
  below hl h = rw (within_is 4 t at len (omega arith) e, le-ltb (length t - at) head_len few, le-ltb (length t - at) len hl, lt-ltb len head_len h) refl

  pub headed : (kind : ℕ) → len ≤ length t - at → head_len ≤ len → kind ≡ number_in 2 t (at + 4) → Some (head kind len) ≡ head_at t at
  unfolding head_at
  headed kind hl h f =
      rw (
        within_is 4 t at len (omega arith) e,
        within_is 2 t (at + 4) kind (omega arith) f,
        le-ltb (length t - at) head_len few,
        le-ltb (length t - at) len hl,
        le-ltb len head_len h,
      ) refl

-- ---- what a head that was read says of the bytes

abbrev pub HeadIn : List ℕ → ℕ → Option Head → Type 0
HeadIn t at None = Unit {0}
HeadIn t at (Some h) = (kind_at t at ≡ h.kind) × (len_at t at ≡ h.len) × (head_len ≤ h.len) × (h.len ≤ length t - at)

pub head_in : (t : List ℕ) (at : ℕ) → HeadIn t at (head_at t at)
unfolding head_at
head_in t at =
    let P : Option Head → Type 0 = HeadIn t at in
    let left : ℕ = length t - at in
    let len : ℕ = len_at t at in
    pick P (ltb left head_len) (λ _. tt) (λ _.
    pick P (ltb left len) (λ _. tt) (λ e.
    pick P (ltb len head_len) (λ _. tt) (λ f. (refl, refl, ltb-false len head_len f, ltb-false left len e))))

-- the same of a head x that was read as y
pub read_head : (t : List ℕ) (at : ℕ) (x y : Option Head) → x ≡ head_at t at → x ≡ y → HeadIn t at y
read_head t at x y e e' = subst (HeadIn t at) (sym e ∙ e') (head_in t at)

-- ---- a record that stands at a place

-- the parts of the record of a kind with the payload bs
pub record Stood (t : List ℕ) (p kind : ℕ) (bs : List ℕ) : Type 0 where
  pub len : len_at t p ≡ length bs + head_len
  pub kind_is : kind_at t p ≡ kind
  pub body : Stands t (p + head_len) bs
  pub room : length bs + head_len ≤ length t - p

pub stood : (t : List ℕ) (p kind : ℕ) (bs : List ℕ) → p ≤ length t → kind < 2 ^ 16 → length bs + head_len < 2 ^ 32 → Stands t p (record_of kind bs)
    → Stood t p kind bs
unfolding record_of
stood t p kind bs hp hk hb s =
    let n : ℕ = length bs + head_len in
    let h = stands_left t p (head_of kind n) bs s in
    let a = stands_left t p (le 4 n) (le 2 kind) h in
    let b : Stands t (p + 4) (le 2 kind) = subst (λ (k : ℕ). Stands t (p + k) (le 2 kind)) (le_length 4 n) (stands_right t p (le 4 n) (le 2 kind) h) in
    record {
      len = ap number (stands_take t p (le 4 n) a 4 (le_length 4 n)) ∙ number_le 4 n hb;
      kind_is = ap number (stands_take t (p + 4) (le 2 kind) b 2 (le_length 2 kind)) ∙ number_le 2 kind hk;
      body = subst (λ (k : ℕ). Stands t (p + k) bs) (head_length kind n) (stands_right t p (head_of kind n) bs s);
      room = omega (arith, length_record kind bs, stands_length t p (record_of kind bs) hp s);
    }

pub stood_head : (t : List ℕ) (p kind : ℕ) (bs : List ℕ) → Stood t p kind bs → head_at t p ≡ Some (head kind (length bs + head_len))
unfolding head_at
stood_head t p kind bs h =
    rw (h.len, h.kind_is)
    (simp (le-ltb (length t - p) head_len (omega (arith, h.room)), le-ltb (length t - p) (length bs + head_len) h.room, le-ltb (length bs + head_len) head_len (omega arith)))

pub stood_payload : (t : List ℕ) (p kind : ℕ) (bs : List ℕ) → Stood t p kind bs → payload t p (length bs + head_len) ≡ bs
stood_payload t p kind bs h = stands_take t (p + head_len) bs h.body (length bs + head_len - head_len) (omega arith)

-- ---- what is read at a place stands there, of bytes

pub part_is : (t : List ℕ) (p k : ℕ) → Bytes t → p + k ≤ length t → le k (number_at k t p) ≡ take k (drop p t)
part_is t p k hb h = le_number_of k (take k (drop p t)) (bytes_part t hb k p h) (part_size t p k h)

pub part_lt : (t : List ℕ) (p k : ℕ) → Bytes t → p + k ≤ length t → number_at k t p < 256 ^ k
part_lt t p k hb h = subst (λ (j : ℕ). number_at k t p < 256 ^ j) (part_size t p k h) (number_lt (take k (drop p t)) (bytes_part t hb k p h))

pub payload_size : (t : List ℕ) (p len : ℕ) → p + len ≤ length t → head_len ≤ len → length (payload t p len) + head_len ≡ len
payload_size t p len hl h6 = rw (part_size t (p + head_len) (len - head_len) (omega arith)) (omega arith)

pub record_stands : (t : List ℕ) (p kind len : ℕ) → Bytes t → p + len ≤ length t → head_len ≤ len → len_at t p ≡ len → kind_at t p ≡ kind
    → Stands t p (record_of kind (payload t p len))
unfolding record_of
record_stands t p kind len hb hl h6 el ek =
    let b : List ℕ = payload t p len in
    let n : ℕ = length b + head_len in
    let a4 : take 4 (drop p t) ≡ le 4 n = sym (part_is t p 4 hb (omega arith)) ∙ ap (le 4) (el ∙ sym (payload_size t p len hl h6)) in
    let a2 : take 2 (drop (p + 4) t) ≡ le 2 kind = sym (part_is t (p + 4) 2 hb (omega arith)) ∙ ap (le 2) ek in
    let s4 : Stands t p (le 4 n) = subst (Stands t p) a4 (stands_part t p 4 (omega arith)) in
    let s2 : Stands t (p + 4) (le 2 kind) = subst (Stands t (p + 4)) a2 (stands_part t (p + 4) 2 (omega arith)) in
    let h : Stands t p (head_of kind n) = stands_join t p (le 4 n) (le 2 kind) s4 (subst (λ (k : ℕ). Stands t (p + k) (le 2 kind)) (sym (le_length 4 n)) s2) in
    stands_join t p (head_of kind n) b h (subst (λ (k : ℕ). Stands t (p + k) b) (sym (head_length kind n)) (stands_part t (p + head_len) (len - head_len) (omega arith)))
