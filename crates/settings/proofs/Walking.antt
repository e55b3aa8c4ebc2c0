-- The walk over a file that looks for a kind: what is left of the file to read decides the answer. Assumes nothing.
use Rattle.std.specs.Prelude.{Result as CodeResult, Ok, Err, Option, Some, None}
use Rattle.std.specs.Option.{option_or}
use Prim.Native.Nat.{ℕ, zero, suc, ◌+◌, ◌-◌, ◌≤◌, ◌<◌}
use mathlib.Core.Path.{◌≡◌, refl, sym, ap, subst, ◌∙◌}
use mathlib.Core.Bool.{Bool, true, false, ◌||◌}
use mathlib.Core.List.{List, [], ◌∷◌}
use native.Mathlib.Omega.{arith}
use lib.Dec.{eqb}
use lib.ListN.{length}
use borrow.Author.Tests.{lt-ltb, le-ltb, eq-eqb, ne_eqb}
use Rattle.refusals.specs.declared.Refusal.{Refusal}
use Rattle.refusals.specs.Numbers.{settings_limit, too_long, bad_settings}
use Rattle.refusals.specs.Result.{Result, ok, refused, and_then}
use Rattle.records.specs.declared.Head.{Head}
use Rattle.records.specs.Records.{head_len, payload, head_at}
use Rattle.records.proofs.Heads.{HeadIn, head_in}
use Rattle.wide.specs.Bytes.{Bytes}
use Rattle.lists.proofs.Choice.{true_false}
use Rattle.settings.specs.Kinds.{value_fits}
use Rattle.settings.specs.Files.{Setting, setting_is, among, of_head, settings_at, settings_of, is_edition}
use Rattle.settings.specs.LookUps.{held_from, Span}
use Rattle.settings.specs.PrivateFinding.{found_from, found_in, Marked, Tells}
use Rattle.settings.proofs.Standing.{read_length, value_length, read_kind}
use Rattle.settings.proofs.Bits.{fits_marked}

abbrev pub Found : Type 0
Found = CodeResult (Option Span) Refusal

abbrev pub bad_at : ℕ → Found
bad_at at = Err (record { number = bad_settings; place = at })

-- after the records of the kinds `before`, with n of them at most to come; nothing was found yet unless the kind is among them
pub record Walk (f : List ℕ) (kind : ℕ) (words : List ℕ) (at : ℕ) (found : Option Span) : Type 0 where
  pub before : List ℕ
  pub n : ℕ
  pub enough : length f ≤ n + at
  pub within : at ≤ length f
  pub tells : Tells words before
  pub fresh : among kind before ≡ false → found ≡ None
  pub same : found_from kind found at (settings_at n f before at) ≡ found_in kind (settings_of f)

pub begun : (f : List ℕ) (kind : ℕ) (words : List ℕ) → length f ≤ settings_limit → is_edition (head_at f 0) ≡ true → Tells words [] → Walk f kind words 0 None
unfolding settings_of
begun f kind words l e t = record {
  before = [];
  n = length f;
  enough = omega arith;
  within = omega arith;
  tells = t;
  fresh = λ _. refl;
  same = rw (le-ltb settings_limit (length f) l, e) refl;
}

-- a kind that is not among some, one of which is first, is not that one, nor among the others
not_first : (k x : ℕ) (ys : List ℕ) → among k (x ∷ ys) ≡ false → (eqb k x ≡ false) × (among k ys ≡ false)
unfolding among
not_first k x ys = by (eqb k x)
  where
    by : (b : Bool) → (b || among k ys) ≡ false → (b ≡ false) × (among k ys ≡ false)
    by true e = true_false e
    by false e = (refl, e)

module _ {f : List ℕ} {kind : ℕ} {words : List ℕ} {at : ℕ} {found : Option Span} (w : Walk f kind words at found) (lt : at < length f) where
  -- the record at the place, by its head
  record Turn (h : Option Head) : Type 0 where
    pub m : ℕ
    pub less : length f ≤ m + (at + 1)
    pub turned : found_from kind found at (of_head f w.before at h (settings_at m f)) ≡ found_in kind (settings_of f)

  turn : (h : Option Head) → head_at f at ≡ h → Turn h
  unfolding settings_at
  turn h e = by w.n w.enough w.same
    where
      first : (m : ℕ) → settings_at (suc m) f w.before at ≡ of_head f w.before at h (settings_at m f)
      first m = rw (lt-ltb at (length f) lt, e) refl

      by : (n : ℕ) → length f ≤ n + at → found_from kind found at (settings_at n f w.before at) ≡ found_in kind (settings_of f) → Turn h
      by zero q s = absurd (omega arith)
      by (suc m) q s = record {
        m = m;
        less = omega arith;
        turned = ap (found_from kind found at) (sym (first m)) ∙ s;
      }

  pub cut : head_at f at ≡ None → bad_at at ≡ found_in kind (settings_of f)
  cut e = (turn None e).turned

  module _ (h : Head) (e : head_at f at ≡ Some h) where
    inside : HeadIn f at (Some h)
    inside = subst (HeadIn f at) e (head_in f at)

    pub six : head_len ≤ h.len
    six = inside.2

    pub room : at + h.len ≤ length f
    room = omega (arith, inside.3)

    pub unfit : value_fits h.kind (h.len - head_len) ≡ false → bad_at at ≡ found_in kind (settings_of f)
    unfit u = sym (rw u refl) ∙ (turn (Some h) e).turned

    module _ (u : value_fits h.kind (h.len - head_len) ≡ true) where
      pub markable : Bytes f → Marked h.kind
      markable hb = fits_marked h.kind (h.len - head_len) (read_kind f at h.kind h.len hb inside room) u

      pub twice : among h.kind w.before ≡ true → bad_at at ≡ found_in kind (settings_of f)
      twice a = sym (rw (u, a) refl) ∙ (turn (Some h) e).turned

    module _ (u : value_fits h.kind (h.len - head_len) ≡ true) (a : among h.kind w.before ≡ false) where
      abbrev y : Setting
      y = setting_is h.kind (payload f at h.len)

      -- the words tell one kind more, and the answer is that of what is left
      gone : {words' : List ℕ} {found' : Option Span} → Tells words' (h.kind ∷ w.before) → (among kind (h.kind ∷ w.before) ≡ false → found' ≡ None)
          → ((x : Result (List Setting)) → found_from kind found at (and_then x (λ ys. ok (y ∷ ys))) ≡ found_from kind found' (at + h.len) x)
          → Walk f kind words' (at + h.len) found'
      gone {words'} {found'} t q same =
          let r = turn (Some h) e in record {
            before = h.kind ∷ w.before;
            n = r.m;
            enough = omega (arith, r.less, six);
            within = room;
            tells = t;
            fresh = q;
            same = sym (same (settings_at r.m f (h.kind ∷ w.before) (at + h.len))) ∙ sym (rw (u, a) refl) ∙ r.turned;
          }

      -- it is the one that is looked for
      pub met : {words' : List ℕ} → Tells words' (h.kind ∷ w.before) → h.kind ≡ kind → Walk f kind words' (at + h.len) (Some (record { place = at + head_len; len = h.len - head_len }))
      unfolding held_from
      met t k = gone t (λ q. true_false (sym (eq-eqb kind h.kind (sym k)) ∙ (not_first kind h.kind w.before q).0)) same
        where
          none : found ≡ None
          none = w.fresh (ap (λ (j : ℕ). among j w.before) (sym k) ∙ a)

          same : (x : Result (List Setting)) → found_from kind found at (and_then x (λ ys. ok (y ∷ ys)))
              ≡ found_from kind (Some (record { place = at + head_len; len = h.len - head_len })) (at + h.len) x
          same (ok ys) = rw (none, eq-eqb h.kind kind k, value_length f at h.kind h.len six room) refl
          same (refused n p) = refl

      pub passed : {words' : List ℕ} → Tells words' (h.kind ∷ w.before) → (h.kind ≡ kind → ⊥) → Walk f kind words' (at + h.len) found
      unfolding held_from
      passed t k = gone t (λ q. w.fresh (not_first kind h.kind w.before q).1) same
        where
          same : (x : Result (List Setting)) → found_from kind found at (and_then x (λ ys. ok (y ∷ ys))) ≡ found_from kind found (at + h.len) x
          same (ok ys) = rw (ne_eqb h.kind kind k, read_length f at h.kind h.len six room) refl
          same (refused n p) = refl

-- what was read of the file is all of it
pub ended : {f : List ℕ} {kind : ℕ} {words : List ℕ} {at : ℕ} {found : Option Span} → Walk f kind words at found → length f ≤ at
    → Ok found ≡ found_in kind (settings_of f)
unfolding settings_at held_from
ended {f} {kind} {words} {at} {found} w le = by w.n w.same
  where
    none_more : (x : Option Span) → option_or x None ≡ x
    none_more None = refl
    none_more (Some s) = refl

    by : (n : ℕ) → found_from kind found at (settings_at n f w.before at) ≡ found_in kind (settings_of f)
        → Ok found ≡ found_in kind (settings_of f)
    by zero s = ap (λ (x : Option Span). Ok x) (sym (none_more found)) ∙ s
    by (suc n) s = ap (λ (x : Option Span). Ok x) (sym (none_more found)) ∙ sym (rw (le-ltb at (length f) le) refl) ∙ s

-- a file that is too long, or does not begin with an edition
pub too_long_lem : (f : List ℕ) (kind : ℕ) → settings_limit < length f → Err (record { number = too_long; place = settings_limit }) ≡ found_in kind (settings_of f)
unfolding settings_of
too_long_lem f kind h = rw (lt-ltb settings_limit (length f) h) refl

pub no_edition : (f : List ℕ) (kind : ℕ) → length f ≤ settings_limit → is_edition (head_at f 0) ≡ false → bad_at 0 ≡ found_in kind (settings_of f)
unfolding settings_of
no_edition f kind h e = rw (le-ltb settings_limit (length f) h, e) refl
