-- How little the promises of settings leave open: two results that meet a promise are equal. Assumes nothing.
use mathlib.Core.Path.{◌≡◌, refl, sym, ap, ◌∙◌}
use Prim.Native.Nat.{ℕ}
use Rattle.std.specs.Prelude.{Result, Ok, Err}
use Rattle.refusals.specs.declared.Refusal.{Refusal}
use Rattle.settings.specs.declared.Side.{Side}
use Rattle.settings.specs.declared.Span.{Span}
use Rattle.settings.specs.LookUps.{number_of, part_of}
use Rattle.settings.specs.Writing.{written_of}
use Rattle.settings.specs.declared.Sided.{Sided}
use Rattle.demands.specs.OneAnswerSettings.{OneAnswerSettings}
use Rattle.demands.proofs.OneAnswer.{refusal_same}

-- ---- the views tell results apart

at_fault_same : (x y : Sided Refusal) → x.side ≡ y.side → x.value.number ≡ y.value.number → x.value.place ≡ y.value.place → x ≡ y
at_fault_same x y e f g = at x.side y.side x.value y.value e (refusal_same x.value y.value f g)
  where
    at : (s t : Side) (r q : Refusal) → s ≡ t → r ≡ q → ◌≡◌ {A = Sided Refusal} (record { side = s; value = r }) (record { side = t; value = q })
    at s t r q e f = rw (e, f) refl

number_same : (a b : Result (Sided ℕ) (Sided Refusal)) → number_of a ≡ number_of b → a ≡ b
number_same (Ok x) (Ok y) e = ap Ok (at x.side y.side x.value y.value (cc) (cc))
  where
    at : (s t : Side) (n m : ℕ) → s ≡ t → n ≡ m → ◌≡◌ {A = Sided ℕ} (record { side = s; value = n }) (record { side = t; value = m })
    at s t n m e f = rw (e, f) refl
number_same (Ok x) (Err y) e = cc
number_same (Err x) (Ok y) e = cc
number_same (Err x) (Err y) e = ap Err (at_fault_same x y (cc) (cc) (cc))

part_same : (a b : Result (Sided Span) (Sided Refusal)) → part_of a ≡ part_of b → a ≡ b
part_same (Ok x) (Ok y) e = ap Ok (at x.side y.side x.value y.value (cc) (cc))
  where
    at : (s t : Side) (n m : Span) → s ≡ t → n ≡ m → ◌≡◌ {A = Sided Span} (record { side = s; value = n }) (record { side = t; value = m })
    at s t n m e f = rw (e, f) refl
part_same (Ok x) (Err y) e = cc
part_same (Err x) (Ok y) e = cc
part_same (Err x) (Err y) e = ap Err (at_fault_same x y (cc) (cc) (cc))

written_same : (a b : Result ℕ Refusal) → written_of a ≡ written_of b → a ≡ b
written_same (Ok n) (Ok m) e = let f : n ≡ m = cc in ap Ok f
written_same (Ok n) (Err y) e = cc
written_same (Err x) (Ok m) e = cc
written_same (Err x) (Err y) e = ap Err (refusal_same x y (cc) (cc))

pub one_answer_settings : OneAnswerSettings
one_answer_settings = record {
  settings_kind_try_from_usize = λ κs a x y s t e f. e ∙ sym f;
  settings_edition = λ κs a x y s t e f. number_same x y (e ∙ sym f);
  settings_width = λ κs a x y s t e f. number_same x y (e ∙ sym f);
  settings_style = λ κs a x y s t e f. part_same x y (e ∙ sym f);
  settings_style_name = λ κs a x y s t e f. (e.0 ∙ sym f.0, e.1 ∙ sym f.1);
  settings_write_width = λ κs a x y s t e f. (written_same x y (e.0 ∙ sym f.0), e.1 ∙ sym f.1);
  settings_write_style = λ κs a x y s t e f. (written_same x y (e.0 ∙ sym f.0), e.1 ∙ sym f.1);
  tulbazhik_settings_tulbazhik_edition = λ κs a x y s t e f. e ∙ sym f;
  tulbazhik_settings_tulbazhik_width = λ κs a x y s t e f. e ∙ sym f;
  tulbazhik_settings_tulbazhik_style = λ κs a x y s t e f. e ∙ sym f;
  tulbazhik_settings_tulbazhik_write_width = λ κs a x y s t e f. (e.0 ∙ sym f.0, e.1 ∙ sym f.1);
  tulbazhik_settings_tulbazhik_write_style = λ κs a x y s t e f. (e.0 ∙ sym f.0, e.1 ∙ sym f.1);
}
