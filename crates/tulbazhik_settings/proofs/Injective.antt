-- Two different answers of a look-up have different words: each is read back from its words, its side with it.
use Prim.Native.Nat.{ℕ}
use mathlib.Core.Path.{◌≡◌, refl, ap, sym, ◌∙◌}
use mathlib.Core.Bool.{cond}
use mathlib.Core.List.{List}
use lib.Dec.{eqb}
use lib.ListN.{get_or}
use Rattle.settings.specs.declared.Side.{Side}
use Rattle.settings.specs.declared.Side.TheVariants.{Project, House, Neither}
use Rattle.settings.specs.declared.Span.{Span}
use Rattle.settings.specs.LookUps.{Sided, given, faulty}
use Rattle.words.specs.Words.{refused_answer}
use Rattle.tulbazhik_settings.specs.Sides.{side_word, number_words, style_words}

abbrev side_in : ℕ → Side
side_in k = cond (eqb k 1) Project (cond (eqb k 2) House Neither)

abbrev sided_in : {A : Type 0} → (List ℕ → A) → List ℕ → Sided A
sided_in f w = cond (eqb (get_or w 0 0) refused_answer) (faulty (side_in (get_or w 7 0)) (get_or w 2 0) (get_or w 1 0)) (given (side_in (get_or w 7 0)) (f w))

abbrev number_in : List ℕ → Sided ℕ
number_in w = sided_in (λ (v : List ℕ). get_or v 4 0) w

abbrev style_in : List ℕ → Sided Span
style_in w = sided_in (λ (v : List ℕ). record { place = get_or v 1 0; len = get_or v 2 0 }) w

side_back : (s : Side) → side_in (side_word s) ≡ s
side_back Project = refl
side_back House = refl
side_back Neither = refl

number_back : (x : Sided ℕ) → number_in (number_words x) ≡ x
unfolding number_words
number_back (given s n) = ap (λ (t : Side). given t n) (side_back s)
number_back (faulty s n a) = ap (λ (t : Side). faulty t n a) (side_back s)

style_back : (x : Sided Span) → style_in (style_words x) ≡ x
unfolding style_words
style_back (given s x) = ap (λ (t : Side). given t x) (side_back s)
style_back (faulty s n a) = ap (λ (t : Side). faulty t n a) (side_back s)

pub number_same : (a b : Sided ℕ) → number_words a ≡ number_words b → a ≡ b
number_same a b e = sym (number_back a) ∙ ap number_in e ∙ number_back b

pub style_same : (a b : Sided Span) → style_words a ≡ style_words b → a ≡ b
style_same a b e = sym (style_back a) ∙ ap style_in e ∙ style_back b
