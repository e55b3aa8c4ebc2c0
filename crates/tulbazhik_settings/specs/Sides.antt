-- What a look-up of a setting answers, as eight words for callers in C: the last says whose file it comes from, or which is at fault.
use Rattle.std.specs.Prelude.{ℕ, ◌≡◌, List, [], ◌∷◌}
use Rattle.settings.specs.declared.Side.{Side}
use Rattle.settings.specs.declared.Side.TheVariants.{Project, House, Neither}
use Rattle.settings.specs.declared.Span.{Span}
use Rattle.settings.specs.LookUps.{Sided, given, faulty}
use Rattle.refusals.specs.Result.{Result}
use Rattle.settings.specs.Writing.{sized, laid}
use Rattle.words.specs.Words.{done_answer, refused_answer, length_words}

-- 0 is an answer that has no side
abbrev pub side_word : Side → ℕ
side_word Project = 1
side_word House = 2
side_word Neither = 3

-- kind; a place; a length or a refusal's number; an integer's high and low 64 bits; two that are 0; the side
abbrev pub sided_words : ℕ → ℕ → ℕ → ℕ → Side → List ℕ
sided_words k p n l s = k ∷ p ∷ n ∷ 0 ∷ l ∷ 0 ∷ 0 ∷ side_word s ∷ []

abbrev pub faulty_words : Side → ℕ → ℕ → List ℕ
faulty_words s n a = sided_words refused_answer a n 0 s

-- of an edition or a width
unfoldable pub number_words : Sided ℕ → List ℕ
number_words (given s n) = sided_words done_answer 0 0 n s
number_words (faulty s n a) = faulty_words s n a

-- of a style name: where it stands, and how many bytes it has
unfoldable pub style_words : Sided Span → List ℕ
style_words (given s x) = sided_words done_answer x.place x.len 0 s
style_words (faulty s n a) = faulty_words s n a

-- of a copy into a room: its length, or its refusal
abbrev pub CopiedWords : Result (List ℕ) → List ℕ → List ℕ → List ℕ → Type 0
CopiedWords c answer old new = (answer ≡ length_words (sized c)) × (new ≡ laid c old)
