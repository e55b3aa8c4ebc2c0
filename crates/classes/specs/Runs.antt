-- Bytes in a row that answer a question alike, and where such a run ends.
use Rattle.std.specs.Prelude.{ℕ, suc, ◌+◌, Bool, cond, not, List, [], ◌∷◌, drop}
use Rattle.classes.specs.Classes.{class_of, line_end, symbol_other}

-- how many bytes in a row, from the first on, answer yes
unfoldable pub leading : (ℕ → Bool) → List ℕ → ℕ
leading p [] = 0
leading p (b ∷ s) = cond (p b) (suc (leading p s)) 0

-- the place past those that stand from a place on
abbrev pub run_end : (ℕ → Bool) → List ℕ → ℕ → ℕ
run_end p s at = at + leading p (drop at s)

-- where a symbol ends that runs on from a place
abbrev pub symbol_run : List ℕ → ℕ → ℕ
symbol_run = run_end (λ b. symbol_other (class_of b))

-- where a line ends: at its LF or CR, or at the end
abbrev pub line_run : List ℕ → ℕ → ℕ
line_run = run_end (λ b. not (line_end (class_of b)))
