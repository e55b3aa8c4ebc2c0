-- What a lent buffer holds once its front is written.
use Rattle.std.specs.Prelude.{ℕ, cond, List, ◌++◌, leb, length, drop}

-- the bytes o, then what b held past them
abbrev pub over : List ℕ → List ℕ → List ℕ
over o b = o ++ drop (length o) b

-- the same where there is room; a buffer that is too short stays as it was
abbrev pub fitted : List ℕ → List ℕ → List ℕ
fitted o b = cond (leb (length o) (length b)) (over o b) b
