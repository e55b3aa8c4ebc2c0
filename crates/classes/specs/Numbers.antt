-- The number of a byte's class, as the table of 256 has it (document 02, 4/12).
use Rattle.std.specs.Prelude.{ℕ, cond, ◌&&◌, ◌==◌}
use Rattle.classes.specs.Classes.{Class, Space, LineEnd, Semicolon, LParen, RParen, AtSign, FormFeed, Minus, Digit, Other, class_of, symbol_first, literal_byte}

-- the classes as they stand
abbrev pub numbered : Class → ℕ
numbered Space = 0
numbered LineEnd = 1
numbered Semicolon = 2
numbered LParen = 3
numbered RParen = 4
numbered AtSign = 5
numbered FormFeed = 6
numbered Minus = 7
numbered Digit = 8
numbered Other = 9

-- and 10 for what else a literal goes on with: `a-f`, `A-F` and `_`
unfoldable pub number_of : ℕ → ℕ
number_of b = cond (symbol_first (class_of b) && literal_byte b) 10 (numbered (class_of b))

-- the class that a number names
unfoldable pub named : ℕ → Class
named n =
    cond (n == 0) Space
    (cond (n == 1) LineEnd
    (cond (n == 2) Semicolon
    (cond (n == 3) LParen
    (cond (n == 4) RParen
    (cond (n == 5) AtSign
    (cond (n == 6) FormFeed
    (cond (n == 7) Minus
    (cond (n == 8) Digit Other))))))))
