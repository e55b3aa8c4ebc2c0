-- What a byte is (document 01, 'How source becomes tokens').
use Rattle.std.specs.Prelude.{ℕ, ◌-◌, Bool, true, false, cond, ◌&&◌, ◌||◌, ◌==◌, nat_le, nat_lt}
pub use Rattle.classes.specs.declared.Class.{Class}
pub use Rattle.classes.specs.declared.Class.TheVariants.{Space, LineEnd, Semicolon, LParen, RParen, AtSign, FormFeed, Minus, Digit, Other}

-- every byte has one class: space and tab; LF and CR; `;`, `(`, `)`, `@`; form feed; `-`; `0-9`; any other
unfoldable pub class_of : ℕ → Class
class_of b =
    cond (b == 32 || b == 9) Space
    (cond (b == 10 || b == 13) LineEnd
    (cond (b == 59) Semicolon
    (cond (b == 40) LParen
    (cond (b == 41) RParen
    (cond (b == 64) AtSign
    (cond (b == 12) FormFeed
    (cond (b == 45) Minus
    (cond (nat_le 48 b && nat_le b 57) Digit Other))))))))

-- a question about classes, answered for each in the order above
abbrev pub asked : Class → (space line_end semicolon lparen rparen is_at_sign form_feed minus digit other : Bool) → Bool
asked Space a b c d e f g h i j = a
asked LineEnd a b c d e f g h i j = b
asked Semicolon a b c d e f g h i j = c
asked LParen a b c d e f g h i j = d
asked RParen a b c d e f g h i j = e
asked AtSign a b c d e f g h i j = f
asked FormFeed a b c d e f g h i j = g
asked Minus a b c d e f g h i j = h
asked Digit a b c d e f g h i j = i
asked Other a b c d e f g h i j = j

-- space and tab
abbrev pub space : Class → Bool
space c = asked c true false false false false false false false false false

-- space, tab, LF, CR
abbrev pub blank : Class → Bool
blank c = asked c true true false false false false false false false false

-- a line comment runs up to LF or CR
abbrev pub line_end : Class → Bool
line_end c = asked c false true false false false false false false false false

-- `;`, `(` and `)`, which open and close comments, and `@`
abbrev pub semicolon : Class → Bool
semicolon c = asked c false false true false false false false false false false

abbrev pub lparen : Class → Bool
lparen c = asked c false false false true false false false false false false

abbrev pub rparen : Class → Bool
rparen c = asked c false false false false true false false false false false

abbrev pub is_at_sign : Class → Bool
is_at_sign c = asked c false false false false false true false false false false

-- `0-9`
abbrev pub decimal : Class → Bool
decimal c = asked c false false false false false false false false true false

-- a symbol begins with any byte but `-`, a digit, `(`, `)`, `;`, `@`, a blank or form feed
abbrev pub symbol_first : Class → Bool
symbol_first c = asked c false false false false false false false false false true

-- and runs on until `(`, `)`, `;`, `@`, a blank or form feed
abbrev pub symbol_other : Class → Bool
symbol_other c = asked c false false false false false false false true true true

-- the bytes above `@`, each of which begins a symbol and goes on in one
abbrev pub high : ℕ → Bool
high b = nat_lt 64 b

-- a digit's value: `0-9`, `a-f`, `A-F`; 16 of any other byte
unfoldable pub digit_of : ℕ → ℕ
digit_of b =
    cond (nat_le 48 b && nat_le b 57) (b - 48)
    (cond (nat_le 97 b && nat_le b 102) (b - 87)
    (cond (nat_le 65 b && nat_le b 70) (b - 55) 16))

-- the bytes of a literal behind its sign and prefix: `0-9 a-f A-F _`
unfoldable pub literal_byte : ℕ → Bool
literal_byte b = b == 95 || nat_le (digit_of b) 15
