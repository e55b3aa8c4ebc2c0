-- Document 01, 'Worked by hand': every case marked P, and what document 02 changed of them or added, as a single statement over one list: THEOREM worked.
use Rattle.std.specs.Prelude.{◌≡◌, ℕ, ◌-◌, ◌^◌, List, [], ◌∷◌, ◌++◌, map, pos, negsuc, take, replicate}
use Rattle.refusals.specs.Result.{Result, ok, refused, and_then}
use Rattle.lexer.specs.Tokens.{symbol, int, token}
use Rattle.lexer.specs.Streams.{Stream, ends, then, tokens_of}
use Rattle.reader.specs.Reading.{reading, read_into}
use Rattle.printer.specs.Printing.{Text, text, printing, printed_into}
use Rattle.windows.specs.declared.State.{State}
use Rattle.windows.specs.Machine.{fresh_state}
use Rattle.windows.specs.Filling.{Answer, part, end, fill_of, calls}

-- a source is lexed, or read into a room, or read and then printed at a width into a room; or a table is so printed, or printed through windows of given lengths
pub data Run : Type 0 where
  lexed : List ℕ → Run
  read : List ℕ → Run
  printed : List ℕ → ℕ → Run
  table : List ℕ → ℕ → Run
  windowed : List ℕ → ℕ → List ℕ → Run

-- the bytes of a text, and the records that the fits test looked at
pub data Page : Type 0 where
  page : List ℕ → ℕ → Page

-- tokens and how they end; the bytes of a table, or a text, or the refusal; what each call answers, and the windows joined
pub data Outcome : Type 0 where
  tokens : Stream → Outcome
  bytes : Result (List ℕ) → Outcome
  paged : Result Page → Outcome
  parts : List Answer → List ℕ → Outcome

abbrev room : List ℕ
room = replicate 80 0

-- the bytes that were reported, of the room as it is afterwards
abbrev tabled : List ℕ → Result (List ℕ)
tabled s = and_then (reading s 80) (λ n. ok (take n (read_into s room)))

abbrev shown : List ℕ → Text → Page
shown b (text n k) = page (take n b) k

abbrev texted : List ℕ → ℕ → Result Page
texted t w = and_then (printing t w 80) (λ x. ok (shown (printed_into t w room) x))

-- a window of n bytes is not empty before the call
abbrev window : ℕ → List ℕ
window n = replicate n 7

abbrev answers : List ℕ → ℕ → State → List ℕ → List Answer
answers t w s [] = []
answers t w s (n ∷ ns) = (fill_of t w s (window n)).answer ∷ answers t w (fill_of t w s (window n)).state ns

-- a refused read prints nothing; a table that was read is printed by the contract's own definitions
abbrev ran : Run → Outcome
ran (lexed s) = tokens (tokens_of s)
ran (read s) = bytes (tabled s)
ran (printed s w) = paged (and_then (tabled s) (λ t. texted t w))
ran (table t w) = paged (texted t w)
ran (windowed t w ns) = parts (answers t w fresh_state ns) (calls t w fresh_state (map window ns)).out

pub record Case : Type 0 where
  pub run : Run
  pub answer : Outcome

abbrev case : Run → Outcome → Case
case r a = record { run = r; answer = a }

-- `(rule (a b) c)`
abbrev rule : List ℕ
rule = 40 ∷ 114 ∷ 117 ∷ 108 ∷ 101 ∷ 32 ∷ 40 ∷ 97 ∷ 32 ∷ 98 ∷ 41 ∷ 32 ∷ 99 ∷ 41 ∷ []

-- a list of n items that stores the cost k, and their records
abbrev costly : ℕ → ℕ → List ℕ → List ℕ
costly n k items = 14 ∷ 0 ∷ 0 ∷ 0 ∷ 5 ∷ 0 ∷ n ∷ 0 ∷ 0 ∷ 0 ∷ k ∷ 0 ∷ 0 ∷ 0 ∷ items

-- its table
abbrev rule_table : List ℕ
rule_table =
    costly 3 14 (10 ∷ 0 ∷ 0 ∷ 0 ∷ 1 ∷ 0 ∷ 114 ∷ 117 ∷ 108 ∷ 101 ∷ costly 2 5 (7 ∷ 0 ∷ 0 ∷ 0 ∷ 1 ∷ 0 ∷ 97 ∷ 7 ∷ 0 ∷ 0 ∷ 0 ∷ 1 ∷ 0 ∷ 98 ∷ 7 ∷ 0 ∷ 0 ∷ 0 ∷ 1 ∷ 0 ∷ 99 ∷ []))

-- -2^127 as document 02, 6/12 writes it, and in a list; its table
abbrev lowest : List ℕ
lowest = 48 ∷ 120 ∷ 56 ∷ replicate 31 48

abbrev listed : List ℕ
listed = 40 ∷ (lowest ++ (41 ∷ []))

abbrev lowest_table : List ℕ
lowest_table = 22 ∷ 0 ∷ 0 ∷ 0 ∷ 2 ∷ 0 ∷ (replicate 15 0 ++ (128 ∷ []))

unfoldable pub cases : List Case
cases =
    -- the empty source, `(;)`, `(;(;;);)x`
    case (lexed []) (tokens (ends (ok tt)))
    ∷ case (lexed (40 ∷ 59 ∷ 41 ∷ [])) (tokens (ends (refused 4 0)))
    ∷ case (lexed (40 ∷ 59 ∷ 40 ∷ 59 ∷ 59 ∷ 41 ∷ 59 ∷ 41 ∷ 120 ∷ [])) (tokens (then (token symbol 8 1) (ends (ok tt))))
    -- `12ab`, `-`, `12xyz`, `1_0-2`
    ∷ case (lexed (49 ∷ 50 ∷ 97 ∷ 98 ∷ [])) (tokens (ends (refused 6 2)))
    ∷ case (lexed (45 ∷ [])) (tokens (ends (refused 5 0)))
    ∷ case (lexed (49 ∷ 50 ∷ 120 ∷ 121 ∷ 122 ∷ [])) (tokens (then (token (int (pos 12)) 0 2) (then (token symbol 2 3) (ends (ok tt)))))
    ∷ case (lexed (49 ∷ 95 ∷ 48 ∷ 45 ∷ 50 ∷ [])) (tokens (then (token (int (pos 10)) 0 3) (then (token (int (negsuc 1)) 3 2) (ends (ok tt)))))
    -- `0x8` and 31 zeros: -2^127; with `-` in front; `-0x` and 32 `f`
    ∷ case (lexed (48 ∷ 120 ∷ 56 ∷ replicate 31 48)) (tokens (then (token (int (negsuc (2 ^ 127 - 1))) 0 34) (ends (ok tt))))
    ∷ case (lexed (45 ∷ 48 ∷ 120 ∷ 56 ∷ replicate 31 48)) (tokens (ends (refused 8 0)))
    ∷ case (lexed (45 ∷ 48 ∷ 120 ∷ replicate 32 102)) (tokens (then (token (int (pos 1)) 0 35) (ends (ok tt))))
    -- `a`, form feed, `b`
    ∷ case (lexed (97 ∷ 12 ∷ 98 ∷ [])) (tokens (then (token symbol 0 1) (ends (refused 3 1))))
    -- document 02, 1/12: the digit's place. `(a 12ab)`; `0b` and 128 digits of which the 100th is `2`; `-0x` and 33 `f`
    ∷ case (read (40 ∷ 97 ∷ 32 ∷ 49 ∷ 50 ∷ 97 ∷ 98 ∷ 41 ∷ [])) (bytes (refused 6 5))
    ∷ case (lexed (48 ∷ 98 ∷ (replicate 99 49 ++ (50 ∷ replicate 28 49)))) (tokens (ends (refused 6 101)))
    ∷ case (lexed (45 ∷ 48 ∷ 120 ∷ replicate 33 102)) (tokens (ends (refused 7 35)))
    -- `x @ (a)`, with its list's cost as document 02, 7/12 has it stored; `x @ )`
    ∷ case (read (120 ∷ 32 ∷ 64 ∷ 32 ∷ 40 ∷ 97 ∷ 41 ∷ []))
    (bytes (ok (7 ∷ 0 ∷ 0 ∷ 0 ∷ 3 ∷ 0 ∷ 120 ∷ costly 1 3 (7 ∷ 0 ∷ 0 ∷ 0 ∷ 1 ∷ 0 ∷ 97 ∷ []))))
    ∷ case (read (120 ∷ 32 ∷ 64 ∷ 32 ∷ 41 ∷ [])) (bytes (refused 12 4))
    -- `(rule (a b) c)` at width 14 and at 13; `()` at width 0. Document 02, 7/12: at 14 one list is tested; at 13 it does not fit, and `(a b)` is tested too; `()` is tested
    ∷ case (printed rule 14) (paged (ok (page (40 ∷ 114 ∷ 117 ∷ 108 ∷ 101 ∷ 32 ∷ 40 ∷ 97 ∷ 32 ∷ 98 ∷ 41 ∷ 32 ∷ 99 ∷ 41 ∷ 10 ∷ []) 1)))
    ∷ case (printed rule 13)
    (paged (ok (page (40 ∷ 114 ∷ 117 ∷ 108 ∷ 101 ∷ 10 ∷ 32 ∷ 32 ∷ 32 ∷ 32 ∷ 40 ∷ 97 ∷ 32 ∷ 98 ∷ 41 ∷ 10 ∷ 32 ∷ 32 ∷ 32 ∷ 32 ∷ 99 ∷ 10 ∷ 41 ∷ 10 ∷ []) 2)))
    ∷ case (printed (40 ∷ 41 ∷ []) 0) (paged (ok (page (40 ∷ 41 ∷ 10 ∷ []) 1)))
    -- document 02, 1/12: table faults. A length below 6 and an unknown kind; that kind alone; a list of length 15; a list whose item is missing; one whose item is cut short
    ∷ case (table (5 ∷ 0 ∷ 0 ∷ 0 ∷ 6 ∷ 0 ∷ []) 0) (paged (refused 15 0))
    ∷ case (table (6 ∷ 0 ∷ 0 ∷ 0 ∷ 6 ∷ 0 ∷ []) 0) (paged (refused 20 0))
    ∷ case (table (15 ∷ 0 ∷ 0 ∷ 0 ∷ 5 ∷ 0 ∷ replicate 9 0) 0) (paged (refused 21 0))
    ∷ case (table (costly 1 3 []) 0) (paged (refused 22 14))
    ∷ case (table (costly 1 3 (7 ∷ [])) 0) (paged (refused 15 14))
    -- document 02, 7/12: kind 4 as it was; kind 5 of that length; `()` with a wrong cost; `(())` with two, and with the inner one; a wrong cost before a symbol of no bytes, and before
    -- a tree that is missing
    ∷ case (table (10 ∷ 0 ∷ 0 ∷ 0 ∷ 4 ∷ 0 ∷ replicate 4 0) 0) (paged (refused 20 0))
    ∷ case (table (10 ∷ 0 ∷ 0 ∷ 0 ∷ 5 ∷ 0 ∷ replicate 4 0) 0) (paged (refused 21 0))
    ∷ case (table (costly 0 2 []) 0) (paged (refused 25 0))
    ∷ case (table (costly 1 2 (costly 0 2 [])) 0) (paged (refused 25 0))
    ∷ case (table (costly 1 3 (costly 0 2 [])) 0) (paged (refused 25 14))
    ∷ case (table (costly 0 2 (6 ∷ 0 ∷ 0 ∷ 0 ∷ 1 ∷ 0 ∷ [])) 0) (paged (refused 16 14))
    ∷ case (table (costly 1 9 []) 0) (paged (refused 22 14))
    -- document 02, 2/12: `(rule (a b) c)` at width 13 through windows of 5, 0, 9, 9, 3 and 0 bytes, then 2; through one of 24; no trees; tables that are refused, and refused again
    ∷ case (windowed rule_table 13 (5 ∷ 0 ∷ 9 ∷ 9 ∷ 3 ∷ 0 ∷ 2 ∷ []))
    (parts (ok (part 5) ∷ ok (part 0) ∷ ok (part 9) ∷ ok (part 9) ∷ ok (part 1) ∷ ok (end 2) ∷ ok (end 2) ∷ [])
    (40 ∷ 114 ∷ 117 ∷ 108 ∷ 101 ∷ 10 ∷ 32 ∷ 32 ∷ 32 ∷ 32 ∷ 40 ∷ 97 ∷ 32 ∷ 98 ∷ 41 ∷ 10 ∷ 32 ∷ 32 ∷ 32 ∷ 32 ∷ 99 ∷ 10 ∷ 41 ∷ 10 ∷ []))
    ∷ case (windowed rule_table 14 (24 ∷ []))
    (parts (ok (part 15) ∷ []) (40 ∷ 114 ∷ 117 ∷ 108 ∷ 101 ∷ 32 ∷ 40 ∷ 97 ∷ 32 ∷ 98 ∷ 41 ∷ 32 ∷ 99 ∷ 41 ∷ 10 ∷ []))
    ∷ case (windowed [] 0 (0 ∷ 1 ∷ [])) (parts (ok (end 0) ∷ ok (end 0) ∷ []) [])
    ∷ case (windowed (6 ∷ 0 ∷ 0 ∷ 0 ∷ 6 ∷ 0 ∷ []) 0 (0 ∷ 1 ∷ [])) (parts (refused 20 0 ∷ refused 20 0 ∷ []) [])
    ∷ case (windowed (costly 0 2 []) 0 (0 ∷ 1 ∷ [])) (parts (refused 25 0 ∷ refused 25 0 ∷ []) [])
    -- document 02, 6/12: -2^127 prints as `0x8` and 31 zeros at any width; its cost is 34, so that in a list it fits in 36 and not in 35; through windows of 3, 40 and 1 bytes
    ∷ case (read lowest) (bytes (ok lowest_table))
    ∷ case (printed lowest 0) (paged (ok (page (lowest ++ (10 ∷ [])) 0)))
    ∷ case (printed listed 36) (paged (ok (page (listed ++ (10 ∷ [])) 1)))
    ∷ case (printed listed 35) (paged (ok (page (40 ∷ (lowest ++ (10 ∷ 41 ∷ 10 ∷ []))) 1)))
    ∷ case (windowed lowest_table 0 (3 ∷ 40 ∷ 1 ∷ [])) (parts (ok (part 3) ∷ ok (part 32) ∷ ok (end 0) ∷ []) (lowest ++ (10 ∷ [])))
    ∷ []

abbrev pub Worked : Type 0
Worked = map (λ (c : Case). ran c.run) cases ≡ map (λ (c : Case). c.answer) cases
