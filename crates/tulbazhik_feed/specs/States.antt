-- A feeder's state as eight words, for callers in C: tag, place, start, then what the tag's mode holds. Zeros are the fresh state.
use Rattle.std.specs.Prelude.{ℕ, ◌%◌, Bool, true, false, cond, List, [], ◌∷◌, eqb, ltb, get_or}
use Rattle.lexer.specs.declared.literal.Reading.{Reading}
use Rattle.lexer.specs.declared.literal.Reading.TheVariants.{Empty, Bad, Number}
use Rattle.feeder.specs.declared.Half.{Half}
use Rattle.feeder.specs.declared.Half.TheVariants.{Clear, Semi, Paren}
use Rattle.feeder.specs.declared.Mode.{Mode}
use Rattle.feeder.specs.declared.Mode.TheVariants.{Blank, Line, Opener, Symbol, Sign, Block, Zero, Digits}
use Rattle.feeder.specs.declared.Phase.{Phase}
use Rattle.feeder.specs.declared.Phase.TheVariants.{Live, Closed, Refused}
use Rattle.feeder.specs.declared.State.{State}
use Rattle.feeder.specs.Feeding.{Fed}

abbrev pub bit : Bool → ℕ
bit b = cond b 1 0

abbrev pub half_word : Half → ℕ
half_word Clear = 0
half_word Semi = 1
half_word Paren = 2

-- a literal's digits at p, from a start, with a sign's word, in a radix
abbrev pub pack_digits : ℕ → ℕ → ℕ → ℕ → Reading → List ℕ
pack_digits p st m r Empty = 7 ∷ p ∷ st ∷ r ∷ m ∷ 0 ∷ 0 ∷ 0 ∷ []
pack_digits p st m r (Bad d) = 7 ∷ p ∷ st ∷ r ∷ m ∷ 1 ∷ d.place ∷ d.number ∷ []
pack_digits p st m r (Number n) = 7 ∷ p ∷ st ∷ r ∷ m ∷ 2 ∷ n.hi ∷ n.lo ∷ []

abbrev pub pack_mode : Mode → ℕ → List ℕ
pack_mode Blank p = 0 ∷ p ∷ 0 ∷ 0 ∷ 0 ∷ 0 ∷ 0 ∷ 0 ∷ []
pack_mode Line p = 1 ∷ p ∷ 0 ∷ 0 ∷ 0 ∷ 0 ∷ 0 ∷ 0 ∷ []
pack_mode (Opener st) p = 2 ∷ p ∷ st ∷ 0 ∷ 0 ∷ 0 ∷ 0 ∷ 0 ∷ []
pack_mode (Symbol st) p = 3 ∷ p ∷ st ∷ 0 ∷ 0 ∷ 0 ∷ 0 ∷ 0 ∷ []
pack_mode (Sign st) p = 4 ∷ p ∷ st ∷ 0 ∷ 0 ∷ 0 ∷ 0 ∷ 0 ∷ []
pack_mode (Block st d h) p = 5 ∷ p ∷ st ∷ d ∷ half_word h ∷ 0 ∷ 0 ∷ 0 ∷ []
pack_mode (Zero st m) p = 6 ∷ p ∷ st ∷ 0 ∷ bit m ∷ 0 ∷ 0 ∷ 0 ∷ []
pack_mode (Digits st m r x) p = pack_digits p st (bit m) r x

abbrev pub pack_phase : Phase → ℕ → List ℕ
pack_phase (Live m) p = pack_mode m p
pack_phase Closed p = 8 ∷ p ∷ 0 ∷ 0 ∷ 0 ∷ 0 ∷ 0 ∷ 0 ∷ []
pack_phase (Refused r) p = 9 ∷ p ∷ r.place ∷ r.number ∷ 0 ∷ 0 ∷ 0 ∷ 0 ∷ []

-- a state's words
unfoldable pub pack_of : State → List ℕ
pack_of s = pack_phase s.phase s.place

-- of the state after a call
abbrev pub state_words : Fed → List ℕ
state_words f = pack_of f.state

-- any words mean a state: a flag is any number but 0, a number that is too large is cut to its type, and a tag past the last one is a refusal
abbrev pub half_in : ℕ → Half
half_in h = cond (eqb h 0) Clear (cond (eqb h 1) Semi Paren)

abbrev pub flag_in : ℕ → Bool
flag_in m = cond (eqb m 0) false true

unfoldable pub reading_in : ℕ → ℕ → ℕ → Reading
reading_in k hi lo =
    cond (eqb k 0) Empty (cond (eqb k 1) (Bad (record { number = lo % 256; place = hi })) (Number (record { hi = hi; lo = lo })))

unfoldable pub mode_in : ℕ → ℕ → ℕ → ℕ → Reading → Mode
mode_in tag st d h x =
    cond (eqb tag 0) Blank
    (cond (eqb tag 1) Line
    (cond (eqb tag 2) (Opener st)
    (cond (eqb tag 3) (Symbol st)
    (cond (eqb tag 4) (Sign st)
    (cond (eqb tag 5) (Block st d (half_in h))
    (cond (eqb tag 6) (Zero st (flag_in h))
    (Digits st (flag_in h) (d % 256) x)))))))

unfoldable pub phase_in : ℕ → ℕ → ℕ → ℕ → Reading → Phase
phase_in tag st d h x =
    cond (ltb tag 8) (Live (mode_in tag st d h x))
    (cond (eqb tag 8) Closed
    (Refused (record { number = d % 256; place = st })))

-- the state of any eight words
unfoldable pub unpack_of : List ℕ → State
unpack_of w =
    record {
      phase = phase_in (get_or w 0 0) (get_or w 2 0) (get_or w 3 0) (get_or w 4 0) (reading_in (get_or w 5 0) (get_or w 6 0) (get_or w 7 0));
      place = get_or w 1 0;
    }
