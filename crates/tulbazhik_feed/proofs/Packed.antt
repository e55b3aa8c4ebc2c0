-- A state whose numbers fit their types comes back from its words. Assumes nothing.
use mathlib.Core.Path.{◌≡◌, refl}
use mathlib.Core.Bool.{Bool, true, false}
use Prim.Native.Nat.{ℕ, ◌%◌, ◌<◌}
use native.Mathlib.Omega.{arith}
use Rattle.lexer.specs.declared.literal.Reading.{Reading}
use Rattle.lexer.specs.declared.literal.Reading.TheVariants.{Empty, Bad, Number}
use Rattle.feeder.specs.declared.Half.{Half}
use Rattle.feeder.specs.declared.Half.TheVariants.{Clear, Semi, Paren}
use Rattle.feeder.specs.declared.Mode.{Mode}
use Rattle.feeder.specs.declared.Mode.TheVariants.{Blank, Line, Opener, Symbol, Sign, Block, Zero, Digits}
use Rattle.feeder.specs.declared.Phase.{Phase}
use Rattle.feeder.specs.declared.Phase.TheVariants.{Live, Closed, Refused}
use Rattle.feeder.specs.declared.State.{State}
use Rattle.tulbazhik_feed.specs.States.{pack_of, pack_phase, unpack_of, reading_in, mode_in, phase_in}

-- a radix and a refusal's number are a byte
abbrev pub ReadingFits : Reading → Type 0
ReadingFits Empty = Unit {0}
ReadingFits (Bad d) = d.number < 256
ReadingFits (Number n) = Unit {0}

abbrev pub ModeFits : Mode → Type 0
ModeFits Blank = Unit {0}
ModeFits Line = Unit {0}
ModeFits (Opener st) = Unit {0}
ModeFits (Symbol st) = Unit {0}
ModeFits (Sign st) = Unit {0}
ModeFits (Block st d h) = Unit {0}
ModeFits (Zero st m) = Unit {0}
ModeFits (Digits st m r x) = (r < 256) × ReadingFits x

abbrev pub PhaseFits : Phase → Type 0
PhaseFits (Live m) = ModeFits m
PhaseFits Closed = Unit {0}
PhaseFits (Refused r) = r.number < 256

back_block : (st d p : ℕ) (h : Half) → unpack_of (pack_phase (Live (Block st d h)) p) ≡ record { phase = Live (Block st d h); place = p }
unfolding unpack_of phase_in mode_in reading_in
back_block st d p Clear = refl
back_block st d p Semi = refl
back_block st d p Paren = refl

back_zero : (st p : ℕ) (m : Bool) → unpack_of (pack_phase (Live (Zero st m)) p) ≡ record { phase = Live (Zero st m); place = p }
unfolding unpack_of phase_in mode_in reading_in
back_zero st p true = refl
back_zero st p false = refl

back_digits : (st p r : ℕ) (m : Bool) (x : Reading) → r < 256 → ReadingFits x → unpack_of (pack_phase (Live (Digits st m r x)) p) ≡ record { phase = Live (Digits st m r x); place = p }
unfolding unpack_of phase_in mode_in reading_in
back_digits st p r true Empty h f = let e : r % 256 ≡ r = omega arith in rw e refl
back_digits st p r false Empty h f = let e : r % 256 ≡ r = omega arith in rw e refl
back_digits st p r true (Bad d) h f = let e : r % 256 ≡ r = omega arith in let g : d.number % 256 ≡ d.number = omega arith in rw (e, g) refl
back_digits st p r false (Bad d) h f = let e : r % 256 ≡ r = omega arith in let g : d.number % 256 ≡ d.number = omega arith in rw (e, g) refl
back_digits st p r true (Number n) h f = let e : r % 256 ≡ r = omega arith in rw e refl
back_digits st p r false (Number n) h f = let e : r % 256 ≡ r = omega arith in rw e refl

back_refused : (n a p : ℕ) → n < 256 → unpack_of (pack_phase (Refused (record { number = n; place = a })) p) ≡ record { phase = Refused (record { number = n; place = a }); place = p }
unfolding unpack_of phase_in
back_refused n a p h = let e : n % 256 ≡ n = omega arith in rw e refl

back_phase : (f : Phase) (p : ℕ) → PhaseFits f → unpack_of (pack_phase f p) ≡ record { phase = f; place = p }
unfolding unpack_of phase_in mode_in reading_in
back_phase (Live Blank) p h = refl
back_phase (Live Line) p h = refl
back_phase (Live (Opener st)) p h = refl
back_phase (Live (Symbol st)) p h = refl
back_phase (Live (Sign st)) p h = refl
back_phase (Live (Block st d k)) p h = back_block st d p k
back_phase (Live (Zero st m)) p h = back_zero st p m
back_phase (Live (Digits st m r x)) p h = back_digits st p r m x h.0 h.1
back_phase Closed p h = refl
back_phase (Refused r) p h = back_refused r.number r.place p h

pub back : (s : State) → PhaseFits s.phase → unpack_of (pack_of s) ≡ s
unfolding pack_of
back s h = back_phase s.phase s.place h
