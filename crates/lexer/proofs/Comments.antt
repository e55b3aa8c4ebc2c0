-- Block comments at a place of the source, a law for each outcome of a turn. Assumes nothing.
use Prim.Native.Nat.{ℕ, zero, suc, ◌+◌, ◌-◌, ◌≤◌, ◌<◌}
use mathlib.Core.Path.{◌≡◌, refl, sym, ap, ◌∙◌}
use mathlib.Core.List.{List}
use mathlib.Core.Bool.{Bool, true, false, cond, ◌&&◌}
use native.Mathlib.Numerals.{add-one}
use native.Mathlib.Omega.{arith}
use lib.ListN.{length, get_or, drop, drop_of_length-le}
use borrow.Author.Tests.{le-leb, lt-leb}
use Rattle.lists.proofs.Places.{from, first, within}
use Rattle.classes.specs.declared.Class.{Class}
use Rattle.classes.specs.declared.Class.TheVariants.{Space, LineEnd, Semicolon, LParen, RParen, AtSign, FormFeed, Minus, Digit, Other}
use Rattle.classes.specs.Classes.{class_of, lparen, rparen, semicolon}
use Rattle.lexer.specs.Lexing.{Skip, InBlock, Skipping, One, Two, leave, skip}
use Rattle.lexer.specs.Gaps.{unclosed, skip_in, skip_at}
use Rattle.lexer.specs.PrivateBlocks.{mark_of}
use Rattle.lexer.specs.declared.Mark.{Mark}
use Rattle.lexer.specs.declared.Mark.TheVariants.{Opener, Closer, Neither}

abbrev by_mark : ℕ → ℕ → Mark → Skipping
by_mark d p Opener = Two (InBlock (d + 1) p)
by_mark d p Closer = Two (leave d p)
by_mark d p Neither = One (InBlock d p)

marked_on : (a b : Bool) (d p : ℕ) → cond a (Two (InBlock (d + 1) p)) (cond b (Two (leave d p)) (One (InBlock d p))) ≡ by_mark d p (cond a Opener (cond b Closer Neither))
marked_on true b d p = refl
marked_on false true d p = refl
marked_on false false d p = refl

marked : (d p i : ℕ) (c c' : Class) → skip (InBlock d p) c c' i ≡ by_mark d p (mark_of c c')
unfolding skip
marked d p i c c' = marked_on (lparen c && semicolon c') (semicolon c && rparen c') d p

-- past the end a byte counts as 0, which is of class Other
Within : ℕ → Mark → Type 0
Within c Opener = 0 < c
Within c Closer = 0 < c
Within c Neither = Unit {0}

other : (c : Class) (m : Mark) → mark_of c Other ≡ m → m ≡ Neither
other Space m e = sym e
other LineEnd m e = sym e
other Semicolon m e = sym e
other LParen m e = sym e
other RParen m e = sym e
other AtSign m e = sym e
other FormFeed m e = sym e
other Minus m e = sym e
other Digit m e = sym e
other Other m e = sym e

positive : (b c : ℕ) (m : Mark) → mark_of (class_of b) (class_of c) ≡ m → Within c m
unfolding class_of Within
positive b zero m e = rw (other (class_of b) m e) tt
positive b (suc c) Opener e = omega arith
positive b (suc c) Closer e = omega arith
positive b (suc c) Neither e = tt

module _ (s : List ℕ) (i : ℕ) where
  abbrev here : Mark
  here = mark_of (class_of (get_or s i 0)) (class_of (get_or s (i + 1) 0))

  -- an opener and a closer have two bytes
  pub two_open : here ≡ Opener → i + 1 < length s
  unfolding Within
  two_open e = within s (i + 1) (positive (get_or s i 0) (get_or s (i + 1) 0) Opener e)

  pub two_close : here ≡ Closer → i + 1 < length s
  unfolding Within
  two_close e = within s (i + 1) (positive (get_or s i 0) (get_or s (i + 1) 0) Closer e)

  module _ (d p : ℕ) where
    pub block_past : length s ≤ i → skip_in 0 (InBlock d p) (drop i s) i ≡ unclosed p
    unfolding skip_in
    block_past h = rw (drop_of_length-le s h)

    -- two bytes are passed, the second unread
    two_on : (k : Skip) → i + 1 < length s → skip (InBlock d p) (class_of (get_or s i 0)) (class_of (get_or s (i + 1) 0)) i ≡ Two k
        → skip_in 0 (InBlock d p) (drop i s) i ≡ skip_in 0 k (drop (i + 2) s) (i + 2)
    unfolding skip_in
    two_on k h e =
        let two : i + 1 + 1 ≡ i + 2 = omega arith in
        let places : suc (suc i) ≡ i + 2 = omega arith in
        rw (← two, from s i (omega arith), skip_in, first s (i + 1), e, from s (i + 1) h) (ap (skip_in 0 k (drop (i + 1 + 1) s)) (places ∙ sym two))

    pub block_open : here ≡ Opener → skip_in 0 (InBlock d p) (drop i s) i ≡ skip_in 0 (InBlock (d + 1) p) (drop (i + 2) s) (i + 2)
    block_open e = two_on (InBlock (d + 1) p) (two_open e) (marked d p i _ _ ∙ ap (by_mark d p) e)

    block_left_on : here ≡ Closer → skip_in 0 (InBlock d p) (drop i s) i ≡ skip_in 0 (leave d p) (drop (i + 2) s) (i + 2)
    block_left_on e = two_on (leave d p) (two_close e) (marked d p i _ _ ∙ ap (by_mark d p) e)

    -- the last comment is left, or one of several
    pub block_last : d ≤ 1 → here ≡ Closer → skip_in 0 (InBlock d p) (drop i s) i ≡ skip_at s (i + 2)
    block_last h e = block_left_on e ∙ rw (le-leb d 1 h) refl

    pub block_close : 1 < d → here ≡ Closer → skip_in 0 (InBlock d p) (drop i s) i ≡ skip_in 0 (InBlock (d - 1) p) (drop (i + 2) s) (i + 2)
    block_close h e = block_left_on e ∙ rw (lt-leb d 1 h) refl

    pub block_go : i < length s → here ≡ Neither → skip_in 0 (InBlock d p) (drop i s) i ≡ skip_in 0 (InBlock d p) (drop (i + 1) s) (i + 1)
    unfolding skip_in
    block_go h e =
        let k : skip (InBlock d p) (class_of (get_or s i 0)) (class_of (get_or s (i + 1) 0)) i ≡ One (InBlock d p) = marked d p i _ _ ∙ ap (by_mark d p) e in
        rw (from s i h, skip_in, first s (i + 1), k) (ap (skip_in 0 (InBlock d p) (drop (i + 1) s)) (sym (add-one i)))

-- each outcome of a turn, for the loop over a block comment
pub ruleset turns = (two_open, two_close, block_past, block_open, block_last, block_close, block_go)
