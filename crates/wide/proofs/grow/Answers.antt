-- `wide::grow`: one product below 2^56, else two with a carry; the last carry says whether 128 bits hold the number.
use Rattle.std.proofs.Common.{◌≡◌, ℕ, ◌+◌, ◌∙◌, add_comm, arith, rules}
use Rattle.wide.specs.Value.{val}
use Rattle.wide.proofs.Growth.{fits, over, short, short_val, fitting, above}
use Rattle.wide.proofs.grow.Goals as goal

pub overflow_mul-lo : goal.overflow_mul-lo
overflow_mul-lo c =
    let a = c.args in
    omega (arith, short a.n.lo a.radix a.digit c.if-n-lt72057594037927936.true (omega arith) (omega arith))

pub overflow_add-lo : goal.overflow_add-lo
overflow_add-lo c =
    let a = c.args in
    omega (arith, short a.n.lo a.radix a.digit c.if-n-lt72057594037927936.true (omega arith) (omega arith))

pub returns-then-n-lt72057594037927936 : goal.returns-then-n-lt72057594037927936
unfolding val
returns-then-n-lt72057594037927936 c =
    let a = c.args in
    fits _ _ (omega arith) (short a.n.lo a.radix a.digit c.if-n-lt72057594037927936.true (omega arith) (omega arith))
    (short_val a.n.hi a.n.lo a.radix a.digit c.if-n-eq0.true)

-- what the library's method says, its high part first
turned : (a b c : ℕ) → a + b ≡ c → b + a ≡ c
turned a b c e = add_comm b a ∙ e

pub returns-then-over-eq0 : goal.returns-then-over-eq0
unfolding val
returns-then-over-eq0 c =
    let a = c.args in
    let low = c.carrying_mul-lo in
    let high = c.carrying_mul-hi in
    fits _ _ (search rules) (search rules)
    (fitting a.n.hi a.n.lo a.radix a.digit low.result.1 low.result.0 high.result.1 high.result.0 (turned _ _ _ low.ensures) (turned _ _ _ high.ensures) c.if-over-eq0.true)

pub returns : goal.returns
unfolding val
returns c =
    let a = c.args in
    let low = c.carrying_mul-lo in
    let high = c.carrying_mul-hi in
    over _
    (above a.n.hi a.n.lo a.radix a.digit low.result.1 low.result.0 high.result.1 high.result.0 (turned _ _ _ low.ensures) (turned _ _ _ high.ensures) c.if-over-eq0.false)
