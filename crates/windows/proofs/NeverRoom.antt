-- No fault of a table is numbered as a lack of room, so that no call refuses for room. Assumes nothing.
use Rattle.std.proofs.Common.{◌≡◌, ℕ, true, sym, subst, ⊎_elim, arith}
use Rattle.lists.proofs.Choice.{true_false}
use Rattle.table.specs.Faults.{is_fault}
use Rattle.table.proofs.Faults.{fault_numbered}
use Rattle.windows.specs.AnyCall.{NeverRoom}
use Rattle.windows.proofs.AnyCall.{refused_at_first}

pub never_room : NeverRoom
never_room t w s b n a e z =
    ⊎_elim (λ l. omega arith) (λ f. true_false (sym (subst (λ (k : ℕ). is_fault k ≡ true) z f))) (fault_numbered t n a (refused_at_first t w s b n a e).1)
