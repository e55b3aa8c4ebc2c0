-- `settings::seen::Seen::mark`: the bit of the kind, and no other.
use native.Mathlib.Omega.{arith}
use Rattle.settings.proofs.Bits.{seen}
use Rattle.settings.proofs.seen.Seen.mark.Goals as goal

pub returns : goal.returns
returns c before t = seen c.args.self.now.words before _ _ c.requires c.slot_of-slot.ensures (omega arith) t
