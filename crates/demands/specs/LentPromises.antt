-- What the contracts of the lent entrance say. They speak of a state that is changed in place, and are propositions of the program logic: the theorems
-- `feed_in_says` and `close_in_says` tie each of them to these definitions.
use Rattle.std.specs.Prelude.{◌≡◌, List, ℕ}
use Rattle.feeder.specs.declared.State.{State}
use Rattle.feeder.specs.declared.Out.{Out}
use Rattle.feeder.specs.Feeding.{feed_of, close_of, fed_of}

-- of the state lent, the piece, the answer, and the state at the end
abbrev pub FedIn : State → List ℕ → Out → State → Type 0
FedIn s piece r exit = fed_of (record { out = r; state = exit }) ≡ feed_of s piece

abbrev pub ClosedIn : State → Out → State → Type 0
ClosedIn s r exit = fed_of (record { out = r; state = exit }) ≡ close_of s
