-- THEOREMS feed_in_says, close_in_says: the contracts of the lent entrance, as the prover reads them off the source, are these promises. Assumes nothing.
use mathlib.Core.Path.{◌≡◌, refl}
use seplogic.Ra.Ura.{Ura}
use types.Logic.{Logic}
use contract.Lifetimes.{Lfts}
use contract.Notation as notation
use Rattle.feeder_lent.specs.contracts.feed_in
use Rattle.feeder_lent.specs.contracts.close_in
use Rattle.demands.specs.LentPromises.{FedIn, ClosedIn}

pub feed_in_says : {M : Type 1} {𝓤 : Ura M} (𝓛 : Logic 𝓤) (κs : Lfts 2) (mem : _) (run : _) (s : _) (piece : _) (s' : _) (piece' : _) (r : _)
    → feed_in.ensures-1 𝓛 κs mem run s piece s' piece' r
    ≡ notation.Connectives.⌜◌⌝ (notation.connectives 𝓤) (FedIn s'.entry.now piece'.entry.now r s'.exit.now)
feed_in_says 𝓛 κs mem run s piece s' piece' r = refl

pub close_in_says : {M : Type 1} {𝓤 : Ura M} (𝓛 : Logic 𝓤) (κs : Lfts 1) (mem : _) (run : _) (s : _) (s' : _) (r : _)
    → close_in.ensures-1 𝓛 κs mem run s s' r ≡ notation.Connectives.⌜◌⌝ (notation.connectives 𝓤) (ClosedIn s'.entry.now r s'.exit.now)
close_in_says 𝓛 κs mem run s s' r = refl
