-- A value, or a refusal's number and place (document 01, 'Numbers given instead of an answer'): what every definition of an answer comes to.
use Rattle.std.specs.Prelude.{ℕ}
use Rattle.refusals.specs.declared.Refusal.{Refusal}

pub data Result (A : Type 0) : Type 0 where
  ok : A → Result A
  refused : ℕ → ℕ → Result A

-- the refusal that the code hands out
abbrev pub refused_by : {A : Type 0} → Refusal → Result A
refused_by r = refused r.number r.place

-- goes on with the value; a refusal stays
abbrev pub and_then : {A B : Type 0} → Result A → (A → Result B) → Result B
and_then (ok x) k = k x
and_then (refused n a) k = refused n a
