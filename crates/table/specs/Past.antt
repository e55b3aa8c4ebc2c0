-- The place past what stands at a place of a table.
use Rattle.std.specs.Prelude.{ℕ, ◌+◌, cond, List, Result as CodeResult, Ok, Err}
use Rattle.refusals.specs.Result.{Result, ok, refused}
use Rattle.refusals.specs.declared.Fault.{Fault}
use Rattle.records.specs.Records.{payload}
use Rattle.table.specs.Trees.{is_symbol}
use Rattle.table.specs.Records.{Record, Symbol, Integer, Binding, ListOf, record_at}
use Rattle.table.specs.Decoding.{Found, found}

-- the place past the tree that was looked for at a place, or that place
abbrev pub past_of : {A : Type 0} → ℕ → Result (Found A) → ℕ
past_of at (ok (found x q)) = q
past_of at (refused n a) = at

-- the place past a good symbol, or the place itself
abbrev pub past_name : List ℕ → ℕ → CodeResult Record Fault → ℕ
past_name t at (Ok (Symbol len)) = cond (is_symbol (payload t at len)) (at + len) at
past_name t at (Ok Integer) = at
past_name t at (Ok (Binding len)) = at
past_name t at (Ok (ListOf n)) = at
past_name t at (Err f) = at

unfoldable pub past_symbol : List ℕ → ℕ → ℕ
past_symbol t at = past_name t at (record_at t at)
