-- What is known of a table that was accepted: it is the records of good trees (the theorem `sound`).
use Rattle.std.specs.Prelude.{◌≡◌, List, ℕ, ◌≤◌, length}
use Rattle.refusals.specs.Numbers.{table_limit, depth_limit}
use Rattle.table.specs.Trees.{Trees, Goods, records_of}

-- as the trees xs, up to the place q
pub record Accepted (t : List ℕ) (xs : Trees) (q : ℕ) : Type 0 where
  pub is : t ≡ records_of xs
  pub past : q ≡ length t
  pub good : Goods xs depth_limit
  pub small : length t ≤ table_limit
