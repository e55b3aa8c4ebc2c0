-- Private: what the routines of the walk over a source answer, and what they may count on. Only contracts of private functions cite it.
use Rattle.std.specs.Prelude.{ℕ, ◌≤◌, ◌≡◌, List, length, Result as CodeResult, Ok, Err}
use Rattle.refusals.specs.Result.{Result, ok, refused_by}
use Rattle.refusals.specs.declared.Refusal.{Refusal}
use Rattle.lists.specs.Rooms.{Filled}
use Rattle.lexer.specs.Tokens.{lparen, Token, token, Answer, is}
use Rattle.lexer.specs.Lexing.{next_token}
use Rattle.table.specs.Kinds.{symbol_kind, integer_kind, binding_kind, list_kind}
use Rattle.table.specs.declared.Kind.{Kind}
use Rattle.table.specs.declared.Kind.TheVariants as kind
use Rattle.table.specs.Trees.{Tree, Trees, count, cost, costs, records, records_of}
use Rattle.reader.specs.Grammar.{One, got, Many, up_to, to_end}
use Rattle.reader.specs.declared.One.{One as OneRead}
use Rattle.reader.specs.declared.Many.{Many as ManyRead}
use Rattle.reader.specs.declared.Stop.{Stop}
use Rattle.reader.specs.declared.Stop.TheVariants as stop

-- the answer is the lexer's, from some place on
pub record Lexes (s : List ℕ) (a : Answer) : Type 0 where
  pub place : ℕ
  pub gives : next_token s place ≡ a

-- a `(` at p
abbrev pub opens : ℕ → Answer
opens p = ok (is (token lparen p 1))

-- the number that a kind of records stands for
abbrev pub kind_number : Kind → ℕ
kind_number kind.Symbol = symbol_kind
kind_number kind.Integer = integer_kind
kind_number kind.Binding = binding_kind
kind_number kind.List = list_kind

-- the cost v told of what costs k and has records of n bytes: no more than k, and k where a room of r bytes holds those records
abbrev pub CostTold : ℕ → ℕ → ℕ → ℕ → Type 0
CostTold v k n r = (v ≤ k) × (n ≤ r → v ≡ k)

-- a tree x: the place past it, the bytes of its records, its cost if there is room for them, and the records at the front of the room
pub record TreeIs (s : List ℕ) (y : Result One) (r : OneRead) (b b' : List ℕ) : Type 0 where
  pub tree : Tree
  pub reads : y ≡ ok (got tree (next_token s r.place))
  pub size : r.size ≡ length (records tree)
  pub told : CostTold r.cost (cost tree) (length (records tree)) (length b)
  pub filled : Filled (records tree) b b'

-- or a refusal
abbrev pub TreeRead : List ℕ → Result One → CodeResult OneRead Refusal → List ℕ → List ℕ → Type 0
TreeRead s y (Ok r) b b' = TreeIs s y r b b'
TreeRead s y (Err r) b b' = y ≡ refused_by r

-- what stopped the trees xs in a row: a `)` at its start, or the end
abbrev pub StoppedBy : Result Many → Trees → Stop → Type 0
StoppedBy y xs (stop.Close p) = (t : Token) × (y ≡ ok (up_to xs t)) × (p ≡ t.start)
StoppedBy y xs stop.End = y ≡ ok (to_end xs)

-- trees in a row: what stopped them, how many, the bytes of their records, their costs together if there is room for them, and the records at the front of the room
pub record ItemsAre (y : Result Many) (r : ManyRead) (b b' : List ℕ) : Type 0 where
  pub trees : Trees
  pub stopped : StoppedBy y trees r.stop
  pub number : r.n ≡ count trees
  pub size : r.size ≡ length (records_of trees)
  pub told : CostTold r.cost (costs trees) (length (records_of trees)) (length b)
  pub filled : Filled (records_of trees) b b'

-- or a refusal
abbrev pub ItemsRead : Result Many → CodeResult ManyRead Refusal → List ℕ → List ℕ → Type 0
ItemsRead y (Ok r) b b' = ItemsAre y r b b'
ItemsRead y (Err r) b b' = y ≡ refused_by r
