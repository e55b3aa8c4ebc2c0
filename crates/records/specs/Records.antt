-- The format of records (document 01, 'Trees and their table'): the length of the whole record in 4 bytes, its kind in 2, its payload.
use Rattle.std.specs.Prelude.{ℕ, ◌+◌, ◌-◌, cond, List, ◌++◌, ltb, length, take, drop, Option, Some, None}
use Rattle.wide.specs.Bytes.{le, number_at}
pub use Rattle.records.specs.declared.Head.{Head}

-- the bytes of a head: those of the length and of the kind
abbrev pub head_len : ℕ
head_len = 6

-- the head of a record of `len` bytes, and a record
abbrev pub head_of : ℕ → ℕ → List ℕ
head_of kind len = le 4 len ++ le 2 kind

unfoldable pub record_of : ℕ → List ℕ → List ℕ
record_of kind payload = head_of kind (length payload + head_len) ++ payload

-- the length and the kind that stand at a place
abbrev pub len_at : List ℕ → ℕ → ℕ
len_at t at = number_at 4 t at

abbrev pub kind_at : List ℕ → ℕ → ℕ
kind_at t at = number_at 2 t (at + 4)

-- what stands behind the head of a record of `len` bytes
abbrev pub payload : List ℕ → ℕ → ℕ → List ℕ
payload t at len = take (len - head_len) (drop (at + head_len) t)

-- a kind and a length
abbrev pub head : ℕ → ℕ → Head
head kind len = record { kind = kind; len = len }

-- by the bytes left, the kind and the length: none where the record is cut short, or the length is past the end or below a head's
abbrev pub head_by : ℕ → ℕ → ℕ → Option Head
head_by left kind len = cond (ltb left head_len) None (cond (ltb left len) None (cond (ltb len head_len) None (Some (head kind len))))

unfoldable pub head_at : List ℕ → ℕ → Option Head
head_at t at = head_by (length t - at) (kind_at t at) (len_at t at)
