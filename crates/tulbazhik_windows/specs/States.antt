-- The state of a windowed print as 72 words, for callers in C: the stack's 64, then the cursor's eight. Zeros are the fresh state. And a call's answer as eight words.
use Rattle.std.specs.Prelude.{ℕ, ◌+◌, ◌*◌, ◌/◌, ◌%◌, ◌≡◌, List, [], ◌∷◌, ◌++◌, get_or, replicate}
use Rattle.std.proofs.lemmas.List.Edits.{sets}
use Rattle.refusals.specs.Result.{ok, refused}
use Rattle.wide.specs.Bytes.{Bytes}
use Rattle.words.specs.Words.{done_words, ended_words, refused_words}
use Rattle.windows.specs.declared.Cursor.{Cursor}
use Rattle.windows.specs.declared.State.{State}
pub use Rattle.windows.specs.Machine.{phase_word}
unfoldable pub use Rattle.windows.specs.Machine.{phase_in}
use Rattle.windows.specs.Machine.{state, fresh_state}
use Rattle.windows.specs.Filling.{part, end, Answer, Call, fill_of, handed, calls}

-- the cursor's words, over those from 64 on; the items due and the records looked at share one
abbrev pub cursor_words : Cursor → List ℕ
cursor_words c = phase_word c.phase ∷ c.at ∷ c.depth ∷ (c.due + 4294967296 * c.looked) ∷ c.margin ∷ c.left ∷ c.indent ∷ c.given ∷ []

unfoldable pub stored : Cursor → List ℕ → List ℕ
stored c w = sets w 64 (cursor_words c)

-- of the state after a call: a refused one gives it back, word for word
abbrev pub kept : Answer → State → List ℕ
kept (ok p) s = stored s.cursor s.stack
kept (refused n a) s = s.stack

abbrev pub state_words : Call → List ℕ
state_words c = kept c.answer c.state

-- of its answer
unfoldable pub part_words : Answer → List ℕ
part_words (ok (part n)) = done_words n
part_words (ok (end k)) = ended_words k
part_words (refused n a) = refused_words n a 0

abbrev pub call_words : Call → List ℕ
call_words c = part_words c.answer

-- any words mean a state: a number that is too large is cut to its type, and a phase past the last one is the last
unfoldable pub cursor_in : List ℕ → Cursor
cursor_in w =
    record {
      phase = phase_in (get_or w 64 0);
      at = get_or w 65 0;
      depth = get_or w 66 0;
      due = get_or w 67 0 % 4294967296;
      looked = get_or w 67 0 / 4294967296 % 4294967296;
      margin = get_or w 68 0 % 256;
      left = get_or w 69 0;
      indent = get_or w 70 0 % 256;
      given = get_or w 71 0;
    }

-- the state of any 72 words, all of which are lent as the stack: no list is open so deep that its word is one of the cursor's
abbrev pub unpack_of : List ℕ → State
unpack_of w = state (cursor_in w) w

-- ---- calls one after the other through the words, on a table and a width that stay, each with its window: the bytes given, joined, and the words after them

pub record Through : Type 0 where
  pub out : List ℕ
  pub words : List ℕ

abbrev pub through : List ℕ → List ℕ → Through
through o w = record { out = o; words = w }

abbrev pub after : Call → (List ℕ → Through) → Through
after c k = let x : Through = k (state_words c) in through ((handed c).out ++ x.out) x.words

unfoldable pub calls_through : List ℕ → ℕ → List ℕ → List (List ℕ) → Through
calls_through t w ws [] = through [] ws
calls_through t w ws (b ∷ bs) = after (fill_of t w (unpack_of ws) b) (λ ws'. calls_through t w ws' bs)

-- from zeros on they give the bytes and the answers that calls with the state at hand give
abbrev pub ThroughWords : Type 0
ThroughWords =
    (t : List ℕ) (w : ℕ) → Bytes t → (bs : List (List ℕ))
    → ((calls_through t w (replicate 72 0) bs).out ≡ (calls t w fresh_state bs).out)
    × ((b : List ℕ) → call_words (fill_of t w (unpack_of (calls_through t w (replicate 72 0) bs).words) b) ≡ call_words (fill_of t w (calls t w fresh_state bs).state b))
