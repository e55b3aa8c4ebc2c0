-- All theorems, in the order of the firm's demands: what each says, and the file that has its parts. They are proved in proofs/Theorems.
use Rattle.std.specs.Prelude.{◌≡◌, List, ℕ, ◌≤◌, length}
use Rattle.refusals.specs.Numbers.{table_limit, depth_limit}
use Rattle.refusals.specs.Result.{ok}
use Rattle.wide.specs.Bytes.{Bytes}
use Rattle.lexer.specs.DigitPlaces.{DigitNamed}
use Rattle.table.specs.Trees.{Trees, Goods, records_of}
use Rattle.table.specs.Costs.{CostFits}
use Rattle.table.specs.Decoding.{found, table_of}
use Rattle.table.specs.Accepted.{Accepted}
use Rattle.table.specs.Faults.{FaultPlaced, FaultNumbered}
use Rattle.reader.specs.Promised.{ReadGood, ReadTokens, ReadAccepts}
use Rattle.printer.specs.Looking.{LookedBound}
use Rattle.windows.specs.AnyCall.{GivenWithin, NoRoom, EndStays, RefusedAtFirst, NeverRoom}
use Rattle.windows.specs.Joined.{WindowsJoined, WindowsEnd, WindowsRefused, WindowsPrinted, PrintRefused}
use Rattle.settings.specs.Kept.{GoodSound, GoodComplete, FaultPlaced as SettingsFaultPlaced, CopyGood, WrittenProject, WrittenHouse, OthersProject, OthersHouse, WidthWritten, WidthBehind, StyleWritten, StyleBehind, WriteSame, Skipped}
use Rattle.settings.specs.Worked.{WorkedFiles}
use Rattle.tulbazhik_windows.specs.States.{ThroughWords}
use Rattle.demands.specs.OneAnswer.{OneAnswer}
use Rattle.demands.specs.OneAnswerDoors.{OneAnswerDoors}
use Rattle.demands.specs.OneAnswerSettings.{OneAnswerSettings}
use Rattle.demands.specs.Worked.{Worked}
use Rattle.demands.specs.WrongPrograms.{WrongPrograms}
use Rattle.demands.specs.Driver.{CutAnywhere}
use Rattle.demands.specs.DriverWords.{PackedStates, CutAnywhereWords}
use Rattle.demands.specs.Rules.{Rules}
use Rattle.demands.specs.PrintThenFeed.{GoodPrinted, ReadPrinted, PrintThenFeed, WindowsThenFeed}

pub record Theorems : Type 0 where
  -- Demand 1: every call ends with a defined answer. That it ends and what it answers is each function's contract; that the contract leaves nothing open:
  pub one_answer : OneAnswer
  pub one_answer_doors : OneAnswerDoors
  pub one_answer_settings : OneAnswerSettings
  -- Demand 2: tokens and layout are defined by the rules, and reading and printing refuse exactly when document 01 says. Its worked cases, and the wrong programs:
  pub worked : Worked
  pub wrong_programs : WrongPrograms
  -- the digit that a literal is refused for is the first such one from the left; 22 and no other fault of a table is told at its length
  pub digit_named : DigitNamed
  pub fault_placed : FaultPlaced
  -- a table is refused for its length, or with 15, 20, 21, 13, 16, 22 or 25
  pub fault_numbered : FaultNumbered
  -- a table that is accepted is the records of good trees, and the records of good trees are accepted; the cost that a list stores fits its 4 bytes
  pub sound : (t : List ℕ) (xs : Trees) (q : ℕ) → Bytes t → table_of t ≡ ok (found xs q) → Accepted t xs q
  pub complete : (xs : Trees) → Goods xs depth_limit → length (records_of xs) ≤ table_limit
      → table_of (records_of xs) ≡ ok (found xs (length (records_of xs)))
  pub cost_fits : CostFits
  -- what is read is a good table; its tokens are the source's; whatever is the text of trees within the limits is read
  pub read_good : ReadGood
  pub read_tokens : ReadTokens
  pub read_accepts : ReadAccepts
  -- good trees are printed, whichever integers they hold, and so is whatever was read; the only refusal is for room
  pub good_printed : GoodPrinted
  pub read_printed : ReadPrinted
  -- the fits test looks at no more records than there are lists in the table
  pub looked_bound : LookedBound
  -- the windows of a table, whatever their lengths, joined are its text, and then the end is answered, with the number of records that the fits test looks at; what is refused is refused at the first call
  pub windows_joined : WindowsJoined
  pub windows_end : WindowsEnd
  pub windows_refused : WindowsRefused
  -- the text and that number are the ordinary print's, and so are the refusals but for room
  pub windows_printed : WindowsPrinted
  pub print_refused : PrintRefused
  -- a host that keeps the 72 words of the door for C gets the same bytes and answers
  pub through_words : ThroughWords
  -- on any table, width and state a call reports no more than its window holds, and past that the window stays; one with no room moves nothing; the end stays; only the
  -- first call refuses, gives its state back, and never refuses for room
  pub given_within : GivenWithin
  pub no_room : NoRoom
  pub end_stays : EndStays
  pub refused_at_first : RefusedAtFirst
  pub never_room : NeverRoom
  -- settings: what is read of a file is a good file, and every good file is read; a fault is told at its place
  pub good_sound : GoodSound
  pub good_complete : GoodComplete
  pub settings_fault_placed : SettingsFaultPlaced
  -- a copy is good; what was written is looked up, and every other setting is what it was, whichever of the two files was written; what is there already makes the same bytes
  pub copy_good : CopyGood
  pub written_project : WrittenProject
  pub written_house : WrittenHouse
  pub others_project : OthersProject
  pub others_house : OthersHouse
  pub width_written : WidthWritten
  pub width_behind : WidthBehind
  pub style_written : StyleWritten
  pub style_behind : StyleBehind
  pub write_same : WriteSame
  -- whatever is changed, added or removed of the skipped kinds, every answer stays
  pub skipped : Skipped
  pub worked_files : WorkedFiles
  -- Demand 3: a source cut anywhere, fed and closed, yields the tokens, places and refusal of the uncut one; by value, and through the words of the doors for C
  pub cut_anywhere : CutAnywhere
  pub packed_states : PackedStates
  pub cut_anywhere_words : CutAnywhereWords
  -- the rules of a call
  pub calls : Rules
  -- what is printed, whole or through windows, so fed, yields exactly the table's tokens, then the end
  pub print_then_feed : PrintThenFeed
  pub windows_then_feed : WindowsThenFeed
