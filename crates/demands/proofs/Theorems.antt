-- All theorems, by name. Assumes nothing.
use Rattle.lexer.proofs.DigitPlaces as lexer-digits
use Rattle.table.proofs.Whole as table
use Rattle.table.proofs.Costs as table-costs
use Rattle.table.proofs.Faults as table-faults
use Rattle.reader.proofs.ReadGood as reader-good
use Rattle.reader.proofs.ReadTokens as reader-tokens
use Rattle.reader.proofs.ReadAccepts as reader-accepts
use Rattle.printer.proofs.LookedBound as bounds
use Rattle.windows.proofs.AnyCall as windows-any
use Rattle.windows.proofs.NeverRoom as windows-room
use Rattle.windows.proofs.Joined as windows-joint
use Rattle.windows.proofs.Printed as windows-print
use Rattle.settings.proofs.Good as settings-good
use Rattle.settings.proofs.Faults as settings-faults
use Rattle.settings.proofs.Copies as settings-copies
use Rattle.settings.proofs.Answers as settings-answers
use Rattle.settings.proofs.Cases as settings-cases
use Rattle.tulbazhik_windows.proofs.Twins as door-twins
use Rattle.demands.specs.Theorems.{Theorems}
use Rattle.demands.proofs.OneAnswer as the_one
use Rattle.demands.proofs.OneAnswerDoors as the-doors
use Rattle.demands.proofs.OneAnswerSettings as the-settings
use Rattle.demands.proofs.Worked as the-cases
use Rattle.demands.proofs.WrongPrograms as the-wrong
use Rattle.demands.proofs.CutAnywhere as the-cut
use Rattle.demands.proofs.PackedStates as the-states
use Rattle.demands.proofs.CutWords as the-words
use Rattle.demands.proofs.Calls as the-rules
use Rattle.demands.proofs.PrintThenFeed as the-print
use Rattle.demands.proofs.WindowsThenFeed as the-windows

pub theorems : Theorems
theorems = record {
  one_answer = the_one.one_answer;
  one_answer_doors = the-doors.one_answer_doors;
  one_answer_settings = the-settings.one_answer_settings;
  worked = the-cases.worked;
  wrong_programs = the-wrong.wrong_programs;
  digit_named = lexer-digits.digit_named;
  fault_placed = table-faults.fault_placed;
  fault_numbered = table-faults.fault_numbered;
  sound = table.sound;
  complete = table.complete;
  cost_fits = table-costs.cost_fits;
  read_good = reader-good.read_good;
  read_tokens = reader-tokens.read_tokens;
  read_accepts = reader-accepts.read_accepts;
  good_printed = the-print.good_printed;
  read_printed = the-print.read_printed;
  looked_bound = bounds.looked_bound;
  windows_joined = windows-joint.windows_joined;
  windows_end = windows-joint.windows_end;
  windows_refused = windows-joint.windows_refused;
  windows_printed = windows-print.windows_printed;
  print_refused = windows-print.print_refused;
  through_words = door-twins.through_words;
  given_within = windows-any.given_within;
  no_room = windows-any.no_room;
  end_stays = windows-any.end_stays;
  refused_at_first = windows-any.refused_at_first;
  never_room = windows-room.never_room;
  good_sound = settings-good.good_sound;
  good_complete = settings-good.good_complete;
  settings_fault_placed = settings-faults.fault_placed;
  copy_good = settings-copies.copy_good;
  written_project = settings-answers.written_project;
  written_house = settings-answers.written_house;
  others_project = settings-answers.others_project;
  others_house = settings-answers.others_house;
  width_written = settings-answers.width_written;
  width_behind = settings-answers.width_behind;
  style_written = settings-answers.style_written;
  style_behind = settings-answers.style_behind;
  write_same = settings-copies.write_same;
  skipped = settings-answers.skipped;
  worked_files = settings-cases.worked_files;
  cut_anywhere = the-cut.cut_anywhere;
  packed_states = the-states.packed_states;
  cut_anywhere_words = the-words.cut_anywhere_words;
  calls = the-rules.calls;
  print_then_feed = the-print.print_then_feed;
  windows_then_feed = the-windows.windows_then_feed;
}
