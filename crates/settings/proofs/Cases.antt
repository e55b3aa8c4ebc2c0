-- The worked files, computed: THEOREM worked_files. Assumes nothing.
use mathlib.Core.Path.{refl}
use Rattle.wide.specs.Bytes.{le, number}
use Rattle.records.specs.Records.{record_of, head_at}
use Rattle.settings.specs.Files.{file_of, among, settings_at, settings_of}
use Rattle.settings.specs.LookUps.{held_from, look_up}
use Rattle.settings.specs.Writing.{replaced, copy_of}
use Rattle.settings.specs.Worked.{WorkedFiles}

pub worked_files : WorkedFiles
unfolding le number record_of head_at file_of among settings_at settings_of held_from look_up replaced copy_of
worked_files = record {
  edition = refl;
  width = refl;
  house = refl;
  neither = refl;
  style = refl;
  past = refl;
  empty = refl;
  late = refl;
  twice = refl;
  unknown = refl;
  cut = refl;
  behind = refl;
  replaces = refl;
  longer = refl;
  adds = refl;
  full = refl;
  nameless = refl;
}
