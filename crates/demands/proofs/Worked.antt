-- Document 01's cases marked P hold, computed. Assumes nothing.
use mathlib.Core.Path.{refl}
use Rattle.classes.specs.Classes.{class_of, digit_of, literal_byte}
use Rattle.wide.specs.Value.{val, grown, integer_of}
use Rattle.wide.specs.Text.{digits, is_lowest, integer_text}
use Rattle.wide.specs.Bytes.{le, number}
use Rattle.lexer.specs.Literals.{taken, grow, reading as digits_read, literal_end, radix_of, concluded, unsigned_in}
use Rattle.lexer.specs.Lexing.{skip, symbol_end, lex_in, next_token}
use Rattle.lexer.specs.Streams.{tokens_from}
use Rattle.records.specs.Records.{record_of, head_at}
use Rattle.table.specs.Costs.{costed, stored_cost}
use Rattle.table.specs.Trees.{runs_on, is_symbol, records, cost}
use Rattle.table.specs.Records.{record_at}
use Rattle.table.specs.Decoding.{items_at, step_at, tree_at, trees_at, table_of, shape_of}
use Rattle.reader.specs.Grammar.{read_items, read_tree, file_of}
use Rattle.reader.specs.Reading.{reading, read_into}
use Rattle.printer.specs.Layout.{break_column, fits_in, lay, page_from}
use Rattle.printer.specs.Looking.{looks, looked, page_looked}
use Rattle.printer.specs.Fitting.{fits_at}
use Rattle.printer.specs.Printing.{printing, printed_into}
use Rattle.windows.specs.Machine.{put_of, next_of}
use Rattle.windows.specs.Filling.{run, fill_of, calls}
use Rattle.demands.specs.Worked.{cases, Worked}

pub worked : Worked
unfolding cases tokens_from next_token lex_in skip symbol_end class_of literal_byte digit_of taken grow digits_read literal_end radix_of concluded unsigned_in val grown integer_of reading read_into file_of read_items read_tree records record_of head_at le number printing printed_into table_of shape_of costed stored_cost trees_at tree_at items_at record_at step_at is_symbol runs_on page_from lay cost break_column fits_in digits is_lowest integer_text looks looked page_looked fits_at put_of next_of run fill_of calls
worked = refl
