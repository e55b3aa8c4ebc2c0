-- `printer::flat::symbol_at`: the kind decides, and a record that is not bad has its kind and its length within the table.
use Rattle.printer.proofs.CheckedRecords.{symbol_yes, symbol_no}
use Rattle.printer.proofs.flat.symbol_at.Goals as goal

pub returns-then-kind_at : goal.returns-then-kind_at
returns-then-kind_at c = symbol_yes _ _ _ c.kind_at.ensures c.if-kind_at.true _ c.len_at.ensures

pub returns : goal.returns
returns c = symbol_no _ _ _ c.kind_at.ensures c.if-kind_at.false
