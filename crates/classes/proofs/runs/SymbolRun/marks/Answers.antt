-- `runs::SymbolRun::marks`: the marks of eight bytes.
use Rattle.std.proofs.Common.{arith}
use Rattle.classes.proofs.Marks.{symbol_marks}
use Rattle.classes.proofs.runs.SymbolRun.marks.Goals as goal

pub returns : goal.returns
returns c = symbol_marks _ c.args.w (omega arith)
