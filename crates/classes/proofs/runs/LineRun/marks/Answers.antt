-- `runs::LineRun::marks`: the marks of eight bytes.
use Rattle.std.proofs.Common.{arith}
use Rattle.classes.proofs.Marks.{line_marks}
use Rattle.classes.proofs.runs.LineRun.marks.Goals as goal

pub returns : goal.returns
returns c = line_marks _ c.args.w (omega arith)
