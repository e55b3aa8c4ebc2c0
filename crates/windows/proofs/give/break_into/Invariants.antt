-- `windows::give::break_into`: the bytes of a line break, one by one.
use Rattle.std.proofs.Common.{take, drop}
use Rattle.lists.proofs.Writing.{Wrote}
use Rattle.printer.specs.Layout.{bytes, nl}
use Rattle.windows.proofs.give.break_into.Given as goal

abbrev pub invariant-loop-i : goal.invariant-loop-i
invariant-loop-i l = Wrote (take l.i (drop l.from (bytes (nl l.indent)))) l.initial.out l.out l.i
