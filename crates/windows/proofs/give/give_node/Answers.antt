-- `windows::give::give_node`: each record is within the table.
use Rattle.std.proofs.Common.{arith}
use Rattle.table.proofs.Reading.{symbol_in, binding_in, integer_in}
use Rattle.windows.proofs.give.give_node.Goals as goal

pub give_name-requires : goal.give_name-requires
give_name-requires c = let h = symbol_in _ _ _ _ c.in-Ok-Symbol.ensures c.in-Ok-Symbol.field-0-is in (h.0, omega (arith, h.0, h.1))

pub give_integer-requires : goal.give_integer-requires
give_integer-requires c = let h = integer_in _ _ _ c.in-Ok-Integer.ensures c.in-Ok-Integer.field-0-is in omega (arith, h)

pub give_name-requires-in-Ok-Binding : goal.give_name-requires-in-Ok-Binding
give_name-requires-in-Ok-Binding c = let h = binding_in _ _ _ _ c.in-Ok-Binding.ensures c.in-Ok-Binding.field-0-is in (h.0, omega (arith, h.0, h.1))
