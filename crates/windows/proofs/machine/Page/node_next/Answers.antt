-- `windows::machine::Page::node_next`: a line for each kind of record.
use Rattle.std.proofs.Common.{ℕ, ◌+◌, ◌-◌, length, ℤ, sym, ap, ◌∙◌, arith}
use Rattle.wide.specs.Text.{integer_text}
use Rattle.std.specs.Prelude.{Ok}
use Rattle.table.specs.Kinds.{integer_len}
use Rattle.table.specs.declared.Record.{Record}
use Rattle.table.proofs.Reading.{symbol_in, binding_in, integer_in, list_in as list-within}
use Rattle.printer.proofs.CheckedRecords.{list_small}
use Rattle.table.proofs.Walks.{integer_value}
use Rattle.windows.specs.Machine.{Cursor, state, past, node_next}
use Rattle.windows.proofs.machine.Page.node_next.Goals as goal

pub overflow_add-at : goal.overflow_add-at
overflow_add-at c = let h = symbol_in _ _ _ _ c.in-Ok-Symbol.ensures c.in-Ok-Symbol.field-0-is in omega (arith, h.0, h.1)

pub overflow_sub-len : goal.overflow_sub-len
overflow_sub-len c = (symbol_in _ _ _ _ c.in-Ok-Symbol.ensures c.in-Ok-Symbol.field-0-is).0

pub overflow_add-at-in-Ok-Integer : goal.overflow_add-at-in-Ok-Integer
overflow_add-at-in-Ok-Integer c = let h = integer_in _ _ _ c.in-Ok-Integer.ensures c.in-Ok-Integer.field-0-is in omega (arith, h)

pub overflow_add-at-in-Ok-Integer-2 : goal.overflow_add-at-in-Ok-Integer-2
overflow_add-at-in-Ok-Integer-2 c = let h = integer_in _ _ _ c.in-Ok-Integer.ensures c.in-Ok-Integer.field-0-is in omega (arith, h)

pub overflow_add-at-in-Ok-Binding : goal.overflow_add-at-in-Ok-Binding
overflow_add-at-in-Ok-Binding c = let h = binding_in _ _ _ _ c.in-Ok-Binding.ensures c.in-Ok-Binding.field-0-is in omega (arith, h.0, h.1)

pub overflow_sub-len-in-Ok-Binding : goal.overflow_sub-len-in-Ok-Binding
overflow_sub-len-in-Ok-Binding c = (binding_in _ _ _ _ c.in-Ok-Binding.ensures c.in-Ok-Binding.field-0-is).0

pub overflow_cast-n : goal.overflow_cast-n
overflow_cast-n c = let h = list_small _ _ _ _ c.args.self.bytes c.in-Ok-List.ensures c.in-Ok-List.field-0-is in omega (arith, h)

pub list_next-requires : goal.list_next-requires
list_next-requires c = let h = list-within _ _ _ _ c.in-Ok-List.ensures c.in-Ok-List.field-0-is in omega (arith, h)

pub returns-in-Ok-Integer : goal.returns-in-Ok-Integer
returns-in-Ok-Integer c = let a = c.args in let s = state a.c a.stack.now in ap (λ (y : Cursor). state y a.stack.now) (c.past-in-Ok-Integer.ensures ∙ ap (past a.c (a.c.at + integer_len)) (c.saturating_sub-in-Ok-Integer.ensures ∙ ap (λ (k : ℕ). a.c.left - k) (c.text_len-n.ensures ∙ ap (λ (z : ℤ). length (integer_text z)) (integer_value a.self.table.now a.c.at _ (integer_in _ _ _ c.in-Ok-Integer.ensures c.in-Ok-Integer.field-0-is) c.wide_at.ensures)))) ∙ ap (node_next a.self.table.now a.self.width s) (ap (λ (x : Record). Ok x) (sym c.in-Ok-Integer.field-0-is) ∙ c.in-Ok-Integer.ensures)
