-- `tulbazhik_windows::states::store`: the words one after another.
use Rattle.std.proofs.Common.{rules}
use Rattle.tulbazhik_windows.proofs.Packed.{stored_at}
use Rattle.tulbazhik_windows.proofs.states.store.Goals as goal

pub returns : goal.returns
returns c = stored_at c.args.c c.args.state.now _ c.told-state (search rules)
