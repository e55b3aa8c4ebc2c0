-- `runs::word`: the first eight bytes of the rest.
use Rattle.std.proofs.Common.{◌∙◌}
use Rattle.classes.proofs.Words.{number_eight}
use Rattle.classes.proofs.runs.word.Goals as goal

pub returns : goal.returns
returns c = c.from_le_bytes.ensures ∙ number_eight c.args.s.now _ c.args.at (rw c.unwrap.ensures at c.first_chunk.ensures.cases)
