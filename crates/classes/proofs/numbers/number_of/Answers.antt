-- `classes::numbers::number_of`: the table agrees with the definition at each of its 256 entries, which antt computes.
use Rattle.std.proofs.Common.{rules}
use Rattle.classes.specs.Classes.{class_of, digit_of, literal_byte}
use Rattle.classes.specs.Numbers.{number_of}
use Rattle.classes.proofs.Table.{built}
use Rattle.classes.proofs.numbers.number_of.Goals as goal

pub returns : goal.returns
unfolding number_of class_of literal_byte digit_of
returns c = built number_of 256 c.args.b (search rules)
