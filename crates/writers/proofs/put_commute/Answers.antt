use Rattle.std.proofs.Common.{rules}
use Rattle.net_file.specs.Write.{write_rule}
use Rattle.writers.proofs.put_commute.Goals as goal

pub returns : goal.returns
unfolding write_rule
returns c = search rules
