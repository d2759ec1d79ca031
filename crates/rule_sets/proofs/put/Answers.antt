use Rattle.std.proofs.Common.{sym}
use lib.Seq.{set_out}
use Rattle.rule_sets.proofs.put.Goals as goal

pub returns-else-i-sets : goal.returns-else-i-sets
returns-else-i-sets c = sym (set_out _ _ _ c.if-i-sets.false)
