use lib.ListN.{get_or-eq_default}
use Rattle.rule_sets.proofs.set_of.Goals as goal

pub returns-else-i-sets : goal.returns-else-i-sets
returns-else-i-sets c = rw (get_or-eq_default, c.if-i-sets.false)
