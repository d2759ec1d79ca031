use lib.ListN.{get_or-eq_default}
use Rattle.repeats.proofs.entry.Goals as goal

pub returns-else-i-sorted : goal.returns-else-i-sorted
returns-else-i-sorted c = rw (get_or-eq_default, c.if-i-sorted.false)
