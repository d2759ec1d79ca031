use lib.ListN.{get_or-eq_default}
use Rattle.name_table.proofs.get.Goals as goal

pub returns-else-i-l : goal.returns-else-i-l
returns-else-i-l c = rw (get_or-eq_default, c.if-i-l.false)
