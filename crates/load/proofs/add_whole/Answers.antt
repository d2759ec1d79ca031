use Rattle.std.proofs.Common.{arith}
use Rattle.load.specs.Ways.{whole_at, whole_refused}
use Rattle.load.specs.Load.{add_node}
use Rattle.load.specs.Added.{added}
use Rattle.stored.specs.Stored.{list_end}
use Rattle.load.proofs.add_whole.Goals as goal

pub aux_count-k-requires : goal.aux_count-k-requires
unfolding list_end
aux_count-k-requires c = omega arith

pub join_whole-requires : goal.join_whole-requires
unfolding list_end
join_whole-requires c = omega arith

pub returns-in-At : goal.returns-in-At
returns-in-At c = added {x = add_node _ _ _ _ _} (search whole_at)

pub returns-in-Refused : goal.returns-in-Refused
returns-in-Refused c = added {x = add_node _ _ _ _ _} (search whole_refused)
