use Rattle.std.proofs.Common.{arith}
use Rattle.stored.specs.Stored.{list_end}
use Rattle.load.proofs.after_wires.Goals as goal

pub overflow_add-result : goal.overflow_add-result
unfolding list_end
overflow_add-result c = omega arith

pub aux_count-requires : goal.aux_count-requires
unfolding list_end
aux_count-requires c = omega arith

pub overflow_add-result-2 : goal.overflow_add-result-2
unfolding list_end
overflow_add-result-2 c = omega arith

pub returns : goal.returns
unfolding list_end
returns c = omega arith
