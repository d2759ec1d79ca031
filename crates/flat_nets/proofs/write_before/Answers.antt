use Rattle.flat_nets.specs.Flat.{pairs_count_at, nodes_count_at, before_place, before_written}
use Rattle.flat_nets.proofs.write_before.Goals as goal

pub returns : goal.returns
unfolding pairs_count_at nodes_count_at before_place before_written
returns c = (cc, cc)
