use Rattle.flat_nets.specs.Ways.{head_out}
use Rattle.flat_nets.proofs.write_head.Goals as goal

pub returns : goal.returns
returns c = (cc, search head_out)
