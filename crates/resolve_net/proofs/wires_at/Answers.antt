use Rattle.resolve_net.specs.Net.{wires_at}
use Rattle.resolve_net.proofs.wires_at.Goals as goal

pub returns : goal.returns
unfolding wires_at
returns c = cc
