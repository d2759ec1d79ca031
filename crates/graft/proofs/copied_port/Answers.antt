use Rattle.graft.specs.Graft.{copied_port}
use Rattle.graft.proofs.copied_port.Goals as goal

pub returns : goal.returns
unfolding copied_port
returns c = cc
