use Rattle.resolve_net.specs.Plain.{plain}
use Rattle.resolve_net.proofs.plain.Goals as goal

pub returns : goal.returns
unfolding plain
returns c = (cc, cc)
