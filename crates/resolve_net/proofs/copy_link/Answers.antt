use Rattle.resolve_net.specs.Plain.{copy_link}
use Rattle.resolve_net.proofs.copy_link.Goals as goal

pub returns : goal.returns
unfolding copy_link
returns c = (cc, cc)
