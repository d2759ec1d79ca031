use Rattle.embed_nets.specs.Nets.{at_free}
use Rattle.embed_nets.proofs.at_free.Goals as goal

pub returns : goal.returns
unfolding at_free
returns c = cc
