use Rattle.lists.specs.Lists.{tighten_net_words}
use Rattle.lists.proofs.tighten_net.Goals as goal

pub returns : goal.returns
unfolding tighten_net_words
returns c = cc
