use Rattle.load.specs.Load.{new_net_words}
use Rattle.load.proofs.new_net.Goals as goal

pub returns : goal.returns
unfolding new_net_words
returns c = (cc, cc)
