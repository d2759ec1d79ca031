use Rattle.finish.specs.Finish.{write_net_head}
use Rattle.finish.proofs.write_net_head.Goals as goal

pub returns : goal.returns
unfolding write_net_head
returns c = (cc, cc)
