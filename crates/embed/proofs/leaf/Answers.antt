use Rattle.embed.specs.Embed.{leaf}
use Rattle.embed.proofs.leaf.Goals as goal

pub returns : goal.returns
unfolding leaf
returns c = cc
