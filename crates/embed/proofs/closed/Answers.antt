use Rattle.embed.specs.Embed.{closed}
use Rattle.embed.proofs.closed.Goals as goal

pub returns : goal.returns
unfolding closed
returns c = cc
