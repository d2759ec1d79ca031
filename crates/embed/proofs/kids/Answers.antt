use Rattle.embed.specs.Embed.{kids}
use Rattle.embed.proofs.kids.Goals as goal

pub returns : goal.returns
unfolding kids
returns c = cc
