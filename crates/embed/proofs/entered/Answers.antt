use Rattle.embed.specs.Embed.{entered}
use Rattle.embed.proofs.entered.Goals as goal

pub returns : goal.returns
unfolding entered
returns c = cc
