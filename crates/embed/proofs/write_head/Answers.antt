use Rattle.embed.specs.Embed.{head_written}
use Rattle.embed.proofs.write_head.Goals as goal

pub returns : goal.returns
unfolding head_written
returns c = cc
