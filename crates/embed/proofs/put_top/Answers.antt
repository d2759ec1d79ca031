use Rattle.embed.specs.Embed.{topped, top_written}
use Rattle.embed.proofs.put_top.Goals as goal

pub returns : goal.returns
unfolding topped top_written
returns c = (cc, cc)
