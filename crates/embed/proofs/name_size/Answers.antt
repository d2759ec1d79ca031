use Rattle.std.proofs.Common.{arith}
use Rattle.embed.specs.Embed.{name_size}
use Rattle.embed.proofs.name_size.Goals as goal

pub returns : goal.returns
unfolding name_size
returns c = omega arith
