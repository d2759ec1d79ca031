use Rattle.std.proofs.Common.{arith}
use Rattle.embed.specs.Embed.{next}
use Rattle.embed.proofs.next.Goals as goal

pub returns-then-n-gt65536 : goal.returns-then-n-gt65536
unfolding next
returns-then-n-gt65536 c = omega arith

pub returns : goal.returns
unfolding next
returns c = omega arith
