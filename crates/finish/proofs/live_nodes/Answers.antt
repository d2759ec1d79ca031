use Rattle.std.proofs.Common.{arith}
use Rattle.finish.specs.Finish.{live_nodes_words}
use Rattle.finish.proofs.live_nodes.Goals as goal

pub returns-then-stale-length : goal.returns-then-stale-length
unfolding live_nodes_words
returns-then-stale-length c = omega arith

pub returns : goal.returns
unfolding live_nodes_words
returns c = omega arith
