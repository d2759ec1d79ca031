use Rattle.std.proofs.Common.{arith}
use Rattle.words.specs.Choose.{eq_yes, eq_no}
use Rattle.write_nodes.specs.Nodes.{after_wire}
use Rattle.write_nodes.proofs.after_wire.Goals as goal

pub returns-then-number-w : goal.returns-then-number-w
unfolding after_wire
returns-then-number-w c = eq_yes _ _ _ _ (omega arith) (cc)

pub returns : goal.returns
unfolding after_wire
returns c = eq_no _ _ _ _ (omega arith) (cc)
