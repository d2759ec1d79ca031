use Rattle.resolve_pass.specs.Ways.{pass_wires, pass_right, pass_left, pass_nodes}
use Rattle.resolve_pass.specs.Pass.{pass_link}
use Rattle.words.specs.Left.{left}
use Rattle.resolve_pass.proofs.pass_link.Goals as goal

pub returns-then-byte-eq0-2 : goal.returns-then-byte-eq0-2
returns-then-byte-eq0-2 c = left {x = pass_link _ _ _ _ _} (search pass_wires)

pub returns-then-byte-eq0 : goal.returns-then-byte-eq0
returns-then-byte-eq0 c = left {x = pass_link _ _ _ _ _} (search pass_right)

pub returns-then-byte-eq0-3 : goal.returns-then-byte-eq0-3
returns-then-byte-eq0-3 c = left {x = pass_link _ _ _ _ _} (search pass_left)

pub returns : goal.returns
returns c = left {x = pass_link _ _ _ _ _} (search pass_nodes)
