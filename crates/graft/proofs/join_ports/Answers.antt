use Rattle.words.specs.Left.{left}
use Rattle.graft.specs.Ways.{ports_joined, ports_differ}
use Rattle.graft.specs.Graft.{join_ports}
use Rattle.graft.proofs.join_ports.Goals as goal

pub returns-then-ports-k : goal.returns-then-ports-k
returns-then-ports-k c = left {x = join_ports _ _ _} (search ports_joined)

pub returns : goal.returns
returns c = left {x = join_ports _ _ _} (ports_differ _ _ _ _ _ c.arity-k.ensures c.arity-ports.ensures c.if-ports-k.false)
