use Rattle.load.specs.Ways.{free_joined}
use Rattle.wire_ends.specs.WireEnds.{joined}
use Rattle.load.specs.Load.{join_free}
use Rattle.load.proofs.join_free.Goals as goal

pub returns : goal.returns
returns c =
    joined {x = join_free _ _ _ _ _ _ _}
    (free_joined _ _ _ _ _ _ _ _ _ _ _ _ _ _ _ c.principal-p.ensures c.next_port-q.ensures
    c.set_net_word.ensures c.link.ensures c.on.ensures c.next_port.ensures c.join_wires.ensures.0 c.join_wires.ensures.1)
