use Rattle.words.specs.Left.{left}
use Rattle.write_nodes.specs.Ways.{wire_new, wire_met}
use Rattle.write_nodes.specs.Nodes.{wire_number_words}
use Rattle.write_nodes.proofs.wire_number.Goals as goal

pub returns-then-q-lt-NUMBERED : goal.returns-then-q-lt-NUMBERED
returns-then-q-lt-NUMBERED c = left {x = wire_number_words _ _ _} (search wire_new)

pub returns : goal.returns
returns c = left {x = wire_number_words _ _ _} (search wire_met)
