use Rattle.wire_links.specs.Ways.{extent_top, extent_all}
use Rattle.wire_links.proofs.extent.Goals as goal

pub returns-then-t-wires : goal.returns-then-t-wires
returns-then-t-wires c = search extent_top

pub returns : goal.returns
returns c = search extent_all
