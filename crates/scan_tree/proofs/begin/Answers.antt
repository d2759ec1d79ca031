use Rattle.scan_tree.specs.Scan.{begin_past, begin_few, begin_room}
use Rattle.scan_tree.proofs.begin.Goals as goal

pub returns-then-s-at : goal.returns-then-s-at
returns-then-s-at c = search begin_past

pub returns-then-s-at-2 : goal.returns-then-s-at-2
returns-then-s-at-2 c = search begin_few

pub returns : goal.returns
returns c = search begin_room
