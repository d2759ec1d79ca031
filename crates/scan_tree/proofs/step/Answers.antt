use Rattle.scan_tree.specs.Scan.{step_none, step_past, step_few, step_wire, step_node}
use Rattle.scan_tree.proofs.step.Goals as goal

pub returns-then-left-eq0 : goal.returns-then-left-eq0
returns-then-left-eq0 c = search step_none

pub returns-then-s-at : goal.returns-then-s-at
returns-then-s-at c = search step_past

pub returns-then-s-at-2 : goal.returns-then-s-at-2
returns-then-s-at-2 c = search step_few

pub returns-then-tag-eq0 : goal.returns-then-tag-eq0
returns-then-tag-eq0 c = search step_wire

pub returns : goal.returns
returns c = search step_node
