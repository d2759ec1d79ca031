use Rattle.node_names.specs.Steps.{bytes_same, bytes_differ}
use Rattle.node_names.proofs.same_bytes.Goals as goal

pub returns-then-same_head : goal.returns-then-same_head
returns-then-same_head c = search bytes_same

pub returns : goal.returns
returns c = search bytes_differ
