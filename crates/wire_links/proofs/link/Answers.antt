use Rattle.wire_links.specs.Table.{link}
use Rattle.wire_links.proofs.link.Goals as goal

pub returns : goal.returns
unfolding link
returns c = cc
