use Rattle.wire_links.specs.Table.{looks_below, pair_count}
use Rattle.wire_links.specs.Ways.{extent_most}
use Rattle.wire_links.proofs.count_pairs.Goals as goal

pub returns : goal.returns
unfolding looks_below pair_count
returns c = (cc, search extent_most)
