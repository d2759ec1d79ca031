use Rattle.wire_links.specs.Table.{looks_below, pairs_end, pairs_out}
use Rattle.wire_links.proofs.put_pairs.Goals as goal

pub returns : goal.returns
unfolding looks_below pairs_end pairs_out
returns c = (cc, cc)
