use Rattle.std.proofs.Common.{arith}
use Rattle.wire_links.specs.Ways.{place_more, place_done, bytes_more, bytes_done}
use Rattle.wire_links.proofs.put_below.Goals as goal

pub loop-a-preserved : goal.loop-a-preserved
loop-a-preserved c = (search place_more, search bytes_more, omega arith)

pub returns : goal.returns
returns c = (search place_done, search bytes_done)
