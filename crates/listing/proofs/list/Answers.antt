use Rattle.std.proofs.Common.{arith, ◌≡◌, ◌+◌, ◌-◌, ◌<◌, ◌≤◌}
use Rattle.text_writers.specs.Wrote.{still_all}
use Rattle.listing.specs.Laws.{list_whole, list_more, list_done}
use Rattle.listing.proofs.list.Goals as goal

pub loop-j-init : goal.loop-j-init
loop-j-init c = let whole : c.list_count-k.result - 0 ≡ c.list_count-k.result = omega arith in rw (whole, c.list_count-k.ensures, list_whole _ _) (still_all (omega arith) (omega arith))

pub loop-j-preserved : goal.loop-j-preserved
loop-j-preserved c =
    let more : 0 < c.list_count-k.result - c.loop-j.j = omega arith in
    let next : c.list_count-k.result - (c.loop-j.j + 1) ≡ c.list_count-k.result - c.loop-j.j - 1 = omega arith in
    rw next (search list_more)

pub returns : goal.returns
returns c =
    let done : c.list_count-k.result - c.loop-j.j ≤ 0 = omega arith in
    search list_done
