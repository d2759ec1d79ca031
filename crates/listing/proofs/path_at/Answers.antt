use Rattle.std.proofs.Common.{arith, ◌≡◌, ◌+◌, ◌-◌, ◌<◌, ◌≤◌}
use Rattle.text_writers.specs.Wrote.{still_all}
use Rattle.listing.specs.Laws.{path_whole, path_more, path_done}
use Rattle.listing.proofs.path_at.Goals as goal

pub loop-j-init : goal.loop-j-init
loop-j-init c = let whole : c.byte-k.result - 0 ≡ c.byte-k.result = omega arith in rw (whole, c.byte-k.ensures, path_whole _ _) (still_all (omega arith) (omega arith))

pub loop-j-preserved : goal.loop-j-preserved
loop-j-preserved c =
    let more : 0 < c.byte-k.result - c.loop-j.j = omega arith in
    let next : c.byte-k.result - (c.loop-j.j + 1) ≡ c.byte-k.result - c.loop-j.j - 1 = omega arith in
    rw next (search path_more)

pub returns : goal.returns
returns c =
    let done : c.byte-k.result - c.loop-j.j ≤ 0 = omega arith in
    search path_done
