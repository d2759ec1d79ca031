use Rattle.std.proofs.Common.{◌-◌, ◌%◌, ◌+◌, ◌<◌, ◌≤◌, ◌≡◌, arith}
use Rattle.resolve_net.specs.Ways.{inked, copy_links_more, copy_links_done}
use Rattle.resolve_net.specs.Plain.{copy_links}
use Rattle.resolve_net.proofs.copy_links.Goals as goal

pub loop-i-preserved : goal.loop-i-preserved
loop-i-preserved c =
    let more : 0 < c.args.n - c.loop-i.i = omega arith in
    let next : c.args.n - (c.loop-i.i + 1) ≡ c.args.n - c.loop-i.i - 1 = omega arith in
    let step : c.loop-i.i + 1 ≡ (c.loop-i.i + 1) % 4294967296 = omega arith in
    rw next (search copy_links_more, omega arith)

pub returns : goal.returns
returns c =
    let done : c.args.n - c.loop-i.i ≤ 0 = omega arith in
    inked {x = copy_links _ _ _ _ _ _} (search copy_links_done)
