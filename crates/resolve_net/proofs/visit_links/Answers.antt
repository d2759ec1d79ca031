use Rattle.std.proofs.Common.{◌-◌, ◌%◌, ◌+◌, ◌<◌, ◌≤◌, ◌≡◌, arith}
use Rattle.resolve_net.specs.Ways.{visit_links_more, visit_links_deep, visit_links_done}
use Rattle.resolve_net.specs.Renamed.{visit_links}
use Rattle.resolve_walk.specs.Penned.{penned}
use Rattle.resolve_net.proofs.visit_links.Goals as goal

pub returns-in_err-pen : goal.returns-in_err-pen
returns-in_err-pen c =
    let more : 0 < c.args.n - c.loop-i.i = omega arith in
    penned {x = visit_links _ _ _ _ _ _} (rw c.from_residual.ensures (search (visit_links_deep, c.in_err-pen.was)))

pub loop-i-preserved : goal.loop-i-preserved
loop-i-preserved c =
    let more : 0 < c.args.n - c.loop-i.i = omega arith in
    let next : c.args.n - (c.loop-i.i + 1) ≡ c.args.n - c.loop-i.i - 1 = omega arith in
    let step : c.loop-i.i + 1 ≡ (c.loop-i.i + 1) % 4294967296 = omega arith in
    rw next (search (visit_links_more, c.in_ok-pen.was), omega arith, omega arith)

pub returns : goal.returns
returns c =
    let done : c.args.n - c.loop-i.i ≤ 0 = omega arith in
    penned {x = visit_links _ _ _ _ _ _} (search visit_links_done)
