use Rattle.std.proofs.Common.{◌-◌, ◌+◌, ◌<◌, ◌≤◌, arith, ◌≡◌}
use Rattle.load.specs.Ways.{nodes_rest, nodes_refused, nodes_done, whole_name_ends, whole_wires_end, whole_more}
use Rattle.load.specs.Load.{add_nodes}
use Rattle.load.specs.Added.{added}
use Rattle.load.proofs.add_nodes.Goals as goal

pub returns-then-e-eq0 : goal.returns-then-e-eq0
returns-then-e-eq0 c =
    let more : 0 < c.args.count - c.loop-i.i = omega arith in
    added {x = add_nodes _ _ _ _ _ _} (search nodes_rest)

pub add_whole-r-requires : goal.add_whole-r-requires
add_whole-r-requires c = (search whole_name_ends, search whole_wires_end)

pub returns-then-r-gt0 : goal.returns-then-r-gt0
returns-then-r-gt0 c =
    let more : 0 < c.args.count - c.loop-i.i = omega arith in
    added {x = add_nodes _ _ _ _ _ _} (search nodes_refused)

pub after_wires-at-requires : goal.after_wires-at-requires
after_wires-at-requires c = search whole_wires_end

pub loop-i-preserved : goal.loop-i-preserved
loop-i-preserved c =
    let more : 0 < c.args.count - c.loop-i.i = omega arith in
    let next : c.args.count - (c.loop-i.i + 1) ≡ c.args.count - c.loop-i.i - 1 = omega arith in
    (rw next (search whole_more), omega arith, omega arith)

pub returns : goal.returns
returns c =
    let done : c.args.count - c.loop-i.i ≤ 0 = omega arith in
    added {x = add_nodes _ _ _ _ _ _} (search nodes_done)
