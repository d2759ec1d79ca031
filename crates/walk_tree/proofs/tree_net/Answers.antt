use Rattle.std.proofs.Common.{◌+◌, ◌≤◌, length, arith}
use Rattle.walk_tree.specs.Net.{tree_net_room, tree_net_on}
use Rattle.walk_tree.proofs.tree_net.Goals as goal

pub overflow_add-at : goal.overflow_add-at
overflow_add-at c =
    let a = c.args in
    let head = c.in_ok-e.was in
    let room : a.at + 7 ≤ length a.s.now = search tree_net_room in
    omega arith

pub returns : goal.returns
returns c = let head = c.in_ok-e.was in search tree_net_on
