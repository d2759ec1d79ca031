use Rattle.std.proofs.Common.{◌-◌, ◌+◌, ◌<◌, ◌≤◌, ◌≡◌, arith}
use Rattle.rule_names.specs.Steps.{lists_more, lists_yes, lists_done}
use Rattle.rule_names.proofs.lists_have.Goals as goal

pub returns-then-list_has : goal.returns-then-list_has
returns-then-list_has c =
    let more : 0 < c.args.n - c.loop.counter = omega arith in
    search lists_yes

pub loop-preserved : goal.loop-preserved
loop-preserved c =
    let more : 0 < c.args.n - c.loop.counter = omega arith in
    let next : c.args.n - (c.loop.counter + 1) ≡ c.args.n - c.loop.counter - 1 = omega arith in
    rw next (search lists_more)

pub returns : goal.returns
returns c =
    let done : c.args.n - c.loop.counter ≤ 0 = omega arith in
    search lists_done
