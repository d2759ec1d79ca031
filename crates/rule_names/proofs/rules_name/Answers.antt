use Rattle.std.proofs.Common.{◌-◌, ◌+◌, ◌<◌, ◌≤◌, ◌≡◌, arith}
use Rattle.rule_names.specs.Steps.{rules_more, rules_yes, rules_done}
use Rattle.rule_names.proofs.rules_name.Goals as goal

pub returns-then-rule_names : goal.returns-then-rule_names
returns-then-rule_names c =
    let more : 0 < c.args.n - c.loop.counter = omega arith in
    search rules_yes

pub loop-preserved : goal.loop-preserved
loop-preserved c =
    let more : 0 < c.args.n - c.loop.counter = omega arith in
    let next : c.args.n - (c.loop.counter + 1) ≡ c.args.n - c.loop.counter - 1 = omega arith in
    rw next (search rules_more)

pub returns : goal.returns
returns c =
    let done : c.args.n - c.loop.counter ≤ 0 = omega arith in
    search rules_done
