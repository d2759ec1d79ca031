use Rattle.std.proofs.Common.{◌-◌, ◌≡◌}
use Rattle.rule_names.specs.RuleNames.{lists_after}
use Rattle.rule_names.proofs.lists_after.Given as goal

abbrev pub invariant-loop : goal.invariant-loop
invariant-loop l = lists_after l.s l.at (l.n - l.counter) ≡ lists_after l.s l.from l.n
