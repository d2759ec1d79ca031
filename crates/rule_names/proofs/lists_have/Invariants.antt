use Rattle.std.proofs.Common.{◌-◌, ◌≡◌}
use Rattle.rule_names.specs.RuleNames.{lists_have}
use Rattle.rule_names.proofs.lists_have.Given as goal

abbrev pub invariant-loop : goal.invariant-loop
invariant-loop l = lists_have l.s l.at (l.n - l.counter) l.x ≡ lists_have l.s l.from l.n l.x
