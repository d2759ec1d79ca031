use Rattle.std.proofs.Common.{◌-◌, ◌≡◌}
use Rattle.rule_names.specs.RuleNames.{rules_name}
use Rattle.rule_names.proofs.rules_name.Given as goal

abbrev pub invariant-loop : goal.invariant-loop
invariant-loop l = rules_name l.s l.at (l.n - l.counter) l.x ≡ rules_name l.s l.from l.n l.x
