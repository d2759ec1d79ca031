use Rattle.std.proofs.Common.{◌-◌, ◌≡◌, length}
use Rattle.rule_sets.specs.Sets as spec
use Rattle.rule_sets.proofs.add_rules.Given as goal

abbrev pub invariant-loop-r : goal.invariant-loop-r
invariant-loop-r l = (spec.add_rules l.file l.at l.r (l.count - l.r) l.sets ≡ spec.add_rules l.file l.first 0 l.count l.initial.sets) × (l.bit ≡ spec.bit_of l.r) × (length l.sets ≡ length l.initial.sets)
