use Rattle.std.proofs.Common.{◌-◌, ◌≡◌, length}
use Rattle.stored.specs.Stored.{numbers_at, list_at}
use Rattle.rule_sets.specs.Sets as spec
use Rattle.rule_sets.proofs.add_list.Given as goal

abbrev pub invariant-loop : goal.invariant-loop
invariant-loop l = (spec.add_list l.sets l.k l.r l.bit (numbers_at l.file l.p (l.count - l.counter)) ≡ spec.add_list l.initial.sets l.k l.r l.bit (list_at l.file l.at)) × (length l.sets ≡ length l.initial.sets)
