use Rattle.std.proofs.Common.{◌-◌, ◌+◌, ◌*◌, ◌≤◌, ◌≡◌}
use Rattle.node_names.specs.Names as spec
use Rattle.node_names.proofs.same_children.Given as goal

abbrev pub invariant-loop : goal.invariant-loop
invariant-loop l = (spec.same_numbers l.file l.a l.b (l.k - l.counter) ≡ spec.same_children l.file l.x l.y l.k) × (l.a + 2 * (l.k - l.counter) ≤ l.x + 11 + 2 * l.k) × (l.b + 2 * (l.k - l.counter) ≤ l.y + 11 + 2 * l.k)
