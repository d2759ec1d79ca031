use Rattle.std.proofs.Common.{◌-◌, ◌≡◌}
use Rattle.orders_tree.specs.Names.{names_from}
use Rattle.orders_tree.proofs.names_ascend.Given as goal

abbrev pub invariant-loop : goal.invariant-loop
invariant-loop l = names_from l.last l.s l.at (l.n - l.counter) ≡ names_from 0 l.s l.from l.n
