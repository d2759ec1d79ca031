use Rattle.std.proofs.Common.{◌-◌, ◌≡◌}
use Rattle.wiring.specs.Wiring.{twice, nodes_wires}
use Rattle.net_file.specs.Lists.{all}
use Rattle.wiring.proofs.twice_nodes.Given as goal

abbrev pub invariant-loop : goal.invariant-loop
invariant-loop l = all (twice l.counts l.base) (nodes_wires l.s l.at (l.n - l.counter)) ≡ all (twice l.counts l.base) (nodes_wires l.s l.from l.n)
