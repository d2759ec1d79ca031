use Rattle.std.proofs.Common.{◌-◌, ◌≡◌}
use Rattle.resolve_pass.specs.Pass.{hung_links}
use Rattle.resolve_pass.proofs.hung_links.Given as goal

abbrev pub invariant-loop : goal.invariant-loop
invariant-loop l = hung_links l.ws l.s l.at (l.n - l.counter) l.t ≡ hung_links l.ws l.s l.from l.n 0
