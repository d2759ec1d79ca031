use Rattle.std.proofs.Common.{◌-◌, ◌≡◌, length}
use Rattle.resolve_pass.specs.Pass.{free_links}
use Rattle.resolve_pass.proofs.free_links.Given as goal

abbrev pub invariant-loop : goal.invariant-loop
invariant-loop l = (free_links l.ws l.s l.at (l.n - l.counter) ≡ free_links l.initial.ws l.s l.from l.n) × (length l.ws ≡ length l.initial.ws)
