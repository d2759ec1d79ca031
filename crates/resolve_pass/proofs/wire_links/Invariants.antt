use Rattle.std.proofs.Common.{◌-◌, ◌≡◌, length}
use Rattle.resolve_pass.specs.Pass.{wire_links}
use Rattle.resolve_pass.proofs.wire_links.Given as goal

abbrev pub invariant-loop : goal.invariant-loop
invariant-loop l = (wire_links l.ws l.s l.at (l.n - l.counter) ≡ wire_links l.initial.ws l.s l.from l.n) × (length l.ws ≡ length l.initial.ws)
