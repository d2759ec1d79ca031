use Rattle.std.proofs.Common.{◌-◌, ◌≡◌, length}
use Rattle.resolve_pass.specs.Pass.{marked_links}
use Rattle.resolve_pass.proofs.mark_links.Given as goal

abbrev pub invariant-loop : goal.invariant-loop
invariant-loop l = (marked_links l.ws l.s l.at (l.n - l.counter) l.bs ≡ marked_links l.ws l.s l.from l.n l.initial.bs) × (length l.bs ≡ length l.initial.bs)
