use Rattle.std.proofs.Common.{◌-◌, ◌≡◌, length}
use Rattle.resolve_pass.specs.Pass.{pass}
use Rattle.resolve_pass.proofs.pass.Given as goal

abbrev pub invariant-loop : goal.invariant-loop
invariant-loop l = (pass l.ws l.s l.at (l.n - l.counter) l.p ≡ pass l.initial.ws l.s l.from l.n (record { kept = 0; left = 0 })) × (length l.ws ≡ length l.initial.ws)
