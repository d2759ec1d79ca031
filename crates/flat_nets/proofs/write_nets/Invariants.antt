use Rattle.std.proofs.Common.{◌-◌, ◌≡◌, length}
use Rattle.flat_nets.specs.Flat.{nets_spot, nets_words, nets_out}
use Rattle.flat_nets.proofs.write_nets.Given as goal

abbrev pub invariant-loop : goal.invariant-loop
invariant-loop l = (nets_spot l.s l.ws l.p (l.n - l.counter) ≡ nets_spot l.s l.initial.ws l.initial.p l.n) × (nets_words l.s l.ws l.p (l.n - l.counter) ≡ nets_words l.s l.initial.ws l.initial.p l.n) × (nets_out l.s l.ws l.p (l.n - l.counter) l.out ≡ nets_out l.s l.initial.ws l.initial.p l.n l.initial.out) × (length l.ws ≡ length l.initial.ws) × (length l.out ≡ length l.initial.out)
