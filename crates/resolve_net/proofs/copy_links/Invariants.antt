use Rattle.std.proofs.Common.{◌-◌, ◌≡◌, length}
use Rattle.resolve_net.specs.Plain.{copy_links}
use Rattle.resolve_net.proofs.copy_links.Given as goal

abbrev pub invariant-loop-i : goal.invariant-loop-i
invariant-loop-i l = (copy_links l.s l.ws (l.n - l.i) l.out l.i l.place ≡ copy_links l.s l.ws l.n l.initial.out 0 l.to) × (length l.out ≡ length l.initial.out)
