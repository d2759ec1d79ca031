use Rattle.std.proofs.Common.{length, ◌≡◌, ◌*◌, ◌-◌}
use Rattle.wiring_nets.specs.Told.{told}
use Rattle.wiring_nets.proofs.nets_told.Given as goal

abbrev pub invariant-loop-i : goal.invariant-loop-i
invariant-loop-i g l =
    let w = g.W.Wires.net in
    (told w l.counts l.base l.s l.at (l.n - l.i) ≡ told w l.initial.counts 0 l.s l.from l.n) × (length l.counts ≡ length l.initial.counts) × (l.base ≡ 4 * l.i)
