use Rattle.std.proofs.Common.{◌-◌, ◌≡◌}
use Rattle.text_writers.specs.Wrote.{Still}
use Rattle.flat_frame.specs.Nets.{parts_of, words_of}
use Rattle.flat_frame.proofs.nets.Given as goal

abbrev pub invariant-loop-i : goal.invariant-loop-i
invariant-loop-i g l =
    let w = g.C.Conversion.kind in
    Still (parts_of w l.s l.ws l.i l.place (l.n - l.i)) (parts_of w l.s l.initial.ws 0 l.from l.n) l.at l.initial.out l.out l.p
    × (words_of w l.s l.ws l.i l.place (l.n - l.i) ≡ words_of w l.s l.initial.ws 0 l.from l.n)
