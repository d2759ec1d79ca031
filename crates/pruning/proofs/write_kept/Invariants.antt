use Rattle.std.proofs.Common.{◌-◌, ◌≡◌, length}
use Rattle.pruning.specs.Kept as spec
use Rattle.text_writers.specs.Wrote.{Still}
use Rattle.pruning.proofs.write_kept.Given as goal

abbrev pub invariant-loop : goal.invariant-loop
invariant-loop l = Still (spec.kept_bytes l.s l.marks l.at (l.n - l.counter)) (spec.kept_bytes l.s l.marks l.from l.n) l.place l.initial.out l.out l.p × (length l.out ≡ length l.initial.out)
