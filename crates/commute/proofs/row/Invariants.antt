use Rattle.std.proofs.Common.{◌≡◌, ◌-◌, ◌++◌, length, take}
use Rattle.commute.specs.Commute.{ports, row}
use Rattle.commute.proofs.row.Given as goal

abbrev pub invariant-loop-place : goal.invariant-loop-place
invariant-loop-place l = (take l.place-index l.place-items ++ ports l.q (15 - l.place-index) ≡ row l.initial.q) × (length l.place-items ≡ 15)
