use Rattle.std.proofs.Common.{◌-◌, ◌≡◌, length}
use Rattle.waits.specs.Waits.{answer_all}
use Rattle.waits.proofs.answer_all.Given as goal

abbrev pub invariant-loop : goal.invariant-loop
invariant-loop l = (answer_all l.ws l.cur (l.k - l.counter) ≡ answer_all l.initial.ws l.initial.cur l.k) × (length l.ws ≡ length l.initial.ws)
