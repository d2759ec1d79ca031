use Rattle.std.proofs.Common.{◌-◌, ◌≡◌}
use Rattle.stored.specs.Stored.{numbers_at, list_at}
use Rattle.interactions.specs.Interactions.{first_of_words}
use Rattle.interactions.proofs.stands_first.Given as goal

abbrev pub invariant-loop : goal.invariant-loop
invariant-loop l = first_of_words l.p l.q (numbers_at l.file l.i (l.count - l.counter)) ≡ first_of_words l.p l.q (list_at l.file l.at)
