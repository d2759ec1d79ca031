-- An answer as two plain numbers.
use Rattle.std.specs.Prelude.{ℕ, ◌≡◌}
use Rattle.lent.specs.declared.Answer.{Answer}
use Rattle.lent.specs.declared.Answer.TheVariants.{Done, Refused}
use Rattle.ivy_c.specs.declared.IvyAnswer.{IvyAnswer}

-- the number of a refusal (docs/REFUSALS.md), or 0 and the answer's number
unfoldable pub plain : Answer → IvyAnswer
plain (Done n) = record { refusal = 0; value = n }
plain (Refused r) = record { refusal = r; value = 0 }

pub plain_done : (a : Answer) (n : ℕ) → a ≡ Done n → record { refusal = 0; value = n } ≡ plain a
unfolding plain
plain_done a n e = rw e

pub plain_refused : (a : Answer) (r : ℕ) → a ≡ Refused r → record { refusal = r; value = 0 } ≡ plain a
unfolding plain
plain_refused a r e = rw e
