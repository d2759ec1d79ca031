-- What a replay finds: an answer is the same or different. Assumes nothing.
use Rattle.std.specs.Prelude.{ℕ, Bool, true, false, Result, Ok, Err, eqb}
use Rattle.replay_files.specs.declared.Difference.{Difference}

abbrev pub pick : Bool → Result (Unit {0}) Difference → Result (Unit {0}) Difference → Result (Unit {0}) Difference
pick true a b = a
pick false a b = b

-- the expected answer beside the one that came
abbrev pub compared : ℕ → ℕ → Result (Unit {0}) Difference
compared expected got = pick (eqb expected got) (Ok tt) (Err (record { expected = expected; got = got }))
