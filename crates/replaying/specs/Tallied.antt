-- What a replay counts: the tally after one file more. Assumes nothing.
use Rattle.std.specs.Prelude.{◌+◌, Bool, true, false}
use Rattle.replaying.specs.declared.Tally.{Tally}

-- a file counts, and once more where it is not the same
abbrev pub after : Tally → Bool → Tally
after t true = record { files = t.files + 1; different = t.different }
after t false = record { files = t.files + 1; different = t.different + 1 }
