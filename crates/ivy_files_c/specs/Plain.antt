-- What a conversion call answers, as two plain numbers, and leaves.
use Rattle.std.specs.Prelude.{ℕ, ◌≡◌, List, Ok, Err}
use Rattle.std.proofs.Common.{ap, ◌∙◌}
use Rattle.net_file.specs.Lists.{Result, ok, refuse}
use Rattle.definitions.specs.Calls.{Outcome, written}
use Rattle.refusals.specs.Told.{told}
use Rattle.convert_frame.specs.Called.{Converted, answered, leaves}
use Rattle.convert_frame.specs.Called.{Called as Lent}
use Rattle.ivy_files_c.specs.declared.IvyConverted.{IvyConverted}

-- the number of a refusal (docs/REFUSALS.md), or 0 and the length of the result
unfoldable pub plain : Result ℕ → IvyConverted
plain (ok n) = record { refusal = 0; length = n }
plain (refuse r) = record { refusal = r; length = 0 }

-- the answer, and every byte of the output
abbrev pub Pruned : Result (List ℕ) → List ℕ → IvyConverted → List ℕ → Type 0
Pruned a out r out' = (r ≡ plain (answered a)) × (out' ≡ written a out)

-- the answer, every word of the scratch and every byte of the output
abbrev pub Called : Outcome (List ℕ) → List ℕ → List ℕ → IvyConverted → List ℕ → List ℕ → Type 0
Called o ws out r ws' out' = (r ≡ plain (answered o.0)) × (ws' ≡ leaves o.1 ws) × (out' ≡ written o.0 out)

-- a call's contract in plain numbers
pub called_plain : (o : Outcome (List ℕ)) (ws out ws' out' : List ℕ) (a : Converted) (r : IvyConverted)
    → Lent o ws out a ws' out' → r ≡ plain (told a) → Called o ws out r ws' out'
called_plain o ws out ws' out' a r p e = (e ∙ ap plain p.is, p.scratch, p.out)
