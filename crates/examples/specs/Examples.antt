-- P1 to P8 of document 01, less the 14 of P8: one table, one theorem over it, by computation. Each file goes the whole way: it is
-- written, its bytes are read with all checks, loaded, run to the end, finished and printed.
use Rattle.std.specs.Prelude.{◌≡◌, refl, ℕ, ◌+◌, List, [], ◌∷◌, map, length}
use Prim.Native.String.{String}
use Rattle.net_file.specs.Values.{FlatNet, File}
use Rattle.net_file.specs.Checks.{flat, write}
use Rattle.definitions.specs.Text.{text}
use Rattle.definitions.specs.Listing.{listed, netlist}
use Rattle.definitions.specs.Computes.{computes}
use Rattle.examples.specs.Files.{P1, P3, P4, P5, P6, P7, P8}

-- how it is run, the file, what is printed
abbrev pub Row : Type 0
Row = (List ℕ → List ℕ) × File FlatNet × String

-- in pools N, E and W
abbrev pub pools : ℕ → ℕ → ℕ → List ℕ → List ℕ
pools n e w = listed (record { nodes = n; entries = e; waits = w })

abbrev pub erased : String
erased = "limit none\nnet 0 wires 3 free 1 2\ne 0 children ports 1\ne 0 children ports 2\n"

abbrev pub grafted : String
grafted = "limit 4\nnet 0 wires 2 free 1\nv 0 children ports 1\nnet 1 wires 2 free 1\nv 0 children ports 1\n"

pub table : List Row
table =
    (netlist, P1 5 3, "limit 4\nnet 0 wires 2 free 1 1\n")
    -- P2
    ∷ (netlist, P1 0 4, "limit 0\nnet 0 wires 4 free 1 2\nx 0 children ports 3 1\nx 0 children ports 3 2\n")
    ∷ (netlist, P3, erased)
    ∷ (pools 4 1024 64, P3, "refused 9\n")
    ∷ (pools 5 4 64, P3, "refused 10\n")
    ∷ (pools 5 5 64, P3, erased)
    ∷ (netlist, P4, "limit none\nnet 0 wires 9 free 1 2 3 4\ny 0 children ports 1 5 6\ny 0 children ports 2 7 8\nx 0 children ports 3 5 7\nx 0 children ports 4 6 8\n")
    ∷ (netlist, P5, "limit 5\nnet 0 wires 2 free 1\ng 0 children 0 ports 1\n")
    ∷ (netlist, P6, grafted)
    -- one wait
    ∷ (pools 256 1024 0, P6, "refused 11\n")
    ∷ (pools 256 1024 1, P6, grafted)
    ∷ (netlist, P7 0, "limit 4\nnet 0 wires 2 free 1\nn 0 children ports 1\n")
    ∷ (netlist, P7 1, "limit 5\nnet 0 wires 4 free 1\nc 0 children ports 1 2 3\nn 0 children ports 2\nn 1 children ports 3\n")
    ∷ (netlist, P8 5, "limit 0\nnet 0 wires 3 free\ny 0 children ports 1 2\nx 0 children ports 1 2\n")
    ∷ []

-- "Length field 78"
pub P1_length : length (write flat (P1 5 3)) ≡ 4 + 78
unfolding computes
P1_length = refl

pub examples : map (λ r. r.0 (write flat r.1)) table ≡ map (λ r. text r.2) table
unfolding computes table
examples = refl
