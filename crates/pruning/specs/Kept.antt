-- The nets that are kept and the result that is written, by offsets, as the code goes; the marks are by name number.
use Rattle.std.specs.Prelude.{ℕ, zero, suc, ◌+◌, ◌-◌, ◌≡◌, Bool, false, List, [], ◌++◌, length, get_or, replicate, ltb}
use Rattle.net_file.specs.Lists.{Result, refuse, bit, all}
use Rattle.definitions.specs.Calls.{written}
use Rattle.conversions.specs.Calls.{fitted}
use Rattle.words.specs.Choose.{pick, if_eq}
use Rattle.fields.specs.Fields.{be16}
use Rattle.stored.specs.Stored.{flat_net_end, name_count_at, net_count_at}
use Rattle.ends.specs.Ends.{within, on}
use Rattle.put.specs.Written.{part}
use Rattle.reach_names.specs.Reach.{reached}
use Rattle.convert_frame.specs.Head.{head_bytes}
use Rattle.refusals.specs.Told.{told}
use Rattle.convert_frame.specs.Called.{Converted, answered}

-- the answer, and every byte of the output
abbrev pub Gives : Result (List ℕ) → List ℕ → Converted → List ℕ → Type 0
Gives a out r out' = (told r ≡ answered a) × (out' ≡ written a out)

-- every entry is below the name count
unfoldable pub entries_below : List ℕ → ℕ → Bool
entries_below es n = all (λ i. ltb i n) es

module _ (s : List ℕ) (marks : List Bool) where
  -- how many of k nets from `at` on are kept
  unfoldable pub kept_count : ℕ → ℕ → ℕ
  kept_count at zero = 0
  kept_count at (suc k) = bit (get_or marks (be16 s at) false) + kept_count (within s (flat_net_end s at)) k

  -- the bytes of one net, from `at` to e, where it is kept
  unfoldable pub kept_net : ℕ → ℕ → List ℕ
  kept_net at e = pick (get_or marks (be16 s at) false) (part s at (e - at)) []

  -- and of k nets
  unfoldable pub kept_bytes : ℕ → ℕ → List ℕ
  kept_bytes at zero = []
  kept_bytes at (suc k) = let e = within s (flat_net_end s at) in kept_net at e ++ kept_bytes e k

  -- what a result of n bytes is
  unfoldable pub result_of : ℕ → List ℕ
  result_of n =
      let q = within s (net_count_at s) in
      head_bytes s q 1 (kept_count (on s q 2) (be16 s q)) n ++ kept_bytes (on s q 2) (be16 s q)

  unfoldable pub kept_file : List ℕ
  kept_file = result_of (length (result_of 0))

-- 5, then 15; without entries the file as it is
unfoldable pub accepted : List ℕ → List ℕ → ℕ → Result (List ℕ)
accepted s entries room =
    pick (entries_below entries (be16 s (name_count_at s)))
    (if_eq (length entries) 0 (fitted room s) (fitted room (kept_file s (reached s entries (replicate 1024 false)))))
    (refuse 5)
