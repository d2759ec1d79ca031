-- The books of small runs, computed: what each slice deducts, the dirty list with its capacity and stale count, the pending numbers.
-- must-fail/ holds errors in the books that change them.
use Rattle.std.specs.Prelude.{◌≡◌, refl, ℕ, List, [], ◌∷◌, map}
use Rattle.std.proofs.Math.Option.{Option, none, some}
use Rattle.net_file.specs.Lists.{Result, ok, refuse}
use Rattle.net_file.specs.Checks.{flat, read}
use Rattle.definitions.specs.Lists.{◌>>=◌}
use Rattle.definitions.specs.State.{Pools, Engine}
use Rattle.definitions.specs.Load.{load}
use Rattle.definitions.specs.Run.{run_slice}
use Rattle.definitions.specs.Text.{hex}
use Rattle.definitions.specs.Computes.{computes}

-- what the slices deducted, and the books after them
pub record Kept : Type 0 where
  pub deducted : List ℕ
  pub items : List ℕ
  pub capacity : ℕ
  pub stale : ℕ
  pub pending : List ℕ

-- the slices in order
unfoldable pub sliced : List (Option ℕ) → Engine → List ℕ → Result Kept
sliced [] e ds = ok (record { deducted = ds; items = e.dirty.items; capacity = e.dirty.capacity; stale = e.dirty.stale; pending = map (λ t. t.pending) e.nets })
sliced (n ∷ ns) e ds = run_slice n e >>= λ r. sliced ns r.0 (r.1 ∷ ds)

-- small pools
abbrev pub few : Pools
few = record { nodes = 10; entries = 16; waits = 2 }

-- of a file in these pools
unfoldable pub books : Pools → List (Option ℕ) → List ℕ → Result Kept
books p ns bs = read flat bs >>= load p >>= λ e. sliced ns e []

-- P8 in three slices of one step
pub three_slices : books few (some 1 ∷ some 1 ∷ some 1 ∷ []) (hex "0000004f01000000050002017801790001000000000000000000000000010401000001000100010000010000000200000000020000000000000000000000000001000100010000000000000000000000010001")
    ≡ ok (record { deducted = 1 ∷ 1 ∷ 1 ∷ []; items = 0 ∷ 3 ∷ 4 ∷ []; capacity = 8; stale = 0; pending = 3 ∷ [] })
unfolding computes sliced books
three_slices = refl

-- and in one slice of three: the same engine
pub one_slice : books few (some 3 ∷ []) (hex "0000004f01000000050002017801790001000000000000000000000000010401000001000100010000010000000200000000020000000000000000000000000001000100010000000000000000000000010001")
    ≡ ok (record { deducted = 3 ∷ []; items = 0 ∷ 3 ∷ 4 ∷ []; capacity = 8; stale = 0; pending = 3 ∷ [] })
unfolding computes sliced books
one_slice = refl

-- two dirty nodes went: their entries are stale, under half of the capacity
pub stale_entries : books few (some 1 ∷ []) (hex "000000ab010000000700040163016e01780179000100000000000000000000000002050100000001000104010002010003000100000100000007020000000300000007000100000000000000000000010000010000000000000000000002000002000000000000000000000501000600010000000000000000000004000000000000000000000000000301000400030000000000000000000005010006000000000000000000000000000200010002")
    ≡ ok (record { deducted = 1 ∷ []; items = 0 ∷ 1 ∷ 2 ∷ 3 ∷ 4 ∷ 5 ∷ 6 ∷ 8 ∷ []; capacity = 8; stale = 2; pending = 6 ∷ [] })
unfolding computes sliced books
stale_entries = refl

-- the fourth entry of a capacity of eight went stale: the list was tightened
pub tightened_at_half : books few (some 2 ∷ []) (hex "0000008b010000000500040163016e0178017900010000000000000000000000000205010000000100010401000201000300010000010000000501000000000005000200000000000000000000030100040001000000000000000000000200000100000000000000000000010000030000000000000000000003010004000000000000000000000000000200010002")
    ≡ ok (record { deducted = 2 ∷ []; items = 0 ∷ 2 ∷ 3 ∷ []; capacity = 8; stale = 0; pending = 3 ∷ [] })
unfolding computes sliced books
tightened_at_half = refl

-- a net that came to 0 is grafted; the waits of the net that waits keep it above 0
pub waits_pending : books few (none ∷ []) (hex "0000009e0100000005000301670178016500020001000000000000000000000100000000000000010000020100000003010002020000000100020000010000000101000000000001000000000000000000000100010000000001010000000301000200000004000200000000000000000000000000010000000000000000000000010001000000000000000000000100000001000001000000000000000000000200")
    ≡ ok (record { deducted = 2 ∷ []; items = []; capacity = 8; stale = 0; pending = 1 ∷ 1 ∷ [] })
unfolding computes sliced books
waits_pending = refl

-- at 0 its waits are answered: the graft is done
pub waits_answered : books few (some 1 ∷ []) (hex "000000a201ffffffff00030165017801670002000000000000000000000000000000000000000001000002010002000301000001000100020000010000000402000200030000000300010000000000000000000000010002000100000000000000000000010100030002000000000000000001000100000100010001010000000202000000010000000200000000000000000001000001000000000000000000000000000000")
    ≡ ok (record { deducted = 1 ∷ []; items = 0 ∷ 1 ∷ 2 ∷ 9 ∷ 8 ∷ []; capacity = 8; stale = 0; pending = 5 ∷ 0 ∷ [] })
unfolding computes sliced books
waits_answered = refl
