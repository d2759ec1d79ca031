-- A table by wire on the words: engine.rs, `add_flat_net`, `wires` and `link`. Level Words.
use Rattle.std.specs.Prelude.{ℕ, zero, suc, ◌+◌, ◌-◌, ◌≡◌, List, get_or, set}
use Rattle.std.proofs.Common.{ap}
use Rattle.words.specs.Choose.{if_eq, if_lt}
use Rattle.fields.specs.Fields.{be16}
use Rattle.ends.specs.Ends.{on}
use Rattle.layout.specs.Layout.{next}
use Rattle.graph.specs.Graph.{link}

-- what a call leaves of the words and of the table
pub record Joined : Type 0 where
  pub ws : List ℕ
  pub wires : List ℕ

-- a contract's two equations from one
pub joined : {x : Joined} {w t : List ℕ} → record { ws = w; wires = t } ≡ x → (w ≡ x.ws) × (t ≡ x.wires)
joined e = (ap (λ o. o.ws) e, ap (λ o. o.wires) e)

-- of a pair the smaller wire stands for both
unfoldable pub canonical : List ℕ → ℕ → ℕ
canonical wires w =
    let v = get_or wires w 0 in
    if_lt v 2147483648 w (v - 2147483648)

-- a wire is met at port p: it stays open there, or it is joined with the port where it was met before
unfoldable pub join_wire : List ℕ → List ℕ → ℕ → ℕ → Joined
join_wire ws wires w p =
    let c = canonical wires w in
    let first = get_or wires c 0 in
    if_eq first 0 (record { ws = ws; wires = set wires c p }) (record { ws = link ws p first; wires = set wires c 0 })

-- k wires of the file from a place on, at the ports from p on
unfoldable pub join_wires : List ℕ → List ℕ → List ℕ → ℕ → ℕ → ℕ → Joined
join_wires ws wires file at p zero = record { ws = ws; wires = wires }
join_wires ws wires file at p (suc k) =
    let j = join_wire ws wires (be16 file at) p in
    join_wires j.ws j.wires file (on file at 2) (next p) k

-- k pairs from a place on: the larger wire of each stands for the smaller
unfoldable pub put_pairs : List ℕ → List ℕ → ℕ → ℕ → List ℕ
put_pairs wires file at zero = wires
put_pairs wires file at (suc k) = put_pairs (set wires (be16 file (at + 2)) (2147483648 + be16 file at)) file (on file at 4) k
