-- How many nodes n flat nets have, by offsets, and the loop that counts them up to 4,097.
use Rattle.std.specs.Prelude.{ℕ, zero, suc, ◌+◌, ◌-◌, ◌<◌, ◌≤◌, min, ◌≡◌, List}
use Rattle.std.proofs.Common.{◌∙◌, arith, sub-one, not-suc-le-zero}
use Rattle.fields.specs.Fields.{be16}
use Rattle.stored.specs.Stored.{node_count_at, flat_net_end}
use Rattle.ends.specs.Ends.{within, next_net, next_is}

unfoldable pub net_nodes : List ℕ → ℕ → ℕ
net_nodes s at = be16 s (within s (node_count_at s at))

unfoldable pub nets_nodes : List ℕ → ℕ → ℕ → ℕ
nets_nodes s at zero = 0
nets_nodes s at (suc n) = net_nodes s at + nets_nodes s (within s (flat_net_end s at)) n

pub nodes_more : (s : List ℕ) (at a k m t u x : ℕ) → min 4097 (t + nets_nodes s at k) ≡ x → 0 < k → m ≡ net_nodes s at → u ≡ min 4097 (t + m) → a ≡ next_net s at k
    → min 4097 (u + nets_nodes s a (k - 1)) ≡ x
unfolding nets_nodes
nodes_more s at a zero m t u x g h em eu ea = absurd (not-suc-le-zero h)
nodes_more s at a (suc zero) m t u x g h em eu ea = let y : min 4097 (u + 0) ≡ min 4097 (t + (net_nodes s at + 0)) = omega arith in y ∙ g
nodes_more s at a (suc (suc k)) m t u x g h em eu ea =
    let n = nets_nodes s (within s (flat_net_end s at)) (suc k) in
    let y : min 4097 (u + n) ≡ min 4097 (t + (net_nodes s at + n)) = omega arith in
    rw (sub-one, next_is s at a k ea) (y ∙ g)

pub nodes_done : (s : List ℕ) (at k t x : ℕ) → min 4097 (t + nets_nodes s at k) ≡ x → k ≤ 0 → t ≤ 4097 → t ≡ x
unfolding nets_nodes
nodes_done s at zero t x g h l = omega arith
nodes_done s at (suc k) t x g h l = absurd (not-suc-le-zero h)
