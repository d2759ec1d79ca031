-- One turn of each loop that counts, and its end, in the words of the code's calls.
use Rattle.std.specs.Prelude.{ℕ, zero, suc, ◌+◌, ◌-◌, ◌<◌, ◌≤◌, ◌≡◌, List}
use Rattle.std.proofs.Common.{arith, not-suc-le-zero, sub-one}
use Rattle.layout.specs.Layout.{next}
use Rattle.image_pending.specs.Pending.{count_node, count_nodes, count_wait, count_waits}

pub nodes_more : (ws tally m : List ℕ) (n j k : ℕ) (x : List ℕ) → count_nodes ws tally n k ≡ x → 0 < k → m ≡ count_node ws tally n → j ≡ next n
    → count_nodes ws m j (k - 1) ≡ x
unfolding count_nodes
nodes_more ws tally m n j zero x e h em ej = absurd (not-suc-le-zero h)
nodes_more ws tally m n j (suc k) x e h em ej = rw (sub-one, ej, em) e

pub nodes_done : (ws tally : List ℕ) (n k : ℕ) (x : List ℕ) → count_nodes ws tally n k ≡ x → k ≤ 0 → tally ≡ x
unfolding count_nodes
nodes_done ws tally n zero x e h = e
nodes_done ws tally n (suc k) x e h = absurd (not-suc-le-zero h)

pub waits_more : (ws marks tally m : List ℕ) (c j k : ℕ) (x : List ℕ) → count_waits ws marks tally c k ≡ x → 0 < k → m ≡ count_wait ws marks tally c → j ≡ next c
    → count_waits ws marks m j (k - 1) ≡ x
unfolding count_waits
waits_more ws marks tally m c j zero x e h em ej = absurd (not-suc-le-zero h)
waits_more ws marks tally m c j (suc k) x e h em ej = rw (sub-one, ej, em) e

-- the same, where no number wraps
pub waits_next : (ws marks tally m : List ℕ) (c j k : ℕ) (x : List ℕ) → count_waits ws marks tally c k ≡ x → 0 < k → m ≡ count_wait ws marks tally c → j ≡ c + 1 → c + k ≤ 4294967296
    → count_waits ws marks m j (k - 1) ≡ x
unfolding count_waits
waits_next ws marks tally m c j zero x e h em ej b = absurd (not-suc-le-zero h)
waits_next ws marks tally m c j (suc zero) x e h em ej b = rw em e
waits_next ws marks tally m c j (suc (suc k)) x e h em ej b =
    let on : j ≡ next c = omega arith in
    rw (sub-one, on, em) e

pub waits_done : (ws marks tally : List ℕ) (c k : ℕ) (x : List ℕ) → count_waits ws marks tally c k ≡ x → k ≤ 0 → tally ≡ x
unfolding count_waits
waits_done ws marks tally c zero x e h = e
waits_done ws marks tally c (suc k) x e h = absurd (not-suc-le-zero h)
