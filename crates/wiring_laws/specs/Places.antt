-- On a net that lies within the file, the wires that check 7 goes over by offsets are the net's free, paired and node wires.
use Prim.Native.Nat.{ℕ, zero, suc, ◌+◌, ◌*◌, ◌≤◌}
use Rattle.std.specs.Prelude.{◌≡◌}
use Rattle.std.proofs.Math.Path.{refl, sym}
use Rattle.std.proofs.Common.{ap}
use mathlib.Core.List.{List, [], ◌∷◌}
use native.Mathlib.Omega.{arith}
use Rattle.std.proofs.Math.ListN.{length}
use Rattle.words.specs.Choose.{lt_no}
use Rattle.net_file.specs.Lists.{concat_map}
use Rattle.net_file.specs.Values.{FlatNode}
use Rattle.net_file.specs.Checks.{pair_wires}
use Rattle.fields.specs.Fields.{byte, be16}
use Rattle.stored.specs.Stored.{table_at, table_end, numbers_at, list_at, list_end, name_end, node_at, node_end, pair_at, pairs_at, nodes_at, pair_count_at, node_count_at, flat_net_at, flat_net_end}
use Rattle.ends.specs.Ends.{within, on, node_up, table_up, nodes_past}
use Rattle.ends.specs.Runs.{run_all}
use Rattle.wiring.specs.Wiring.{pair_run, node_wires, nodes_wires, free_wires, paired_wires, net_pairs, net_nodes}

-- the places of a node
abbrev pub node_places : FlatNode → List ℕ
node_places m = m.pri ∷ m.aux

module _ (s : List ℕ) where
  -- ---- runs that are there

  pair_run_is : (from n : ℕ) → from + 4 * n ≤ length s → pair_run s from n ≡ pairs_at s from n
  unfolding pair_run
  pair_run_is from n h = sym (lt_no _ _ _ _ h refl)

  one_is : (at : ℕ) → numbers_at s at 1 ≡ be16 s at ∷ []
  unfolding numbers_at table_at
  one_is at = refl

  -- n pairs are 2 n wires
  pairs_flat : (n at : ℕ) → numbers_at s at (2 * n) ≡ pair_wires (pairs_at s at n)
  unfolding numbers_at table_at pair_wires pairs_at pair_at
  pairs_flat zero at = refl
  pairs_flat (suc n) at =
      let e : 2 * suc n ≡ suc (suc (2 * n)) = omega arith in
      let f : at + 2 + 2 ≡ at + 4 = omega arith in
      rw (e, f) (ap {B = List ℕ} (λ l. be16 s at ∷ be16 s (at + 2) ∷ l) (pairs_flat n (at + 4)))

  -- ---- nodes

  node_is : (at : ℕ) → node_end s at ≤ length s → node_wires s at ≡ node_places (node_at s at)
  unfolding node_wires node_at node_end list_at list_end
  node_is at h =
      let e : within s (name_end s at) ≡ name_end s at = omega arith in
      let f : on s (name_end s at) 2 ≡ name_end s at + 2 = omega arith in
      let g : on s (name_end s at) 3 ≡ name_end s at + 2 + 1 = omega arith in
      rw (e, f, g, run_all s (name_end s at) 1 (omega arith), run_all s (name_end s at + 2 + 1) (byte s (name_end s at + 2)) (omega arith), one_is (name_end s at))

  nodes_are : (n at : ℕ) → table_end (node_end s) at n ≤ length s → nodes_wires s at n ≡ concat_map node_places (nodes_at s at n)
  unfolding nodes_wires nodes_at table_at table_end
  nodes_are zero at h = refl
  nodes_are (suc n) at h =
      let l : node_end s at ≤ length s = omega (arith, table_up (node_end s) (node_up s) (node_end s at) n) in
      let e : within s (node_end s at) ≡ node_end s at = omega arith in
      rw (e, node_is at l, nodes_are n (node_end s at) h)

  -- ---- a net

  module _ (at : ℕ) (h : flat_net_end s at ≤ length s) where
    nodes_in : node_count_at s at + 2 ≤ length s
    nodes_in = omega (arith, nodes_past s at)

    pairs_in : pair_count_at s at + 2 + 4 * be16 s (pair_count_at s at) ≤ length s
    unfolding node_count_at
    pairs_in = omega (arith, nodes_in)

    pair_place : within s (pair_count_at s at) ≡ pair_count_at s at
    pair_place = omega (arith, pairs_in)

    on_pairs : on s (pair_count_at s at) 2 ≡ pair_count_at s at + 2
    on_pairs = omega (arith, pairs_in)

    free_in : at + 7 + 1 + 2 * byte s (at + 7) ≤ length s
    unfolding pair_count_at list_end
    free_in = omega (arith, pairs_in)

    pub free_are : free_wires s at ≡ (flat_net_at s at).free
    unfolding free_wires flat_net_at list_at
    free_are =
        let l = free_in in
        let e : on s at 8 ≡ at + 7 + 1 = omega arith in
        let f : on s at 7 ≡ at + 7 = omega arith in
        rw (e, f, run_all s (at + 7 + 1) (byte s (at + 7)) l)

    pub pairs_are : net_pairs s at ≡ (flat_net_at s at).pairs
    unfolding net_pairs flat_net_at
    pairs_are = rw (pair_place, on_pairs, pair_run_is (pair_count_at s at + 2) (be16 s (pair_count_at s at)) pairs_in)

    pub paired_are : paired_wires s at ≡ pair_wires (flat_net_at s at).pairs
    unfolding paired_wires flat_net_at
    paired_are =
        let l : pair_count_at s at + 2 + 2 * (2 * be16 s (pair_count_at s at)) ≤ length s = omega (arith, pairs_in) in
        rw (pair_place, on_pairs, run_all s (pair_count_at s at + 2) (2 * be16 s (pair_count_at s at)) l) (pairs_flat (be16 s (pair_count_at s at)) (pair_count_at s at + 2))

    pub noded_are : net_nodes s at ≡ concat_map node_places (flat_net_at s at).nodes
    unfolding net_nodes flat_net_at flat_net_end
    noded_are =
        let l = nodes_in in
        let e : within s (node_count_at s at) ≡ node_count_at s at = omega arith in
        let f : on s (node_count_at s at) 2 ≡ node_count_at s at + 2 = omega arith in
        rw (e, f) (nodes_are (be16 s (node_count_at s at)) (node_count_at s at + 2) h)
