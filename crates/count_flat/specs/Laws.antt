-- The count by offsets is the number of nodes of the nets that are read.
use Prim.Native.Nat.{ℕ, zero, suc, ◌+◌, ◌≤◌}
use Rattle.std.specs.Prelude.{◌≡◌, List, map, drop}
use Rattle.std.proofs.Math.Path.{refl}
use Rattle.std.proofs.Common.{sym}
use native.Mathlib.Omega.{arith}
use Rattle.std.proofs.Math.ListN.{length}
use Rattle.std.proofs.Math.Option.{some}
use Rattle.net_file.specs.Lists.{sum}
use Rattle.net_file.specs.Values.{FlatNet}
use Rattle.net_file.specs.Read.{times, read_flat_net}
use Rattle.net_file.specs.Checks.{flat}
use Rattle.fields.specs.Fields.{be16}
use Rattle.stored.specs.Stored.{table_at, table_end, node_at, node_end, nodes_at, node_count_at, flat_net_at, flat_net_end}
use Rattle.stored.specs.Laws.{table_length, stands_times}
use Rattle.stored.specs.Parts.{stands_net}
use Rattle.ends.specs.Ends.{within, nodes_past, net_up, table_up}
use Rattle.count_flat.specs.Count.{net_nodes, nets_nodes}

module _ (s : List ℕ) where
  -- a net that ends inside the file
  net_nodes_lem : (at : ℕ) → flat_net_end s at ≤ length s → net_nodes s at ≡ length (flat_net_at s at).nodes
  unfolding net_nodes flat_net_at nodes_at
  net_nodes_lem at h =
      let e : within s (node_count_at s at) ≡ node_count_at s at = omega (arith, nodes_past s at) in
      rw e (sym (table_length s (node_at s) (node_end s) (node_count_at s at + 2) (be16 s (node_count_at s at))))

  stored_nodes : (at n : ℕ) → table_end (flat_net_end s) at n ≤ length s → nets_nodes s at n ≡ sum (map flat.nodes (table_at (flat_net_at s) (flat_net_end s) at n))
  unfolding nets_nodes table_at table_end
  stored_nodes at zero h = refl
  stored_nodes at (suc n) h =
      let e : flat_net_end s at ≤ length s = omega (arith, table_up (flat_net_end s) (net_up s) (flat_net_end s at) n) in
      let f : within s (flat_net_end s at) ≡ flat_net_end s at = omega arith in
      rw (net_nodes_lem at e, f, stored_nodes (flat_net_end s at) n h)

module _ (s : List ℕ) (paths names n at : ℕ) (ns : List FlatNet) (r : List ℕ) (i : at ≤ length s) (h : times n (read_flat_net paths names) (drop at s) ≡ some (ns, r)) where
  pub nets_nodes_lem : nets_nodes s at n ≡ sum (map flat.nodes ns)
  nets_nodes_lem =
      let y = (stands_times s (read_flat_net paths names) (flat_net_at s) (flat_net_end s) (stands_net s paths names) n at).by ns r i h in
      rw y.0 (stored_nodes s at n y.3)
