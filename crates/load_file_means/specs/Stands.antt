-- The parts of a net that stands in the bytes, as the load reads them.
use Prim.Native.Nat.{ℕ, zero, suc, ◌+◌, ◌*◌, ◌%◌, ◌<◌, ◌≤◌}
use Rattle.std.specs.Prelude.{◌≡◌, List, [], ◌∷◌, eqb}
use Rattle.std.proofs.Math.Path.{refl, subst}
use Rattle.std.proofs.Math.Option.{Option, none, some}
use Rattle.std.proofs.Math.ListN.{length}
use native.Mathlib.Omega.{arith}
use Rattle.fields.specs.Fields.{byte, be16}
use Rattle.stored.specs.Stored.{table_at, table_end, numbers_at, list_at, list_end, name_at, name_end, node_at, node_end, pair_at, pairs_at, nodes_at, pair_count_at, node_count_at, flat_net_at, flat_net_end}
use Rattle.stored.specs.Laws.{table_length}
use Rattle.ends.specs.Ends.{table_up, name_past, node_past, node_up, free_past}
use Rattle.net_file.specs.Values.{Name, FlatNet, File}
use Rattle.net_file_laws.specs.Exact.{Each}
use Rattle.net_file_laws.specs.Flat.{PairFits, NodeFits, FlatNetFits}
use Rattle.definitions.specs.Lists.{find}
use Rattle.definitions.specs.Load.{canonical}
use Rattle.readers_laws.specs.Tables.{list_length, pairs_length}
use Rattle.held_names.specs.Named.{Stands}
use Rattle.load_laws.specs.Finds.{find_mem}
use Rattle.load_laws.specs.Begin.{each_mem}
use Rattle.load_laws.specs.Loaded.{NetFine}
use Rattle.wire_ends_means.specs.Wires.{Numbers, Fit}
use Rattle.wire_ends_means.specs.Pairs.{PairNumbers, PairsFit}
use Rattle.load_nodes_means.specs.Nodes.{NodeIn, NodesIn}
use Rattle.load_nets_means.specs.NetIn.{NetIn}

-- ---- the table has the wires

-- what a wire stands for is in the counter's range
canonical_below : (wires : ℕ) (ps : List (ℕ × ℕ)) → Each (PairFits wires) ps → (w : ℕ) → w < wires → canonical ps w < wires
unfolding canonical
canonical_below wires ps h w l = go (find (λ p. eqb w p.1) ps) refl
  where
    go : (o : Option (ℕ × ℕ)) → find (λ p. eqb w p.1) ps ≡ o → elim o as (λ _. ℕ) [ none ↦ w | some p ↦ p.0 ] < wires
    go none e = l
    go (some p) e = (each_mem (PairFits wires) ps p h (find_mem (λ p. eqb w p.1) ps p e).0).0

module _ (wires m : ℕ) (ps : List (ℕ × ℕ)) (h : Each (PairFits wires) ps) (most : wires ≤ m) where
  fit : (l : List ℕ) → Each (λ w. w < wires) l → Fit ps m l
  fit [] e = tt
  fit (w ∷ l) e = (let z = canonical_below wires ps h w e.0 in omega arith, fit l e.1)

pairs_fit : (wires m : ℕ) → wires ≤ m → (ps : List (ℕ × ℕ)) → Each (PairFits wires) ps → PairsFit m ps
pairs_fit wires m most [] h = tt
pairs_fit wires m most (p ∷ ps) h = (let z = h.0.1 in omega arith, pairs_fit wires m most ps h.1)

-- ---- what stands where

module _ (s : List ℕ) where
  numbers_in : (k at : ℕ) → at + 2 * k ≤ length s → Numbers s at (numbers_at s at k)
  unfolding numbers_at table_at
  numbers_in zero at h = tt
  numbers_in (suc k) at h = (refl, omega arith, numbers_in k (at + 2) (omega arith))

  -- a list of numbers after its count
  list_in : (at b : ℕ) → at + 1 ≡ b → list_end s at ≤ length s → Numbers s b (list_at s at)
  unfolding list_at list_end
  list_in at b e h = subst (λ (a : ℕ). Numbers s a (numbers_at s (at + 1) (byte s at))) e (numbers_in (byte s at) (at + 1) h)

  pairs_in : (k at : ℕ) → at + 4 * k ≤ length s → PairNumbers s at (pairs_at s at k)
  unfolding pairs_at pair_at table_at
  pairs_in zero at h = tt
  pairs_in (suc k) at h = (refl, refl, omega arith, pairs_in k (at + 4) (omega arith))

  module _ (f : File FlatNet) (short : length s < 4294967300) (Named : ℕ → Name → Type 0) (named : (a : ℕ) (n : Name) → Stands s f a n → Named a n)
      (wires m : ℕ) (most : wires ≤ m) (ps : List (ℕ × ℕ)) (paired : Each (PairFits wires) ps) where
    node_in : (at : ℕ) → 0 < at → node_end s at ≤ length s → NodeFits (length f.paths) (length f.names) wires (node_at s at) → NodeIn Named ps m s at (node_at s at)
    unfolding node_at node_end
    node_in at z h n =
        let few = n.few in
        let a = name_past s at in
        let b = node_past s at in
        let place : at % 4294967296 ≡ at = omega arith in
        record {
          inside = h;
          pri = refl;
          count = list_length s (name_end s at + 2);
          aux = list_in (name_end s at + 2) (name_end s at + 3) (omega arith) h;
          most = omega arith;
          fits = fit wires m ps paired most (be16 s (name_end s at) ∷ list_at s (name_end s at + 2)) (n.pri, n.aux);
          named = rw place (named at (name_at s at) (record { placed = z; is = refl; inside = omega arith; fits = n.name }));
        }

    nodes_in : (k at : ℕ) → 0 < at → table_end (node_end s) at k ≤ length s → Each (NodeFits (length f.paths) (length f.names) wires) (nodes_at s at k)
        → NodesIn Named ps m s at (nodes_at s at k)
    unfolding nodes_at table_at table_end
    nodes_in zero at z h e = tt
    nodes_in (suc k) at z h e =
        let a = table_up (node_end s) (node_up s) (node_end s at) k in
        let b = node_up s at in
        (node_in at z (omega arith) e.0, nodes_in k (node_end s at) (omega arith) h e.1)

  -- a net that ends inside the file, where a place means at least what stands there
  pub net_in : (f : File FlatNet) → length s < 4294967300 → (Named : ℕ → Name → Type 0) → ((a : ℕ) (n : Name) → Stands s f a n → Named a n) → (at : ℕ) → flat_net_end s at ≤ length s → FlatNetFits (length f.paths) (length f.names) (flat_net_at s at)
      → length f.names ≤ 1024 → NetFine (flat_net_at s at) → (m : ℕ) → (flat_net_at s at).wires ≤ m → NetIn Named m s at (flat_net_at s at)
  unfolding flat_net_at flat_net_end node_count_at pair_count_at nodes_at
  net_in f short Named named at inside fits few fine m most =
      let q = node_count_at s at in
      let p = pair_count_at s at in
      let up = table_up (node_end s) (node_up s) (q + 2) (be16 s q) in
      let name = fits.name in
      let ends : p ≤ length s = omega arith in
      record {
        fine = fine;
        name = refl;
        low = omega arith;
        counter = refl;
        free_count = list_length s (at + 7);
        free = list_in (at + 7) (at + 8) (omega arith) ends;
        free_inside = let z = free_past s at in omega arith;
        free_most = fits.few_free;
        free_fits = fit (flat_net_at s at).wires m (flat_net_at s at).pairs fits.pairs most (flat_net_at s at).free fits.free;
        pair_count = pairs_length s (p + 2) (be16 s p);
        pairs = pairs_in (be16 s p) (p + 2) (omega arith);
        pairs_inside = omega arith;
        pairs_fit = pairs_fit (flat_net_at s at).wires m most (flat_net_at s at).pairs fits.pairs;
        node_count = table_length s (node_at s) (node_end s) (q + 2) (be16 s q);
        nodes = nodes_in f short Named named (flat_net_at s at).wires m most (flat_net_at s at).pairs fits.pairs (be16 s q) (q + 2) (omega arith) inside fits.nodes;
        nodes_inside = omega arith;
      }

-- whether a net is included
pub marked : (s : List ℕ) (at : ℕ) → (flat_net_at s at).included ≡ eqb (byte s (at + 2)) 1
unfolding flat_net_at
marked s at = refl
