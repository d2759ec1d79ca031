-- Every node of a file that is read stands at a place that means its name, and that a word holds: the place that `load` gives the node.
use Rattle.std.specs.Prelude.{ℕ, suc, ◌+◌, ◌-◌, ◌<◌, ◌≤◌, ◌≡◌, List, length, get_or}
use Rattle.std.proofs.Common.{ap, arith}
use Rattle.net_file.specs.Lists.{ok}
use Rattle.net_file.specs.Values.{FlatNode, FlatNet, File}
use Rattle.net_file.specs.Checks.{field, flat, read}
use Rattle.net_file_laws.specs.Bytes.{Bytes}
use Rattle.net_file_laws.specs.Header.{read_passed, field_read}
use Rattle.stored.specs.Stored.{table_end, list_end, name_at, name_end, node_at, node_end, node_count_at, flat_net_end, net_count_at}
use Rattle.ends.specs.Ends.{within, table_up}
use Rattle.readers.specs.declared.Part.TheVariants.{Node}
use Rattle.readers.specs.Readers.{part_end}
use Rattle.readers.specs.Places.{part_up}
use Rattle.readers_laws.specs.Tables.{table_next}
use Rattle.readers_laws.specs.Flat.{flat_stands}
use Rattle.readers_laws.specs.Bounds.{read_bounds, node_fits}
use Rattle.held_names.specs.Named.{Stands}

-- a node has at least fourteen bytes
node_size : (s : List ℕ) (a : ℕ) → (a + 14 ≤ node_end s a) × (name_end s a ≤ node_end s a)
unfolding node_end name_end list_end
node_size s a = (omega arith, omega arith)

node_name : (s : List ℕ) (a : ℕ) (x : FlatNode) → x ≡ node_at s a → x.name ≡ name_at s a
unfolding node_at
node_name s a x e = ap (λ (y : FlatNode). y.name) e

module _ (s : List ℕ) (is : Bytes s) (f : File FlatNet) (e : read flat s ≡ ok f) where
  -- its length is told in four bytes
  pub file_size : length s < 4294967300
  file_size =
      let h = (read_passed flat s f e).0 in
      let l : 5 ≤ length s = h.long in
      let z : field 0 4 s ≡ length s - 4 = h.size in
      let b : field 0 4 s < 4294967296 = (field_read 0 4 s is (omega arith)).0 in
      omega arith

  module _ (k j at a : ℕ) (d : FlatNet) (x : FlatNode) (kth : k < length f.nets) (there : at ≡ within s (table_end (flat_net_end s) (net_count_at s + 2) k))
      (jth : j < length (get_or f.nets k d).nodes) (here : a ≡ within s (table_end (node_end s) (node_count_at s at + 2) j)) where
    place_is : table_end (node_end s) (node_count_at s at + 2) j ≡ a
    place_is = let i = ((flat_stands s f e).net k at d kth there).node_inside j (omega arith) in omega arith

    node_inside_lem : node_end s a ≤ length s
    node_inside_lem = rw (table_next (node_end s) (node_count_at s at + 2) j, place_is) at (((flat_stands s f e).net k at d kth there).node_inside (suc j) jth)

    not_first : 0 < a
    unfolding part_end
    not_first = omega (arith, place_is, table_up (node_end s) (part_up s Node) (node_count_at s at + 2) j)

    -- node j of net k, whose net stands at `at`
    pub node_named : Stands s f a (get_or (get_or f.nets k d).nodes j x).name
    node_named = record {
      placed = not_first;
      is = node_name s a _ (((flat_stands s f e).net k at d kth there).node_is j a x jth here);
      inside = omega (arith, node_inside_lem, (node_size s a).1);
      fits = (node_fits (length f.paths) (length f.names) (get_or f.nets k d) ((read_bounds s is f e).net k d kth) j x jth).name;
    }

    pub place_fits : a < 4294967296
    place_fits = omega (arith, node_inside_lem, (node_size s a).0, file_size)
