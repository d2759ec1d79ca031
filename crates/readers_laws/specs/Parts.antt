-- The parts of a path, a name, a node and a flat net that stands at a place, each by the equation that its reader promises.
use Rattle.std.specs.Prelude.{ℕ, ◌+◌, ◌*◌, ◌<◌, ◌≤◌, ◌≡◌, refl, List, length, get_or, eqb}
use Rattle.std.proofs.Math.Path.{sym, ap}
use Rattle.std.proofs.Common.{◌∙◌}
use native.Mathlib.Omega.{arith}
use Rattle.net_file.specs.Values.{Name, FlatNode, FlatNet}
use Rattle.fields.specs.Fields.{byte, be16, be32, be64}
use Rattle.stored.specs.Stored.{table_end, list_at, path_at, name_at, name_end, node_at, node_end, pair_at, nodes_at, pair_count_at, node_count_at, flat_net_at, flat_net_end}
use Rattle.stored.specs.Laws.{table_length}
use Rattle.stored.specs.Parts.{path_length}
use Rattle.ends.specs.Ends.{within}
use Rattle.readers.specs.declared.Part.TheVariants.{Node}
use Rattle.readers.specs.Readers.{part_end}
use Rattle.readers.specs.Places.{be16_clamped, be16_after, part_up}
use Rattle.readers_laws.specs.Tables.{table_inside, table_read, list_length, list_get, path_get, pairs_length, pairs_get}

module _ (s : List ℕ) where
  pub record PathStands (p : List ℕ) (at : ℕ) : Type 0 where
    pub long : length p ≡ byte s at
    pub bytes : (j d : ℕ) → j < length p → get_or p j d ≡ byte s (at + (1 + j))

  -- a count of one byte, then as many numbers
  pub record ListStands (ps : List ℕ) (at : ℕ) : Type 0 where
    pub long : length ps ≡ byte s at
    pub numbers : (j d : ℕ) → j < length ps → get_or ps j d ≡ be16 s (at + (1 + 2 * j))

  pub record NameStands (m : Name) (at : ℕ) : Type 0 where
    pub path : m.path ≡ be16 s at
    pub payload : m.payload ≡ be64 s (at + 2)
    pub child_count : length m.children ≡ byte s (at + 10)
    pub child : (j d : ℕ) → j < length m.children → get_or m.children j d ≡ be16 s (at + (11 + 2 * j))

  pub record NodeStands (n : FlatNode) (at : ℕ) : Type 0 where
    pub name : NameStands n.name at
    pub principal : n.pri ≡ be16 s (name_end s at)
    pub aux_count : length n.aux ≡ byte s (name_end s at + 2)
    pub aux : (j d : ℕ) → j < length n.aux → get_or n.aux j d ≡ be16 s (name_end s at + (3 + 2 * j))

  pub record PairStands (p : ℕ × ℕ) (at : ℕ) : Type 0 where
    pub first : p.0 ≡ be16 s at
    pub second : p.1 ≡ be16 s (at + 2)

  -- pairs and nodes at the places that `pair_place` and `node_place` give
  pub record NetStands (n : FlatNet) (at : ℕ) : Type 0 where
    pub name : n.name ≡ be16 s at
    pub included : n.included ≡ eqb (byte s (at + 2)) 1
    pub wires : n.wires ≡ be32 s (at + 3)
    pub free_count : length n.free ≡ byte s (at + 7)
    pub free : (j d : ℕ) → j < length n.free → get_or n.free j d ≡ be16 s (at + (8 + 2 * j))
    pub pair_count : length n.pairs ≡ be16 s (pair_count_at s at)
    pub pair : (j a : ℕ) (d : ℕ × ℕ) → j < length n.pairs → a ≡ within s (pair_count_at s at + (2 + 4 * j)) → PairStands (get_or n.pairs j d) a
    pub node_count : length n.nodes ≡ be16 s (node_count_at s at)
    pub node_inside : (k : ℕ) → k ≤ length n.nodes → table_end (node_end s) (node_count_at s at + 2) k ≤ length s
    pub node_is : (k a : ℕ) (d : FlatNode) → k < length n.nodes → a ≡ within s (table_end (node_end s) (node_count_at s at + 2) k) → get_or n.nodes k d ≡ node_at s a
    pub node : (k a : ℕ) (d : FlatNode) → k < length n.nodes → a ≡ within s (table_end (node_end s) (node_count_at s at + 2) k) → NodeStands (get_or n.nodes k d) a

  pub path_stands : (at : ℕ) → PathStands (path_at s at) at
  path_stands at = record { long = path_length s at; bytes = λ j d h. path_get s at j d (rw (path_length s at) at h) }

  pub list_stands : (at : ℕ) → ListStands (list_at s at) at
  list_stands at = record { long = list_length s at; numbers = λ j d h. list_get s at j d _ (rw (list_length s at) at h) (omega arith) }

  pub name_stands : (at : ℕ) → NameStands (name_at s at) at
  unfolding name_at
  name_stands at = record {
    path = refl;
    payload = refl;
    child_count = list_length s (at + 10);
    child = λ j d h. list_get s (at + 10) j d _ (rw (list_length s (at + 10)) at h) (omega arith);
  }

  pub node_stands : (at : ℕ) → NodeStands (node_at s at) at
  unfolding node_at
  node_stands at = record {
    name = name_stands at;
    principal = refl;
    aux_count = list_length s (name_end s at + 2);
    aux = λ j d h. list_get s (name_end s at + 2) j d _ (rw (list_length s (name_end s at + 2)) at h) (omega arith);
  }

  pub pair_stands : (x a : ℕ) → a ≡ within s x → PairStands (pair_at s x) a
  unfolding pair_at
  pair_stands x a e = record { first = sym (be16_clamped s x a _ e refl); second = sym (be16_after s x a 2 _ e refl) }

  -- a net that ends inside the file
  module _ (at : ℕ) (inside : flat_net_end s at ≤ length s) where
    count : ℕ
    count = be16 s (node_count_at s at)

    start : ℕ
    start = node_count_at s at + 2

    node_count_lem : length (flat_net_at s at).nodes ≡ count
    unfolding flat_net_at nodes_at count
    node_count_lem = table_length s (node_at s) (node_end s) (node_count_at s at + 2) (be16 s (node_count_at s at))

    node_inside_lem : (k : ℕ) → k ≤ count → table_end (node_end s) start k ≤ length s
    unfolding flat_net_end count start part_end
    node_inside_lem k h = omega (arith, table_inside (node_end s) (part_up s Node) start count k h)

    node_get : (k a : ℕ) (d : FlatNode) → k < count → a ≡ within s (table_end (node_end s) start k) → get_or (flat_net_at s at).nodes k d ≡ node_at s a
    unfolding flat_net_at flat_net_end nodes_at count start part_end
    node_get = table_read s (node_at s) (node_end s) (part_up s Node) start count inside

    pair_count_lem : length (flat_net_at s at).pairs ≡ be16 s (pair_count_at s at)
    unfolding flat_net_at
    pair_count_lem = pairs_length s (pair_count_at s at + 2) (be16 s (pair_count_at s at))

    pair_get : (j : ℕ) (d : ℕ × ℕ) → j < be16 s (pair_count_at s at) → get_or (flat_net_at s at).pairs j d ≡ pair_at s (pair_count_at s at + (2 + 4 * j))
    unfolding flat_net_at
    pair_get j d h =
        let e : pair_count_at s at + 2 + 4 * j ≡ pair_count_at s at + (2 + 4 * j) = omega arith in
        pairs_get s (pair_count_at s at + 2) (be16 s (pair_count_at s at)) j d h ∙ ap (pair_at s) e

    pub net_stands : NetStands (flat_net_at s at) at
    unfolding flat_net_at count start
    net_stands = record {
      name = refl;
      included = refl;
      wires = refl;
      free_count = list_length s (at + 7);
      free = λ j d h. list_get s (at + 7) j d _ (rw (list_length s (at + 7)) at h) (omega arith);
      pair_count = pair_count_lem;
      pair = λ j a d h e. rw (pair_get j d (rw pair_count_lem at h)) (pair_stands (pair_count_at s at + (2 + 4 * j)) a e);
      node_count = node_count_lem;
      node_inside = λ k h. node_inside_lem k (rw node_count_lem at h);
      node_is = λ k a d h e. node_get k a d (rw node_count_lem at h) e;
      node = λ k a d h e. rw (node_get k a d (rw node_count_lem at h) e) (node_stands a);
    }
