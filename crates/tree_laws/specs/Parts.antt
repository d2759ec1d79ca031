-- The parts of a tree net that stands at a place of a file, each where a walk meets it.
use Rattle.std.specs.Prelude.{ℕ, ◌+◌, ◌<◌, ◌≤◌, ◌≡◌, refl, List, length, get_or, eqb}
use Rattle.std.proofs.Common.{arith}
use Rattle.net_file.specs.Values.{Tree, TreeNet}
use Rattle.fields.specs.Fields.{byte, be16, be32}
use Rattle.stored.specs.Stored.{table_at, table_end}
use Rattle.stored.specs.Laws.{table_length}
use Rattle.stored_tree.specs.Tree.{tree_end, tree_at, link_at, link_end, link_count_at, tree_net_at, tree_net_end}
use Rattle.ends.specs.Ends.{within}
use Rattle.readers_laws.specs.Tables.{table_inside, table_read}
use Rattle.tree_laws.specs.Places.{tree_up, link_up, net_past}

module _ (s : List ℕ) where
  -- its free trees and its links as whole lists, and by their places, none of which is past the end
  pub record TreeNetStands (n : TreeNet) (at : ℕ) : Type 0 where
    pub name : n.name ≡ be16 s at
    pub included : n.included ≡ eqb (byte s (at + 2)) 1
    pub wires : n.wires ≡ be32 s (at + 3)
    pub free : n.free ≡ table_at (tree_at s 64) (tree_end s 64) (at + 8) (byte s (at + 7))
    pub free_count : length n.free ≡ byte s (at + 7)
    pub free_inside : (k : ℕ) → k ≤ length n.free → table_end (tree_end s 64) (at + 8) k ≤ length s
    pub free_is : (k a : ℕ) (d : Tree) → k < length n.free → a ≡ within s (table_end (tree_end s 64) (at + 8) k) → get_or n.free k d ≡ tree_at s 64 a
    pub links : n.links ≡ table_at (link_at s) (link_end s) (link_count_at s at + 2) (be16 s (link_count_at s at))
    pub link_count : length n.links ≡ be16 s (link_count_at s at)
    pub link_inside : (k : ℕ) → k ≤ length n.links → table_end (link_end s) (link_count_at s at + 2) k ≤ length s
    pub link_is : (k a : ℕ) (d : Tree × Tree) → k < length n.links → a ≡ within s (table_end (link_end s) (link_count_at s at + 2) k) → get_or n.links k d ≡ link_at s a

  -- a net that ends inside the file
  module _ (at : ℕ) (inside : tree_net_end s at ≤ length s) where
    frees : ℕ
    frees = byte s (at + 7)

    count : ℕ
    count = be16 s (link_count_at s at)

    free_count_lem : length (tree_net_at s at).free ≡ frees
    unfolding tree_net_at frees
    free_count_lem = table_length s (tree_at s 64) (tree_end s 64) (at + 8) (byte s (at + 7))

    free_end : table_end (tree_end s 64) (at + 8) frees ≤ length s
    unfolding frees link_count_at
    free_end = omega (arith, net_past s at)

    free_inside_lem : (k : ℕ) → k ≤ frees → table_end (tree_end s 64) (at + 8) k ≤ length s
    free_inside_lem k h = omega (arith, free_end, table_inside (tree_end s 64) (tree_up s 64) (at + 8) frees k h)

    free_get : (k a : ℕ) (d : Tree) → k < frees → a ≡ within s (table_end (tree_end s 64) (at + 8) k) → get_or (tree_net_at s at).free k d ≡ tree_at s 64 a
    unfolding tree_net_at frees
    free_get = table_read s (tree_at s 64) (tree_end s 64) (tree_up s 64) (at + 8) (byte s (at + 7)) free_end

    link_count_lem : length (tree_net_at s at).links ≡ count
    unfolding tree_net_at count
    link_count_lem = table_length s (link_at s) (link_end s) (link_count_at s at + 2) (be16 s (link_count_at s at))

    link_end_lem : table_end (link_end s) (link_count_at s at + 2) count ≤ length s
    unfolding tree_net_end count
    link_end_lem = inside

    link_inside_lem : (k : ℕ) → k ≤ count → table_end (link_end s) (link_count_at s at + 2) k ≤ length s
    link_inside_lem k h = omega (arith, link_end_lem, table_inside (link_end s) (link_up s) (link_count_at s at + 2) count k h)

    link_get : (k a : ℕ) (d : Tree × Tree) → k < count → a ≡ within s (table_end (link_end s) (link_count_at s at + 2) k) → get_or (tree_net_at s at).links k d ≡ link_at s a
    unfolding tree_net_at count
    link_get = table_read s (link_at s) (link_end s) (link_up s) (link_count_at s at + 2) (be16 s (link_count_at s at)) link_end_lem

    pub tree_net_stands : TreeNetStands (tree_net_at s at) at
    unfolding tree_net_at frees count
    tree_net_stands = record {
      name = refl;
      included = refl;
      wires = refl;
      free = refl;
      free_count = free_count_lem;
      free_inside = λ k h. free_inside_lem k (rw free_count_lem at h);
      free_is = λ k a d h e. free_get k a d (rw free_count_lem at h) e;
      links = refl;
      link_count = link_count_lem;
      link_inside = λ k h. link_inside_lem k (rw link_count_lem at h);
      link_is = λ k a d h e. link_get k a d (rw link_count_lem at h) e;
    }
