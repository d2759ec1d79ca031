-- What stands at a place of a tree file, and the place after it, by offsets alone: nothing is checked here, and no bound is asked for.
-- On a file that is read, these are the parts of what was read (`Parts`).
use Rattle.std.specs.Prelude.{ℕ, zero, suc, ◌+◌, List, eqb}
use Rattle.net_file.specs.Values.{Tree, wire, node, trees, TreeNet}
use Rattle.fields.specs.Fields.{byte, be16, be32}
use Rattle.stored.specs.Stored.{table_at, table_end, name_at, name_end}

-- a for the tag 0, b for any other
unfoldable pub on_tag : {A : Type 0} → ℕ → A → A → A
on_tag zero a b = a
on_tag (suc n) a b = b

module _ (s : List ℕ) where
  -- of a node whose tag stands at `at`: the place of its child count, and how many children there are
  unfoldable pub child_count_at : ℕ → ℕ
  child_count_at at = name_end s (at + 1)

  unfoldable pub children : ℕ → ℕ
  children at = byte s (child_count_at at)

  -- a wire is a tag and two bytes; a node's children follow its name and their count; at depth 0 there is only a wire
  unfoldable pub tree_end : ℕ → ℕ → ℕ
  tree_end zero at = at + 3
  tree_end (suc d) at = on_tag (byte s at) (at + 3) (table_end (tree_end d) (child_count_at at + 1) (children at))

  unfoldable pub tree_at : ℕ → ℕ → Tree
  tree_at zero at = wire (be16 s (at + 1))
  tree_at (suc d) at =
      on_tag (byte s at) (wire (be16 s (at + 1)))
      (node (name_at s (at + 1)) (trees (table_at (tree_at d) (tree_end d) (child_count_at at + 1) (children at))))

  -- a link is two trees
  unfoldable pub link_at : ℕ → Tree × Tree
  link_at at = (tree_at 64 at, tree_at 64 (tree_end 64 at))

  unfoldable pub link_end : ℕ → ℕ
  link_end at = tree_end 64 (tree_end 64 at)

  -- of a net: the place of its link count
  unfoldable pub link_count_at : ℕ → ℕ
  link_count_at at = table_end (tree_end 64) (at + 8) (byte s (at + 7))

  unfoldable pub tree_net_at : ℕ → TreeNet
  tree_net_at at =
      let p = link_count_at at in
      record {
        name = be16 s at;
        included = eqb (byte s (at + 2)) 1;
        wires = be32 s (at + 3);
        free = table_at (tree_at 64) (tree_end 64) (at + 8) (byte s (at + 7));
        links = table_at link_at link_end (p + 2) (be16 s p);
      }

  unfoldable pub tree_net_end : ℕ → ℕ
  tree_net_end at = let p = link_count_at at in table_end link_end (p + 2) (be16 s p)
