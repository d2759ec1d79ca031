-- Each part of a tree file that is read is what stands at its place: `stands-tree`, `stands-link`, `stands-tree-net`.
use Prim.Native.Nat.{ℕ, zero, suc, ◌+◌}
use Rattle.std.specs.Prelude.{◌≡◌, List}
use Rattle.std.proofs.Math.Path.{refl}
use native.Mathlib.Omega.{arith}
use Rattle.net_file.specs.Values.{wire}
use Rattle.net_file.specs.Read.{Parser, read_wire, by_tag, read_tree, read_link, read_tree_net}
use Rattle.fields.specs.Fields.{byte, be16}
use Rattle.stored.specs.Laws.{Stands, stands_bind, stands_give, stands_as, stands_1, stands_2, stands_4, stands_below, stands_many}
use Rattle.stored.specs.Parts.{stands_name, stands_bit}
use Rattle.stored_tree.specs.Tree.{on_tag, child_count_at, children, tree_end, tree_at, link_at, link_end, link_count_at, tree_net_at, tree_net_end}

module _ (s : List ℕ) where
  -- one reader for each tag
  stands_tag : {A : Type 0} {p q : Parser A} {at : ℕ} {v w : A} {e f : ℕ} (tag : ℕ) → Stands s p at v e → Stands s q at w f
      → Stands s (by_tag tag p q) at (on_tag tag v w) (on_tag tag e f)
  unfolding by_tag on_tag
  stands_tag zero h k = h
  stands_tag (suc n) h k = k

  -- a wire behind its tag
  stands_wire : (wires at : ℕ) → Stands s (read_wire wires) (at + 1) (wire (be16 s (at + 1))) (at + 3)
  unfolding read_wire
  stands_wire wires at =
      let e : at + 1 + 2 ≡ at + 3 = omega arith in
      stands_bind _ (stands_as (stands_below s 2 wires _ _ _ (stands_2 s (at + 1))) refl e) stands_give

  module _ (paths names wires : ℕ) where
    pub stands_tree : (d at : ℕ) → Stands s (read_tree paths names wires d) at (tree_at s d at) (tree_end s d at)
    unfolding read_tree tree_at tree_end child_count_at children
    stands_tree zero at = stands_bind _ (stands_below s 1 1 at _ _ (stands_1 s at)) (stands_wire wires at)
    stands_tree (suc d) at =
        stands_bind _ (stands_below s 1 2 at _ _ (stands_1 s at))
        (stands_tag (byte s at) (stands_wire wires at)
        (stands_bind _ (stands_name s paths names (at + 1))
        (stands_bind _ (stands_many s 1 15 (read_tree paths names wires d) (tree_at s d) (tree_end s d) _ _ _ (stands_1 s _) (stands_tree d)) stands_give)))

    pub stands_link : (at : ℕ) → Stands s (read_link paths names wires) at (link_at s at) (link_end s at)
    unfolding read_link link_at link_end
    stands_link at = stands_bind _ (stands_tree 64 at) (stands_bind _ (stands_tree 64 (tree_end s 64 at)) stands_give)

  pub stands_tree_net : (paths names at : ℕ) → Stands s (read_tree_net paths names) at (tree_net_at s at) (tree_net_end s at)
  unfolding read_tree_net tree_net_at tree_net_end link_count_at
  stands_tree_net paths names at =
      let e : at + 2 + 1 ≡ at + 3 = omega arith in
      let f : at + 3 + 4 ≡ at + 7 = omega arith in
      let g : at + 7 + 1 ≡ at + 8 = omega arith in
      stands_bind _ (stands_below s 2 names _ _ _ (stands_2 s at))
      (stands_bind _ (stands_as (stands_bit s (at + 2)) refl e)
      (stands_bind _ (stands_as (stands_below s 4 65537 _ _ _ (stands_4 s (at + 3))) refl f)
      (stands_bind _ (stands_many s 1 14 (read_tree paths names _ 64) (tree_at s 64) (tree_end s 64) _ _ _ (stands_as (stands_1 s (at + 7)) refl g) (stands_tree paths names _ 64))
      (stands_bind _ (stands_many s 2 65535 (read_link paths names _) (link_at s) (link_end s) _ _ _ (stands_2 s _) (stands_link paths names _)) stands_give))))
