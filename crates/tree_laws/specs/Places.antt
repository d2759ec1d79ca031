-- A tree by its place: which tree stands there, where it ends, and where its children begin. Of any bytes: nothing is asked of the file.
use Prim.Native.Nat.{ℕ, zero, suc, ◌+◌, ◌<◌, ◌≤◌}
use Rattle.std.specs.Prelude.{◌≡◌, List, length}
use Rattle.std.proofs.Math.Path.{refl}
use Rattle.std.proofs.Common.{sym, ap, ◌∙◌, arith}
use Rattle.std.proofs.Math.Decide.{dec_lt, ℕ_discrete}
use Rattle.net_file.specs.Values.{Tree, wire, node, trees}
use Rattle.fields.specs.Fields.{byte, be16, byte_past, be16_past}
use Rattle.stored.specs.Stored.{table_at, table_end, name_at, name_end}
use Rattle.stored_tree.specs.Tree.{on_tag, child_count_at, children, tree_end, tree_at, link_at, link_end, link_count_at, tree_net_end}
use Rattle.ends.specs.Ends.{within, name_past, table_up}
use Rattle.readers.specs.Places.{end_within}

-- ---- a choice by the tag

pub tag_wire : {A : Type 0} (a b : A) (tag : ℕ) → tag ≡ 0 → on_tag tag a b ≡ a
unfolding on_tag
tag_wire a b zero h = refl
tag_wire a b (suc n) h = absurd (omega arith)

pub tag_node : {A : Type 0} (a b : A) (tag : ℕ) → (tag ≡ 0 → ⊥) → on_tag tag a b ≡ b
unfolding on_tag
tag_node a b zero h = absurd (h refl)
tag_node a b (suc n) h = refl

module _ (s : List ℕ) where
  -- ---- what stands there

  pub leaf_at : (at : ℕ) → tree_at s 0 at ≡ wire (be16 s (at + 1))
  unfolding tree_at
  leaf_at at = refl

  pub leaf_end : (at : ℕ) → tree_end s 0 at ≡ at + 3
  unfolding tree_end
  leaf_end at = refl

  module _ (at : ℕ) (z : byte s at ≡ 0) where
    -- a wire, whatever the depth
    pub wire_at : (d : ℕ) → tree_at s d at ≡ wire (be16 s (at + 1))
    unfolding tree_at
    wire_at zero = refl
    wire_at (suc d) = tag_wire _ _ (byte s at) z

    pub wire_end : (d : ℕ) → tree_end s d at ≡ at + 3
    unfolding tree_end
    wire_end zero = refl
    wire_end (suc d) = tag_wire _ _ (byte s at) z

  module _ (at : ℕ) (z : byte s at ≡ 0 → ⊥) (d : ℕ) where
    -- a node: its name behind the tag, and its children behind their count, one less deep
    pub node_at : tree_at s (suc d) at ≡ node (name_at s (at + 1)) (trees (table_at (tree_at s d) (tree_end s d) (child_count_at s at + 1) (children s at)))
    unfolding tree_at
    node_at = tag_node _ _ (byte s at) z

    pub node_end : tree_end s (suc d) at ≡ table_end (tree_end s d) (child_count_at s at + 1) (children s at)
    unfolding tree_end
    node_end = tag_node _ _ (byte s at) z

  -- ---- each part ends after it begins

  pub count_past : (at : ℕ) → at + 11 < child_count_at s at
  unfolding child_count_at
  count_past at = omega (arith, name_past s (at + 1))

  -- a node's own bytes and its children, where each child ends no earlier than it begins
  node_past : (d at : ℕ) → ((a : ℕ) → a + 3 ≤ tree_end s d a) → at + 3 ≤ table_end (tree_end s d) (child_count_at s at + 1) (children s at)
  node_past d at h = omega (arith, count_past at, table_up (tree_end s d) (λ a. let i = h a in omega arith) (child_count_at s at + 1) (children s at))

  pub tree_past : (d at : ℕ) → at + 3 ≤ tree_end s d at
  tree_past zero at = rw (leaf_end at) (omega arith)
  tree_past (suc d) at = elim (ℕ_discrete (byte s at) 0) [
    | yes z ↦ rw (wire_end at z (suc d)) (omega arith)
    | no z ↦ rw (node_end at z d) (node_past d at (tree_past d))
  ]

  pub tree_up : (d at : ℕ) → at ≤ tree_end s d at
  tree_up d at = omega (arith, tree_past d at)

  pub link_up : (at : ℕ) → at ≤ link_end s at
  unfolding link_end
  link_up at = omega (arith, tree_past 64 at, tree_past 64 (tree_end s 64 at))

  pub links_past : (at : ℕ) → at + 8 ≤ link_count_at s at
  unfolding link_count_at
  links_past at = table_up (tree_end s 64) (tree_up 64) (at + 8) (byte s (at + 7))

  pub net_past : (at : ℕ) → link_count_at s at + 2 ≤ tree_net_end s at
  unfolding tree_net_end
  net_past at = table_up (link_end s) link_up (link_count_at s at + 2) (be16 s (link_count_at s at))

  pub net_up : (at : ℕ) → at ≤ tree_net_end s at
  net_up at = omega (arith, links_past at, net_past at)

  -- ---- a place past the end may be taken for the end

  pub tree_none : (d at : ℕ) → length s ≤ at → tree_at s d at ≡ wire 0
  tree_none d at h = wire_at at (byte_past s at h) d ∙ rw (be16_past s (at + 1) (omega arith))

  pub tree_clamped : (d x a : ℕ) → a ≡ within s x → tree_at s d a ≡ tree_at s d x
  tree_clamped d x a e = elim (dec_lt (length s) x) [
    | yes l ↦ tree_none d a (omega arith) ∙ sym (tree_none d x (omega arith))
    | no l ↦ let i : a ≡ x = omega arith in ap (tree_at s d) i
  ]

  pub end_clamped : (d x a : ℕ) → a ≡ within s x → within s (tree_end s d a) ≡ within s (tree_end s d x)
  end_clamped d x a e = rw e (end_within (tree_end s d) (tree_up d) s x)
