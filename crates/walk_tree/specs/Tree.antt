-- Each way out of the walk over a tree: what the tests on the way say, and that the reader agrees.
use Prim.Native.Nat.{ℕ, zero, suc, ◌+◌, ◌-◌, ◌<◌, ◌≤◌}
use Rattle.std.specs.Prelude.{◌≡◌, refl, List, length, drop, Option, Some, None}
use Rattle.std.proofs.Math.Path.{sym}
use Rattle.std.proofs.Common.{◌∙◌, arith}
use Rattle.std.proofs.Math.Numerals.{sub-one}
use Rattle.net_file.specs.Values.{Tree, wire, node, trees}
use Rattle.net_file.specs.Read.{Parser, ◌>>=◌, give, below, times, many, read_name, read_wire, by_tag, read_tree}
use Rattle.fields.specs.Fields.{byte, be16}
use Rattle.stored.specs.Stored.{name_at}
use Rattle.stored.specs.Laws.{in_1, below_in, below_high}
use Rattle.stored.specs.Parts.{stands_name}
use Rattle.stored_tree.specs.Parts.{stands_tree}
use Rattle.walk.specs.After.{after, after_past, after_bind, after_stop, after_go, after_bad, after_map, after_give, went}
use Rattle.walk.specs.Room.{needs_first, needs_below, after_short}
use Rattle.walk.specs.Loops.{times_turn, times_bad, times_done}
use Rattle.walk.specs.Walk.{below_2, below_2_high, many_none, many_high, many_on}

-- ---- a wire

module _ (s : List ℕ) (wires at : ℕ) where
  pub wire_short : length s < at + 2 → None ≡ after at (read_wire wires) s
  unfolding read_wire
  wire_short h = after_short s at (needs_first (λ w. give (wire w)) (needs_below 2 wires)) h

  pub wire_high : (w : ℕ) → 2 ≤ length s → at ≤ length s - 2 → w ≡ be16 s at → wires ≤ w → None ≡ after at (read_wire wires) s
  unfolding read_wire
  wire_high w i h ew l = after_stop (below 2 wires) (λ w. give (wire w)) s at (omega arith) (below_2_high s wires at (omega arith) (omega arith))

  pub wire_done : (w : ℕ) → 2 ≤ length s → at ≤ length s - 2 → w ≡ be16 s at → w < wires → Some (at + 2) ≡ after at (read_wire wires) s
  unfolding read_wire
  wire_done w i h ew l =
      after_give (wire (be16 s at)) s (at + 2) (omega arith)
      ∙ sym (after_bind (below 2 wires) (λ w. give (wire w)) s at (be16 s at) (at + 2) (omega arith) (below_2 s wires at (omega arith) (omega arith)) (omega arith))

-- ---- a tree

module _ (s : List ℕ) (paths names wires : ℕ) where
  -- a node behind its tag, with children of at most depth d
  abbrev node_of : ℕ → Parser Tree
  node_of d = read_name paths names >>= λ m. many 1 15 (read_tree paths names wires d) >>= λ ts. give (node m (trees ts))

  -- what follows the tag
  abbrev behind : ℕ → ℕ → Parser Tree
  behind d tag = by_tag tag (read_wire wires) (node_of d)

  -- the tag has no room
  pub tree_none : (at d : ℕ) → length s ≤ at → None ≡ after at (read_tree paths names wires d) s
  unfolding read_tree
  tree_none at zero h = after_short s at (needs_first (λ tag. read_wire wires) (needs_below 1 1)) (omega arith)
  tree_none at (suc d) h = after_short s at (needs_first (behind d) (needs_below 1 2)) (omega arith)

  -- what follows a tag that is in range
  past_tag : (at d tag : ℕ) → at < length s → byte s at ≡ tag → tag < 2 → after at (read_tree paths names wires (suc d)) s ≡ after (at + 1) (behind d tag) s
  unfolding read_tree
  past_tag at d tag h e l = rw (← e) (after_bind (below 1 2) (behind d) s at (byte s at) (at + 1) (omega arith) (below_in 1 2 (drop at s) _ _ (in_1 s at (omega arith)) (omega arith)) (omega arith))

  pub tree_wire : (at d tag : ℕ) (w : Option ℕ) → at < length s → tag ≡ byte s at → tag ≡ 0 → w ≡ after (at + 1) (read_wire wires) s → w ≡ after at (read_tree paths names wires d) s
  unfolding read_tree by_tag
  tree_wire at zero tag w h et ez ew =
      ew ∙ sym (after_bind (below 1 1) (λ tag. read_wire wires) s at (byte s at) (at + 1) (omega arith) (below_in 1 1 (drop at s) _ _ (in_1 s at (omega arith)) (omega arith)) (omega arith))
  tree_wire at (suc d) tag w h et ez ew = ew ∙ sym (past_tag at d 0 h (omega arith) (omega arith))

  pub tree_tag : (at d tag : ℕ) → at < length s → tag ≡ byte s at → 1 < tag → None ≡ after at (read_tree paths names wires d) s
  unfolding read_tree
  tree_tag at zero tag h et l =
      after_stop (below 1 1) (λ tag. read_wire wires) s at (omega arith) (below_high 1 1 (drop at s) _ _ (in_1 s at (omega arith)) (omega arith))
  tree_tag at (suc d) tag h et l = after_stop (below 1 2) (behind d) s at (omega arith) (below_high 1 2 (drop at s) _ _ (in_1 s at (omega arith)) (omega arith))

  -- no depth is left for a node
  pub tree_deep : (at d tag : ℕ) → at < length s → tag ≡ byte s at → (tag ≡ 0 → ⊥) → d ≡ 0 → None ≡ after at (read_tree paths names wires d) s
  unfolding read_tree
  tree_deep at zero tag h et nz ed =
      after_stop (below 1 1) (λ tag. read_wire wires) s at (omega arith) (below_high 1 1 (drop at s) _ _ (in_1 s at (omega arith)) (omega arith))
  tree_deep at (suc d) tag h et nz ed = absurd (omega arith)

  -- a node, of which the tag was walked over
  past_one : (at d tag : ℕ) → at < length s → tag ≡ byte s at → (tag ≡ 0 → ⊥) → tag ≤ 1 → (d ≡ 0 → ⊥)
      → after at (read_tree paths names wires d) s ≡ after (at + 1) (node_of (d - 1)) s
  unfolding by_tag
  past_one at zero tag h et nz l nd = absurd (nd refl)
  past_one at (suc d) tag h et nz l nd = rw sub-one (past_tag at d 1 h (omega arith) (omega arith))

  pub tree_name : (at d tag : ℕ) (m : Option ℕ) → at < length s → tag ≡ byte s at → (tag ≡ 0 → ⊥) → tag ≤ 1 → (d ≡ 0 → ⊥)
      → m ≡ after (at + 1) (read_name paths names) s → m ≡ None → None ≡ after at (read_tree paths names wires d) s
  tree_name at d tag m h et nz l nd em eb = after_bad (read_name paths names) _ s (at + 1) m em eb ∙ sym (past_one at d tag h et nz l nd)

  -- and the name: the children are left
  past_name : (at d tag e : ℕ) (m : Option ℕ) → at < length s → tag ≡ byte s at → (tag ≡ 0 → ⊥) → tag ≤ 1 → (d ≡ 0 → ⊥)
      → m ≡ after (at + 1) (read_name paths names) s → m ≡ Some e → after at (read_tree paths names wires d) s ≡ after e (many 1 15 (read_tree paths names wires (d - 1))) s
  past_name at d tag e m h et nz l nd em ea =
      past_one at d tag h et nz l nd
      ∙ after_go (read_name paths names) _ s (at + 1) (name_at s (at + 1)) _ e m (stands_name s paths names (at + 1)) em ea
      ∙ after_map (many 1 15 (read_tree paths names wires (d - 1))) (λ ts. node (name_at s (at + 1)) (trees ts)) s e

  module _ (at d tag e : ℕ) (m : Option ℕ) (h : at < length s) (et : tag ≡ byte s at) (nz : tag ≡ 0 → ⊥) (l : tag ≤ 1) (nd : d ≡ 0 → ⊥)
      (em : m ≡ after (at + 1) (read_name paths names) s) (ea : m ≡ Some e) where
    pub tree_count : length s ≤ e → None ≡ after at (read_tree paths names wires d) s
    tree_count i = many_none s (read_tree paths names wires (d - 1)) e 15 0 i ∙ sym (past_name at d tag e m h et nz l nd em ea)

    pub tree_wide : (k : ℕ) → e < length s → k ≡ byte s e → 15 < k → None ≡ after at (read_tree paths names wires d) s
    tree_wide k i ek j = many_high s (read_tree paths names wires (d - 1)) e 15 k i ek j ∙ sym (past_name at d tag e m h et nz l nd em ea)

    pub tree_node : (k : ℕ) (w : Option ℕ) → e < length s → k ≡ byte s e → k ≤ 15 → w ≡ after (e + 1) (times k (read_tree paths names wires (d - 1))) s
        → w ≡ after at (read_tree paths names wires d) s
    tree_node k w i ek j ew = many_on s (read_tree paths names wires (d - 1)) e 15 k w i ek j ew ∙ sym (past_name at d tag e m h et nz l nd em ea)

-- ---- trees, one after another

module _ (s : List ℕ) (paths names wires d : ℕ) where
  pub trees_past : (at n : ℕ) → length s < at → None ≡ after at (times n (read_tree paths names wires d)) s
  trees_past at n h = after_past (times n (read_tree paths names wires d)) s at h

  pub trees_more : (at at' n i : ℕ) (r x : Option ℕ) → after at (times (n - i) (read_tree paths names wires d)) s ≡ x → i < n → r ≡ after at (read_tree paths names wires d) s → r ≡ Some at'
      → after at' (times (n - (i + 1)) (read_tree paths names wires d)) s ≡ x
  trees_more at at' n i r x g h er ea = times_turn (read_tree paths names wires d) s at at' n i _ _ r x (stands_tree s paths names wires d at) g h er ea

  pub trees_bad : (at k : ℕ) (r x : Option ℕ) → after at (times k (read_tree paths names wires d)) s ≡ x → 0 < k → r ≡ after at (read_tree paths names wires d) s → r ≡ None → None ≡ x
  trees_bad at k r x g h er eb = times_bad (read_tree paths names wires d) s at k r x g h er eb

  pub trees_done : (at k : ℕ) (x : Option ℕ) → after at (times k (read_tree paths names wires d)) s ≡ x → k ≤ 0 → at ≤ length s → Some at ≡ x
  trees_done at k x g h l = times_done (read_tree paths names wires d) s at k x g h l

  -- a tree ends within the file
  pub tree_within : (at at' : ℕ) (r : Option ℕ) → r ≡ after at (read_tree paths names wires d) s → r ≡ Some at' → at' ≤ length s
  tree_within at at' r er ea = let y = went r at' (stands_tree s paths names wires d at) er ea in omega (arith, y.is, y.within)

-- every way out, for the checks of the walks
pub ruleset ways = (wire_short, wire_high, wire_done, tree_none, tree_wire, tree_tag, tree_deep, tree_name, trees_past, trees_bad, trees_done)
