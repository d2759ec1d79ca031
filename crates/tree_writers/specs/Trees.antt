-- A flat net as a tree net, by what stands at each place of the file and in the table by wire; each way out of the writers; and
-- that inside a file it is `write_tree_net` (`net_inside_lem`).
use Prim.Native.Nat.{ℕ, zero, suc, ◌+◌, ◌*◌, ◌-◌, ◌≤◌, ◌<◌}
use Rattle.std.specs.Prelude.{◌≡◌, List, [], ◌∷◌, ◌++◌, map, eqb}
use Rattle.std.proofs.Math.Path.{refl, sym, ap}
use Rattle.std.proofs.Common.{◌∙◌, append_assoc, not-suc-le-zero}
use native.Mathlib.Omega.{arith}
use Rattle.std.proofs.Math.ListN.{length}
use Rattle.net_file.specs.Lists.{concat_map}
use Rattle.net_file.specs.Values.{FlatNode, FlatNet, Tree, wire, node, trees, listed, TreeNet}
use Rattle.net_file.specs.Write.{be, counted, write_name, write_head, write_tree, write_trees, write_link, write_tree_net}
use Rattle.conversions.specs.Links.{canonical, links_of}
use Rattle.conversions.specs.Convert.{to_tree}
use Rattle.fields.specs.Fields.{byte, be16, be32}
use Rattle.stored.specs.Stored.{table_at, table_end, numbers_at, list_at, name_at, name_end, node_at, node_end, nodes_at, node_count_at, flat_net_at, flat_net_end}
use Rattle.stored.specs.Laws.{table_length}
use Rattle.ends.specs.Ends.{within, on, node_up, table_up}
use Rattle.readers.specs.Places.{be16_clamped}
use Rattle.readers_laws.specs.Tables.{list_length, list_clamped}
use Rattle.wire_marks.specs.Marks.{canon}
use Rattle.wire_marks.specs.Along.{along, along_next, along_none, along_inside}
use Rattle.text_writers.specs.Wrote.{Wrote, then, wrote_as, Still, still_on, still_none}

-- ---- nets as trees, where c says which wires are one wire

-- a node hung on its principal wire
unfoldable pub hung : (ℕ → ℕ) → FlatNode → Tree × Tree
hung c m = (wire (c m.pri), node m.name (trees (map (λ w. wire (c w)) m.aux)))

unfoldable pub tree_by : (ℕ → ℕ) → FlatNet → TreeNet
tree_by c n =
    record { name = n.name; included = n.included; wires = n.wires; free = map (λ w. wire (c w)) n.free; links = map (hung c) n.nodes }

-- that is `to_tree`
pub tree_by_lem : (n : FlatNet) → tree_by (canonical (links_of n.pairs)) n ≡ to_tree n
unfolding tree_by hung to_tree
tree_by_lem n = refl

module _ (ws : List ℕ) (stamp : ℕ) where
  unfoldable pub wire_bytes : ℕ → List ℕ
  wire_bytes w = be 1 0 ++ be 2 (canon ws stamp w)

  module _ (s : List ℕ) where
    -- k wires of a list, from the j-th on
    unfoldable pub wires_from : ℕ → ℕ → ℕ → List ℕ
    wires_from from j k = concat_map wire_bytes (numbers_at s (from + (1 + 2 * j)) k)

    -- k nodes from a place on
    unfoldable pub links_from : ℕ → ℕ → List ℕ
    links_from from k = along s (λ a. write_link (hung (canon ws stamp) (node_at s a))) (node_end s) from k

    -- the nodes after their count
    unfoldable pub nodes_part : ℕ → List ℕ
    nodes_part from = be 2 (be16 s from) ++ links_from (on s from 2) (be16 s from)

    -- the net at a place
    unfoldable pub net_part : ℕ → List ℕ
    net_part from =
        write_head (be16 s from) (eqb (byte s (from + 2)) 1) (be32 s (from + 3))
        ++ (counted 1 wire_bytes (list_at s (from + 7)) ++ nodes_part (within s (node_count_at s from)))

-- ---- wires

module _ (ws : List ℕ) (stamp at p r : ℕ) (out m w : List ℕ) where
  pub wire_is : (x y : ℕ) → Wrote (be 1 0) at out m p → y ≡ canon ws stamp x → Wrote (be 2 y) p m w r → Wrote (wire_bytes ws stamp x) at out w r
  unfolding wire_bytes
  wire_is x y t e u = then t (rw e at u)

module _ (ws : List ℕ) (stamp : ℕ) (s : List ℕ) (from : ℕ) where
  wires_next : (j k : ℕ) → 0 < k → wires_from ws stamp s from j k ≡ wire_bytes ws stamp (be16 s (from + (1 + 2 * j))) ++ wires_from ws stamp s from (j + 1) (k - 1)
  unfolding wires_from numbers_at table_at
  wires_next j zero h = absurd (not-suc-le-zero h)
  wires_next j (suc k) h =
      let e : from + (1 + 2 * j) + 2 ≡ from + (1 + 2 * (j + 1)) = omega arith in
      let f : suc k - 1 ≡ k = omega arith in
      rw (e, f)

  wires_none : (j k : ℕ) → k ≤ 0 → wires_from ws stamp s from j k ≡ []
  unfolding wires_from numbers_at table_at
  wires_none j zero h = refl
  wires_none j (suc k) h = absurd (not-suc-le-zero h)

  module _ (at p j k : ℕ) (out w whole : List ℕ) where
    pub wires_more : (z : List ℕ) (q v : ℕ) → Still (wires_from ws stamp s from j k) whole at out w p → 0 < k → v ≡ be16 s (from + (1 + 2 * j))
        → Wrote (wire_bytes ws stamp v) p w z q → Still (wires_from ws stamp s from (j + 1) (k - 1)) whole at out z q
    wires_more z q v st h e t = still_on st (wires_next j k h) (rw e at t)

    pub wires_done : Still (wires_from ws stamp s from j k) whole at out w p → k ≤ 0 → Wrote whole at out w p
    wires_done st h = still_none st (wires_none j k h)

  -- the count, and all of them
  list_whole : be 1 (byte s from) ++ wires_from ws stamp s from 0 (byte s from) ≡ counted 1 (wire_bytes ws stamp) (list_at s from)
  unfolding wires_from counted list_at
  list_whole =
      let e : from + (1 + 2 * 0) ≡ from + 1 = omega arith in
      let l = list_length s from in
      λ i. be 1 (sym l i) ++ concat_map (wire_bytes ws stamp) (numbers_at s (e i) (byte s from))

  pub list_is : (at p k r : ℕ) (out m w : List ℕ) → k ≡ byte s from → Wrote (be 1 k) at out m p → Wrote (wires_from ws stamp s from 0 k) p m w r
      → Wrote (counted 1 (wire_bytes ws stamp) (list_at s from)) at out w r
  list_is at p k r out m w e t u = wrote_as list_whole (then (rw e at t) (rw e at u))

-- ---- nodes

-- wires as trees, as a list and as a node's children
map_wires : (ws : List ℕ) (stamp : ℕ) (l : List ℕ) → concat_map write_tree (map (λ w. wire (canon ws stamp w)) l) ≡ concat_map (wire_bytes ws stamp) l
unfolding write_tree wire_bytes
map_wires ws stamp [] = refl
map_wires ws stamp (w ∷ l) = ap (λ t. (be 1 0 ++ be 2 (canon ws stamp w)) ++ t) (map_wires ws stamp l)

length_map : {A B : Type 0} (f : A → B) (l : List A) → length (map f l) ≡ length l
length_map f [] = refl
length_map f (x ∷ l) = ap suc (length_map f l)

-- a list of wires, each a tree
counted_wires : (ws : List ℕ) (stamp : ℕ) (l : List ℕ) → counted 1 (wire_bytes ws stamp) l ≡ counted 1 write_tree (map (λ w. wire (canon ws stamp w)) l)
unfolding counted
counted_wires ws stamp l = sym (λ i. be 1 (length_map (λ w. wire (canon ws stamp w)) l i) ++ map_wires ws stamp l i)

written_trees : (l : List Tree) → write_trees (trees l) ≡ concat_map write_tree l
unfolding write_trees
written_trees [] = refl
written_trees (t ∷ l) = ap (λ u. write_tree t ++ u) (written_trees l)

listed_trees : (l : List Tree) → listed (trees l) ≡ l
listed_trees [] = refl
listed_trees (t ∷ l) = ap (λ u. t ∷ u) (listed_trees l)

-- a node's bytes, part by part
link_parts : (ws : List ℕ) (stamp : ℕ) (m : FlatNode)
    → wire_bytes ws stamp m.pri ++ (be 1 1 ++ (write_name m.name ++ counted 1 (wire_bytes ws stamp) m.aux)) ≡ write_link (hung (canon ws stamp) m)
unfolding write_link hung write_tree wire_bytes counted
link_parts ws stamp m =
    let l = map (λ w. wire (canon ws stamp w)) m.aux in
    let e = counted_wires ws stamp m.aux in
    let n : be 1 (length (listed (trees l))) ++ write_trees (trees l) ≡ counted 1 write_tree l = λ i. be 1 (length (listed_trees l i)) ++ written_trees l i in
    rw (e, ← n) (simp append_assoc)

pub link_is : (ws : List ℕ) (stamp : ℕ) (s : List ℕ) (from at e v a p q t r : ℕ) (out m o x w : List ℕ) → e ≡ within s (name_end s from) → v ≡ be16 s e
    → Wrote (wire_bytes ws stamp v) at out m p → Wrote (be 1 1) p m o q → Wrote (write_name (name_at s from)) q o x t → a ≡ on s e 2
    → Wrote (counted 1 (wire_bytes ws stamp) (list_at s a)) t x w r → Wrote (write_link (hung (canon ws stamp) (node_at s from))) at out w r
unfolding node_at
link_is ws stamp s from at e v a p q t r out m o x w ee ev f g h ea i =
    let b : a ≡ within s (name_end s from + 2) = omega arith in
    let c : v ≡ be16 s (name_end s from) = be16_clamped s (name_end s from) e v ee ev in
    let d = ap (counted 1 (wire_bytes ws stamp)) (list_clamped s (name_end s from + 2) a b) in
    wrote_as (link_parts ws stamp (node_at s from)) (then (rw c at f) (then g (then h (wrote_as d i))))

module _ (ws : List ℕ) (stamp : ℕ) (s : List ℕ) (from at p k : ℕ) (out w whole : List ℕ) where
  pub links_more : (z : List ℕ) (q a : ℕ) → Still (links_from ws stamp s from k) whole at out w p → 0 < k
      → Wrote (write_link (hung (canon ws stamp) (node_at s from))) p w z q → a ≡ within s (node_end s from)
      → Still (links_from ws stamp s a (k - 1)) whole at out z q
  unfolding links_from
  links_more z q a st h t e = still_on st (along_next s _ (node_end s) from a k h e) t

  pub links_done : Still (links_from ws stamp s from k) whole at out w p → k ≤ 0 → Wrote whole at out w p
  unfolding links_from
  links_done st h = still_none st (along_none s _ (node_end s) from k h)

pub counted_links : (ws : List ℕ) (stamp : ℕ) (s : List ℕ) (from at n a p r : ℕ) (out m w : List ℕ) → n ≡ be16 s from → Wrote (be 2 n) at out m p → a ≡ on s from 2
    → Wrote (links_from ws stamp s a n) p m w r → Wrote (nodes_part ws stamp s from) at out w r
unfolding nodes_part
counted_links ws stamp s from at n a p r out m w en t ea u = then (rw en at t) (rw (ea, en) at u)

-- ---- the net

pub net_is : (ws : List ℕ) (stamp : ℕ) (s : List ℕ) (from at f c p q r : ℕ) (out m o w : List ℕ)
    → Wrote (write_head (be16 s from) (eqb (byte s (from + 2)) 1) (be32 s (from + 3))) at out m p → f ≡ on s from 7
    → Wrote (counted 1 (wire_bytes ws stamp) (list_at s f)) p m o q → c ≡ within s (node_count_at s from) → Wrote (nodes_part ws stamp s c) q o w r
    → Wrote (net_part ws stamp s from) at out w r
unfolding net_part
net_is ws stamp s from at f c p q r out m o w t ef u ec v =
    then t (then (wrote_as (ap (counted 1 (wire_bytes ws stamp)) (list_clamped s (from + 7) f ef)) u) (rw ec at v))

-- inside a file
concat_map_lem : {A B : Type 0} (f : B → List ℕ) (g : A → B) (l : List A) → concat_map (λ x. f (g x)) l ≡ concat_map f (map g l)
concat_map_lem f g [] = refl
concat_map_lem f g (x ∷ l) = ap (λ t. f (g x) ++ t) (concat_map_lem f g l)

module _ (ws : List ℕ) (stamp : ℕ) (s : List ℕ) where
  nodes_inside : (q : ℕ) → table_end (node_end s) (q + 2) (be16 s q) ≤ length s → nodes_part ws stamp s q ≡ counted 2 write_link (map (hung (canon ws stamp)) (nodes_at s (q + 2) (be16 s q)))
  unfolding nodes_part links_from counted nodes_at
  nodes_inside q h =
      let c = canon ws stamp in
      let ns = table_at (node_at s) (node_end s) (q + 2) (be16 s q) in
      let e : on s q 2 ≡ q + 2 = omega (arith, table_up (node_end s) (node_up s) (q + 2) (be16 s q)) in
      let l : be16 s q ≡ length (map (hung c) ns) = sym (length_map (hung c) ns ∙ table_length s (node_at s) (node_end s) (q + 2) (be16 s q)) in
      let a = along_inside s (λ m. write_link (hung c m)) (node_at s) (node_end s) (node_up s) (q + 2) (be16 s q) h ∙ concat_map_lem write_link (hung c) ns in
      ap (λ t. be 2 (be16 s q) ++ along s (λ a. write_link (hung c (node_at s a))) (node_end s) t (be16 s q)) e ∙ (λ i. be 2 (l i) ++ a i)

  pub net_inside_lem : (from : ℕ) → flat_net_end s from ≤ length s → net_part ws stamp s from ≡ write_tree_net (tree_by (canon ws stamp) (flat_net_at s from))
  unfolding net_part write_tree_net tree_by flat_net_at flat_net_end
  net_inside_lem from h =
      let q = node_count_at s from in
      let e : within s q ≡ q = omega (arith, table_up (node_end s) (node_up s) (q + 2) (be16 s q)) in
      let a = counted_wires ws stamp (list_at s (from + 7)) in
      let b : nodes_part ws stamp s (within s q) ≡ counted 2 write_link (map (hung (canon ws stamp)) (nodes_at s (q + 2) (be16 s q))) = ap (nodes_part ws stamp s) e ∙ nodes_inside q h in
      rw (a, b) (simp append_assoc)
