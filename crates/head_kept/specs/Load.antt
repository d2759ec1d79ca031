-- Nets that come into the engine write no word below 5: after a load words 0 to 4 are as they were.
use Prim.Native.Nat.{ℕ, zero, suc, ◌+◌, ◌%◌, ◌<◌}
use Rattle.std.specs.Prelude.{◌≡◌, List}
use Rattle.std.proofs.Math.ListN.{get_or}
use Rattle.std.proofs.Common.{arith}
use Rattle.words.specs.Choose.{eq_split, lt_split}
use Rattle.fields.specs.Fields.{byte, be16, be32}
use Rattle.stored.specs.Stored.{name_end, node_end, node_count_at, flat_net_end, net_count_at}
use Rattle.ends.specs.Ends.{within, on}
use Rattle.layout.specs.Layout.{next, nets, net_at_words, principal}
use Rattle.edits.specs.Edits.{insert_node}
use Rattle.wire_ends.specs.WireEnds.{Joined, canonical, join_wire, join_wires}
use Rattle.load.specs.Added.{Added, unrefused, without}
use Rattle.load.specs.Load.{join_node, add_node, add_nodes, join_free, add_free, add_all, add_wired, add_sized, new_net_words, add_flat_net_words, add_if_included, add_flat_nets, load}
use Rattle.head_kept.specs.Words.{First, Leaves, all_same, put, pick_split, link_first}
use Rattle.head_kept.specs.Lists.{placed_split, insert_node_first}

-- what a call leaves that puts nodes in
abbrev Adds : List ℕ → Added → Type 0
Adds u a = First u a.ws

module _ {u : List ℕ} where
  -- ---- wires

  join_wire_first : {ws : List ℕ} → First u ws → (wires : List ℕ) (w p : ℕ) → First u (join_wire ws wires w p).ws
  unfolding join_wire
  join_wire_first f wires w p =
      let first = get_or wires (canonical wires w) 0 in
      eq_split first 0 _ _ (λ (j : Joined). First u j.ws) (λ h. f) (λ h. link_first f p first)

  join_wires_first : (k : ℕ) {ws : List ℕ} → First u ws → (wires file : List ℕ) (at p : ℕ) → First u (join_wires ws wires file at p k).ws
  unfolding join_wires
  join_wires_first zero f wires file at p = f
  join_wires_first (suc k) {ws} f wires file at p =
      join_wires_first k (join_wire_first f wires (be16 file at) p) (join_wire ws wires (be16 file at) p).wires file (on file at 2) (next p)

  -- ---- nodes

  join_node_first : {ws : List ℕ} → First u ws → (wires file : List ℕ) (at n k : ℕ) → First u (join_node ws wires file at n k).ws
  unfolding join_node
  join_node_first {ws} f wires file at n k =
      let p = principal n in
      join_wires_first k (join_wire_first f wires (be16 file at) p) (join_wire ws wires (be16 file at) p).wires file (on file at 3) (next p)

  add_node_first : {ws : List ℕ} → First u ws → (wires file : List ℕ) (t at : ℕ) → First u (add_node ws wires file t at).ws
  unfolding add_node unrefused
  add_node_first {ws} f wires file t at =
      let e = within file (name_end file at) in
      let k = byte file (e + 2) in
      let s = insert_node_first f t (at % 4294967296) (1 + k) in
      placed_split (insert_node ws t (at % 4294967296) (1 + k)).is _ _ (Adds u) (λ n. join_node_first s wires file e n k) (λ r. s)

  add_nodes_first : (k : ℕ) {ws : List ℕ} → First u ws → (wires file : List ℕ) (t at : ℕ) → First u (add_nodes ws wires file t at k).ws
  unfolding add_nodes
  add_nodes_first zero f wires file t at = f
  add_nodes_first (suc k) {ws} f wires file t at =
      let a = add_node ws wires file t at in
      let s = add_node_first f wires file t at in
      lt_split 0 a.is _ _ (Adds u) (λ h. s) (λ h. add_nodes_first k s a.wires file t (within file (node_end file at)))

  -- the free node
  join_free_first : {ws : List ℕ} → First u ws → (wires file : List ℕ) (t at n k : ℕ) → First u (join_free ws wires file t at n k).ws
  unfolding join_free
  join_free_first f wires file t at n k =
      let p = principal n in
      let q = next p in
      join_wires_first k (link_first (put f (net_at_words t 1) n (omega arith)) p q) wires file (on file at 8) (next q)

  add_free_first : {ws : List ℕ} → First u ws → (wires file : List ℕ) (t at : ℕ) → First u (add_free ws wires file t at).ws
  unfolding add_free unrefused
  add_free_first {ws} f wires file t at =
      let k = byte file (at + 7) in
      let s = insert_node_first f t 0 (2 + k) in
      placed_split (insert_node ws t 0 (2 + k)).is _ _ (Adds u) (λ n. join_free_first s wires file t at n k) (λ r. s)

  -- ---- nets

  add_all_first : {ws : List ℕ} → First u ws → (wires file : List ℕ) (t at : ℕ) → First u (add_all ws wires file t at).ws
  unfolding add_all
  add_all_first {ws} f wires file t at =
      let a = add_free ws wires file t at in
      let s = add_free_first f wires file t at in
      let q = within file (node_count_at file at) in
      lt_split 0 a.is _ _ (Adds u) (λ h. s) (λ h. add_nodes_first (be16 file q) s a.wires file t (on file q 2))

  add_sized_first : (m : ℕ) {ws : List ℕ} → First u ws → (file : List ℕ) (t at : ℕ) → First u (add_sized m ws file t at).ws
  unfolding add_sized add_wired without
  add_sized_first m f file t at = add_all_first f _ file t at

  new_net_first : {ws : List ℕ} → First u ws → (file : List ℕ) (at : ℕ) → First u (new_net_words ws file at)
  unfolding new_net_words
  new_net_first {ws} f file at =
      let t = next (nets ws) in
      put (put (put f 7 t (omega arith)) (64 + be16 file at) t (omega arith)) (net_at_words t 0) (be16 file at) (omega arith)

  add_flat_net_first : {ws : List ℕ} → First u ws → (file : List ℕ) (at : ℕ) → First u (add_flat_net_words ws file at).ws
  unfolding add_flat_net_words
  add_flat_net_first {ws} f file at =
      let t = next (nets ws) in
      let s = new_net_first f file at in
      lt_split 1024 (be32 file (at + 3)) _ _ (Leaves u) (λ h. add_sized_first 65536 s file t at) (λ h. add_sized_first 1024 s file t at)

  add_if_included_first : {ws : List ℕ} → First u ws → (file : List ℕ) (at : ℕ) → First u (add_if_included ws file at).ws
  unfolding add_if_included
  add_if_included_first f file at = pick_split _ _ _ (Leaves u) (add_flat_net_first f file at) f

  add_flat_nets_first : (k : ℕ) {ws : List ℕ} → First u ws → (file : List ℕ) (at : ℕ) → First u (add_flat_nets ws file at k).ws
  unfolding add_flat_nets
  add_flat_nets_first zero f file at = f
  add_flat_nets_first (suc k) {ws} f file at =
      let a = add_if_included ws file at in
      let s = add_if_included_first f file at in
      lt_split 0 a.is _ _ (Leaves u) (λ h. s) (λ h. add_flat_nets_first k s file (within file (flat_net_end file at)))

pub load_first : (ws file : List ℕ) → First ws (load ws file).ws
unfolding load
load_first ws file =
    let q = within file (net_count_at file) in
    add_flat_nets_first (be16 file q) (all_same ws) file (on file q 2)

pub load_head : (ws file : List ℕ) (i : ℕ) → i < 5 → get_or (load ws file).ws i 0 ≡ get_or ws i 0
load_head ws file i h = (load_first ws file).same i (omega arith)
