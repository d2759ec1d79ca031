-- What a function of the crate leaves on each way out, and one turn of each loop, in the words of its tests and calls.
use Rattle.std.specs.Prelude.{ℕ, zero, suc, ◌+◌, ◌*◌, ◌-◌, ◌%◌, ◌<◌, ◌≤◌, Bool, true, false, ◌≡◌, refl, List, length, replicate, eqb}
use Rattle.std.proofs.Common.{◌∙◌, not-suc-le-zero, sub-one, arith}
use Rattle.words.specs.Choose.{lt_yes, lt_no, pick_true, pick_false}
use Rattle.words.specs.Left.{Left, whole}
use Rattle.fields.specs.Fields.{byte, be16, be32}
use Rattle.stored.specs.Stored.{list_end, name_end, node_end, node_count_at, flat_net_end}
use Rattle.ends.specs.Ends.{within, on, list_past, node_is, next_net, next_is}
use Rattle.ends.specs.Whole.{whole_node, whole_is}
use Rattle.layout.specs.Layout.{next, nets, set_net_word, principal}
use Rattle.graph.specs.Graph.{link}
use Rattle.kinds.specs.declared.NodeId.{NodeId}
use Rattle.edits.specs.declared.Placed.{Placed}
use Rattle.edits.specs.declared.Placed.TheVariants.{At, Refused}
use Rattle.edits.specs.Edits.{on_placed, insert_node}
use Rattle.wire_ends.specs.WireEnds.{Joined, join_wire, join_wires}
use Rattle.wire_ends.specs.Ways.{wires_more}
use Rattle.load.specs.Added.{Added, all_added, unrefused, without}
use Rattle.load.specs.Load.{join_node, add_node, add_nodes, join_free, add_free, add_all, add_wired, add_sized, new_net_words, add_flat_net_words, add_if_included, add_flat_nets}

-- ---- nodes

pub node_at : (ws wires file w x y : List ℕ) (net at e k : ℕ) (p : Placed) (n : NodeId) → e ≡ within file (name_end file at) → k ≡ byte file (e + 2)
    → p ≡ (insert_node ws net (at % 4294967296) (1 + k)).is → w ≡ (insert_node ws net (at % 4294967296) (1 + k)).ws → p ≡ At n
    → x ≡ (join_node w wires file e n.0 k).ws → y ≡ (join_node w wires file e n.0 k).wires
    → record { is = 0; ws = x; wires = y } ≡ add_node ws wires file net at
unfolding add_node on_placed unrefused
node_at ws wires file w x y net at e k p n ee ek ep ew h ex ey = rw (← ee, ← ek, ← ep, h, ex, ey, ew)

pub node_refused : (ws wires file w : List ℕ) (net at e k r : ℕ) (p : Placed) → e ≡ within file (name_end file at) → k ≡ byte file (e + 2)
    → p ≡ (insert_node ws net (at % 4294967296) (1 + k)).is → w ≡ (insert_node ws net (at % 4294967296) (1 + k)).ws → p ≡ Refused r
    → record { is = r; ws = w; wires = wires } ≡ add_node ws wires file net at
unfolding add_node on_placed
node_refused ws wires file w net at e k r p ee ek ep ew h = rw (← ee, ← ek, ← ep, h, ew)

pub nodes_more : (ws wires file w t : List ℕ) (net at e a r k : ℕ) (x : Added) → add_nodes ws wires file net at k ≡ x → 0 < k
    → e ≡ within file (name_end file at) → a ≡ within file (list_end file (e + 2))
    → r ≡ (add_node ws wires file net at).is → w ≡ (add_node ws wires file net at).ws → t ≡ (add_node ws wires file net at).wires → r ≤ 0
    → add_nodes w t file net a (k - 1) ≡ x
unfolding add_nodes
nodes_more ws wires file w t net at e a r zero x g h ee ea er ew et z = absurd (not-suc-le-zero h)
nodes_more ws wires file w t net at e a r (suc k) x g h ee ea er ew et z =
    let n = add_node ws wires file net at in
    rw (sub-one, ew, et, node_is file at e a ee ea) (lt_no 0 n.is n (add_nodes n.ws n.wires file net (within file (node_end file at)) k) (rw (← er) z) refl ∙ g)

pub nodes_refused : (ws wires file w t : List ℕ) (net at r k : ℕ) (x : Added) → add_nodes ws wires file net at k ≡ x → 0 < k
    → r ≡ (add_node ws wires file net at).is → w ≡ (add_node ws wires file net at).ws → t ≡ (add_node ws wires file net at).wires → 0 < r
    → record { is = r; ws = w; wires = t } ≡ x
unfolding add_nodes
nodes_refused ws wires file w t net at r zero x e h er ew et z = absurd (not-suc-le-zero h)
nodes_refused ws wires file w t net at r (suc k) x e h er ew et z =
    let n = add_node ws wires file net at in
    lt_yes 0 n.is n (add_nodes n.ws n.wires file net (within file (node_end file at)) k) (rw (← er) z) (all_added n er ew et) ∙ e

pub nodes_done : (ws wires file : List ℕ) (net at k : ℕ) (x : Added) → add_nodes ws wires file net at k ≡ x → k ≤ 0 → record { is = 0; ws = ws; wires = wires } ≡ x
unfolding add_nodes
nodes_done ws wires file net at zero x e h = e
nodes_done ws wires file net at (suc k) x e h = absurd (not-suc-le-zero h)

-- ---- nodes that stand in the file as a whole

pub nodes_rest : (ws wires file w t : List ℕ) (net at r k : ℕ) (x : Added) → add_nodes ws wires file net at k ≡ x → r ≡ (add_nodes ws wires file net at k).is
    → w ≡ (add_nodes ws wires file net at k).ws → t ≡ (add_nodes ws wires file net at k).wires → record { is = r; ws = w; wires = t } ≡ x
nodes_rest ws wires file w t net at r k x g er ew et = all_added (add_nodes ws wires file net at k) er ew et ∙ g

pub wires_next : (ws wires file w t : List ℕ) (at p q b k : ℕ) (x : Joined) → join_wires ws wires file at p k ≡ x → 0 < k → b ≡ be16 file at
    → w ≡ (join_wire ws wires b p).ws → t ≡ (join_wire ws wires b p).wires → q ≡ next p → at + 2 * k ≤ length file
    → join_wires w t file (at + 2) q (k - 1) ≡ x
wires_next ws wires file w t at p q b k x g h eb ew et eq l = wires_more ws wires file w t at (at + 2) p q b k x g h eb ew et (omega arith) eq

pub whole_joined : (ws wires file w v x y : List ℕ) (at n k p q b : ℕ) → p ≡ principal n → b ≡ be16 file at → w ≡ (join_wire ws wires b p).ws
    → v ≡ (join_wire ws wires b p).wires → q ≡ next p → x ≡ (join_wires w v file (at + 3) q k).ws → y ≡ (join_wires w v file (at + 3) q k).wires
    → at + 3 + 2 * k ≤ length file → record { ws = x; wires = y } ≡ join_node ws wires file at n k
unfolding join_node
whole_joined ws wires file w v x y at n k p q b ep eb ew ev eq ex ey l =
    let a : on file at 3 ≡ at + 3 = omega arith in
    rw (a, ex, ey, ew, ev, eq, eb, ep)

module _ (file : List ℕ) (at e : ℕ) (ee : e ≡ name_end file at) (l : list_end file (e + 2) ≤ length file) where
  name_within : e ≡ within file (name_end file at)
  name_within = omega (arith, list_past file (e + 2))

  pub whole_at : (ws wires w x y : List ℕ) (net k : ℕ) (p : Placed) (n : NodeId) → k ≡ byte file (e + 2)
      → p ≡ (insert_node ws net (at % 4294967296) (1 + k)).is → w ≡ (insert_node ws net (at % 4294967296) (1 + k)).ws → p ≡ At n
      → x ≡ (join_node w wires file e n.0 k).ws → y ≡ (join_node w wires file e n.0 k).wires
      → record { is = 0; ws = x; wires = y } ≡ add_node ws wires file net at
  whole_at ws wires w x y net k p n ek ep ew h ex ey = node_at ws wires file w x y net at e k p n name_within ek ep ew h ex ey

  pub whole_refused : (ws wires w : List ℕ) (net k r : ℕ) (p : Placed) → k ≡ byte file (e + 2) → p ≡ (insert_node ws net (at % 4294967296) (1 + k)).is
      → w ≡ (insert_node ws net (at % 4294967296) (1 + k)).ws → p ≡ Refused r → record { is = r; ws = w; wires = wires } ≡ add_node ws wires file net at
  whole_refused ws wires w net k r p ek ep ew h = node_refused ws wires file w net at e k r p name_within ek ep ew h

module _ (file : List ℕ) (at e : ℕ) (ee : e ≡ whole_node file at) (z : e ≡ 0 → ⊥) where
  pub whole_name_ends : e ≡ name_end file at
  whole_name_ends = (whole_is file at e ee z).0

  pub whole_wires_end : list_end file (e + 2) ≤ length file
  unfolding node_end
  whole_wires_end = rw whole_name_ends (whole_is file at e ee z).1

  pub whole_more : (ws wires w t : List ℕ) (net a r k : ℕ) (x : Added) → add_nodes ws wires file net at k ≡ x → 0 < k → a ≡ list_end file (e + 2)
      → r ≡ (add_node ws wires file net at).is → w ≡ (add_node ws wires file net at).ws → t ≡ (add_node ws wires file net at).wires → r ≤ 0
      → add_nodes w t file net a (k - 1) ≡ x
  whole_more ws wires w t net a r k x g h ea er ew et y =
      nodes_more ws wires file w t net at e a r k x g h (omega (arith, whole_name_ends, whole_wires_end, list_past file (e + 2)))
      (omega (arith, whole_wires_end)) er ew et y

pub free_joined : (ws wires file w v x y : List ℕ) (net at a n k p q q' : ℕ) → p ≡ principal n → q ≡ next p → w ≡ set_net_word ws net 1 n → v ≡ link w p q
    → a ≡ on file at 8 → q' ≡ next q → x ≡ (join_wires v wires file a q' k).ws → y ≡ (join_wires v wires file a q' k).wires
    → record { ws = x; wires = y } ≡ join_free ws wires file net at n k
unfolding join_free
free_joined ws wires file w v x y net at a n k p q q' ep eq ew ev ea eq' ex ey = rw (ex, ey, eq', ea, ev, ew, eq, ep)

pub free_at : (ws wires file w x y : List ℕ) (net at k : ℕ) (p : Placed) (n : NodeId) → k ≡ byte file (at + 7) → p ≡ (insert_node ws net 0 (2 + k)).is
    → w ≡ (insert_node ws net 0 (2 + k)).ws → p ≡ At n → x ≡ (join_free w wires file net at n.0 k).ws → y ≡ (join_free w wires file net at n.0 k).wires
    → record { is = 0; ws = x; wires = y } ≡ add_free ws wires file net at
unfolding add_free on_placed unrefused
free_at ws wires file w x y net at k p n ek ep ew h ex ey = rw (← ek, ← ep, h, ex, ey, ew)

pub free_refused : (ws wires file w : List ℕ) (net at k r : ℕ) (p : Placed) → k ≡ byte file (at + 7) → p ≡ (insert_node ws net 0 (2 + k)).is
    → w ≡ (insert_node ws net 0 (2 + k)).ws → p ≡ Refused r → record { is = r; ws = w; wires = wires } ≡ add_free ws wires file net at
unfolding add_free on_placed
free_refused ws wires file w net at k r p ek ep ew h = rw (← ek, ← ep, h, ew)

pub all_refused : (ws wires file w t : List ℕ) (net at r : ℕ) → r ≡ (add_free ws wires file net at).is → w ≡ (add_free ws wires file net at).ws
    → t ≡ (add_free ws wires file net at).wires → 0 < r → record { is = r; ws = w; wires = t } ≡ add_all ws wires file net at
unfolding add_all
all_refused ws wires file w t net at r er ew et z = lt_yes 0 _ _ _ (rw (← er) z) (all_added (add_free ws wires file net at) er ew et)

pub all_more : (ws wires file w t x y : List ℕ) (net at r q a k s : ℕ) → r ≡ (add_free ws wires file net at).is → w ≡ (add_free ws wires file net at).ws
    → t ≡ (add_free ws wires file net at).wires → r ≤ 0 → q ≡ within file (node_count_at file at) → a ≡ on file q 2 → k ≡ be16 file q
    → s ≡ (add_nodes w t file net a k).is → x ≡ (add_nodes w t file net a k).ws → y ≡ (add_nodes w t file net a k).wires
    → record { is = s; ws = x; wires = y } ≡ add_all ws wires file net at
unfolding add_all
all_more ws wires file w t x y net at r q a k s er ew et z eq ea ek es ex ey =
    lt_no 0 _ _ _ (rw (← er) z) (rw (← ew, ← et, ← eq, ← ea, ← ek) (all_added (add_nodes w t file net a k) es ex ey))

-- ---- nets

pub net_sized : (m : ℕ) (ws file x : List ℕ) (net at r : ℕ) → r ≡ (add_wired ws (replicate m 0) file net at).is → x ≡ (add_wired ws (replicate m 0) file net at).ws
    → record { is = r; ws = x } ≡ add_sized m ws file net at
unfolding add_sized without
net_sized m ws file x net at r er ex = rw (er, ex)

pub net_small : (ws file w x : List ℕ) (at t k r : ℕ) → t ≡ next (nets ws) → w ≡ new_net_words ws file at → k ≡ be32 file (at + 3) → k ≤ 1024
    → r ≡ (add_sized 1024 w file t at).is → x ≡ (add_sized 1024 w file t at).ws → record { is = r; ws = x } ≡ add_flat_net_words ws file at
unfolding add_flat_net_words
net_small ws file w x at t k r et ew ek h er ex = lt_no 1024 _ _ _ (rw (← ek) h) (rw (← et, ← ew) (whole (add_sized 1024 w file t at) er ex))

pub net_large : (ws file w x : List ℕ) (at t k r : ℕ) → t ≡ next (nets ws) → w ≡ new_net_words ws file at → k ≡ be32 file (at + 3) → 1024 < k
    → r ≡ (add_sized 65536 w file t at).is → x ≡ (add_sized 65536 w file t at).ws → record { is = r; ws = x } ≡ add_flat_net_words ws file at
unfolding add_flat_net_words
net_large ws file w x at t k r et ew ek h er ex = lt_yes 1024 _ _ _ (rw (← ek) h) (rw (← et, ← ew) (whole (add_sized 65536 w file t at) er ex))

pub net_included : (ws file x : List ℕ) (at r : ℕ) (b : Bool) → b ≡ eqb (byte file (at + 2)) 1 → b ≡ true → r ≡ (add_flat_net_words ws file at).is
    → x ≡ (add_flat_net_words ws file at).ws → record { is = r; ws = x } ≡ add_if_included ws file at
unfolding add_if_included
net_included ws file x at r b eb h er ex = pick_true _ _ _ (rw (← eb) h) (whole (add_flat_net_words ws file at) er ex)

pub net_out_lem : (ws file : List ℕ) (at : ℕ) (b : Bool) → b ≡ eqb (byte file (at + 2)) 1 → b ≡ false → record { is = 0; ws = ws } ≡ add_if_included ws file at
unfolding add_if_included
net_out_lem ws file at b eb h = pick_false _ _ _ (rw (← eb) h) refl

pub nets_more : (ws file w : List ℕ) (at a r k : ℕ) (x : Left ℕ) → add_flat_nets ws file at k ≡ x → 0 < k → r ≡ (add_if_included ws file at).is
    → w ≡ (add_if_included ws file at).ws → r ≤ 0 → a ≡ next_net file at k → add_flat_nets w file a (k - 1) ≡ x
unfolding add_flat_nets
nets_more ws file w at a r zero x e h er ew z ea = absurd (not-suc-le-zero h)
nets_more ws file w at a r (suc zero) x e h er ew z ea =
    let n = add_if_included ws file at in
    rw ew (lt_no 0 n.is n (record { is = 0; ws = n.ws }) (rw (← er) z) refl ∙ e)
nets_more ws file w at a r (suc (suc k)) x e h er ew z ea =
    let n = add_if_included ws file at in
    rw (sub-one, ew, next_is file at a k ea) (lt_no 0 n.is n (add_flat_nets n.ws file (within file (flat_net_end file at)) (suc k)) (rw (← er) z) refl ∙ e)

pub nets_refused : (ws file w : List ℕ) (at r k : ℕ) (x : Left ℕ) → add_flat_nets ws file at k ≡ x → 0 < k → r ≡ (add_if_included ws file at).is
    → w ≡ (add_if_included ws file at).ws → 0 < r → record { is = r; ws = w } ≡ x
unfolding add_flat_nets
nets_refused ws file w at r zero x e h er ew z = absurd (not-suc-le-zero h)
nets_refused ws file w at r (suc k) x e h er ew z =
    let n = add_if_included ws file at in
    lt_yes 0 n.is n (add_flat_nets n.ws file (within file (flat_net_end file at)) k) (rw (← er) z) (whole n er ew) ∙ e

pub nets_done : (ws file : List ℕ) (at k : ℕ) (x : Left ℕ) → add_flat_nets ws file at k ≡ x → k ≤ 0 → record { is = 0; ws = ws } ≡ x
unfolding add_flat_nets
nets_done ws file at zero x e h = e
nets_done ws file at (suc k) x e h = absurd (not-suc-le-zero h)
