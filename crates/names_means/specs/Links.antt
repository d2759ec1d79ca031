-- Links, and nodes that are to go, leave the nets' names alone: the nodes that are marked are there, so their nets are nets.
use Rattle.std.specs.Prelude.{ℕ, ◌+◌, ◌%◌, ◌<◌, ◌≤◌, ◌≡◌, refl, ◌≢◌, length, set}
use Rattle.std.proofs.Common.{sym, ◌∙◌, get_or-set_other, arith}
use mathlib.Core.List.{List}
use Rattle.words.specs.Choose.{eq_split}
use Rattle.words.specs.Left.{Left}
use Rattle.layout.specs.Layout.{next, dead, node_at, node_word, node_of, across, set_across}
use Rattle.graph.specs.Graph.{mark_dirty_words, join, link, remove_wire, remove_node}
use Rattle.edits.specs.declared.Placed.{Placed}
use Rattle.edits.specs.declared.Placed.TheVariants.{At, Refused}
use Rattle.edits.specs.Edits.{on_placed, place_node, insert_node}
use Rattle.net_file.specs.Values.{Name}
use Rattle.definitions.specs.Nets.{Port, Graph, follow}
use Rattle.definitions.specs.State.{Engine, graph_of}
use Rattle.join_laws.specs.Ports.{Real}
use Rattle.join_laws.specs.Link.{Wired}
use Rattle.script_laws.specs.Safe.{CanJoin}
use Rattle.script_laws.specs.Tidy.{real_filled}
use Rattle.means.specs.Means.{number, Means}
use Rattle.means.specs.Frame.{Rest, rest_set, rest_trans, real_inside}
use Rattle.graph_means.specs.Wires.{number_same, number_node, follow_real}
use Rattle.script_means.specs.Dead.{Dead}
use Rattle.script_means.specs.Stage.{Stage}
use Rattle.script_means.specs.Tries.{net_read}
use Rattle.names_means.specs.Kept.{NetWords, Kept, kept_all, before, across_names, place_node_names, mark_dirty_nets, mark_dirty_names}

-- a port's word is no slot's net
across_nets : (ws : List ℕ) (p q : ℕ) → 8 ≤ p % 32 → Rest NetWords ws (set_across ws p q)
across_nets ws p q b = rest_set NetWords ws (5184 + p) q (λ i o d. omega arith)

-- by the words: what is across from a and b are ports of nodes
module _ (ws : List ℕ) (a b : ℕ) (pa : 8 ≤ a % 32) (pb : 8 ≤ b % 32) (px : 8 ≤ across ws a % 32) (py : 8 ≤ across (set_across ws a a) b % 32)
    (nx : 1 ≤ node_word ws (node_of (across ws a)) 0) (ny : 1 ≤ node_word ws (node_of (across (set_across ws a a) b)) 0) where
  link_words : Kept ws (link ws a b)
  unfolding link join
  link_words =
      let w = set_across ws a a in
      let v = set_across w b b in
      let x = across ws a in
      let y = across w b in
      let u1 = set_across v x y in
      let u = set_across u1 y x in
      let cut : Kept ws v = rest_trans (across_names ws a a) (across_names w b b) in
      let nets : Rest NetWords ws u = rest_trans (rest_trans (rest_trans (across_nets ws a a pa) (across_nets w b b pb)) (across_nets v x y px)) (across_nets u1 y x py) in
      let both : Kept ws u = rest_trans (rest_trans cut (across_names v x y)) (across_names u1 y x) in
      let fx : node_word u (node_of x) 0 ≡ node_word ws (node_of x) 0 = nets.same (node_at (node_of x) 0) (omega arith) in
      let m = mark_dirty_words u (node_of x) in
      let fy : node_word m (node_of y) 0 ≡ node_word ws (node_of y) 0
      = (mark_dirty_nets u (node_of x)).same (node_at (node_of y) 0) (omega arith) ∙ nets.same (node_at (node_of y) 0) (omega arith) in
      eq_split x b v (join v x y) (λ (z : List ℕ). Kept ws z) (λ h. cut)
      (λ h. rest_trans (rest_trans both (mark_dirty_names u (node_of x) (omega arith))) (mark_dirty_names m (node_of y) (omega arith)))

-- two ports that exist
module _ (Named : ℕ → Name → Type 0) (ws : List ℕ) (e : Engine) (m : Means Named ws e) (wired : Wired (graph_of e)) (a b : Port) (ra : Real (graph_of e) a) (rb : Real (graph_of e) b) (differ : a ≢ b) where
  -- the port across from a port, and its node's net
  met : (p : Port) → Real (graph_of e) p → (8 ≤ number p % 32) × (8 ≤ number (follow (graph_of e) p) % 32) × (1 ≤ node_word ws (node_of (number (follow (graph_of e) p))) 0)
  met p r =
      let i = real_inside m.nodes p r in
      let rq = follow_real (graph_of e) wired p r in
      let q = follow (graph_of e) p in
      let j = real_inside m.nodes q rq in
      let n : node_of (number q) ≡ q.node = number_node q j.1 in
      let net = net_read Named ws e m q.node (real_filled (graph_of e) q rq) in
      (omega arith, omega arith, rw n (omega arith))

  pub link_names : Kept ws (link ws (number a) (number b))
  link_names =
      let ma = met a ra in
      let mb = met b rb in
      let ia = real_inside m.nodes a ra in
      let ib = real_inside m.nodes b rb in
      let x : across ws (number a) ≡ number (follow (graph_of e) a) = m.nodes.port a ra in
      let apart : number b ≢ number a = λ d. differ (number_same a b ia.1 ib.1 (sym d)) in
      let y : across (set_across ws (number a) (number a)) (number b) ≡ number (follow (graph_of e) b)
      = get_or-set_other ws (5184 + number a) (5184 + number b) (number a) 0 (omega arith) ∙ m.nodes.port b rb in
      link_words ws (number a) (number b) ma.0 mb.0 (rw x ma.1) (rw y mb.1) (rw x ma.2) (rw y mb.2)

-- a join of a script
pub stage_link_names : (Named : ℕ → Name → Type 0) (x : ℕ → ℕ) (M : ℕ) (chain l : List ℕ) (k : ℕ) (g : Graph) (ws : List ℕ) (e : Engine) → Stage Named x M chain l k g ws e
    → (U : Port → Type 0) (a b : Port) → CanJoin g U a b → Kept ws (link ws (number a) (number b))
stage_link_names Named x M chain l k g ws e s U a b c =
    let n = s.edited.nodes in
    link_names Named ws e s.means (rw n s.wired) a b (rw n c.real_a) (rw n c.real_b) c.differ

-- one more node is to go
pub remove_node_names : (ws l : List ℕ) (n : ℕ) → Dead ws l → length l < 32 → Kept ws (remove_node ws n)
unfolding remove_node
remove_node_names ws l n d room =
    let c = d.count in
    rest_trans (before ws (32 + dead ws) n (omega arith)) (before (set ws (32 + dead ws) n) 17 (next (dead ws)) (omega arith))

-- a wire is cut
pub remove_wire_names : (ws : List ℕ) (a b : ℕ) → Kept ws (remove_wire ws a b)
unfolding remove_wire
remove_wire_names ws a b = rest_trans (across_names ws a a) (across_names (set_across ws a a) b b)

-- a node is put in, and marked where its net is one
pub insert_node_names : (ws : List ℕ) (t name len : ℕ) → 1 ≤ t
    → ((n : ℕ) → (insert_node ws t name len).is ≡ At (record { 0 = n }) → 1 ≤ node_word (insert_node ws t name len).ws n 0) → Kept ws (insert_node ws t name len).ws
unfolding insert_node on_placed
insert_node_names ws t name len b there = rest_trans (place_node_names ws t name len b) (go (place_node ws t name len).is there)
  where
    w : List ℕ
    w = (place_node ws t name len).ws

    put : Placed → Left Placed
    put p = on_placed {A = Left Placed} p (λ n. record { is = At (record { 0 = n }); ws = mark_dirty_words w n }) (λ r. record { is = Refused r; ws = w })

    go : (p : Placed) → ((n : ℕ) → (put p).is ≡ At (record { 0 = n }) → 1 ≤ node_word (put p).ws n 0) → Kept w (put p).ws
    go (At n) h =
        let k = h n.0 refl in
        let same : node_word (mark_dirty_words w n.0) n.0 0 ≡ node_word w n.0 0 = (mark_dirty_nets w n.0).same (node_at n.0 0) (omega arith) in
        mark_dirty_names w n.0 (omega arith)
    go (Refused r) h = kept_all w
