-- A slot is filled with a new node, all of whose ports are holes.
use Rattle.std.specs.Prelude.{ℕ, zero, suc, ◌+◌, ◌*◌, ◌%◌, ◌<◌, ◌≤◌, ◌≡◌, ◌≢◌, List, set}
use Rattle.std.proofs.Math.Path.{refl, ap, subst}
use Rattle.std.proofs.Common.{sym, ◌∙◌}
use Rattle.std.proofs.Math.Option.{Option, none, some}
use Rattle.std.proofs.Math.ListN.{length, get_or, length-set}
use Rattle.std.proofs.lemmas.List.{length-replicate}
use Rattle.std.proofs.Math.Seq.{get_or-set_same, get_or-set_other}
use native.Mathlib.Omega.{arith}
use Rattle.std.proofs.Math.Decide.{ℕ_discrete}
use Rattle.layout.specs.Layout.{node_at, node_word, set_node_word, principal}
use Rattle.graph.specs.Graph.{holes}
use Rattle.edits.specs.Edits
use Rattle.net_file.specs.Values.{Name}
use Rattle.definitions.specs.Lists.{or_else}
use Rattle.definitions.specs.Nets.{Port, Node, Graph, port, arity, across, follow}
use Rattle.definitions.specs.Scripts.{fill}
use Rattle.definitions.specs.Rules.{new}
use Rattle.definitions.specs.State.{Engine, graph_of, with_graph}
use Rattle.join_laws.specs.Ports.{Frame, no_frame, frame, frame_of, arity_frame, arity_same, same_port_lem, Real}
use Rattle.script_laws.specs.Slots.{Holes, frame_fill_same, frame_fill_other, across_fill_same, across_fill_other}
use Rattle.means.specs.Means.{number, Header, SlotIs, Nodes, Means}
use Rattle.means.specs.Frame.{Rest, OutNodes, real_inside, means_nodes}
use Rattle.graph_means.specs.Holes.{holes_long, holes_other, holes_same}

module _ (Named : ℕ → Name → Type 0) (ws : List ℕ) (e : Engine) (m : Means Named ws e) (n k name len : ℕ) (x : Node) (h : n < e.pools.nodes)
    (net : x.net ≡ k) (named : Named name x.name) (size : length x.ports ≡ len) (most : len ≤ 16) (empty : Holes x) where
  -- net, name and number of ports are written
  v1 : List ℕ
  v1 = set_node_word ws n 0 (k + 1)

  v2 : List ℕ
  v2 = set_node_word v1 n 1 name

  v : List ℕ
  v = set_node_word v2 n 3 len

  v_other : (i : ℕ) → i ≢ node_at n 0 → i ≢ node_at n 1 → i ≢ node_at n 3 → get_or v i 0 ≡ get_or ws i 0
  unfolding v v2 v1
  v_other i a b c = get_or-set_other v2 (node_at n 3) i len 0 c ∙ get_or-set_other v1 (node_at n 1) i name 0 b ∙ get_or-set_other ws (node_at n 0) i (k + 1) 0 a

  v_long : (length v ≡ length ws) × (length v2 ≡ length ws) × (length v1 ≡ length ws)
  unfolding v v2 v1
  v_long =
      let a : length v1 ≡ length ws = length-set ws (node_at n 0) (k + 1) in
      let b : length v2 ≡ length v1 = length-set v1 (node_at n 1) name in
      let c : length v ≡ length v2 = length-set v2 (node_at n 3) len in
      omega arith

  -- then the ports
  w : List ℕ
  w = Edits.fill ws n (k + 1) name len

  principal_is : principal n ≡ 32 * n + 8
  principal_is = let b = m.header.few_nodes in omega arith

  w_is : w ≡ holes v (32 * n + 8) len
  unfolding w v v2 v1 Edits.fill
  w_is = rw principal_is refl

  w_kept : (i : ℕ) → ((j : ℕ) → j < len → i ≢ 5184 + (32 * n + 8 + j)) → get_or w i 0 ≡ get_or v i 0
  w_kept i a = rw w_is (let b = m.header.few_nodes in holes_other len (32 * n + 8) v i (omega arith) a)

  w_rest : Rest (OutNodes e.pools.nodes) ws w
  w_rest = record {
    long = ap (λ (l : List ℕ). length l) w_is ∙ holes_long len (32 * n + 8) v ∙ v_long.0;
    same = λ i o. w_kept i (λ j b d. o (omega arith)) ∙ v_other i (λ d. o (omega arith)) (λ d. o (omega arith)) (λ d. o (omega arith));
  }

  w_words : (node_word w n 0 ≡ k + 1) × (node_word w n 1 ≡ name) × (node_word w n 3 ≡ len)
  unfolding v v2 v1
  w_words =
      let long = m.header.long in
      let l = v_long in (
        w_kept (node_at n 0) (omega arith) ∙ get_or-set_other v2 (node_at n 3) (node_at n 0) len 0 (omega arith)
            ∙ get_or-set_other v1 (node_at n 1) (node_at n 0) name 0 (omega arith) ∙ get_or-set_same ws (node_at n 0) (k + 1) 0 (omega arith),
        w_kept (node_at n 1) (omega arith) ∙ get_or-set_other v2 (node_at n 3) (node_at n 1) len 0 (omega arith) ∙ get_or-set_same v1 (node_at n 1) name 0 (omega arith),
        w_kept (node_at n 3) (omega arith) ∙ get_or-set_same v2 (node_at n 3) len 0 (omega arith),
      )

  slots : (j : ℕ) → j < e.pools.nodes → Dec (j ≡ n) → SlotIs Named w j (frame (fill (graph_of e) n x) j)
  slots j i (yes d) = rw (d, frame_fill_same (graph_of e) n x)
      (w_words.0 ∙ ap (λ (a : ℕ). a + 1) (sym net), rw w_words.1 named, w_words.2 ∙ sym size)
  slots j i (no d) = rw (frame_fill_other (graph_of e) n j x d) (go (frame (graph_of e) j) (m.nodes.slot j i))
    where
      kept : (f : ℕ) → f < 4 → get_or w (node_at j f) 0 ≡ get_or ws (node_at j f) 0
      kept f b = w_kept (node_at j f) (omega arith) ∙ v_other (node_at j f) (omega arith) (omega arith) (omega arith)

      go : (o : Option Frame) → SlotIs Named ws j o → SlotIs Named w j o
      go none s = kept 0 (omega arith) ∙ s
      go (some f) s = (kept 0 (omega arith) ∙ s.0, subst (λ (a : ℕ). Named a f.name) (sym (kept 1 (omega arith))) s.1, kept 3 (omega arith) ∙ s.2)

  size_is : arity (fill (graph_of e) n x) n ≡ len
  size_is = arity_frame (fill (graph_of e) n x) n ∙ ap (λ (o : Option Frame). (or_else o no_frame).size) (frame_fill_same (graph_of e) n x) ∙ size

  sizes : (j : ℕ) → Dec (j ≡ n) → arity (fill (graph_of e) n x) j ≤ 16
  sizes j (yes d) = rw (d, size_is) most
  sizes j (no d) = rw (arity_same (graph_of e) (fill (graph_of e) n x) j (frame_fill_other (graph_of e) n j x d)) (m.nodes.few j)

  -- a new port is a hole
  new_port : (i : ℕ) → i < len → get_or w (5184 + (32 * n + (8 + i))) 0 ≡ 32 * n + (8 + i)
  new_port i b =
      let few = m.header.few_nodes in
      let long = m.header.long in
      let l = v_long in
      let a : 32 * n + 8 + i ≡ 32 * n + (8 + i) = omega arith in
      rw (w_is, ← a) (holes_same len (32 * n + 8) v i (omega arith) (omega arith) b)

  ports : (r : Port) → Real (fill (graph_of e) n x) r → Dec (r.node ≡ n) → get_or w (5184 + number r) 0 ≡ number (follow (fill (graph_of e) n x) r)
  unfolding follow
  ports r i (yes d) =
      let is : r ≡ port n r.index = same_port_lem r (port n r.index) d refl in
      let b : r.index < len = rw (d, size_is) at i in
      let z : across (fill (graph_of e) n x) (port n r.index) ≡ none = across_fill_same (graph_of e) n x r.index ∙ empty r.index in
      subst (λ (q : Port). get_or w (5184 + number q) 0 ≡ number (or_else (across (fill (graph_of e) n x) q) q)) (sym is)
      (new_port r.index b ∙ ap (λ (o : Option Port). number (or_else o (port n r.index))) (sym z))
  ports r i (no d) =
      let real : Real (graph_of e) r = rw (← arity_same (graph_of e) (fill (graph_of e) n x) r.node (frame_fill_other (graph_of e) n r.node x d)) i in
      let low = real_inside m.nodes r real in
      w_kept (5184 + number r) (omega arith) ∙ v_other (5184 + number r) (omega arith) (omega arith) (omega arith) ∙ m.nodes.port r real
      ∙ ap (λ (o : Option Port). number (or_else o r)) (sym (across_fill_other (graph_of e) n x r d))

  -- slot n holds the node
  pub fill_means : Means Named (Edits.fill ws n (k + 1) name len) (with_graph (fill (graph_of e) n x) e)
  unfolding w
  fill_means = means_nodes Named ws w e m (fill (graph_of e) n x) w_rest (record {
    slot = λ j i. slots j i (ℕ_discrete j n);
    port = λ r i. ports r i (ℕ_discrete r.node n);
    few = λ j. sizes j (ℕ_discrete j n);
    inside = λ j i. frame_fill_other (graph_of e) n j x (omega arith) ∙ m.nodes.inside j i;
  })
