-- A slot becomes vacant, and its entry in its net's list stale.
use Prim.Native.Nat.{ℕ, ◌+◌, ◌*◌, ◌%◌, ◌<◌, ◌≤◌}
use Rattle.std.specs.Prelude.{◌≡◌, ◌≢◌, length, get_or}
use Rattle.std.proofs.Math.Path.{refl}
use Rattle.std.proofs.Common.{sym, ap, ◌∙◌, subst, arith}
use Rattle.std.proofs.Math.Bool.{false}
use Rattle.std.proofs.Math.Option.{Option, none, some}
use mathlib.Core.List.{List, ◌∷◌, Memᴰ}
use Rattle.std.proofs.Math.ListN.{set}
use Rattle.std.proofs.Math.Seq.{get_or-set_same, get_or-set_other}
use Rattle.std.proofs.Math.Decide.{ℕ_discrete}
use Rattle.layout.specs.Layout.{next, node_at, node_word, set_node_word, net_at_words, net_word_words, set_net_word}
use Rattle.edits.specs.Edits
use Rattle.net_file.specs.Values.{Name}
use Rattle.definitions.specs.Lists.{or_else}
use Rattle.definitions.specs.Nets.{Port, Node, Graph, arity, across, follow}
use Rattle.definitions.specs.Scripts.{vacate}
use Rattle.definitions.specs.State.{Net, Engine, graph_of, with_slots, with_graph, with_mark, with_nets, with_list, with_stale, net_at, over_net}
use Rattle.definitions.specs.Books.{vacated}
use Rattle.join_laws.specs.Ports.{Frame, no_frame, frame, arity_frame, arity_same, Real}
use Rattle.script_laws.specs.Slots.{frame_vacate_same, frame_vacate_other, across_slots}
use Rattle.means.specs.Means.{number, Header, SlotIs, Nodes, NetIs, Means}
use Rattle.means.specs.Frame.{rest_set, OutNodes, OutNet, real_inside, with_chain, means_nodes}
use Rattle.means.proofs.Frame.{means_own}
use Rattle.graph_means.specs.Marks.{mark_means}
use Rattle.pools_means.specs.Slots.{give_slot_means}

module _ (Named : ℕ → Name → Type 0) (ws : List ℕ) (e : Engine) (m : Means Named ws e) where
  -- no node has the number n
  gone_means : (n : ℕ) → n < e.pools.nodes → Means Named (set_node_word ws n 0 0) (with_graph (vacate (graph_of e) n) e)
  unfolding follow vacate
  gone_means n h = means_nodes Named ws (set_node_word ws n 0 0) e m (vacate (graph_of e) n)
      (rest_set (OutNodes e.pools.nodes) ws (node_at n 0) 0 (λ i o d. o (omega arith)))
      (record {
        slot = λ j i. slots j i (ℕ_discrete j n);
        port = λ r i. ports r i (ℕ_discrete r.node n);
        few = λ j. sizes j (ℕ_discrete j n);
        inside = λ j i. frame_vacate_other (graph_of e) n j (omega arith) ∙ m.nodes.inside j i;
      })
    where
      w : List ℕ
      w = set ws (node_at n 0) 0

      size_is : arity (vacate (graph_of e) n) n ≡ 0
      size_is = arity_frame (vacate (graph_of e) n) n ∙ ap (λ (o : Option Frame). (or_else o no_frame).size) (frame_vacate_same (graph_of e) n)

      sizes : (j : ℕ) → Dec (j ≡ n) → arity (vacate (graph_of e) n) j ≤ 16
      sizes j (yes d) = rw (d, size_is) (omega arith)
      sizes j (no d) = rw (arity_same (graph_of e) (vacate (graph_of e) n) j (frame_vacate_other (graph_of e) n j d)) (m.nodes.few j)

      kept : (j : ℕ) → j ≢ n → (o : Option Frame) → SlotIs Named ws j o → SlotIs Named w j o
      kept j d none s = get_or-set_other ws (node_at n 0) (node_at j 0) 0 0 (omega arith) ∙ s
      kept j d (some f) s = (
        get_or-set_other ws (node_at n 0) (node_at j 0) 0 0 (omega arith) ∙ s.0,
        subst (λ (a : ℕ). Named a f.name) (sym (get_or-set_other ws (node_at n 0) (node_at j 1) 0 0 (omega arith))) s.1,
        get_or-set_other ws (node_at n 0) (node_at j 3) 0 0 (omega arith) ∙ s.2,
      )

      slots : (j : ℕ) → j < e.pools.nodes → Dec (j ≡ n) → SlotIs Named w j (frame (vacate (graph_of e) n) j)
      slots j i (yes d) = let long = m.header.long in rw (d, frame_vacate_same (graph_of e) n) (get_or-set_same ws (node_at n 0) 0 0 (omega arith))
      slots j i (no d) = rw (frame_vacate_other (graph_of e) n j d) (kept j d (frame (graph_of e) j) (m.nodes.slot j i))

      ports : (r : Port) → Real (vacate (graph_of e) n) r → Dec (r.node ≡ n) → get_or w (5184 + number r) 0 ≡ number (or_else (across (vacate (graph_of e) n) r) r)
      ports r i (yes d) = let b : r.index < 0 = rw (d, size_is) at i in absurd (omega arith)
      ports r i (no d) =
          let real : Real (graph_of e) r = rw (← arity_same (graph_of e) (vacate (graph_of e) n) r.node (frame_vacate_other (graph_of e) n r.node d)) i in
          let low = real_inside m.nodes r real in
          get_or-set_other ws (node_at n 0) (5184 + number r) 0 0 (omega arith) ∙ m.nodes.port r real
          ∙ ap (λ (o : Option Port). number (or_else o r)) (sym (across_slots (graph_of e) (vacate (graph_of e) n) r (get_or-set_other (graph_of e) n r.node none none d)))

  -- net k's list has one more stale entry
  pub stale_means : (k : ℕ) → k < length e.nets → (net_at e k).list.stale < 4294967295
      → Means Named (set_net_word ws (k + 1) 6 (next (net_word_words ws (k + 1) 6))) (over_net (λ t. with_list (with_stale (t.list.stale + 1) t.list) t) k e)
  unfolding with_list with_stale net_at
  stale_means k h b =
      let n = m.nets k h in
      let long = m.header.long in
      let few = m.header.few_nets in
      let v = next (net_word_words ws (k + 1) 6) in
      let s = n.stale_is in
      means_own Named ws (set_net_word ws (k + 1) 6 v) e m (λ (t : Net). with_list (with_stale (t.list.stale + 1) t.list) t) k h
      (rest_set (OutNet k) ws (net_at_words (k + 1) 6) v (λ i o d. o (omega arith)))
      (record {
        name = get_or-set_other ws (net_at_words (k + 1) 6) (net_at_words (k + 1) 0) v 0 (omega arith) ∙ n.name;
        free = get_or-set_other ws (net_at_words (k + 1) 6) (net_at_words (k + 1) 1) v 0 (omega arith) ∙ n.free;
        length_is = get_or-set_other ws (net_at_words (k + 1) 6) (net_at_words (k + 1) 4) v 0 (omega arith) ∙ n.length_is;
        capacity_is = get_or-set_other ws (net_at_words (k + 1) 6) (net_at_words (k + 1) 5) v 0 (omega arith) ∙ n.capacity_is;
        stale_is = get_or-set_same ws (net_at_words (k + 1) 6) v 0 (omega arith) ∙ (omega arith);
        pending_is = get_or-set_other ws (net_at_words (k + 1) 6) (net_at_words (k + 1) 7) v 0 (omega arith) ∙ n.pending_is;
      }) refl refl

module _ (Named : ℕ → Name → Type 0) (ws : List ℕ) (e : Engine) (m : Means Named ws e) (n : ℕ) (h : n < e.pools.nodes) (out : Memᴰ n e.slots.chain → ⊥) where
  -- slot n is vacant, clean, and the next to be taken
  pub vacate_means : Means Named (Edits.vacate ws n) (with_slots (record { graph = vacate (graph_of e) n; marks = set e.slots.marks n false; chain = n ∷ e.slots.chain }) e)
  unfolding Edits.vacate with_graph with_mark with_chain with_slots
  vacate_means =
      let w1 = set_node_word ws n 0 0 in
      let e1 = with_graph (vacate (graph_of e) n) e in
      let w2 = set_node_word w1 n 2 0 in
      let e2 = with_mark n false e1 in
      let m1 : Means Named w1 e1 = gone_means Named ws e m n h in
      let m2 : Means Named w2 e2 = mark_means Named w1 e1 m1 n 0 false h refl in
      give_slot_means Named w2 e2 m2 n h out

  -- and its entry in net k's list is stale
  pub vacated_means : (k : ℕ) → k < length e.nets → (net_at e k).list.stale < 4294967295
      → Means Named (set_net_word (Edits.vacate ws n) (k + 1) 6 (next (net_word_words (Edits.vacate ws n) (k + 1) 6))) (vacated k n e)
  unfolding vacated with_slots net_at
  vacated_means k i b = stale_means Named (Edits.vacate ws n) _ vacate_means k i b
