-- Ports and wires: a port's word written is the port rewired; `remove_wire` cuts, `link` links, `link_all` links port by port.
use Prim.Native.Nat.{ℕ, zero, suc, ◌+◌, ◌*◌, ◌/◌, ◌%◌, ◌<◌, ◌≤◌}
use Rattle.std.specs.Prelude.{◌≡◌, refl, ◌≢◌, Bool, false, length, get_or, set}
use Rattle.std.proofs.Common.{sym, ap, ◌∙◌, subst, get_or-set_same, get_or-set_other, arith}
use Rattle.std.proofs.Math.Bool.{true}
use Rattle.std.proofs.Math.Option.{Option, none, some}
use mathlib.Core.List.{List}
use Rattle.words.specs.Choose.{if_eq, eq_yes, eq_no}
use Rattle.layout.specs.Layout
use Rattle.layout.specs.Layout.{node_word, node_at, set_across, node_of}
use Rattle.graph.specs.Graph as Words
use Rattle.net_file.specs.Values.{Name}
use Rattle.definitions.specs.Lists.{or_else}
use Rattle.definitions.specs.Nets
use Rattle.definitions.specs.Nets.{Port, Node, Graph, across, follow}
use Rattle.definitions.specs.Scripts.{wire, cut, ends, join}
use Rattle.definitions.specs.State.{Engine, graph_of, with_slots, with_graph}
use Rattle.definitions.specs.Books.{mark_dirty, mark_ends, link}
use Rattle.engine_laws.specs.Frame.{still_graph, mark_still}
use Rattle.join_laws.specs.Ports.{same_port_lem, port_discrete, Frame, frame, frame_wire, arity_same, filled_same, Real, across_wire_same, across_wire_other, real_wire, across_real}
use Rattle.join_laws.specs.Link.{Wired, End, follow_end, filled, hole}
use Rattle.join_laws.specs.Join.{join_cases}
use Rattle.join_laws.proofs.Join.{frame_join}
use Rattle.script_laws.specs.Tidy.{real_filled}
use Rattle.means.specs.Means.{number, Header, SlotIs, Nodes, Means}
use Rattle.means.specs.Frame.{Rest, rest_set, OutNodes, real_inside, means_nodes}
use Rattle.graph_means.specs.Marks.{CanMark, mark_dirty_means}
use Rattle.graph_means.specs.Wires.{number_same, number_node, cut_means, CanLink, a', b', real_a', real_b', index, wired_words, open_graph, wired_means, closed, opened}

module _ (Named : ℕ → Name → Type 0) (ws : List ℕ) (e : Engine) (m : Means Named ws e) (a b : Port) (c : CanLink e a b) where
  -- both ends' nodes become dirty
  open_means : (a' Named ws e m a b c) ≢ b → ends (graph_of e) a b ≡ some ((a' Named ws e m a b c), (b' Named ws e m a b c)) → join (graph_of e) a b ≡ (open_graph Named ws e m a b c)
      → Means Named (Words.join (Words.remove_wire ws (number a) (number b)) (number (a' Named ws e m a b c)) (number (b' Named ws e m a b c))) (link a b e)
  unfolding Words.join link mark_ends a' b' wired_words with_graph with_slots
  open_means n en ej =
      let g : Graph = join (graph_of e) a b in
      let e1 = with_graph g e in
      let m1 : Means Named (wired_words Named ws e m a b c) e1 = rw ej (wired_means Named ws e m a b c) in
      let f : (p : Port) → Real (graph_of e) p → Nets.filled g p.node ≡ true
      = λ p r. filled_same (graph_of e) g p.node (frame_join (graph_of e) a b p.node) ∙ real_filled (graph_of e) p r in
      let m2 : Means Named (Words.mark_dirty_words (wired_words Named ws e m a b c) (a' Named ws e m a b c).node) (mark_dirty (a' Named ws e m a b c).node e1) = mark_dirty_means Named (wired_words Named ws e m a b c) e1 m1 (a' Named ws e m a b c).node (f (a' Named ws e m a b c) (real_a' Named ws e m a b c)) (c.first n) in
      let m3 : Means Named (Words.mark_dirty_words (Words.mark_dirty_words (wired_words Named ws e m a b c) (a' Named ws e m a b c).node) (b' Named ws e m a b c).node) (mark_dirty (b' Named ws e m a b c).node (mark_dirty (a' Named ws e m a b c).node e1))
      = mark_dirty_means Named (Words.mark_dirty_words (wired_words Named ws e m a b c) (a' Named ws e m a b c).node) (mark_dirty (a' Named ws e m a b c).node e1) m2 (b' Named ws e m a b c).node (rw (still_graph (mark_still (a' Named ws e m a b c).node e1)) (f (b' Named ws e m a b c) (real_b' Named ws e m a b c))) (c.second n) in
      rw (number_node (a' Named ws e m a b c) ((index Named ws e m a b c) (a' Named ws e m a b c) (real_a' Named ws e m a b c)), number_node (b' Named ws e m a b c) ((index Named ws e m a b c) (b' Named ws e m a b c) (real_b' Named ws e m a b c)), en) m3

  -- "Linking takes the port now across from an argument"
  pub link_means : Means Named (Words.link ws (number a) (number b)) (link a b e)
  unfolding Words.link Words.remove_wire a' b'
  link_means = go (port_discrete (a' Named ws e m a b c) b)
    where
      w : List ℕ
      w = set_across ws (number a) (number a)

      first_is : Layout.across ws (number a) ≡ number (a' Named ws e m a b c)
      first_is = m.nodes.port a c.real_a

      apart : number b ≢ number a
      apart d = c.differ (sym (number_same b a ((index Named ws e m a b c) b c.real_b) ((index Named ws e m a b c) a c.real_a) d))

      second_is : Layout.across w (number b) ≡ number (b' Named ws e m a b c)
      second_is = get_or-set_other ws (5184 + number a) (5184 + number b) (number a) 0 (let d = apart in omega arith) ∙ m.nodes.port b c.real_b

      go : Dec ((a' Named ws e m a b c) ≡ b) → Means Named (if_eq (Layout.across ws (number a)) (number b) (set_across w (number b) (number b))
          (Words.join (set_across w (number b) (number b)) (Layout.across ws (number a)) (Layout.across w (number b)))) (link a b e)
      go (yes d) =
          subst (λ (y : List ℕ). Means Named y (link a b e)) (eq_yes _ _ _ _ (first_is ∙ ap number d) refl) (rw ((closed Named ws e m a b c) d) (cut_means Named ws e m a b c.real_a c.real_b))
      go (no n) =
          subst (λ (y : List ℕ). Means Named y (link a b e))
          (eq_no _ _ _ _ (λ z. n (number_same (a' Named ws e m a b c) b ((index Named ws e m a b c) (a' Named ws e m a b c) (real_a' Named ws e m a b c)) ((index Named ws e m a b c) b c.real_b) (sym first_is ∙ z))) refl)
          (rw (first_is, second_is) (open_means n ((opened Named ws e m a b c) n).0 ((opened Named ws e m a b c) n).1))
