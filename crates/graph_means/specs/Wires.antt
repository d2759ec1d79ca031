-- Ports and wires: a port's word written is the port rewired; `remove_wire` cuts, `link` links, `link_all` links port by port.
use Prim.Native.Nat.{ℕ, zero, suc, ◌+◌, ◌*◌, ◌/◌, ◌%◌, ◌<◌, ◌≤◌}
use Rattle.std.specs.Prelude.{◌≡◌, refl, ◌≢◌, Bool, false, length, get_or, set}
use Rattle.std.proofs.Common.{sym, ap, ◌∙◌, subst, get_or-set_same, get_or-set_other, arith}
use Rattle.std.proofs.Math.Bool.{true}
use Rattle.std.proofs.Math.Option.{Option, none, some}
use mathlib.Core.List.{List}
use Rattle.words.specs.Choose.{if_eq, eq_yes, eq_no}
use Rattle.layout.specs.Layout
use Rattle.layout.specs.Layout.{node_word, node_at, set_across, node_of}
use Rattle.graph.specs.Graph as Words
use Rattle.net_file.specs.Values.{Name}
use Rattle.definitions.specs.Lists.{or_else}
use Rattle.definitions.specs.Nets
use Rattle.definitions.specs.Nets.{Port, Node, Graph, across, follow}
use Rattle.definitions.specs.Scripts.{wire, cut, ends, join}
use Rattle.definitions.specs.State.{Engine, graph_of, with_slots, with_graph}
use Rattle.definitions.specs.Books.{mark_dirty, mark_ends, link}
use Rattle.engine_laws.specs.Frame.{still_graph, mark_still}
use Rattle.join_laws.specs.Ports.{same_port_lem, port_discrete, Frame, frame, frame_wire, arity_same, filled_same, Real, across_wire_same, across_wire_other, real_wire, across_real}
use Rattle.join_laws.specs.Link.{Wired, End, follow_end, filled, hole}
use Rattle.join_laws.specs.Join.{join_cases}
use Rattle.join_laws.proofs.Join.{frame_join}
use Rattle.script_laws.specs.Tidy.{real_filled}
use Rattle.means.specs.Means.{number, Header, SlotIs, Nodes, Means}
use Rattle.means.specs.Frame.{Rest, rest_set, OutNodes, real_inside, means_nodes}
use Rattle.graph_means.specs.Marks.{CanMark, mark_dirty_means}

-- ports with one number are one port
pub number_same : (p q : Port) → p.index < 16 → q.index < 16 → number p ≡ number q → p ≡ q
number_same p q h k e = same_port_lem p q (omega arith) (omega arith)

-- the node of a port's number
pub number_node : (p : Port) → p.index < 16 → node_of (number p) ≡ p.node
number_node p h = omega arith

module _ (Named : ℕ → Name → Type 0) (ws : List ℕ) (e : Engine) (m : Means Named ws e) where
  -- p has q across from it, or is a hole
  pub wire_means : (p : Port) (q : Option Port) → Real (graph_of e) p → Means Named (set_across ws (number p) (number (or_else q p))) (with_graph (wire (graph_of e) p q) e)
  unfolding follow
  wire_means p q r =
      let i = real_inside m.nodes p r in
      let h = m.header.long in
      means_nodes Named ws (set_across ws (number p) v) e m g (rest_set (OutNodes e.pools.nodes) ws (5184 + number p) v (λ j o d. o (omega arith)))
      (record {
        slot = λ n k. rw (frame_wire (graph_of e) p q n) (kept n (frame (graph_of e) n) (m.nodes.slot n k));
        port = λ s k. ports s (rw (← arity_same (graph_of e) g s.node (frame_wire (graph_of e) p q s.node)) k) (port_discrete s p);
        few = λ n. rw (arity_same (graph_of e) g n (frame_wire (graph_of e) p q n)) (m.nodes.few n);
        inside = λ n k. frame_wire (graph_of e) p q n ∙ m.nodes.inside n k;
      })
    where
      v : ℕ
      v = number (or_else q p)

      g : Graph
      g = wire (graph_of e) p q

      low : p.index < 16
      low = (real_inside m.nodes p r).1

      kept : (n : ℕ) (o : Option Frame) → SlotIs Named ws n o → SlotIs Named (set ws (5184 + number p) v) n o
      kept n none s = let i = low in get_or-set_other ws (5184 + number p) (node_at n 0) v 0 (omega arith) ∙ s
      kept n (some f) s =
          let i = low in (
            get_or-set_other ws (5184 + number p) (node_at n 0) v 0 (omega arith) ∙ s.0,
            subst (λ (a : ℕ). Named a f.name) (sym (get_or-set_other ws (5184 + number p) (node_at n 1) v 0 (omega arith))) s.1,
            get_or-set_other ws (5184 + number p) (node_at n 3) v 0 (omega arith) ∙ s.2,
          )

      ports : (s : Port) → Real (graph_of e) s → Dec (s ≡ p) → get_or (set ws (5184 + number p) v) (5184 + number s) 0 ≡ number (or_else (across g s) s)
      ports s k (yes d) =
          let i = real_inside m.nodes p r in
          let h = m.header.long in
          rw (d, across_wire_same (graph_of e) p q r) (get_or-set_same ws (5184 + number p) v 0 (omega arith))
      ports s k (no d) =
          let i = real_inside m.nodes p r in
          let j = real_inside m.nodes s k in
          let n : number s ≢ number p = λ z. d (number_same s p j.1 i.1 z) in
          rw (across_wire_other (graph_of e) p q s d) (get_or-set_other ws (5184 + number p) (5184 + number s) v 0 (omega arith) ∙ m.nodes.port s k)

module _ (Named : ℕ → Name → Type 0) (ws : List ℕ) (e : Engine) (m : Means Named ws e) where
  -- two ports become holes
  pub cut_means : (a b : Port) → Real (graph_of e) a → Real (graph_of e) b → Means Named (Words.remove_wire ws (number a) (number b)) (with_graph (cut (graph_of e) a b) e)
  unfolding Words.remove_wire cut with_graph with_slots
  cut_means a b ra rb =
      wire_means Named (set_across ws (number a) (number a)) (with_graph (wire (graph_of e) a none) e) (wire_means Named ws e m a none ra) b none
      (real_wire (graph_of e) a none b rb)

-- the end that a port stands for exists
pub follow_real : (g : Graph) → Wired g → (a : Port) → Real g a → Real g (follow g a)
follow_real g w a r = go (follow_end g a)
  where
    go : End g a (follow g a) → Real g (follow g a)
    go (filled x) = across_real g (follow g a) a (w.back a (follow g a) x)
    go (hole x s) = subst (Real g) (sym s) r

-- two ports can be linked: they exist and differ, and where they are no circle both final nodes can be marked, one after the other
pub record CanLink (e : Engine) (a b : Port) : Type 0 where
  pub wired : Wired (graph_of e)
  pub real_a : Real (graph_of e) a
  pub real_b : Real (graph_of e) b
  pub differ : a ≢ b
  pub first : follow (graph_of e) a ≢ b → CanMark (with_graph (join (graph_of e) a b) e) (follow (graph_of e) a).node
  pub second : follow (graph_of e) a ≢ b → CanMark (mark_dirty (follow (graph_of e) a).node (with_graph (join (graph_of e) a b) e)) (follow (graph_of e) b).node

module _ (Named : ℕ → Name → Type 0) (ws : List ℕ) (e : Engine) (m : Means Named ws e) (a b : Port) (c : CanLink e a b) where
  -- the two ends
  unfoldable pub a' : Port
  a' = follow (graph_of e) a

  unfoldable pub b' : Port
  b' = follow (graph_of e) b

  pub real_a' : Real (graph_of e) a'
  unfolding a'
  real_a' = follow_real (graph_of e) c.wired a c.real_a

  pub real_b' : Real (graph_of e) b'
  unfolding b'
  real_b' = follow_real (graph_of e) c.wired b c.real_b

  pub index : (p : Port) → Real (graph_of e) p → p.index < 16
  index p r = (real_inside m.nodes p r).1

  -- the words of the open link
  unfoldable pub wired_words : List ℕ
  wired_words = set_across (set_across (Words.remove_wire ws (number a) (number b)) (number a') (number b')) (number b') (number a')

  -- the two arguments are holes, the two ends across from each other
  pub open_graph : Graph
  open_graph = wire (wire (cut (graph_of e) a b) a' (some b')) b' (some a')

  pub wired_means : Means Named wired_words (with_graph open_graph e)
  unfolding wired_words open_graph cut with_graph with_slots
  wired_means =
      let g1 = cut (graph_of e) a b in
      let g2 = wire g1 a' (some b') in
      let w1 = Words.remove_wire ws (number a) (number b) in
      let w2 = set_across w1 (number a') (number b') in
      let r1 : (p : Port) → Real (graph_of e) p → Real g1 p = λ p r. real_wire (wire (graph_of e) a none) b none p (real_wire (graph_of e) a none p r) in
      let m1 : Means Named w1 (with_graph g1 e) = cut_means Named ws e m a b c.real_a c.real_b in
      let m2 : Means Named w2 (with_graph g2 e) = wire_means Named w1 (with_graph g1 e) m1 a' (some b') (r1 a' real_a') in
      wire_means Named w2 (with_graph g2 e) m2 b' (some a') (real_wire g1 a' (some b') b' (r1 b' real_b'))

  -- a circle vanishes
  pub closed : a' ≡ b → link a b e ≡ with_graph (cut (graph_of e) a b) e
  unfolding link mark_ends a'
  closed d = join_cases (λ (h : Graph). mark_ends (ends (graph_of e) a b) (with_graph h e) ≡ with_graph (cut (graph_of e) a b) e) (graph_of e) a b
      (λ en s. rw en refl) (λ en n. absurd (n d))

  pub opened : a' ≢ b → (ends (graph_of e) a b ≡ some (a', b')) × (join (graph_of e) a b ≡ open_graph)
  unfolding a' b' open_graph
  opened n = join_cases (λ (h : Graph). (ends (graph_of e) a b ≡ some (a', b')) × (h ≡ open_graph)) (graph_of e) a b (λ en s. absurd (n s)) (λ en s. (en, refl))
