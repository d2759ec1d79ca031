-- A stage of a load: a stage of a script with no dead nodes, while the nets by name and the nets to come are as they were.
use Rattle.std.specs.Prelude.{ℕ, ◌+◌, ◌%◌, ◌<◌, ◌≤◌, ◌≡◌, ◌≢◌, Bool, true, false, ltb}
use Rattle.std.proofs.Math.Path.{refl}
use Rattle.std.proofs.Common.{ap, ◌∙◌, get_or-set_other, arith}
use Rattle.std.proofs.Math.Option.{Option}
use mathlib.Core.List.{List, [], ◌∷◌, ◌++◌}
use Rattle.std.proofs.Math.ListN.{length}
use Rattle.words.specs.Choose.{eq_split}
use Rattle.layout.specs.Layout
use Rattle.layout.specs.Layout.{node_word, set_across}
use Rattle.graph.specs.Graph as Words
use Rattle.net_file.specs.Lists.{ok, refuse, need, count}
use Rattle.net_file.specs.Values.{Name}
use Rattle.definitions.specs.Lists.{◌>>=◌, or_else, is_some, each, foldl}
use Rattle.definitions.specs.Nets.{Port, Node, Graph, port, follow}
use Rattle.definitions.specs.Scripts.{Edit, Insert, Copy, Join, Cut, fill, join, apply}
use Rattle.definitions.specs.State.{Engine, graph_of, entries, more}
use Rattle.definitions.specs.Books.{push_dirty, placed, add_node, link, edit}
use Rattle.good_laws.specs.Good.{Good, rest}
use Rattle.join_laws.specs.Ports.{Frame, no_frame, arity_frame, Real}
use Rattle.join_laws.specs.Link.{Wired}
use Rattle.script_laws.specs.Slots.{frame_fill_same}
use Rattle.script_laws.specs.Safe.{CanJoin, Used, Safe}
use Rattle.script_laws.specs.Tidy.{real_filled}
use Rattle.means.specs.Means.{number, Means}
use Rattle.means.specs.Frame.{Rest, rest_trans, real_inside}
use Rattle.graph_means.specs.Wires.{number_same, number_node, follow_real}
use Rattle.good_means.specs.Room.{net_inside_lem}
use Rattle.waits_means.specs.Slots.{slot_net}
use Rattle.script_means.specs.Stage.{Stage, stage_join}
use Rattle.wire_ends_means.specs.Table.{links}
use Rattle.load_nodes_means.specs.Kept.{Beside, InNet, across_kept, across_net, join_kept}

module _ (Named : ℕ → Name → Type 0) (ws : List ℕ) (e : Engine) (m : Means Named ws e) (x : ℕ → ℕ) (g : Good x e) where
  -- a node's net is one of the nets
  pub in_net_lem : (p : Port) → Real (graph_of e) p → InNet (length e.nets) ws p.node
  in_net_lem p r =
      let f = real_filled (graph_of e) p r in
      let n = slot_net Named ws e.pools.nodes (graph_of e) m.nodes p.node f in
      let i = net_inside_lem Named ws e m x g p.node f in
      (omega arith, omega arith)

  -- a link leaves the nets by name and the nets to come alone
  pub link_kept : Wired (graph_of e) → (a b : Port) → Real (graph_of e) a → Real (graph_of e) b → a ≢ b → Rest (Beside (length e.nets)) ws (Words.link ws (number a) (number b))
  unfolding Words.link
  link_kept w a b ra rb differ =
      let v = set_across ws (number a) (number a) in
      let u = set_across v (number b) (number b) in
      let two : Rest (Beside (length e.nets)) ws u = rest_trans (across_kept (length e.nets) few ws (number a) (number a)) (across_kept (length e.nets) few v (number b) (number b)) in
      eq_split (Layout.across ws (number a)) (number b) u (Words.join u (Layout.across ws (number a)) (Layout.across v (number b))) (λ (y : List ℕ). Rest (Beside (length e.nets)) ws y)
      (λ h. two) (λ h. rest_trans two (rw (m.nodes.port a ra, second) (joined v u refl refl)))
    where
      few : length e.nets ≤ 256
      few = m.header.few_nets

      low : (p : Port) → Real (graph_of e) p → p.index < 16
      low p r = (real_inside m.nodes p r).1

      a' : Port
      a' = follow (graph_of e) a

      b' : Port
      b' = follow (graph_of e) b

      real_a' : Real (graph_of e) a'
      real_a' = follow_real (graph_of e) w a ra

      real_b' : Real (graph_of e) b'
      real_b' = follow_real (graph_of e) w b rb

      second : Layout.across (set_across ws (number a) (number a)) (number b) ≡ number b'
      second = get_or-set_other ws (5184 + number a) (5184 + number b) (number a) 0
          (λ d. differ (number_same a b (low a ra) (low b rb) (omega arith))) ∙ m.nodes.port b rb

      past : (p : Port) → Real (graph_of e) p → 8 ≤ number p % 32
      past p r = let l = low p r in omega arith

      joined : (v u : List ℕ) → v ≡ set_across ws (number a) (number a) → u ≡ set_across v (number b) (number b) → Rest (Beside (length e.nets)) u (Words.join u (number a') (number b'))
      joined v u ev eu =
          let same : (j : ℕ) → node_word u j 0 ≡ node_word ws j 0 =
          λ j. rw eu (across_net (length e.nets) few v (number b) (number b) j (past b rb) ∙ rw ev (across_net (length e.nets) few ws (number a) (number a) j (past a ra))) in
          let na = number_node a' (low a' real_a') in
          let nb = number_node b' (low b' real_b') in
          join_kept (length e.nets) few u (number a') (number b') (past a' real_a') (past b' real_b')
          (rw (na, same a'.node) (in_net_lem a' real_a')) (rw (nb, same b'.node) (in_net_lem b' real_b'))

-- k new nodes are there since the words ws₀
pub record Laid (Named : ℕ → Name → Type 0) (M : ℕ) (chain ws₀ : List ℕ) (k : ℕ) (g : Graph) (ws : List ℕ) (e : Engine) : Type 0 where
  pub stage : Stage Named rest M chain [] k g ws e
  pub beside : Rest (Beside M) ws₀ ws

pub small : (k : ℕ) → rest k ≤ 4294900000
small k = omega arith

-- the ports used after edits
abbrev pub useds : (Port → Type 0) → List Edit → Port → Type 0
useds U [] = U
useds U (d ∷ ds) = useds (Used U d) ds

module _ (Named : ℕ → Name → Type 0) (M : ℕ) (chain : List ℕ) (default : ℕ → ℕ) (ws₀ : List ℕ) where
  -- two ports are linked
  pub laid_join : (k : ℕ) (g : Graph) (ws : List ℕ) (e : Engine) → Laid Named M chain ws₀ k g ws e → (U : Port → Type 0) (a b : Port) → CanJoin g U a b
      → Laid Named M chain ws₀ k (join g a b) (Words.link ws (number a) (number b)) (link a b e)
  laid_join k g ws e s U a b f =
      let n = s.stage.edited.nodes in
      let c = s.stage.edited.nets in record {
        stage = stage_join Named rest small M chain default [] k g ws e s.stage U a b f;
        beside = rest_trans s.beside (rw (← c) (link_kept Named ws e s.stage.means rest s.stage.edited.good (rw n s.stage.wired) a b (rw n f.real_a) (rw n f.real_b) f.differ));
      }

  -- where a load is after joins: the engine goes on with the edits ds, which fit
  pub record Linked (F U Z : Port → Type 0) (k : ℕ) (g : Graph) (ws : List ℕ) (e : Engine) (js ds : List Edit) : Type 0 where
    pub to : Engine
    pub goes : each edit (js ++ ds) e ≡ each edit ds to
    pub laid : Laid Named M chain ws₀ k (foldl apply g js) (links ws js) to
    pub safe : Safe F (foldl apply g js) (useds U js) ds Z

  -- joins, and no other edits
  abbrev pub Joins : List Edit → Type 0
  Joins [] = Unit {0}
  Joins (Insert n x ∷ ds) = ⊥
  Joins (Copy n x ∷ ds) = ⊥
  Joins (Join a b ∷ ds) = Joins ds
  Joins (Cut a b ∷ ds) = ⊥

  pub laid_links : (F U Z : Port → Type 0) (js ds : List Edit) → Joins js → (k : ℕ) (g : Graph) (ws : List ℕ) (e : Engine) → Laid Named M chain ws₀ k g ws e
      → Safe F g U (js ++ ds) Z → Linked F U Z k g ws e js ds
  unfolding links edit apply
  laid_links F U Z [] ds j k g ws e s f = record { to = e; goes = refl; laid = s; safe = f }
  laid_links F U Z (Insert n x ∷ js) ds j k g ws e s f = absurd j
  laid_links F U Z (Copy n x ∷ js) ds j k g ws e s f = absurd j
  laid_links F U Z (Cut a b ∷ js) ds j k g ws e s f = absurd j
  laid_links F U Z (Join a b ∷ js) ds j k g ws e s f =
      let r = laid_links F (Used U (Join a b)) Z js ds j k (join g a b) (Words.link ws (number a) (number b)) (link a b e) (laid_join k g ws e s U a b f.0) f.1 in
      record { to = r.to; goes = r.goes; laid = r.laid; safe = r.safe }

-- a refusal of a new node is no 0
pub insert_refused : (n : ℕ) (y : Node) (e : Engine) (r : ℕ) → edit (Insert n y) e ≡ refuse r → 0 < r
unfolding edit add_node
insert_refused n y e r = go (ltb (count is_some (graph_of e)) e.pools.nodes) (ltb (entries e) e.pools.entries)
  where
    go : (t u : Bool) → (need t 9 (need u 10 (ok (placed true n y e))) >>= λ e'. ok (more y.net (push_dirty n e'))) ≡ refuse r → 0 < r
    go true true q = absurd (let z : ◌≡◌ {A = ℕ} 0 1 = cc in omega arith)
    go true false q = let z : 10 ≡ r = cc in omega arith
    go false u q = let z : 9 ≡ r = cc in omega arith

-- a new node's first port is there
pub filled_real : (g : Graph) (n : ℕ) (y : Node) → 0 < length y.ports → Real (fill g n y) (port n 0)
filled_real g n y h = rw (arity_frame (fill g n y) n ∙ ap (λ (o : Option Frame). (or_else o no_frame).size) (frame_fill_same g n y)) h
