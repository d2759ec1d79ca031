-- `wire_copies`: once all copies are made, their ports are wired as the originals' are, in the copies. Then the words mean level Engine's engine,
-- whose copies were wired at once.
use Rattle.std.specs.Prelude.{ℕ, ◌+◌, ◌*◌, ◌<◌, ◌≤◌, ◌≡◌, ◌≢◌, ◌⊎◌, true, eqb}
use Rattle.std.proofs.Math.Path.{refl, sym, ap, subst}
use Rattle.std.proofs.Common.{◌∙◌, inl, inr}
use Rattle.std.proofs.lemmas.Bool.{false≢true}
use Rattle.std.proofs.Math.Option.{Option, none, some}
use mathlib.Core.List.{List, [], map}
use Rattle.std.proofs.Math.ListN.{length, get_or}
use native.Mathlib.Omega.{arith}
use Rattle.std.proofs.Math.Decide.{dec_lt}
use Rattle.layout.specs.Layout.{node_at, node_word, node_of}
use Rattle.layout.specs.Layout as Words
use Rattle.graft.specs.Graft.{copied_port, wire_copies}
use Rattle.net_file.specs.Values.{Name}
use Rattle.definitions.specs.Lists.{is_some, or_else, place}
use Rattle.definitions.specs.Nets.{Port, Node, Graph, port, at, filled, arity, across, follow}
use Rattle.definitions.specs.Step.{NodesOf}
use Rattle.definitions.specs.State.{Engine, with_slots, with_graph}
use Rattle.join_laws.specs.Ports.{Frame, frame, filled_frame, arity_same, same_port_lem, Real}
use Rattle.script_laws.specs.Slots.{across_slots, frame_slots}
use Rattle.script_laws.specs.Tidy.{WellWired, real_filled}
use Rattle.rule_laws.specs.Ids.{one_of_row}
use Rattle.rule_laws.specs.Places.{not_fresh, follow_across, across_follow, follow_real}
use Rattle.rule_laws.specs.Copies as Rule
use Rattle.means.specs.Means.{SlotIs, Nodes, Means}
use Rattle.means.specs.Means as Means
use Rattle.means.specs.Frame.{Rest, OutNodes, real_inside, means_nodes}
use Rattle.script_means.specs.Dead.{Dead, dead_keep}
use Rattle.script_means.specs.Tries.{arity_read}
use Rattle.graft_copies.specs.Clones.{Clones}
use Rattle.graft_copies.specs.Copies.{Task, Copied}
use Rattle.graft_copies.specs.Ports.{Apart, word_apart, before, Wirable, Set, wire_copies_set}

module _ (Named : ℕ → Name → Type 0) (x : ℕ → ℕ) (M : ℕ) (chain : List ℕ) (default : ℕ → ℕ) (g : Graph) (m into : ℕ) (ids : List ℕ)
    (task : Task M g (λ k. get_or chain k (default k)) m into ids) (N : ℕ) (P l : List ℕ) (well : WellWired g) (all : NodesOf g m ids) (w : List ℕ) (blank : Graph) (e : Engine)
    (s : Copied Named x M chain default g m into ids task N P l (length ids) (Rule.g₁ (λ k. get_or chain k (default k)) g well task.new m ids all into) w blank e) where
  abbrev number : ℕ → ℕ
  number k = get_or chain k (default k)

  -- the graph with its copies
  abbrev h : Graph
  h = Rule.g₁ number g well task.new m ids all into

  -- ---- the originals

  old_slot : (n : ℕ) → filled g n ≡ true → get_or blank n none ≡ get_or g n none
  old_slot n f = s.old n (λ i _. not_fresh g number task.new n i f)

  old_arity : (n : ℕ) → filled g n ≡ true → arity blank n ≡ arity g n
  old_arity n f = arity_same g blank n (frame_slots g blank n (old_slot n f))

  nodes : Nodes Named w N blank
  unfolding with_graph with_slots
  nodes = rw (← s.pool) s.means.nodes

  old_inside : (p : Port) → Real g p → (p.node < N) × (p.index < 16)
  old_inside p r = real_inside nodes p (rw (old_arity p.node (real_filled g p r)) r)

  -- a port's word is that of the port across in g
  old_port : (p : Port) → Real g p → Words.across w (Means.number p) ≡ Means.number (follow g p)
  unfolding follow
  old_port p r =
      let f = real_filled g p r in
      nodes.port p (rw (old_arity p.node f) r) ∙ ap (λ (o : Option Port). Means.number (or_else o p)) (across_slots g blank p (old_slot p.node f))

  -- ---- the copies

  slot_low : (n : ℕ) → filled blank n ≡ true → n < N
  slot_low n f = go (dec_lt n N)
    where
      go : Dec (n < N) → n < N
      go (yes i) = i
      go (no i) = absurd (false≢true (sym (ap is_some (nodes.inside n (omega arith))) ∙ sym (filled_frame blank n) ∙ f))

  low : (k : ℕ) → k < length ids → number k < N
  low k i = slot_low (number k) (filled_frame blank (number k) ∙ ap is_some (s.frames (number k) ∙ Rule.copy_frame number g well task.new m ids all into k i))

  few_slots : N ≤ 4096
  unfolding with_graph with_slots
  few_slots = rw (← s.pool) s.means.header.few_nodes

  long : 5216 + 32 * N ≤ length w
  unfolding with_graph with_slots
  long = let a = s.means.header.long in let b = s.pool in omega arith

  -- ports of other nodes
  port_apart : (p : Port) → p.index < 16 → ((k : ℕ) → k < length ids → p.node ≢ number k) → Apart number (length ids) (5184 + Means.number p)
  port_apart p i n k a b c d = n k b (omega arith)

  -- what a port of a copy gets
  module _ (k : ℕ) (inside : k < length ids) (a : ℕ) (real : a < arity g (get_or ids k 0)) (v : List ℕ) (t : Rest (Apart number (length ids)) w v) where
    q : Port
    q = follow g (port (get_or ids k 0) a)

    wire : across g (port (get_or ids k 0) a) ≡ some q
    unfolding q
    wire = follow_across g well (port (get_or ids k 0) a) real

    j : ℕ
    j = place (eqb q.node) ids

    copy_wire : across h (port (number k) a) ≡ some (port (number j) q.index)
    unfolding j
    copy_wire = Rule.wire_copied number g well task.new m ids all into k a q inside wire

    met : Rule.Copied number g well task.new m ids all into k a (port (number j) q.index)
    met = Rule.copied_wire number g well task.new m ids all into k a (port (number j) q.index) inside copy_wire

    same : met.q₀ ≡ q
    same = sym (across_follow g well (port (get_or ids k 0) a) met.q₀ met.wire) ∙ across_follow g well (port (get_or ids k 0) a) q wire

    j_low : j < length ids
    unfolding j
    j_low = subst (λ (p : Port). place (eqb p.node) ids < length ids) same met.place₀

    j_is : get_or ids j 0 ≡ q.node
    unfolding j
    j_is = subst (λ (p : Port). get_or ids (place (eqb p.node) ids) 0 ≡ p.node) same met.there

    q_real : Real g q
    unfolding q
    q_real = follow_real g well (port (get_or ids k 0) a) real

    value : copied_port v (Words.across v (Means.number (port (get_or ids k 0) a))) ≡ Means.number (follow h (port (number k) a))
    unfolding copied_port q
    value =
        let r = old_inside (port (get_or ids k 0) a) real in
        let i = old_inside q q_real in
        let lj = low j j_low in
        let few = few_slots in
        let is : Words.across v (Means.number (port (get_or ids k 0) a)) ≡ Means.number q
        = t.same (5184 + Means.number (port (get_or ids k 0) a)) (port_apart (port (get_or ids k 0) a) r.1 (λ c _. not_fresh g number task.new (get_or ids k 0) c (task.there k inside))) ∙ old_port (port (get_or ids k 0) a) real in
        let node : node_of (Means.number q) ≡ q.node = omega arith in
        let clone : node_word v q.node 5 ≡ number j
        = t.same (node_at q.node 5) (word_apart number (length ids) q.node 5 (omega arith)) ∙ subst (λ (c : ℕ). node_word w c 5 ≡ number j) j_is (s.clones j j_low) in
        let to : follow h (port (number k) a) ≡ port (number j) q.index = across_follow h (Rule.copies_well number g well task.new m ids all into) (port (number k) a) (port (number j) q.index) copy_wire in
        rw (is, node, clone, to) (omega arith)

  filled_b : (n : ℕ) → filled g n ≡ true → filled blank n ≡ true
  unfolding filled
  filled_b n there = ap (λ (o : Option Node). is_some o) (old_slot n there) ∙ there

  sized : (n : ℕ) → filled g n ≡ true → node_word w n 3 ≡ arity g n
  unfolding with_graph with_slots
  sized n there = arity_read Named w (with_graph blank e) s.means n (filled_b n there) ∙ old_arity n there

  -- the copies can be wired
  wirable : Wirable w N m P ids number (λ k. arity g (get_or ids k 0)) (λ k a. Means.number (follow h (port (number k) a)))
  unfolding with_graph with_slots
  wirable =
      let nets = s.edited.nets in
      let low_net = task.low in
      let few = s.means.header.few_nets in
      record {
        few = few_slots;
        long = long;
        pool = s.means.header.nodes ∙ s.pool;
        net = omega arith;
        count = (s.means.nets m (omega arith)).length_is ∙ ap (λ (l : List ℕ). length l) s.items;
        listed = s.listed;
        slot = λ k i. slot_low (get_or ids k 0) (filled_b (get_or ids k 0) (task.there k i));
        low = low;
        differ = task.new.apart;
        clone = s.clones;
        sized = λ k i. sized (get_or ids k 0) (task.there k i);
        most = λ k i. rw (← old_arity (get_or ids k 0) (task.there k i)) (nodes.few (get_or ids k 0));
        values = λ k a i r v t. value k i a r v t;
      }

  -- the words mean an engine, and have its clone map and its dead list
  pub record Wired (v : List ℕ) : Type 0 where
    pub means : Means Named v e
    pub clones : Clones v (λ k. get_or chain k (default k)) ids (length ids)
    pub dead : Dead v l

  -- ---- what the words mean then

  module _ (v : List ℕ) (t : Set w ids number (λ k. arity g (get_or ids k 0)) (λ k a. Means.number (follow h (port (number k) a))) v) where
    words : (n f : ℕ) → f < 8 → get_or v (node_at n f) 0 ≡ get_or w (node_at n f) 0
    words n f b = t.rest.same (node_at n f) (word_apart number (length ids) n f b)

    slots : (n : ℕ) → n < N → SlotIs Named v n (frame h n)
    slots n b = rw (← s.frames n) (go (frame blank n) (nodes.slot n b))
      where
        go : (o : Option Frame) → SlotIs Named w n o → SlotIs Named v n o
        go none z = words n 0 (omega arith) ∙ z
        go (some f) z = (words n 0 (omega arith) ∙ z.0, subst (λ (a : ℕ). Named a f.name) (sym (words n 1 (omega arith))) z.1, words n 3 (omega arith) ∙ z.2)

    same_arity : (n : ℕ) → arity h n ≡ arity blank n
    same_arity n = arity_same blank h n (sym (s.frames n))

    ports : (p : Port) → Real h p → Words.across v (Means.number p) ≡ Means.number (follow h p)
    unfolding follow
    ports p r = go (one_of_row number (length ids) p.node)
      where
        go : ((k : ℕ) × (k < length ids) × (p.node ≡ number k)) ⊎ ((k : ℕ) → k < length ids → p.node ≢ number k) → Words.across v (Means.number p) ≡ Means.number (follow h p)
        go (inl b) =
            let k = b.0 in
            let is : p ≡ port (number k) p.index = same_port_lem p (port (number k) p.index) b.2 refl in
            let f : p.index < arity g (get_or ids k 0) = rw (← Rule.copy_arity number g well task.new m ids all into k b.1, ← b.2) r in
            subst (λ (q : Port). Words.across v (Means.number q) ≡ Means.number (follow h q)) (sym is) (t.done k p.index b.1 f)
        go (inr n) =
            let real : Real blank p = rw (← same_arity p.node) r in
            let i = real_inside nodes p real in
            let at : across blank p ≡ across h p = across_slots g blank p (s.old p.node n) ∙ sym (across_slots g h p (Rule.copies_other number g well task.new m ids all into p.node n)) in
            t.rest.same (5184 + Means.number p) (port_apart p i.1 n) ∙ nodes.port p real ∙ ap (λ (o : Option Port). Means.number (or_else o p)) at

    -- the copies' ports are node words
    node_words : Rest (OutNodes N) w v
    node_words = record { long = t.rest.long; same = λ i o. t.rest.same i (λ k a c d q. o (let z = low k c in omega arith)) }

    wired_means : Means Named v e
    unfolding with_graph with_slots
    wired_means =
        let done : Means Named v (with_graph h (with_graph blank e)) = means_nodes Named w v (with_graph blank e) s.means h (rw s.pool node_words) (rw s.pool (record {
          slot = slots;
          port = ports;
          few = λ n. rw (same_arity n) (nodes.few n);
          inside = λ n b. sym (s.frames n) ∙ nodes.inside n b;
        })) in
        subst (λ (j : Graph). Means Named v (with_graph j e)) (sym s.edited.nodes) done

  -- the words mean the engine with its copies, wired; the clone map and the dead list are kept
  pub wire_copies_means : Wired (wire_copies w (m + 1))
  wire_copies_means =
      let t = wire_copies_set w N m P ids number (λ k. arity g (get_or ids k 0)) (λ k a. Means.number (follow h (port (number k) a))) wirable in
      record {
        means = wired_means (wire_copies w (m + 1)) t;
        clones = λ i c. t.rest.same (node_at (get_or ids i 0) 5) (word_apart number (length ids) (get_or ids i 0) 5 (omega arith)) ∙ s.clones i c;
        dead = dead_keep (λ i c. t.rest.same i (before number (length ids) i (omega arith))) s.dead;
      }
