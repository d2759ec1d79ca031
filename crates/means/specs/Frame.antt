-- What a write elsewhere keeps: each part reads its own words, and these are apart. So a change of one part's words keeps the others.
use Rattle.std.specs.Prelude.{ℕ, zero, suc, ◌+◌, ◌*◌, ◌/◌, ◌%◌, ◌<◌, ◌≤◌, ◌≡◌, refl, ◌≢◌, Bool, get_or}
use Rattle.std.proofs.Math.Path.{sym}
use Rattle.std.proofs.Common.{ap, ◌∙◌, subst, get_or-set_other, not-suc-le-zero, arith}
use Rattle.std.proofs.Math.Option.{Option, none, some}
use mathlib.Core.List.{List, [], ◌∷◌, map}
use Rattle.std.proofs.Math.ListN.{length, set, length-set, get_or-map}
use Rattle.std.proofs.Math.Seq.{get_or-set_same, map-set_same}
use Rattle.std.proofs.Math.Decide.{dec_lt, ℕ_discrete}
use Rattle.net_file.specs.Values.{Name}
use Rattle.definitions.specs.Lists.{or_else}
use Rattle.definitions.specs.Nets.{Port, Graph, arity, follow}
use Rattle.definitions.specs.State.{Ids, Wait, Net, Pools, Engine, graph_of, with_slots, with_graph, with_mark, with_dirty, with_nets, net_at, over_net, entries, waits}
use Rattle.join_laws.specs.Ports.{Frame, no_frame, frame, arity_frame, Real}
use Rattle.layout.specs.Layout.{less, node_word}
use Rattle.chains.specs.Seg.{Seg, All}
use Rattle.chains.specs.Pools.{View, Pool, Same, pool_same, pool_lists}
use Rattle.means.specs.Means.{number, Header, SlotIs, Nodes, Marks, Vacant, Dirty, NetIs, Nets, no_net, entries_in, waits_in, items_of, awaiting_of, Used, Means}

-- ---- the words of each part

abbrev pub HeaderWords : ℕ → Type 0
HeaderWords i = i < 8

-- from h on, k of them
abbrev pub HeadWords : ℕ → ℕ → ℕ → Type 0
HeadWords h k i = (h ≤ i) × (i < h + k)

-- words f to f + k - 1 of N slots
abbrev pub SlotWords : ℕ → ℕ → ℕ → ℕ → Type 0
SlotWords N f k i = (5184 ≤ i) × (i < 5184 + 32 * N) × (f ≤ i % 32) × (i % 32 < f + k)

-- net, name, number of ports and ports of N slots
abbrev pub NodeWords : ℕ → ℕ → Type 0
NodeWords N i = SlotWords N 0 24 i × (i % 32 ≢ 2) × (i % 32 ≢ 4) × (i % 32 ≢ 5)

-- of net k: name, free node, length, capacity, stale, pending
abbrev pub NetWords : ℕ → ℕ → Type 0
NetWords k i = (1088 + 16 * k ≤ i) × (i < 1096 + 16 * k) × (i % 16 ≢ 2) × (i % 16 ≢ 3)

-- the two words from f on of each net
abbrev pub EndWords : ℕ → ℕ → Type 0
EndWords f i = (1088 ≤ i) × (i < 5184) × (f ≤ i % 16) × (i % 16 < f + 2)

-- the entries
abbrev pub EntryWords : ℕ → ℕ → ℕ → Type 0
EntryWords N E i = (5216 + 32 * N ≤ i) × (i < 5216 + 32 * N + 2 * E)

-- the waits
abbrev pub WaitWords : ℕ → ℕ → ℕ → Type 0
WaitWords N E i = 5216 + 32 * N + 2 * E ≤ i

-- these words are as they were
abbrev pub Keep : (ℕ → Type 0) → List ℕ → List ℕ → Type 0
Keep P ws w = (i : ℕ) → P i → get_or w i 0 ≡ get_or ws i 0

-- ---- each part is kept where its words are

-- a port that exists is one of the words' ports
pub real_inside : {ws : List ℕ} {Named : ℕ → Name → Type 0} {N : ℕ} {g : Graph} → Nodes Named ws N g → (p : Port) → Real g p → (p.node < N) × (p.index < 16)
real_inside {N = N} {g} m p r = (go (dec_lt p.node N), let a = m.few p.node in omega arith)
  where
    go : Dec (p.node < N) → p.node < N
    go (yes h) = h
    go (no h) =
        let z : arity g p.node ≡ 0 = arity_frame g p.node ∙ ap (λ (o : Option Frame). (or_else o no_frame).size) (m.inside p.node (omega arith)) in
        absurd (not-suc-le-zero (subst (λ (k : ℕ). p.index < k) z r))

module _ (ws w : List ℕ) where
  pub header_keep : {p : Pools} {l : Option ℕ} {s k : ℕ} → length w ≡ length ws → Keep HeaderWords ws w → Header ws p l s k → Header w p l s k
  header_keep e f h = record {
    long = let b = h.long in omega arith;
    nodes = f 1 (omega arith) ∙ h.nodes;
    entries = f 2 (omega arith) ∙ h.entries;
    waits = f 3 (omega arith) ∙ h.waits;
    limit_is = f 5 (omega arith) ∙ h.limit_is;
    steps_are = f 6 (omega arith) ∙ h.steps_are;
    nets_are = f 7 (omega arith) ∙ h.nets_are;
    few_nodes = h.few_nodes;
    few_entries = h.few_entries;
    few_waits = h.few_waits;
    few_nets = h.few_nets;
  }

  pub nodes_keep : {Named : ℕ → Name → Type 0} {N : ℕ} {g : Graph} → Keep (NodeWords N) ws w → Nodes Named ws N g → Nodes Named w N g
  nodes_keep {Named} {N} {g} f m = record {
    slot = λ n h. go n h (frame g n) (m.slot n h);
    port = λ p r. let i = real_inside m p r in f _ (omega arith) ∙ m.port p r;
    few = m.few;
    inside = m.inside;
  }
    where
      go : (n : ℕ) → n < N → (o : Option Frame) → SlotIs Named ws n o → SlotIs Named w n o
      go n h none s = f _ (omega arith) ∙ s
      go n h (some x) s =
          (f _ (omega arith) ∙ s.0, subst (λ (a : ℕ). Named a x.name) (sym (f _ (omega arith))) s.1, f _ (omega arith) ∙ s.2)

  pub marks_keep : {N : ℕ} {marks : List Bool} → Keep (SlotWords N 2 1) ws w → Marks ws N marks → Marks w N marks
  marks_keep f m = record { sized = m.sized; mark = λ n h. f _ (omega arith) ∙ m.mark n h }

  pub seg_keep : {N : ℕ} → N ≤ 4096 → Keep (SlotWords N 4 1) ws w → (h z : ℕ) (l : List ℕ) → All (λ n. n < N) l
      → Seg (λ c. node_word ws (less c) 4) h (map (λ n. n + 1) l) z → Seg (λ c. node_word w (less c) 4) h (map (λ n. n + 1) l) z
  seg_keep b f h z [] a s = s
  seg_keep b f h z (n ∷ l) a s =
      let i = a.0 in
      (s.0, rw (f (5184 + 32 * less (n + 1) + 4) (omega arith)) (seg_keep b f (node_word ws (less (n + 1)) 4) z l a.1 s.1))

  pub vacant_keep : {N : ℕ} {chain : List ℕ} → N ≤ 4096 → Keep (HeadWords 8 2) ws w → Keep (SlotWords N 4 1) ws w → Vacant ws N chain → Vacant w N chain
  vacant_keep b h f v = record {
    freed = v.freed;
    never = v.never;
    is = rw (h 9 (omega arith)) v.is;
    all = rw (h 9 (omega arith)) v.all;
    seg = rw (h 8 (omega arith)) (seg_keep b f _ 0 v.freed v.inside v.seg);
    inside = v.inside;
  }

  pub dirty_keep : {N : ℕ} {l : Ids} → Keep (HeadWords 14 3) ws w → Keep (SlotWords (N + 1) 24 4) ws w → Dirty ws N l → Dirty w N l
  dirty_keep h f d = record {
    room = d.room;
    length_is = h 14 (omega arith) ∙ d.length_is;
    capacity_is = h 15 (omega arith) ∙ d.capacity_is;
    stale_is = h 16 (omega arith) ∙ d.stale_is;
    item = λ k i. let r = d.room in f _ (omega arith) ∙ d.item k i;
  }

  pub net_keep : {k : ℕ} {t : Net} → Keep (NetWords k) ws w → NetIs ws k t → NetIs w k t
  net_keep f n = record {
    name = f _ (omega arith) ∙ n.name;
    free = f _ (omega arith) ∙ n.free;
    length_is = f _ (omega arith) ∙ n.length_is;
    capacity_is = f _ (omega arith) ∙ n.capacity_is;
    stale_is = f _ (omega arith) ∙ n.stale_is;
    pending_is = f _ (omega arith) ∙ n.pending_is;
  }

  pub entries_keep : (N E : ℕ) {m : ℕ} → m ≤ 256 → get_or ws 11 0 ≤ E → Keep (HeadWords 10 2) ws w → Keep (EndWords 2) ws w → Keep (EntryWords N E) ws w
      → Same (entries_in ws N) (entries_in w N) m
  entries_keep N E b u h n f = record {
    used = h 11 (omega arith);
    first = h 10 (omega arith);
    head = λ t i. n _ (omega arith);
    tail = λ t i. n _ (omega arith);
    node = λ c i j. f _ (omega arith);
    after = λ c i j. f _ (omega arith);
  }

  pub waits_keep : (N E : ℕ) {m : ℕ} → m ≤ 256 → Keep (HeadWords 12 2) ws w → Keep (EndWords 8) ws w → Keep (WaitWords N E) ws w
      → Same (waits_in ws N E) (waits_in w N E) m
  waits_keep N E b h n f = record {
    used = h 13 (omega arith);
    first = h 12 (omega arith);
    head = λ t i. n _ (omega arith);
    tail = λ t i. n _ (omega arith);
    node = λ c i j k. (f (5213 + 32 * N + 2 * E + 3 * c + 0) (omega arith) k, f (5213 + 32 * N + 2 * E + 3 * c + 1) (omega arith) k);
    after = λ c i j. f _ (omega arith);
  }

-- ---- one part's words are written

-- other vacant slots
unfoldable pub with_chain : List ℕ → Engine → Engine
with_chain c e = with_slots (record { graph = graph_of e; marks = e.slots.marks; chain = c }) e

-- w is ws but for words that are not Out
pub record Rest (Out : ℕ → Type 0) (ws w : List ℕ) : Type 0 where
  pub long : length w ≡ length ws
  pub same : Keep Out ws w

pub rest_set : (Out : ℕ → Type 0) (ws : List ℕ) (j v : ℕ) → ((i : ℕ) → Out i → i ≢ j) → Rest Out ws (set ws j v)
rest_set Out ws j v n = record { long = length-set ws j v; same = λ i o. get_or-set_other ws j i v 0 (n i o) }

pub rest_trans : {Out : ℕ → Type 0} {u v w : List ℕ} → Rest Out u v → Rest Out v w → Rest Out u w
rest_trans r s = record { long = s.long ∙ r.long; same = λ i o. s.same i o ∙ r.same i o }

-- all but the words of nodes and ports
abbrev pub OutNodes : ℕ → ℕ → Type 0
OutNodes N i = NodeWords N i → ⊥

-- all but the marks
abbrev pub OutMarks : ℕ → ℕ → Type 0
OutMarks N i = SlotWords N 2 1 i → ⊥

-- all but the vacant slots' chain
abbrev pub OutVacant : ℕ → ℕ → Type 0
OutVacant N i = (HeadWords 8 2 i → ⊥) × (SlotWords N 4 1 i → ⊥)

-- all but the dirty list
abbrev pub OutDirty : ℕ → ℕ → Type 0
OutDirty N i = (HeadWords 14 3 i → ⊥) × (SlotWords (N + 1) 24 4 i → ⊥)

-- all but net k's own words
abbrev pub OutNet : ℕ → ℕ → Type 0
OutNet k i = NetWords k i → ⊥

-- all but the entries' chains
abbrev pub OutLists : ℕ → ℕ → ℕ → Type 0
OutLists N E i = (HeadWords 10 2 i → ⊥) × (EndWords 2 i → ⊥) × (EntryWords N E i → ⊥)

-- all but the waits' chains
abbrev pub OutWaits : ℕ → ℕ → ℕ → Type 0
OutWaits N E i = (HeadWords 12 2 i → ⊥) × (EndWords 8 i → ⊥) × (WaitWords N E i → ⊥)

module _ (Named : ℕ → Name → Type 0) (ws w : List ℕ) (e : Engine) (m : Means Named ws e) where
  -- what a write keeps, part by part
  pub used_keep : Keep (HeadWords 11 1) ws w → Keep (HeadWords 13 1) ws w → Used w e.pools
  used_keep f g = let a = f 11 (omega arith) in let b = g 13 (omega arith) in let u = m.used in omega arith

  pub nets_keep : ((k : ℕ) → k < length e.nets → Keep (NetWords k) ws w) → Nets w e.nets
  nets_keep f k h = net_keep ws w (f k h) (m.nets k h)

  pub lists_keep : Keep (HeadWords 10 2) ws w → Keep (EndWords 2) ws w → Keep (EntryWords e.pools.nodes e.pools.entries) ws w
      → Pool (entries_in w e.pools.nodes) (length e.nets) (items_of e.nets) (entries e)
  lists_keep f g h = pool_same (entries_keep ws w e.pools.nodes e.pools.entries m.header.few_nets m.used.entries f g h) m.lists

  pub awaits_keep : Keep (HeadWords 12 2) ws w → Keep (EndWords 8) ws w → Keep (WaitWords e.pools.nodes e.pools.entries) ws w
      → Pool (waits_in w e.pools.nodes e.pools.entries) (length e.nets) (awaiting_of e.nets) (waits e)
  awaits_keep f g h = pool_same (waits_keep ws w e.pools.nodes e.pools.entries m.header.few_nets f g h) m.waits_are

  -- other nodes and wires
  pub means_nodes : (g : Graph) → Rest (OutNodes e.pools.nodes) ws w → Nodes Named w e.pools.nodes g → Means Named w (with_graph g e)
  unfolding with_graph with_slots entries waits
  means_nodes g r n = record {
    header = header_keep ws w r.long (λ i p. r.same i (omega arith)) m.header;
    used = used_keep (λ i p. r.same i (omega arith)) (λ i p. r.same i (omega arith));
    nodes = n;
    marks = marks_keep ws w (λ i p. r.same i (omega arith)) m.marks;
    vacant = vacant_keep ws w m.header.few_nodes (λ i p. r.same i (omega arith)) (λ i p. r.same i (omega arith)) m.vacant;
    dirty = dirty_keep ws w (λ i p. r.same i (omega arith)) (λ i p. r.same i (omega arith)) m.dirty;
    nets = nets_keep (λ k h i p. let b = m.header.few_nets in r.same i (omega arith));
    lists = lists_keep (λ i p. r.same i (omega arith)) (λ i p. r.same i (omega arith)) (λ i p. r.same i (omega arith));
    waits_are = awaits_keep (λ i p. r.same i (omega arith)) (λ i p. r.same i (omega arith)) (λ i p. r.same i (omega arith));
  }

  -- another mark
  pub means_mark : (k : ℕ) (b : Bool) → Rest (OutMarks e.pools.nodes) ws w → Marks w e.pools.nodes (set e.slots.marks k b) → Means Named w (with_mark k b e)
  unfolding with_mark with_slots entries waits
  means_mark k b r n = record {
    header = header_keep ws w r.long (λ i p. r.same i (omega arith)) m.header;
    used = used_keep (λ i p. r.same i (omega arith)) (λ i p. r.same i (omega arith));
    nodes = nodes_keep ws w (λ i p. r.same i (omega arith)) m.nodes;
    marks = n;
    vacant = vacant_keep ws w m.header.few_nodes (λ i p. r.same i (omega arith)) (λ i p. r.same i (omega arith)) m.vacant;
    dirty = dirty_keep ws w (λ i p. r.same i (omega arith)) (λ i p. r.same i (omega arith)) m.dirty;
    nets = nets_keep (λ k h i p. let b = m.header.few_nets in r.same i (omega arith));
    lists = lists_keep (λ i p. r.same i (omega arith)) (λ i p. r.same i (omega arith)) (λ i p. r.same i (omega arith));
    waits_are = awaits_keep (λ i p. r.same i (omega arith)) (λ i p. r.same i (omega arith)) (λ i p. r.same i (omega arith));
  }

  -- another chain of vacant slots
  pub means_vacant : (c : List ℕ) → Rest (OutVacant e.pools.nodes) ws w → Vacant w e.pools.nodes c → Means Named w (with_chain c e)
  unfolding with_chain with_slots entries waits
  means_vacant c r n = record {
    header = header_keep ws w r.long (λ i p. r.same i (omega arith)) m.header;
    used = used_keep (λ i p. r.same i (omega arith)) (λ i p. r.same i (omega arith));
    nodes = nodes_keep ws w (λ i p. r.same i (omega arith)) m.nodes;
    marks = marks_keep ws w (λ i p. r.same i (omega arith)) m.marks;
    vacant = n;
    dirty = dirty_keep ws w (λ i p. r.same i (omega arith)) (λ i p. r.same i (omega arith)) m.dirty;
    nets = nets_keep (λ k h i p. let b = m.header.few_nets in r.same i (omega arith));
    lists = lists_keep (λ i p. r.same i (omega arith)) (λ i p. r.same i (omega arith)) (λ i p. r.same i (omega arith));
    waits_are = awaits_keep (λ i p. r.same i (omega arith)) (λ i p. r.same i (omega arith)) (λ i p. r.same i (omega arith));
  }

  -- another dirty list
  pub means_dirty : (d : Ids) → Rest (OutDirty e.pools.nodes) ws w → Dirty w e.pools.nodes d → Means Named w (with_dirty d e)
  unfolding with_dirty entries waits
  means_dirty d r n = record {
    header = header_keep ws w r.long (λ i p. r.same i (omega arith)) m.header;
    used = used_keep (λ i p. r.same i (omega arith)) (λ i p. r.same i (omega arith));
    nodes = nodes_keep ws w (λ i p. r.same i (omega arith)) m.nodes;
    marks = marks_keep ws w (λ i p. r.same i (omega arith)) m.marks;
    vacant = vacant_keep ws w m.header.few_nodes (λ i p. r.same i (omega arith)) (λ i p. r.same i (omega arith)) m.vacant;
    dirty = n;
    nets = nets_keep (λ k h i p. let b = m.header.few_nets in r.same i (omega arith));
    lists = lists_keep (λ i p. r.same i (omega arith)) (λ i p. r.same i (omega arith)) (λ i p. r.same i (omega arith));
    waits_are = awaits_keep (λ i p. r.same i (omega arith)) (λ i p. r.same i (omega arith)) (λ i p. r.same i (omega arith));
  }

  -- another net k, with its list and the waits on it
  pub means_net : (f : Net → Net) (k : ℕ) → k < length e.nets → Rest (λ i. OutNet k i × OutLists e.pools.nodes e.pools.entries i × OutWaits e.pools.nodes e.pools.entries i) ws w
      → NetIs w k (f (net_at e k)) → Used w e.pools
      → Pool (entries_in w e.pools.nodes) (length e.nets) (items_of (over_net f k e).nets) (entries (over_net f k e))
      → Pool (waits_in w e.pools.nodes e.pools.entries) (length e.nets) (awaiting_of (over_net f k e).nets) (waits (over_net f k e))
      → Means Named w (over_net f k e)
  unfolding over_net with_nets entries waits
  means_net f k h r n u l a =
      let ns : List Net = set e.nets k (f (net_at e k)) in
      let long : length ns ≡ length e.nets = length-set e.nets k (f (net_at e k)) in
      record {
        header = rw long (header_keep ws w r.long (λ i p. r.same i (omega arith)) m.header);
        used = u;
        nodes = nodes_keep ws w (λ i p. r.same i (omega arith)) m.nodes;
        marks = marks_keep ws w (λ i p. r.same i (omega arith)) m.marks;
        vacant = vacant_keep ws w m.header.few_nodes (λ i p. r.same i (omega arith)) (λ i p. r.same i (omega arith)) m.vacant;
        dirty = dirty_keep ws w (λ i p. r.same i (omega arith)) (λ i p. r.same i (omega arith)) m.dirty;
        nets = λ j i. go j (rw long at i) (ℕ_discrete j k);
        lists = rw long l;
        waits_are = rw long a;
      }
    where
      go : (j : ℕ) → j < length e.nets → Dec (j ≡ k) → NetIs w j (get_or (set e.nets k (f (net_at e k))) j no_net)
      go j i (yes d) = rw (d, get_or-set_same e.nets k (f (net_at e k)) no_net h) n
      go j i (no d) =
          rw (get_or-set_other e.nets k j (f (net_at e k)) no_net d)
          (net_keep ws w (λ q p. let b = m.header.few_nets in r.same q (omega arith)) (m.nets j i))

-- ---- a net whose list and waits are as they were

-- what is read of each net, where one net is replaced by one of which the same is read
pub read_same : {A : Type 0} (f : Net → A) (ts : List Net) (k : ℕ) (t : Net) → f t ≡ f (get_or ts k no_net) → (j : ℕ) → f (get_or (set ts k t) j no_net) ≡ f (get_or ts j no_net)
read_same {A} f ts k t e j =
    sym (get_or-map f (set ts k t) j no_net) ∙ ap (λ (l : List A). get_or l j (f no_net)) (map-set_same f ts k t no_net e) ∙ get_or-map f ts j no_net
