-- `copy_nodes`: each node of the named net's list, in order, gets a copy, or is refused by 9 or 10 as level Engine says. On the words a copy's
-- ports are holes until all copies are made; the clone map says which copy is whose.
use Rattle.std.specs.Prelude.{ℕ, suc, ◌+◌, ◌*◌, ◌<◌, ◌≤◌, ◌≢◌, Bool, true, drop, replicate, eqb, ltb}
use Rattle.std.proofs.Math.Path.{◌≡◌, refl, sym, ap, subst}
use Rattle.std.proofs.Common.{◌∙◌, length-drop, drop-cons, get_or-set_same}
use Rattle.std.proofs.Math.Bool.{false}
use Rattle.std.proofs.lemmas.Bool.{false≢true}
use Rattle.std.proofs.Math.Option.{Option, none, some}
use mathlib.Core.List.{List, [], ◌∷◌}
use Rattle.std.proofs.Math.ListN.{length, get_or, set, length-map, length-replicate}
use Rattle.std.proofs.Math.Seq.{get_or-set_other}
use borrow.Author.Tests.{ltb-true, le-ltb}
use native.Mathlib.Omega.{arith}
use Rattle.std.proofs.Math.Decide.{ℕ_discrete, dec_lt}
use Rattle.words.specs.Left.{Left}
use Rattle.layout.specs.Layout.{node_at, node_word, net_at_words, set_node_word}
use Rattle.edits.specs.declared.Placed.{Placed}
use Rattle.edits.specs.Edits.{place_node}
use Rattle.tried.specs.Tries as Words
use Rattle.graft.specs.Graft.{copy_node}
use Rattle.graft.specs.Ways.{copy_made, copy_refused}
use Rattle.net_file.specs.Lists.{Result, ok, refuse, need, count, distinct}
use Rattle.net_file.specs.Values.{Name}
use Rattle.definitions.specs.Lists.{◌>>=◌, is_some, or_else}
use Rattle.definitions.specs.Nets.{Port, Node, Graph, nowhere, at, filled, name_of, arity}
use Rattle.definitions.specs.Scripts.{Copy, fill, apply}
use Rattle.definitions.specs.Rules.{new}
use Rattle.definitions.specs.Step.{Fresh}
use Rattle.definitions.specs.State.{Net, Engine, graph_of, with_slots, with_graph, with_list, with_nets, net_at, over_net, entries}
use Rattle.definitions.specs.Books.{is_dirty, fresh, placed, add_node, edit}
use Rattle.good_laws.specs.Owners.{owner, owners, fill_owners, count_owners}
use Rattle.good_laws.specs.Good.{Slotted}
use Rattle.good_laws.specs.Places.{place_low, place_clean}
use Rattle.good_laws.specs.Edits.{Edited, Answers, edits_good}
use Rattle.join_laws.specs.Ports.{Frame, frame, frame_of, filled_frame}
use Rattle.script_laws.specs.Slots.{fill_other, frame_fill_same, frame_fill_other}
use Rattle.rule_laws.specs.Ids.{distinct_at}
use Rattle.rule_laws.specs.Places.{not_fresh, new_holes}
use Rattle.means.specs.Means.{no_net, items_of, Means}
use Rattle.means.specs.Frame.{rest_set}
use Rattle.good_means.specs.Room.{listed_room}
use Rattle.edits_means.specs.Place.{CanPlace, Agrees}
use Rattle.edits_means.proofs.Place.{place_node_means}
use Rattle.script_means.specs.Dead.{Dead, dead_keep}
use Rattle.script_means.specs.Tries.{name_read, arity_read}
use Rattle.removal_means.specs.Edited.{place_node_kept}
use Rattle.graft_copies.specs.Clones.{Clones, OutClones, means_clones}
use Rattle.graft_copies.specs.Spares.{Places, Spares, place_spares, places_keep}

-- of M nets: the nodes `ids` of net m, each once, are copied into net `into`
pub record Task (M : ℕ) (g : Graph) (fresh : ℕ → ℕ) (m into : ℕ) (ids : List ℕ) : Type 0 where
  pub there : (i : ℕ) → i < length ids → filled g (get_or ids i 0) ≡ true
  pub once : distinct eqb ids ≡ true
  pub low : m < M
  pub into_low : into < M
  pub differ : m ≢ into
  pub new : Fresh g fresh

module _ (Named : ℕ → Name → Type 0) (x : ℕ → ℕ) (M : ℕ) (chain : List ℕ) (default : ℕ → ℕ) (g : Graph) (m into : ℕ) (ids : List ℕ)
    (task : Task M g (λ k. get_or chain k (default k)) m into ids) (N : ℕ) (P l : List ℕ) where
  abbrev number : ℕ → ℕ
  number k = get_or chain k (default k)

  -- the first k have copies: the words mean the engine, but that the copies' ports are holes in `blank`
  pub record Copied (k : ℕ) (gr : Graph) (w : List ℕ) (blank : Graph) (e : Engine) : Type 0 where
    pub means : Means Named w (with_graph blank e)
    pub edited : Edited x M chain k gr e
    pub owned : owners blank ≡ owners gr
    pub frames : (n : ℕ) → frame blank n ≡ frame gr n
    pub old : (n : ℕ) → ((i : ℕ) → i < k → n ≢ get_or chain i (default i)) → get_or blank n none ≡ get_or g n none
    pub clones : Clones w (λ i. get_or chain i (default i)) ids k
    pub listed : Places w N m P ids
    pub pool : e.pools.nodes ≡ N
    pub items : items_of e.nets m ≡ ids
    pub dead : Dead w l

  -- one copy more, or the number of refusal that level Engine gives
  abbrev pub Copies : ℕ → Graph → Graph → Left ℕ → Result Engine → Type 0
  Copies k gr blank t (ok e) = (t.is ≡ 0) × Copied k gr t.ws blank e
  Copies k gr blank t (refuse r) = (t.is ≡ r) × (0 < r)

  module _ (k : ℕ) (gr : Graph) (w : List ℕ) (blank : Graph) (e : Engine) (s : Copied k gr w blank e) (n : ℕ) (is : get_or ids k 0 ≡ n) (inside : k < length ids)
      (ports : List (Option Port)) (size : length ports ≡ arity g n) where
    -- the copy that level Engine makes
    abbrev y : Node
    y = record { net = into; name = name_of g n; ports = ports }

    eb : Engine
    eb = with_graph blank e

    -- the copy, of holes
    z : Node
    z = new into (name_of g n) (arity g n)

    there : filled g n ≡ true
    there = subst (λ (j : ℕ). filled g j ≡ true) is (task.there k inside)

    kept : (j : ℕ) → filled g j ≡ true → get_or blank j none ≡ get_or g j none
    kept j h = s.old j (λ i _. not_fresh g number task.new j i h)

    same : at blank n ≡ at g n
    unfolding at
    same = ap (λ (o : Option Node). or_else o nowhere) (kept n there)

    there_b : (j : ℕ) → filled g j ≡ true → filled blank j ≡ true
    unfolding filled
    there_b j h = ap (λ (o : Option Node). is_some o) (kept j h) ∙ h

    low : (j : ℕ) → filled g j ≡ true → j < e.pools.nodes
    unfolding with_graph with_slots
    low j h = go (dec_lt j e.pools.nodes)
      where
        go : Dec (j < e.pools.nodes) → j < e.pools.nodes
        go (yes i) = i
        go (no i) = absurd (false≢true (sym (ap is_some (s.means.nodes.inside j (omega arith))) ∙ sym (filled_frame blank j) ∙ there_b j h))

    arity_is : Words.arity w n ≡ arity g n
    unfolding with_graph with_slots arity
    arity_is = arity_read Named w (with_graph blank e) s.means n (there_b n there) ∙ ap (λ (x : Node). length x.ports) same

    named_is : Named (Words.name w n) (name_of g n)
    unfolding with_graph with_slots name_of
    named_is = subst (λ (x : Node). Named (Words.name w n) x.name) same (name_read Named w (with_graph blank e) s.means n (there_b n there))

    few : arity g n ≤ 16
    unfolding with_graph with_slots arity
    few = subst (λ (x : Node). length x.ports ≤ 16) same (s.means.nodes.few n)

    owned : owners blank ≡ owners (graph_of e)
    owned = s.owned ∙ ap (λ (h : Graph). owners h) (sym s.edited.nodes)

    counted : count is_some blank ≡ count is_some (graph_of e)
    counted = count_owners blank ∙ ap (count is_some) owned ∙ sym (count_owners (graph_of e))

    all : length e.slots.chain + count is_some blank ≡ e.pools.nodes
    all = let a = s.edited.good.slotted.all in let b = count_owners (graph_of e) in let c = counted in omega arith

    next_slot : 0 < length e.slots.chain → e.slots.chain ≡ number k ∷ drop (suc k) chain
    next_slot h =
        let p : length e.slots.chain ≡ length (drop k chain) = ap (λ (c : List ℕ). length c) s.edited.left in
        let q = length-drop k chain in
        s.edited.left ∙ drop-cons chain k (default k) (omega arith)

    slots : (h : 0 < length e.slots.chain) → Slotted e.pools.nodes (length e.nets) (owners (graph_of e)) e.slots.marks (number k ∷ drop (suc k) chain)
    slots h = rw (next_slot h) at s.edited.good.slotted

    below : into < length e.nets
    below = let a = s.edited.nets in let b = task.into_low in omega arith

    can_place : 0 < length e.slots.chain → CanPlace Named eb (number k) z (Words.name w n)
    unfolding eb z new with_graph with_slots is_dirty net_at
    can_place h = record {
      slot = place_low _ _ _ _ (number k) (drop (suc k) chain) (slots h) into below;
      clean = place_clean _ _ _ _ (number k) (drop (suc k) chain) (slots h) into below;
      net = below;
      named = named_is;
      most = let r = length-replicate {A = Option Port} (arity g n) none in let b = few in omega arith;
      holes = new_holes into (name_of g n) (arity g n);
      capacity = let b = listed_room e.pools.nodes _ (net_at e into).list (s.edited.good.lists into below) in let c = s.means.header.few_nodes in omega arith;
    }

    p : Left Placed
    p = place_node w (into + 1) (Words.name w n) (arity g n)

    agrees : Agrees Named (number k) p (add_node false (number k) z eb)
    unfolding p eb z new with_graph with_slots fresh add_node
    agrees = go (dec_lt 0 (length e.slots.chain))
      where
        long : length (replicate {A = Option Port} (arity g n) none) ≡ arity g n
        long = length-replicate {A = Option Port} (arity g n) none

        go : Dec (0 < length e.slots.chain) → Agrees Named (number k) (place_node w (into + 1) (Words.name w n) (arity g n)) (add_node false (number k) (new into (name_of g n) (arity g n)) (with_graph blank e))
        go (yes h) =
            rw long at (place_node_means Named w eb s.means (number k) z (Words.name w n) all (ap (λ (c : List ℕ). get_or c 0 (length blank + 0)) (sym (next_slot h))) can_place)
        go (no h) =
            let full : ltb (count is_some blank) e.pools.nodes ≡ false = le-ltb (count is_some blank) e.pools.nodes (let a = all in omega arith) in
            let a = rw long at (place_node_means Named w eb s.means (fresh eb 0) z (Words.name w n) all refl (λ q. absurd (omega arith))) in
            rw full (rw full at a)

    -- the slot that it takes
    slot_low : 0 < length e.slots.chain → number k < e.pools.nodes
    slot_low h = place_low _ _ _ _ (number k) (drop (suc k) chain) (slots h) into below

    owned_next : number k < e.pools.nodes → owners (fill blank (number k) z) ≡ owners (fill gr (number k) y)
    unfolding z new
    owned_next h =
        let a : length (owners (graph_of e)) ≡ e.pools.nodes = s.edited.good.slotted.slots in
        let b : length (owners blank) ≡ length (owners (graph_of e)) = ap (λ (o : List (Option ℕ)). length o) owned in
        let c : length (owners blank) ≡ length (owners gr) = ap (λ (o : List (Option ℕ)). length o) s.owned in
        let lb : length (owners blank) ≡ length blank = length-map blank owner in
        let lr : length (owners gr) ≡ length gr = length-map gr owner in
        fill_owners blank (number k) z (omega arith) ∙ ap (λ (o : List (Option ℕ)). set o (number k) (some into)) s.owned ∙ sym (fill_owners gr (number k) y (omega arith))

    framed : (j : ℕ) → Dec (j ≡ number k) → frame (fill blank (number k) z) j ≡ frame (fill gr (number k) y) j
    unfolding z new
    framed j (yes q) =
        let long = length-replicate {A = Option Port} (arity g n) none in
        let one : ◌≡◌ {A = Option Frame} (frame_of (some z)) (frame_of (some y)) = ap (λ (i : ℕ). some (record { net = into; name = name_of g n; size = i })) (long ∙ sym size) in
        rw q (frame_fill_same blank (number k) z ∙ one ∙ sym (frame_fill_same gr (number k) y))
    framed j (no q) = frame_fill_other blank (number k) j z q ∙ s.frames j ∙ sym (frame_fill_other gr (number k) j y q)

    v : List ℕ
    v = p.ws

    -- with the clone map
    w' : List ℕ
    w' = set_node_word v n 5 (number k)

    cloned : Spares e.pools.nodes m P w v → 5184 + 32 * e.pools.nodes ≤ length v → (i : ℕ) → i < suc k → Dec (i ≡ k) → node_word w' (get_or ids i 0) 5 ≡ number i
    unfolding w'
    cloned sp long i b (yes q) = rw (q, is) (get_or-set_same v (node_at n 5) (number k) 0 (let l = low n there in omega arith))
    cloned sp long i b (no q) =
        let a = low (get_or ids i 0) (task.there i (omega arith)) in
        let apart : get_or ids i 0 ≢ n = λ d. q (distinct_at ids task.once i k (omega arith) inside (d ∙ sym is)) in
        get_or-set_other v (node_at n 5) (node_at (get_or ids i 0) 5) (number k) 0 (omega arith) ∙ sp.clones (node_at (get_or ids i 0) 5) (omega arith) ∙ s.clones i (omega arith)

    listed_next : Spares e.pools.nodes m P w v → Places w' N m P ids
    unfolding w'
    listed_next sp =
        let l = low n there in
        let q = s.pool in
        let at = subst (λ (j : ℕ). Spares j m P w v) s.pool sp in
        let few = s.means.header.few_nets in
        places_keep N m P ids v w' (get_or-set_other v (node_at n 5) (net_at_words (m + 1) 2) (number k) 0 (let a = s.edited.nets in let b = task.low in omega arith))
        (λ c i. (get_or-set_other v (node_at n 5) _ (number k) 0 (omega arith), get_or-set_other v (node_at n 5) _ (number k) 0 (omega arith)))
        (places_keep N m P ids w v at.head at.entries s.listed)

    dead_next : Dead w' l
    unfolding w' v p
    dead_next = dead_keep (λ i h. get_or-set_other v (node_at n 5) i (number k) 0 (omega arith) ∙ (place_node_kept w (into + 1) (Words.name w n) (arity g n)).same i (omega arith)) s.dead

    -- the node is there: the next stage
    made : ltb (count is_some (graph_of e)) e.pools.nodes ≡ true → ltb (entries e) e.pools.entries ≡ true → Means Named v (placed false (number k) z eb)
        → Edited x M chain (suc k) (fill gr (number k) y) (placed false (number k) y e)
        → Copied (suc k) (fill gr (number k) y) w' (fill blank (number k) z) (placed false (number k) y e)
    unfolding eb z new with_graph with_slots placed over_net with_nets with_list net_at entries w' v p
    made slot room mean d =
        let some : 0 < length e.slots.chain = let a = all in let b = counted in let c = ltb-true (count is_some (graph_of e)) e.pools.nodes slot in omega arith in
        let sp : Spares e.pools.nodes m P w v = place_spares Named w eb s.means (number k) (drop (suc k) chain) (next_slot some) (slot_low some) into below (ltb-true (entries e) e.pools.entries room)
        (Words.name w n) (arity g n) few m (let a = s.edited.nets in let b = task.low in omega arith) task.differ P (rw (s.pool, s.items) s.listed) in
        let mean' : Means Named w' (with_graph (fill blank (number k) z) (placed false (number k) y e)) = (means_clones Named v w' (placed false (number k) z eb) mean
        (rest_set (OutClones e.pools.nodes) v (node_at n 5) (number k) (λ i o q. o (let b = low n there in omega arith)))) in
        record {
          means = mean';
          edited = d;
          owned = owned_next (slot_low some);
          frames = λ j. framed j (ℕ_discrete j (number k));
          old = λ j h. fill_other blank (number k) j z (h k (omega arith)) ∙ s.old j (λ i b. h i (omega arith));
          clones = λ i b. cloned sp (let long = mean.header.long in omega arith) i b (ℕ_discrete i k);
          listed = listed_next sp;
          pool = s.pool;
          items = ap (λ (t : Net). t.list.items) (get_or-set_other e.nets into m _ no_net task.differ) ∙ s.items;
          dead = dead_next;
        }

    -- the copy is made, or refused by 9 or 10
    pub copy_node_means : Copies (suc k) (fill gr (get_or chain k (default k)) (record { net = into; name = name_of g n; ports = ports })) (fill blank (get_or chain k (default k)) (new into (name_of g n) (arity g n))) (copy_node w (into + 1) n) (edit (Copy (get_or chain k (default k)) (record { net = into; name = name_of g n; ports = ports })) e)
    unfolding edit add_node apply z w' v p eb with_graph with_slots entries
    copy_node_means =
        go (ltb (count is_some (graph_of e)) e.pools.nodes) refl (ltb (entries e) e.pools.entries) refl agreed
        (edits_good x M chain default (Copy (number k) y ∷ []) k gr e s.edited (refl, task.into_low, tt))
      where
        agreed : Agrees Named (number k) p (need (ltb (count is_some (graph_of e)) e.pools.nodes) 9 (need (ltb (entries e) e.pools.entries) 10 (ok (placed false (number k) z eb))))
        agreed = subst (λ (c : ℕ). Agrees Named (number k) p (need (ltb c e.pools.nodes) 9 (need (ltb (entries e) e.pools.entries) 10 (ok (placed false (number k) z eb))))) counted agrees

        go : (t : Bool) → ltb (count is_some (graph_of e)) e.pools.nodes ≡ t → (u : Bool) → ltb (entries e) e.pools.entries ≡ u
            → Agrees Named (number k) p (need t 9 (need u 10 (ok (placed false (number k) z eb))))
            → Answers (λ e'. Edited x M chain (k + 1) (fill gr (number k) y) e') (need t 9 (need u 10 (ok (placed false (number k) y e))) >>= λ e'. ok e')
            → Copies (suc k) (fill gr (number k) y) (fill blank (number k) z) (copy_node w (into + 1) n) (need t 9 (need u 10 (ok (placed false (number k) y e))))
        go true ht true hu a d =
            subst (λ (t : Left ℕ). Copies (suc k) (fill gr (number k) y) (fill blank (number k) z) t (ok (placed false (number k) y e)))
            (copy_made w v w' (into + 1) n (Words.name w n) (arity g n) p.is (record { 0 = number k }) refl (sym arity_is) refl refl a.0 refl)
            (refl, made ht hu a.1 (subst (λ (i : ℕ). Edited x M chain i (fill gr (number k) y) (placed false (number k) y e)) (omega arith) d))
        go true ht false hu a d = (ap (λ (t : Left ℕ). t.is) (sym (copy_refused w v (into + 1) n (Words.name w n) (arity g n) 10 p.is refl (sym arity_is) refl refl a)), omega arith)
        go false ht u hu a d = (ap (λ (t : Left ℕ). t.is) (sym (copy_refused w v (into + 1) n (Words.name w n) (arity g n) 9 p.is refl (sym arity_is) refl refl a)), omega arith)
