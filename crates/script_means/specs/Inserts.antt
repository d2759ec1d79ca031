-- A new node that fits leads to the next stage, or is refused as level Engine says.
use Rattle.std.specs.Prelude.{ℕ, suc, ◌+◌, ◌-◌, ◌<◌, ◌≤◌, ◌≡◌, drop}
use Rattle.std.proofs.Math.Path.{refl, ap}
use Rattle.std.proofs.Common.{sym, ◌∙◌, subst, length-drop, drop-cons, arith}
use Rattle.std.proofs.Math.Bool.{false}
use Rattle.std.proofs.Math.Option.{Option, none}
use mathlib.Core.List.{List, [], ◌∷◌}
use Rattle.std.proofs.Math.ListN.{length, get_or}
use Rattle.std.proofs.Math.Dec.{ltb}
use borrow.Author.Tests.{le-ltb}
use Rattle.std.proofs.Math.Decide.{dec_lt}
use Rattle.words.specs.Left.{Left}
use Rattle.edits.specs.declared.Placed.{Placed}
use Rattle.edits.specs.declared.Placed.TheVariants.{At, Refused}
use Rattle.edits.specs.Edits.{insert_node}
use Rattle.net_file.specs.Lists.{Result, ok, refuse, count}
use Rattle.net_file.specs.Values.{Name}
use Rattle.definitions.specs.Lists.{◌>>=◌, or_else, is_some}
use Rattle.definitions.specs.Nets.{Port, Node, Graph, port, nowhere, at, arity}
use Rattle.definitions.specs.Scripts.{Insert, fill, apply}
use Rattle.definitions.specs.State.{Engine, graph_of, with_slots, with_nets, with_list, net_at, over_net}
use Rattle.definitions.specs.Books.{push, is_dirty, fresh, placed, add_node, edit}
use Rattle.good_laws.specs.Owners.{owners, count_owners}
use Rattle.good_laws.specs.Good.{Slotted, Good}
use Rattle.good_laws.specs.Nets.{over_length, over_part, part_at}
use Rattle.good_laws.specs.Places.{place_low, place_clean}
use Rattle.good_laws.specs.Edits.{Edited, Answers, edits_good}
use Rattle.join_laws.specs.Ports.{Frame, no_frame, arity_frame, Real}
use Rattle.script_laws.specs.Slots.{fill_same, frame_fill_same}
use Rattle.script_laws.specs.Safe.{CanInsert}
use Rattle.means.specs.Means.{no_net}
use Rattle.means.specs.Frame.{real_inside}
use Rattle.graph_means.specs.Marks.{CanMark}
use Rattle.good_means.specs.Room.{listed_room, pending_bound}
use Rattle.edits_means.specs.Place.{CanPlace, Agrees}
use Rattle.edits_means.proofs.Place.{insert_node_means}
use Rattle.script_means.specs.Dead.{dead_keep}
use Rattle.script_means.specs.Stays.{insert_node_stays}
use Rattle.script_means.specs.Stage.{Stage, wired_next}

-- what stands first in the chain is taken next
module _ (Named : ℕ → Name → Type 0) (x : ℕ → ℕ) (e : Engine) (few : e.pools.nodes ≤ 4096) (few_waits : e.pools.waits ≤ 4096) (small : (k : ℕ) → x k ≤ 4294900000) (good : Good x e)
    (n : ℕ) (rest : List ℕ) (first : e.slots.chain ≡ n ∷ rest) (y : Node) (below : y.net < length e.nets) where
  slots : Slotted e.pools.nodes (length e.nets) (owners (graph_of e)) e.slots.marks (n ∷ rest)
  slots = rw first at good.slotted

  -- it can hold the new node
  can_place : (name : ℕ) → Named name y.name → length y.ports ≤ 16 → ((i : ℕ) → get_or y.ports i none ≡ none) → CanPlace Named e n y name
  unfolding is_dirty
  can_place name named most holes = record {
    slot = place_low _ _ _ _ n rest slots y.net below;
    clean = place_clean _ _ _ _ n rest slots y.net below;
    net = below;
    named = named;
    most = most;
    holes = holes;
    capacity = let b = listed_room e.pools.nodes _ (net_at e y.net).list (good.lists y.net below) in omega arith;
  }

  -- the new node can be marked
  can_insert : CanMark (placed false n y e) n
  unfolding placed over_net with_nets with_slots with_list at net_at
  can_insert =
      let is : or_else (get_or (fill (graph_of e) n y) n none) nowhere ≡ y = ap (λ (o : Option Node). or_else o nowhere) (fill_same (graph_of e) n y) in
      let long = over_length (λ t. with_list (push n t.list) t) y.net e in
      let b = listed_room e.pools.nodes _ e.dirty good.dirty in
      let p : (get_or (placed false n y e).nets y.net no_net).pending ≡ (net_at e y.net).pending
      = part_at (λ t. t.pending) e (placed false n y e) (over_part (λ t. t.pending) (λ t. with_list (push n t.list) t) y.net e (λ t. refl)) y.net in
      let q = pending_bound e few few_waits x good y.net below in
      let z = small y.net in
      record {
        net = rw is (omega arith);
        room = λ _. b.0;
        capacity = omega arith;
        pending = rw is (omega arith);
      }

-- what became of the k-th new node: the next stage, or the number of refusal that level Engine gives
abbrev pub Inserts : (ℕ → Name → Type 0) → (ℕ → ℕ) → ℕ → List ℕ → List ℕ → ℕ → Graph → ℕ → Node → Left Placed → Result Engine → Type 0
Inserts Named x M chain l k g n y p (ok e) = (p.is ≡ At (record { 0 = n })) × Stage Named x M chain l (suc k) (fill g n y) p.ws e × (n < 4096)
Inserts Named x M chain l k g n y p (refuse r) = p.is ≡ Refused r

module _ (Named : ℕ → Name → Type 0) (x : ℕ → ℕ) (small : (k : ℕ) → x k ≤ 4294900000) (M : ℕ) (chain : List ℕ) (default : ℕ → ℕ) (l : List ℕ) (k : ℕ) (g : Graph)
    (ws : List ℕ) (e : Engine) (s : Stage Named x M chain l k g ws e) (F : Port → Type 0) (n : ℕ) (y : Node) (name : ℕ)
    (f : CanInsert F g n y) (is : n ≡ get_or chain k (default k)) (below : y.net < M) (named : Named name y.name) (most : length y.ports ≤ 16) where
  new : Left Placed
  new = insert_node ws (y.net + 1) name (length y.ports)

  all : length e.slots.chain + count is_some (graph_of e) ≡ e.pools.nodes
  all = let a = s.edited.good.slotted.all in let c = count_owners (graph_of e) in omega arith

  -- a slot is left: it is the one that the script names
  next_slot : 0 < length e.slots.chain → e.slots.chain ≡ n ∷ drop (suc k) chain
  next_slot h =
      let p : length e.slots.chain ≡ length (drop k chain) = ap (λ (c : List ℕ). length c) s.edited.left in
      let q = length-drop k chain in
      s.edited.left ∙ drop-cons chain k (default k) (omega arith) ∙ ap (λ (i : ℕ). i ∷ drop (suc k) chain) (sym is)

  agrees_some : 0 < length e.slots.chain → Agrees Named n new (edit (Insert n y) e)
  unfolding new fresh
  agrees_some h =
      let c = next_slot h in
      let b = s.edited.nets in
      let m = s.means.header in
      insert_node_means Named ws e s.means n y name all (ap (λ (c : List ℕ). get_or c 0 (length (graph_of e) + 0)) (sym c))
      (λ _. can_place Named x e m.few_nodes m.few_waits small s.edited.good n _ c y (omega arith) name named most f.holes)
      (λ _. can_insert Named x e m.few_nodes m.few_waits small s.edited.good n _ c y (omega arith))

  -- none is left: 9, whatever slot is named
  agrees_none : length e.slots.chain ≡ 0 → Agrees Named n new (edit (Insert n y) e)
  unfolding new edit add_node
  agrees_none h =
      let full : ltb (count is_some (graph_of e)) e.pools.nodes ≡ false = le-ltb (count is_some (graph_of e)) e.pools.nodes (let a = all in omega arith) in
      let a = insert_node_means Named ws e s.means (fresh e 0) y name all refl (λ z. absurd (omega arith)) (λ z. absurd (omega arith)) in
      rw full (rw full at a)

  agrees : Agrees Named n new (edit (Insert n y) e)
  agrees = go (dec_lt 0 (length e.slots.chain))
    where
      go : Dec (0 < length e.slots.chain) → Agrees Named n new (edit (Insert n y) e)
      go (yes h) = agrees_some h
      go (no h) = agrees_none (omega arith)

  -- a node is put in, or refused by 9 or 10
  pub stage_insert : Inserts Named x M chain l k g n y (insert_node ws (y.net + 1) name (length y.ports)) (edit (Insert n y) e)
  unfolding new apply
  stage_insert = go (edit (Insert n y) e) agrees (edits_good x M chain default (Insert n y ∷ []) k g e s.edited (is, below, tt))
    where
      size : arity (fill g n y) n ≡ length y.ports
      size = arity_frame (fill g n y) n ∙ ap (λ (o : Option Frame). (or_else o no_frame).size) (frame_fill_same g n y)

      go : (r : Result Engine) → Agrees Named n new r → Answers (λ e'. Edited x M chain (k + 1) (fill g n y) e') (r >>= λ e'. ok e')
          → Inserts Named x M chain l k g n y new r
      go (ok e') a d =
          let real : Real (graph_of e') (port n 0) = rw (d.nodes, size) f.some_port in
          let few = a.1.header.few_nodes in
          let low = real_inside a.1.nodes (port n 0) real in (
            a.0,
            record {
              means = a.1;
              edited = subst (λ (i : ℕ). Edited x M chain i (fill g n y) e') (omega arith) d;
              wired = wired_next F (λ _. ⊥) g (Insert n y) s.wired f;
              dead = dead_keep (insert_node_stays ws (y.net + 1) name (length y.ports)).same s.dead;
            },
            omega arith,
          )
      go (refuse r) a d = a
