-- `insert_node`: a new node in the first vacant slot, with an entry in its net's list; "slot before entry", 9 before 10.
use Rattle.std.specs.Prelude.{ℕ, zero, suc, ◌+◌, ◌*◌, ◌<◌, ◌≤◌, Bool, length, get_or, set}
use Rattle.std.proofs.Math.Path.{◌≡◌, refl, ap, subst}
use Rattle.std.proofs.Common.{sym, ◌∙◌, length-set, get_or-set_same, get_or-set_other, ltb-true, ltb-false, lt-ltb, le-ltb, arith}
use Rattle.std.proofs.Math.Bool.{true, false}
use Rattle.std.proofs.Math.Option.{Option}
use mathlib.Core.List.{List, [], ◌∷◌}
use Rattle.std.proofs.Math.ListN.{drop}
use Rattle.std.proofs.Math.Dec.{ltb}
use Rattle.std.proofs.Math.Decide.{ℕ_discrete}
use Rattle.words.specs.Left.{Left}
use Rattle.layout.specs.Layout.{less}
use Rattle.graph.specs.Graph
use Rattle.pools.specs.Pools.{take_slot}
use Rattle.lists.specs.Lists.{push_node}
use Rattle.edits.specs.declared.Placed.{Placed}
use Rattle.edits.specs.declared.Placed.TheVariants.{At, Refused}
use Rattle.edits.specs.Edits
use Rattle.edits.specs.Edits.{place_node, insert_node}
use Rattle.edits.specs.Ways.{place_full, place_at, place_none, insert_at, insert_refused}
use Rattle.net_file.specs.Lists.{Result, ok, refuse, need, bit, count}
use Rattle.net_file.specs.Values.{Name}
use Rattle.definitions.specs.Lists.{◌>>=◌, is_some}
use Rattle.definitions.specs.Nets.{Node, filled}
use Rattle.definitions.specs.Scripts.{Insert, fill}
use Rattle.definitions.specs.State.{Net, Engine, graph_of, with_slots, with_graph, with_mark, with_list, with_nets, net_at, over_net, more, entries}
use Rattle.definitions.specs.Books.{push, is_dirty, fresh, push_dirty, mark_dirty, placed, add_node, edit}
use Rattle.script_laws.specs.Slots.{Holes, fill_same}
use Rattle.good_laws.specs.Edits.{insert_is}
use Rattle.means.specs.Means.{Header, Marks, Means}
use Rattle.means.specs.Frame.{with_chain}
use Rattle.graph_means.specs.Marks.{CanMark, mark_dirty_means}
use Rattle.pools_means.specs.Slots.{take_slot_means, take_slot_none}
use Rattle.lists_means.specs.Push.{push_node_full}
use Rattle.lists_means.proofs.Push.{push_node_means}
use Rattle.edits_means.specs.Fill.{fill_means}
use Rattle.edits_means.specs.Place.{CanPlace, placed_means, placed_full, Agrees, CanInsert, there}

module _ (Named : ℕ → Name → Type 0) (ws : List ℕ) (e : Engine) (m : Means Named ws e) (n : ℕ) (x : Node) (name : ℕ)
    (all : length e.slots.chain + count is_some (graph_of e) ≡ e.pools.nodes) (is : n ≡ fresh e 0) (can : 0 < length e.slots.chain → CanPlace Named e n x name) where
  -- a clean node
  pub place_node_means : Agrees Named n (place_node ws (x.net + 1) name (length x.ports)) (add_node false n x e)
  unfolding add_node fresh
  place_node_means = go e.slots.chain refl
    where
      entry : (rest : List ℕ) → e.slots.chain ≡ n ∷ rest → (t : Bool) → ltb (entries e) e.pools.entries ≡ t
          → Agrees Named n (place_node ws (x.net + 1) name (length x.ports)) (need t 10 (ok (placed false n x e)))
      entry rest c true d =
          let k = can (rw c (omega arith)) in
          placed_means Named ws e m n rest x name c k.slot (ltb-true _ _ d) k
      entry rest c false d =
          let k = can (rw c (omega arith)) in
          (placed_full Named ws e m n rest x name c k.slot (ltb-false _ _ d) k.net).0

      go : (l : List ℕ) → e.slots.chain ≡ l
          → Agrees Named n (place_node ws (x.net + 1) name (length x.ports))
          (need (ltb (count is_some (graph_of e)) e.pools.nodes) 9 (need (ltb (entries e) e.pools.entries) 10 (ok (placed false n x e))))
      go [] c =
          let z : length e.slots.chain ≡ 0 = ap (λ (l : List ℕ). length l) c in
          let no_room : ltb (count is_some (graph_of e)) e.pools.nodes ≡ false = le-ltb (count is_some (graph_of e)) e.pools.nodes (omega arith) in
          let t = take_slot_none Named ws e m c in
          let none : ◌≡◌ {A = Left Placed} (record { is = Refused 9; ws = (take_slot ws).ws }) (place_node ws (x.net + 1) name (length x.ports))
          = place_full ws (take_slot ws).ws (x.net + 1) name (length x.ports) (take_slot ws).is refl refl t.0 in
          rw no_room (ap (λ (l : Left Placed). l.is) (sym none))
      go (f ∷ rest) c =
          let z : length e.slots.chain ≡ suc (length rest) = ap (λ (l : List ℕ). length l) c in
          let en : n ≡ f = is ∙ ap (λ (l : List ℕ). get_or l 0 (length (graph_of e) + 0)) c in
          let room : ltb (count is_some (graph_of e)) e.pools.nodes ≡ true = lt-ltb (count is_some (graph_of e)) e.pools.nodes (omega arith) in
          rw room (entry rest (c ∙ ap (λ (j : ℕ). j ∷ rest) (sym en)) (ltb (entries e) e.pools.entries) refl)

module _ (Named : ℕ → Name → Type 0) (ws : List ℕ) (e : Engine) (m : Means Named ws e) (n : ℕ) (x : Node) (name : ℕ)
    (all : length e.slots.chain + count is_some (graph_of e) ≡ e.pools.nodes) (is : n ≡ fresh e 0) (can : 0 < length e.slots.chain → CanPlace Named e n x name)
    (mark : 0 < length e.slots.chain → CanInsert e n x) where
  -- a node that a rule makes starts dirty
  pub insert_node_means : Agrees Named n (insert_node ws (x.net + 1) name (length x.ports)) (edit (Insert n x) e)
  unfolding edit add_node
  insert_node_means =
      go (ltb (count is_some (graph_of e)) e.pools.nodes) (ltb (entries e) e.pools.entries) refl (place_node_means Named ws e m n x name all is can)
    where
      p : Left Placed
      p = place_node ws (x.net + 1) name (length x.ports)

      refused : (r : ℕ) → p.is ≡ Refused r → (insert_node ws (x.net + 1) name (length x.ports)).is ≡ Refused r
      refused r a = ap (λ (l : Left Placed). l.is) (sym (insert_refused ws p.ws (x.net + 1) name (length x.ports) r p.is refl refl a))

      go : (t u : Bool) → ltb (count is_some (graph_of e)) e.pools.nodes ≡ t → Agrees Named n p (need t 9 (need u 10 (ok (placed false n x e))))
          → Agrees Named n (insert_node ws (x.net + 1) name (length x.ports)) (need t 9 (need u 10 (ok (placed true n x e))) >>= (λ e'. ok (more x.net (push_dirty n e'))))
      go true true d a =
          let c = ltb-true (count is_some (graph_of e)) e.pools.nodes d in
          let s = m.marks.sized in
          let k = (can (omega arith)).slot in
          let i = insert_is n x e (omega arith) in
          let w = Graph.mark_dirty_words p.ws n in
          let done : Means Named w (mark_dirty n (placed false n x e)) = mark_dirty_means Named p.ws (placed false n x e) a.1 n (there Named ws e m n x name all is can mark) (mark (omega arith)) in
          let at : ◌≡◌ {A = Left Placed} (record { is = At (record { 0 = n }); ws = w }) (insert_node ws (x.net + 1) name (length x.ports))
          = insert_at ws p.ws w (x.net + 1) name (length x.ports) (record { 0 = n }) p.is refl refl a.0 refl in
          subst (λ (l : Left Placed). (l.is ≡ At (record { 0 = n })) × Means Named l.ws (more x.net (push_dirty n (placed true n x e)))) at (refl, rw i done)
      go true false d a = refused 10 a
      go false u d a = refused 9 a
