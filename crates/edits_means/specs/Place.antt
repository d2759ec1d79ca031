-- `insert_node`: a new node in the first vacant slot, with an entry in its net's list; "slot before entry", 9 before 10.
use Rattle.std.specs.Prelude.{ℕ, zero, suc, ◌+◌, ◌*◌, ◌<◌, ◌≤◌, Bool, length, get_or, set}
use Rattle.std.proofs.Math.Path.{◌≡◌, refl, ap, subst}
use Rattle.std.proofs.Common.{sym, ◌∙◌, length-set, get_or-set_same, get_or-set_other, ltb-true, ltb-false, lt-ltb, le-ltb, arith}
use Rattle.std.proofs.Math.Bool.{true, false}
use Rattle.std.proofs.Math.Option.{Option}
use mathlib.Core.List.{List, [], ◌∷◌}
use Rattle.std.proofs.Math.ListN.{drop}
use Rattle.std.proofs.Math.Dec.{ltb}
use Rattle.std.proofs.Math.Decide.{ℕ_discrete}
use Rattle.words.specs.Left.{Left}
use Rattle.layout.specs.Layout.{less}
use Rattle.graph.specs.Graph
use Rattle.pools.specs.Pools.{take_slot}
use Rattle.lists.specs.Lists.{push_node}
use Rattle.edits.specs.declared.Placed.{Placed}
use Rattle.edits.specs.declared.Placed.TheVariants.{At, Refused}
use Rattle.edits.specs.Edits
use Rattle.edits.specs.Edits.{place_node, insert_node}
use Rattle.edits.specs.Ways.{place_full, place_at, place_none, insert_at, insert_refused}
use Rattle.net_file.specs.Lists.{Result, ok, refuse, need, bit, count}
use Rattle.net_file.specs.Values.{Name}
use Rattle.definitions.specs.Lists.{◌>>=◌, is_some}
use Rattle.definitions.specs.Nets.{Node, filled}
use Rattle.definitions.specs.Scripts.{Insert, fill}
use Rattle.definitions.specs.State.{Net, Engine, graph_of, with_slots, with_graph, with_mark, with_list, with_nets, net_at, over_net, more, entries}
use Rattle.definitions.specs.Books.{push, is_dirty, fresh, push_dirty, mark_dirty, placed, add_node, edit}
use Rattle.script_laws.specs.Slots.{Holes, fill_same}
use Rattle.good_laws.specs.Edits.{insert_is}
use Rattle.means.specs.Means.{Header, Marks, Means}
use Rattle.means.specs.Frame.{with_chain}
use Rattle.graph_means.specs.Marks.{CanMark, mark_dirty_means}
use Rattle.pools_means.specs.Slots.{take_slot_means, take_slot_none}
use Rattle.lists_means.specs.Push.{push_node_full}
use Rattle.lists_means.proofs.Push.{push_node_means}
use Rattle.edits_means.specs.Fill.{fill_means}

-- node x can be put into slot n: a node of holes, at most 16, of one of the nets, with its name at a place of the file
pub record CanPlace (Named : ℕ → Name → Type 0) (e : Engine) (n : ℕ) (x : Node) (name : ℕ) : Type 0 where
  pub slot : n < e.pools.nodes
  pub clean : is_dirty e n ≡ false
  pub net : x.net < length e.nets
  pub named : Named name x.name
  pub most : length x.ports ≤ 16
  pub holes : Holes x
  pub capacity : (net_at e x.net).list.capacity < 2147483648

-- a clean slot's mark written as it is
clean_means : (Named : ℕ → Name → Type 0) (ws : List ℕ) (e : Engine) → Means Named ws e → (n : ℕ) → n < e.pools.nodes → is_dirty e n ≡ false
    → Means Named ws (with_mark n false e)
unfolding with_mark with_slots entries Rattle.definitions.specs.State.waits is_dirty
clean_means Named ws e m n h c = record {
  header = m.header;
  used = m.used;
  nodes = m.nodes;
  marks = record { sized = length-set e.slots.marks n false ∙ m.marks.sized; mark = λ j i. m.marks.mark j i ∙ ap bit (go j (ℕ_discrete j n)) };
  vacant = m.vacant;
  dirty = m.dirty;
  nets = m.nets;
  lists = m.lists;
  waits_are = m.waits_are;
}
  where
    go : (j : ℕ) → Dec (j ≡ n) → get_or e.slots.marks j false ≡ get_or (set e.slots.marks n false) j false
    go j (yes d) = let s = m.marks.sized in rw (d, get_or-set_same e.slots.marks n false false (omega arith)) c
    go j (no d) = sym (get_or-set_other e.slots.marks n j false false d)

module _ (Named : ℕ → Name → Type 0) (ws : List ℕ) (e : Engine) (m : Means Named ws e) (n : ℕ) (rest : List ℕ) (x : Node) (name : ℕ)
    (first : e.slots.chain ≡ n ∷ rest) (slot : n < e.pools.nodes) where
  -- the slot is taken
  taken : ((take_slot ws).is ≡ n + 1) × Means Named (take_slot ws).ws (with_chain rest e)
  taken = take_slot_means Named ws e m n rest first

  number_is : n ≡ less (take_slot ws).is
  number_is = let t = taken.0 in let b = m.header.few_nodes in omega arith

  -- a slot and an entry: the node is there, clean
  pub placed_means : entries e < e.pools.entries → CanPlace Named e n x name
      → ((place_node ws (x.net + 1) name (length x.ports)).is ≡ At (record { 0 = n })) × Means Named (place_node ws (x.net + 1) name (length x.ports)).ws (placed false n x e)
  unfolding with_chain with_slots with_graph with_mark with_nets over_net net_at entries placed is_dirty
  placed_means room c =
      let w1 = (take_slot ws).ws in
      let e1 = with_chain rest e in
      let t = taken.0 in
      let p = push_node_means Named w1 e1 taken.1 x.net n c.net room c.capacity in
      let w2 = (push_node w1 (x.net + 1) n).ws in
      let e2 = over_net (λ (k : Net). with_list (push n k.list) k) x.net e1 in
      let w3 = Edits.fill w2 n (x.net + 1) name (length x.ports) in
      let e3 = with_graph (fill (graph_of e) n x) e2 in
      let m3 : Means Named w3 e3 = fill_means Named w2 e2 p.1 n x.net name (length x.ports) x c.slot refl c.named refl c.most c.holes in
      let m4 : Means Named w3 (with_mark n false e3) = clean_means Named w3 e3 m3 n c.slot c.clean in
      let er : drop 1 e.slots.chain ≡ rest = ap (λ (l : List ℕ). drop 1 l) first in
      let is : ◌≡◌ {A = Left Placed} (record { is = At (record { 0 = n }); ws = w3 }) (place_node ws (x.net + 1) name (length x.ports))
      = place_at ws w1 w2 w3 (x.net + 1) name (length x.ports) (take_slot ws).is n true refl refl (omega arith) number_is (sym p.0) refl refl refl in
      subst (λ (l : Left Placed). (l.is ≡ At (record { 0 = n })) × Means Named l.ws (placed false n x e)) is (refl, rw er m4)

  -- a slot, but no entry
  pub placed_full : e.pools.entries ≤ entries e → x.net < length e.nets
      → ((place_node ws (x.net + 1) name (length x.ports)).is ≡ Refused 10) × Means Named (place_node ws (x.net + 1) name (length x.ports)).ws (with_chain rest e)
  unfolding with_chain with_slots entries
  placed_full full h =
      let w1 = (take_slot ws).ws in
      let e1 = with_chain rest e in
      let t = taken.0 in
      let p = push_node_full Named w1 e1 taken.1 x.net n h full in
      let is : ◌≡◌ {A = Left Placed} (record { is = Refused 10; ws = w1 }) (place_node ws (x.net + 1) name (length x.ports))
      = place_none ws w1 w1 (x.net + 1) name (length x.ports) (take_slot ws).is n false refl refl (omega arith) number_is (sym p.0) (sym p.1) refl in
      subst (λ (l : Left Placed). (l.is ≡ Refused 10) × Means Named l.ws (with_chain rest e)) is (refl, taken.1)

-- what became of node n on the words is what level Engine says: the words mean its engine, or the number of refusal is the same
abbrev pub Agrees : (ℕ → Name → Type 0) → ℕ → Left Placed → Result Engine → Type 0
Agrees Named n l (ok e) = (l.is ≡ At (record { 0 = n })) × Means Named l.ws e
Agrees Named n l (refuse r) = l.is ≡ Refused r

-- a new node can be marked, where it is placed
abbrev pub CanInsert : Engine → ℕ → Node → Type 0
CanInsert e n x = CanMark (placed false n x e) n

module _ (Named : ℕ → Name → Type 0) (ws : List ℕ) (e : Engine) (m : Means Named ws e) (n : ℕ) (x : Node) (name : ℕ)
    (all : length e.slots.chain + count is_some (graph_of e) ≡ e.pools.nodes) (is : n ≡ fresh e 0) (can : 0 < length e.slots.chain → CanPlace Named e n x name)
    (mark : 0 < length e.slots.chain → CanInsert e n x) where
  pub there : filled (graph_of (placed false n x e)) n ≡ true
  unfolding placed over_net with_nets with_slots filled
  there = ap (λ (o : Option Node). is_some o) (fill_same (graph_of e) n x)
