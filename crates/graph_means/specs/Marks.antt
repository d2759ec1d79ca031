-- Pending numbers, the dirty list and the marks: each step on the words is the step of level Engine.
use Rattle.std.specs.Prelude.{ℕ, zero, suc, ◌+◌, ◌*◌, ◌-◌, ◌/◌, ◌%◌, ◌<◌, ◌≤◌, ◌≢◌, Bool, cond, eqb}
use Rattle.std.proofs.Math.Path.{◌≡◌, refl, sym, ap, subst}
use Rattle.std.proofs.Common.{◌∙◌, true≢false, arith}
use Rattle.std.proofs.Math.Bool.{true, false}
use Rattle.std.proofs.lemmas.Bool.{false≢true}
use Rattle.std.proofs.Math.Option.{Option, none, some, some-injective}
use mathlib.Core.List.{List, [], ◌∷◌, ◌++◌}
use Rattle.std.proofs.Math.ListN.{length, get_or, set, length-set, length-append, get_or-append}
use Rattle.std.proofs.Math.Seq.{get_or-set_same, get_or-set_other, get_or-append_seam}
use Rattle.std.proofs.Math.Decide.{dec_lt, ℕ_discrete}
use Rattle.words.specs.Choose.{pick, if_eq, eq_yes, eq_no}
use Rattle.layout.specs.Layout.{next, less, dirty_at, dirty_length, dirty_capacity, net_word_words, net_at_words, node_word, node_at, set_net_word}
use Rattle.graph.specs.Graph
use Rattle.net_file.specs.Lists.{bit}
use Rattle.net_file.specs.Values.{Name}
use Rattle.definitions.specs.Lists.{is_some, or_else}
use Rattle.definitions.specs.Nets.{Node, nowhere, at, filled}
use Rattle.definitions.specs.State
use Rattle.definitions.specs.State.{Ids, Net, Engine, graph_of, with_slots, with_mark, with_dirty, with_pending, net_at, over_net}
use Rattle.definitions.specs.Books
use Rattle.definitions.specs.Books.{push, is_dirty, push_dirty, mark_dirty}
use Rattle.join_laws.specs.Ports.{frame, frame_of, filled_frame}
use Rattle.script_laws.specs.Slots.{frame_slot}
use Rattle.means.specs.Means.{Header, SlotIs, Nodes, Marks, Dirty, NetIs, Means}
use Rattle.means.specs.Frame.{Rest, rest_set, rest_trans, OutNet, OutMarks, OutDirty, means_mark, means_dirty}
use Rattle.means.proofs.Frame.{means_own}

module _ (Named : ℕ → Name → Type 0) (ws : List ℕ) (e : Engine) (m : Means Named ws e) where
  -- net k's pending number is v
  pub pending_means : (k v : ℕ) → k < length e.nets → Means Named (set_net_word ws (k + 1) 7 v) (over_net (with_pending v) k e)
  unfolding with_pending net_at
  pending_means k v h =
      let n = m.nets k h in
      let g = m.header.long in
      let b = m.header.few_nets in
      means_own Named ws (set_net_word ws (k + 1) 7 v) e m (with_pending v) k h
      (rest_set (OutNet k) ws (net_at_words (k + 1) 7) v (λ i o d. o (omega arith)))
      (record {
        name = get_or-set_other ws (net_at_words (k + 1) 7) (net_at_words (k + 1) 0) v 0 (omega arith) ∙ n.name;
        free = get_or-set_other ws (net_at_words (k + 1) 7) (net_at_words (k + 1) 1) v 0 (omega arith) ∙ n.free;
        length_is = get_or-set_other ws (net_at_words (k + 1) 7) (net_at_words (k + 1) 4) v 0 (omega arith) ∙ n.length_is;
        capacity_is = get_or-set_other ws (net_at_words (k + 1) 7) (net_at_words (k + 1) 5) v 0 (omega arith) ∙ n.capacity_is;
        stale_is = get_or-set_other ws (net_at_words (k + 1) 7) (net_at_words (k + 1) 6) v 0 (omega arith) ∙ n.stale_is;
        pending_is = get_or-set_same ws (net_at_words (k + 1) 7) v 0 (omega arith);
      }) refl refl

  -- net k has one more pending
  pub more_means : (k : ℕ) → k < length e.nets → (net_at e k).pending < 4294967295 → Means Named (Graph.more ws (k + 1)) (State.more k e)
  unfolding Graph.more State.more over_net net_at
  more_means k h b =
      let p = (m.nets k h).pending_is in
      subst (λ (v : ℕ). Means Named (set_net_word ws (k + 1) 7 (next (net_word_words ws (k + 1) 7))) (over_net (with_pending v) k e)) (omega arith)
      (pending_means k (next (net_word_words ws (k + 1) 7)) h)

  -- and one less
  pub fewer_means : (k : ℕ) → k < length e.nets → 0 < (net_at e k).pending → (net_at e k).pending < 4294967296 → Means Named (Graph.fewer ws (k + 1)) (State.fewer k e)
  unfolding Graph.fewer State.fewer over_net net_at
  fewer_means k h z b =
      let p = (m.nets k h).pending_is in
      subst (λ (v : ℕ). Means Named (set_net_word ws (k + 1) 7 (less (net_word_words ws (k + 1) 7))) (over_net (with_pending v) k e)) (omega arith)
      (pending_means k (less (net_word_words ws (k + 1) 7)) h)

-- a capacity grows alike
pub grown_means : (c l : ℕ) → c < 2147483648 → Graph.grown c l ≡ Books.grown c l
unfolding Graph.grown Books.grown if_eq pick
grown_means c l b = go (eqb l c) (eqb c 0)
  where
    go : (x y : Bool) → pick x (pick y 4 ((c + c) % 4294967296)) c ≡ cond x (cond y 4 (2 * c)) c
    go true true = refl
    go true false = omega arith
    go false y = refl

-- after a word and the two words that say how many: another word, and the word itself
other : (ws : List ℕ) (j v c k i : ℕ) → i ≢ j → i ≢ 15 → i ≢ 14 → get_or (set (set (set ws j v) 15 c) 14 k) i 0 ≡ get_or ws i 0
other ws j v c k i x y z = get_or-set_other (set (set ws j v) 15 c) 14 i k 0 z ∙ get_or-set_other (set ws j v) 15 i c 0 y ∙ get_or-set_other ws j i v 0 x

there : (ws : List ℕ) (j v c k : ℕ) → 15 < j → j < length ws → get_or (set (set (set ws j v) 15 c) 14 k) j 0 ≡ v
there ws j v c k x l =
    get_or-set_other (set (set ws j v) 15 c) 14 j k 0 (omega arith) ∙ get_or-set_other (set ws j v) 15 j c 0 (omega arith) ∙ get_or-set_same ws j v 0 l

module _ (Named : ℕ → Name → Type 0) (ws : List ℕ) (e : Engine) (m : Means Named ws e) where
  -- an entry in the dirty list
  pub push_dirty_means : (n : ℕ) → length e.dirty.items < 4 * e.pools.nodes + 4 → e.dirty.capacity < 2147483648
      → Means Named (Graph.push_dirty ws n) (push_dirty n e)
  unfolding Graph.push_dirty push_dirty push
  push_dirty_means n room small =
      let d = m.dirty in
      let k = length e.dirty.items in
      let long = m.header.long in
      let few = m.header.few_nodes in
      let ek : dirty_length ws ≡ k = d.length_is in
      let c = Graph.grown (dirty_capacity ws) (dirty_length ws) in
      let w1 = set ws (dirty_at (dirty_length ws)) n in
      let w2 = set w1 15 c in
      let w = set w2 14 (next (dirty_length ws)) in
      let l1 : length w1 ≡ length ws = length-set ws (dirty_at (dirty_length ws)) n in
      let l2 : length w2 ≡ length w1 = length-set w1 15 c in
      means_dirty Named ws w e m (push n e.dirty)
      (rest_trans (rest_trans (rest_set (OutDirty e.pools.nodes) ws (dirty_at (dirty_length ws)) n (λ i o x. o.1 (omega arith)))
      (rest_set _ w1 15 c (λ i o x. o.0 (omega arith)))) (rest_set _ w2 14 _ (λ i o x. o.0 (omega arith))))
      (record {
        room = let s = length-append e.dirty.items (n ∷ []) in omega arith;
        length_is = get_or-set_same w2 14 _ 0 (omega arith) ∙ (let s = length-append e.dirty.items (n ∷ []) in omega arith);
        capacity_is = get_or-set_other w2 14 15 _ 0 (omega arith) ∙ get_or-set_same w1 15 c 0 (omega arith)
            ∙ rw (ek, d.capacity_is) (grown_means e.dirty.capacity k small);
        stale_is = other ws (dirty_at (dirty_length ws)) n c (next (dirty_length ws)) 16 (omega arith) (omega arith) (omega arith) ∙ d.stale_is;
        item = λ j h. go j (let s = length-append e.dirty.items (n ∷ []) in omega arith) (ℕ_discrete j k);
      })
    where
      go : (j : ℕ) → j < length e.dirty.items + 1 → Dec (j ≡ length e.dirty.items)
          → get_or (set (set (set ws (dirty_at (dirty_length ws)) n) 15 (Graph.grown (dirty_capacity ws) (dirty_length ws))) 14 (next (dirty_length ws))) (dirty_at j) 0
          ≡ get_or (e.dirty.items ++ n ∷ []) j 0
      go j h (yes i) =
          let ek = m.dirty.length_is in
          let long = m.header.long in
          let ej : j ≡ dirty_length ws = i ∙ sym ek in
          let seam : get_or (e.dirty.items ++ n ∷ []) j 0 ≡ n = rw i (get_or-append_seam e.dirty.items n [] 0) in
          rw (seam, ej) (there ws (dirty_at (dirty_length ws)) n (Graph.grown (dirty_capacity ws) (dirty_length ws)) (next (dirty_length ws)) (omega arith) (omega arith))
      go j h (no i) =
          let ek = m.dirty.length_is in
          other ws (dirty_at (dirty_length ws)) n (Graph.grown (dirty_capacity ws) (dirty_length ws)) (next (dirty_length ws)) (dirty_at j) (omega arith) (omega arith) (omega arith)
          ∙ m.dirty.item j (omega arith) ∙ sym (get_or-append e.dirty.items (n ∷ []) 0 j (omega arith))

  -- a mark
  pub mark_means : (n v : ℕ) (b : Bool) → n < e.pools.nodes → v ≡ bit b → Means Named (set ws (node_at n 2) v) (with_mark n b e)
  mark_means n v b h ev =
      let long = m.header.long in
      let s = m.marks.sized in
      means_mark Named ws (set ws (node_at n 2) v) e m n b (rest_set (OutMarks e.pools.nodes) ws (node_at n 2) v (λ i o x. o (omega arith)))
      (record {
        sized = length-set e.slots.marks n b ∙ s;
        mark = λ j i. go j i (ℕ_discrete j n);
      })
    where
      go : (j : ℕ) → j < e.pools.nodes → Dec (j ≡ n) → get_or (set ws (node_at n 2) v) (node_at j 2) 0 ≡ bit (get_or (set e.slots.marks n b) j false)
      go j i (yes d) =
          let long = m.header.long in
          let s = m.marks.sized in
          rw (d, get_or-set_same ws (node_at n 2) v 0 (omega arith), get_or-set_same e.slots.marks n b false (omega arith)) ev
      go j i (no d) =
          get_or-set_other ws (node_at n 2) (node_at j 2) v 0 (omega arith) ∙ m.marks.mark j i
          ∙ ap bit (sym (get_or-set_other e.slots.marks n j b false d))

-- node n can be marked: its net is one of the nets, and the books have room for one more dirty node
pub record CanMark (e : Engine) (n : ℕ) : Type 0 where
  pub net : (at (graph_of e) n).net < length e.nets
  pub room : is_dirty e n ≡ false → length e.dirty.items < 4 * e.pools.nodes + 4
  pub capacity : e.dirty.capacity < 2147483648
  pub pending : (net_at e (at (graph_of e) n).net).pending < 4294967295

-- the node of a number that one has
there_is : (o : Option Node) → is_some o ≡ true → o ≡ some (or_else o nowhere)
there_is none h = absurd (false≢true h)
there_is (some x) h = refl

module _ (Named : ℕ → Name → Type 0) (ws : List ℕ) (e : Engine) (m : Means Named ws e) (n : ℕ) (h : filled (graph_of e) n ≡ true) (c : CanMark e n) where
  is : get_or (graph_of e) n none ≡ some (at (graph_of e) n)
  unfolding at filled
  is = there_is (get_or (graph_of e) n none) h

  pub inside : n < e.pools.nodes
  inside = go (dec_lt n e.pools.nodes)
    where
      go : Dec (n < e.pools.nodes) → n < e.pools.nodes
      go (yes i) = i
      go (no i) =
          let f : frame (graph_of e) n ≡ none = m.nodes.inside n (omega arith) in
          absurd (true≢false (sym h ∙ filled_frame (graph_of e) n ∙ ap is_some f))

  -- the net that a slot's word says
  slot : (w : List ℕ) (d : Engine) → graph_of d ≡ graph_of e → d.pools ≡ e.pools → Means Named w d → node_word w n 0 ≡ (at (graph_of e) n).net + 1
  slot w d g p k =
      let s : SlotIs Named w n (frame (graph_of d) n) = k.nodes.slot n (rw p inside) in
      let f : frame (graph_of d) n ≡ frame_of (some (at (graph_of e) n)) = rw g (frame_slot (graph_of e) n (at (graph_of e) n) is) in
      (rw f at s).0

  -- the mark that a slot's word says
  mark_is : (b : Bool) → is_dirty e n ≡ b → node_word ws n 2 ≡ bit b
  unfolding is_dirty
  mark_is b d = m.marks.mark n inside ∙ ap bit d

  marked_means : is_dirty e n ≡ false → Means Named (Graph.marked ws n) (State.more (at (graph_of e) n).net (push_dirty n (with_mark n true e)))
  unfolding Graph.marked push_dirty with_dirty with_mark with_slots net_at
  marked_means clean =
      let w1 = set ws (node_at n 2) 1 in
      let w = Graph.push_dirty w1 n in
      let e1 = with_mark n true e in
      let e2 = push_dirty n e1 in
      let m1 : Means Named w1 e1 = mark_means Named ws e m n 1 true inside refl in
      let m2 : Means Named w e2 = push_dirty_means Named w1 e1 m1 n (c.room clean) c.capacity in
      let t : node_word w n 0 ≡ (at (graph_of e) n).net + 1 = slot w e2 refl refl m2 in
      rw t (more_means Named w e2 m2 (at (graph_of e) n).net c.net c.pending)

  -- a clean node becomes dirty
  pub mark_dirty_means : Means Named (Graph.mark_dirty_words ws n) (mark_dirty n e)
  unfolding Graph.mark_dirty_words mark_dirty
  mark_dirty_means = go (get_or (graph_of e) n none) is (is_dirty e n) refl
    where
      go : (o : Option Node) → o ≡ some (at (graph_of e) n) → (b : Bool) → is_dirty e n ≡ b → Means Named (if_eq (node_word ws n 2) 0 (Graph.marked ws n) ws)
          (elim o as (λ _. Engine) [ none ↦ e | some y ↦ elim b as (λ _. Engine) [ true ↦ e | false ↦ State.more y.net (push_dirty n (with_mark n true e)) ] ])
      go none i b d = absurd (let z : ◌≡◌ {A = ℕ} 0 1 = cc in omega arith)
      go (some y) i true d =
          let b : node_word ws n 2 ≡ 1 = mark_is true d in
          subst (λ (w : List ℕ). Means Named w e) (eq_no (node_word ws n 2) 0 (Graph.marked ws n) ws (omega arith) refl) m
      go (some y) i false d =
          let b : node_word ws n 2 ≡ 0 = mark_is false d in
          let k : (at (graph_of e) n).net ≡ y.net = ap (λ (z : Node). z.net) (sym (some-injective y (at (graph_of e) n) i)) in
          subst (λ (w : List ℕ). Means Named w (State.more y.net (push_dirty n (with_mark n true e)))) (eq_yes (node_word ws n 2) 0 (Graph.marked ws n) ws b refl)
          (rw (← k) (marked_means d))
