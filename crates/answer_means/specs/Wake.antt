-- One wait is answered: its node is woken, its net has one less pending, and where that is at 0 its own waits come next.
use Rattle.std.specs.Prelude.{ℕ, ◌+◌, ◌<◌, ◌≤◌, ◌≡◌, ◌≢◌, Bool, true, false, List, ◌++◌, length, eqb}
use Rattle.std.proofs.Math.Path.{refl}
use Rattle.std.proofs.Common.{sym, ap, ◌∙◌, subst, arith}
use Rattle.words.specs.Choose.{if_eq, eq_yes, eq_no}
use Rattle.words.specs.Left.{Left}
use Rattle.layout.specs.Layout.{net_word_words, node_word}
use Rattle.graph.specs.Graph
use Rattle.waits.specs.Waits
use Rattle.waits.specs.Waits.{take_waits, settle}
use Rattle.waits.specs.Ways.{settle_rest, settle_own}
use Rattle.net_file.specs.Lists.{bit}
use Rattle.net_file.specs.Values.{Name}
use Rattle.definitions.specs.Nets.{at, filled, holds}
use Rattle.definitions.specs.State
use Rattle.definitions.specs.State.{Wait, Engine, graph_of, net_at}
use Rattle.definitions.specs.Books
use Rattle.definitions.specs.Books.{mark_dirty}
use Rattle.engine_laws.specs.Frame.{still_frame, pools_kept, mark_still, fewer_still}
use Rattle.dirty_laws.specs.Tests.{eqb_self, bit_most}
use Rattle.good_laws.specs.Good.{Good, bump}
use Rattle.good_laws.specs.Marks.{mark_good}
use Rattle.good_laws.specs.Answers.{emptied, mark_awaits, fewer_awaits}
use Rattle.graph_laws.specs.Rest.{holds_filled}
use Rattle.waiter_laws.specs.Waiters.{awaits_length}
use Rattle.graph_means.specs.Marks.{CanMark}
use Rattle.good_means.specs.Room.{pending_bound, markable}
use Rattle.waits_means.specs.Slots.{slot_holds, slot_other}
use Rattle.aside_means.specs.Aside.{Bare, bare}
use Rattle.aside_means.specs.Steps.{aside_mark, mark_waits, aside_fewer, fewer_waits}
use Rattle.answer_means.specs.Hands.{Answering, answering_on}
use Rattle.answer_means.specs.Take.{take_waits_means}

module _ {Named : ℕ → Name → Type 0} {ws : List ℕ} {e : Engine} {h : ℕ} {y : List Wait} (a : Answering Named ws e h y) (x : ℕ → ℕ) (few : (j : ℕ) → x j ≤ 4294890000) where
  -- net k, which counts a wait in hand, has one less pending
  fewer_answering : (k : ℕ) → k < length e.nets → Good (bump k x) e → Answering Named (Graph.fewer ws (k + 1)) (State.fewer k e) h y
  fewer_answering k i g =
      let b = (bare a.beside).header in
      let p = g.pending k i in
      let q : bit (eqb k k) ≡ 1 = ap bit (eqb_self k) in
      let r = pending_bound e b.few_nodes b.few_waits (bump k x) g k i in
      let f = few k in
      answering_on (Graph.fewer ws (k + 1)) (State.fewer k e) a (aside_fewer a.beside k i (omega arith) (omega arith)) (fewer_waits a.beside k i (omega arith) (omega arith))
      (pools_kept (still_frame (fewer_still k e))) (fewer_awaits k e)

  -- a node that is there becomes dirty
  mark_answering : (n k : ℕ) → filled (graph_of e) n ≡ true → Good (bump k x) e → Answering Named (Graph.mark_dirty_words ws n) (mark_dirty n e) h y
  mark_answering n k there g =
      let b = (bare a.beside).header in
      let f = few (at (graph_of e) n).net in
      let o = bit_most (eqb k (at (graph_of e) n).net) in
      let c : CanMark e n = markable e b.few_nodes b.few_waits (bump k x) g n there (omega arith) in
      answering_on (Graph.mark_dirty_words ws n) (mark_dirty n e) a (aside_mark a.beside n there c) (mark_waits a.beside n there c) (pools_kept (still_frame (mark_still n e))) (mark_awaits n e)

module _ {Named : ℕ → Name → Type 0} {ws : List ℕ} {e : Engine} {h : ℕ} {y : List Wait} (a : Answering Named ws e h y) (v : Wait) (i : (v.node < e.pools.nodes) × (v.net < length e.nets))
    (x : ℕ → ℕ) (few : (j : ℕ) → x j ≤ 4294890000) (g : Good (bump v.net x) e) where
  -- wait v is answered: its node is marked, if that slot still holds a node of its net, and its net has one less pending
  pub wake_means : Answering Named (Graph.fewer (Waits.wake ws v.node (v.net + 1)) (v.net + 1)) (Books.wake v e) h y
  unfolding Books.wake Waits.wake
  wake_means = go (holds (graph_of e) v.net v.node) refl
    where
      b : Bare Named ws e
      b = bare a.beside

      go : (t : Bool) → holds (graph_of e) v.net v.node ≡ t
          → Answering Named (Graph.fewer (if_eq (node_word ws v.node 0) (v.net + 1) (Graph.mark_dirty_words ws v.node) ws) (v.net + 1))
          (State.fewer v.net (elim t as (λ _. Engine) [ true ↦ mark_dirty v.node e | false ↦ e ])) h y
      go true d =
          let there = holds_filled (graph_of e) v.net v.node d in
          let m = mark_answering a x few v.node v.net there g in
          let n = awaits_length e (mark_dirty v.node e) (mark_awaits v.node e) in
          let k = i.1 in
          subst (λ (w : List ℕ). Answering Named (Graph.fewer w (v.net + 1)) (State.fewer v.net (mark_dirty v.node e)) h y)
          (eq_yes (node_word ws v.node 0) (v.net + 1) (Graph.mark_dirty_words ws v.node) ws (slot_holds Named ws e.pools.nodes (graph_of e) b.nodes v.node v.net i.0 d) refl)
          (fewer_answering m x few v.net (omega arith) (mark_good (bump v.net x) v.node e g))
      go false d =
          subst (λ (w : List ℕ). Answering Named (Graph.fewer w (v.net + 1)) (State.fewer v.net e) h y)
          (eq_no (node_word ws v.node 0) (v.net + 1) (Graph.mark_dirty_words ws v.node) ws (slot_other Named ws e.pools.nodes (graph_of e) b.nodes v.node v.net i.0 d) refl)
          (fewer_answering a x few v.net i.1 g)

  -- what is to be answered next: the net's own waits before the others, where it is thereby at 0
  module _ (below : v.net < length (Books.wake v e).nets) where
    same : net_word_words (Graph.fewer (Waits.wake ws v.node (v.net + 1)) (v.net + 1)) (v.net + 1) 7 ≡ (net_at (Books.wake v e) v.net).pending
    unfolding net_at
    same = ((bare wake_means.beside).nets v.net below).pending_is

    pub settle_zero : (net_at (Books.wake v e) v.net).pending ≡ 0
        → Answering Named (settle ws v.node (v.net + 1) h).ws (emptied v.net (Books.wake v e)) (settle ws v.node (v.net + 1) h).is ((net_at (Books.wake v e) v.net).awaiting ++ y)
    settle_zero z =
        let w1 = Waits.wake ws v.node (v.net + 1) in
        let w2 = Graph.fewer w1 (v.net + 1) in
        subst (λ (o : Left ℕ). Answering Named o.ws (emptied v.net (Books.wake v e)) o.is ((net_at (Books.wake v e) v.net).awaiting ++ y))
        (settle_own ws w1 w2 (take_waits w2 (v.net + 1) h).ws v.node (v.net + 1) h (net_word_words w2 (v.net + 1) 7) (take_waits w2 (v.net + 1) h).is refl refl refl (same ∙ z) refl refl)
        (take_waits_means wake_means v.net below)

    pub settle_above : (net_at (Books.wake v e) v.net).pending ≢ 0
        → Answering Named (settle ws v.node (v.net + 1) h).ws (Books.wake v e) (settle ws v.node (v.net + 1) h).is y
    settle_above z =
        let w1 = Waits.wake ws v.node (v.net + 1) in
        let w2 = Graph.fewer w1 (v.net + 1) in
        subst (λ (o : Left ℕ). Answering Named o.ws (Books.wake v e) o.is y)
        (settle_rest ws w1 w2 v.node (v.net + 1) h (net_word_words w2 (v.net + 1) 7) refl refl refl (λ q. z (sym same ∙ q))) wake_means
