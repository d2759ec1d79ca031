-- A node is marked, a net has one less pending, while the waits are left aside.
use Rattle.std.specs.Prelude.{ℕ, ◌+◌, ◌<◌, ◌≡◌, Bool, List, length, get_or}
use Rattle.std.proofs.Math.Path.{refl, ap}
use Rattle.std.proofs.Common.{sym, ◌∙◌, subst, arith}
use Rattle.std.proofs.Math.Bool.{true, false}
use Rattle.graph.specs.Graph
use Rattle.net_file.specs.Lists.{bit}
use Rattle.net_file.specs.Values.{Name}
use Rattle.definitions.specs.Nets.{Graph, filled}
use Rattle.definitions.specs.State
use Rattle.definitions.specs.State.{Pools, Engine, graph_of, with_nets, net_at}
use Rattle.definitions.specs.Books.{is_dirty, mark_dirty}
use Rattle.engine_laws.specs.Frame.{still_frame, pools_kept, mark_still, fewer_still}
use Rattle.means.specs.Frame.{Rest, OutWaits}
use Rattle.graph_means.specs.Marks.{CanMark, fewer_means, mark_dirty_means}
use Rattle.waits_means.specs.Slots.{filled_below, slot_net}
use Rattle.aside_means.specs.Hushed.{hushed, hushed_length, hushed_pending, hushed_fewer, hushed_mark, mark_hushed, mark_loud}
use Rattle.aside_means.specs.Both.{InWaits, fewer_both, mark_both, fewer_kept, mark_kept}
use Rattle.aside_means.specs.Aside.{Aside, bare}

module _ {Named : ℕ → Name → Type 0} {ws : List ℕ} {e : Engine} (a : Aside Named ws e) where
  same_graph : graph_of a.engine ≡ graph_of e
  unfolding hushed with_nets
  same_graph = ap (λ (d : Engine). graph_of d) a.alike

  same_nets : length a.engine.nets ≡ length e.nets
  same_nets = sym (hushed_length a.engine) ∙ ap (λ (d : Engine). length d.nets) a.alike ∙ hushed_length e

  same_pending : (k : ℕ) → (net_at a.engine k).pending ≡ (net_at e k).pending
  same_pending k = sym (hushed_pending a.engine k) ∙ ap (λ (d : Engine). (net_at d k).pending) a.alike ∙ hushed_pending e k

  module _ (n : ℕ) (there : filled (graph_of e) n ≡ true) (c : CanMark e n) where
    below : n < e.pools.nodes
    below = filled_below Named ws e.pools.nodes (graph_of e) (bare a).nodes n there

    -- a clean node becomes dirty
    pub aside_mark : Aside Named (Graph.mark_dirty_words ws n) (mark_dirty n e)
    aside_mark = record {
      words = Graph.mark_dirty_words a.words n;
      engine = mark_dirty n a.engine;
      means = mark_dirty_means Named a.words a.engine a.means n (rw same_graph there) (mark_loud a.engine n (subst (λ (d : Engine). CanMark d n) (sym a.alike) (mark_hushed e n c)));
      agree = subst (λ (q : Pools). Rest (OutWaits q.nodes q.entries) (Graph.mark_dirty_words a.words n) (Graph.mark_dirty_words ws n)) (sym (pools_kept (still_frame (mark_still n e))))
          (mark_both e.pools.nodes e.pools.entries a.words ws a.agree n below);
      alike = hushed_mark n a.engine ∙ ap (mark_dirty n) a.alike ∙ sym (hushed_mark n e);
    }

    -- and the waits' words are as they were
    pub mark_waits : Rest (InWaits e.pools.nodes e.pools.entries) ws (Graph.mark_dirty_words ws n)
    unfolding is_dirty
    mark_waits =
        let b = bare a in
        let net = slot_net Named ws e.pools.nodes (graph_of e) b.nodes n there in
        let i = c.net in
        let few = b.header.few_nets in
        mark_kept e.pools.nodes e.pools.entries ws n below
        (λ z. let l = b.dirty.length_is in let r = c.room (clean (get_or e.slots.marks n false) (sym (b.marks.mark n below) ∙ z)) in omega arith) (omega arith)
      where
        clean : (t : Bool) → bit t ≡ 0 → t ≡ false
        clean true z = absurd (omega arith)
        clean false z = refl

  module _ (k : ℕ) (h : k < length e.nets) (some : 0 < (net_at e k).pending) (small : (net_at e k).pending < 4294967296) where
    -- net k has one less pending
    pub aside_fewer : Aside Named (Graph.fewer ws (k + 1)) (State.fewer k e)
    aside_fewer =
        let p = same_pending k in
        record {
          words = Graph.fewer a.words (k + 1);
          engine = State.fewer k a.engine;
          means = fewer_means Named a.words a.engine a.means k (rw same_nets h) (omega arith) (omega arith);
          agree = subst (λ (q : Pools). Rest (OutWaits q.nodes q.entries) (Graph.fewer a.words (k + 1)) (Graph.fewer ws (k + 1))) (sym (pools_kept (still_frame (fewer_still k e))))
              (fewer_both e.pools.nodes e.pools.entries a.words ws a.agree (k + 1));
          alike = hushed_fewer k a.engine ∙ ap (State.fewer k) a.alike ∙ sym (hushed_fewer k e);
        }

    pub fewer_waits : Rest (InWaits e.pools.nodes e.pools.entries) ws (Graph.fewer ws (k + 1))
    fewer_waits = let few = (bare a).header.few_nets in fewer_kept e.pools.nodes e.pools.entries ws (k + 1) (omega arith)
