-- Net k's free node, in the words: a slot in use that holds it, closed, with as many ports as it has.
use Rattle.std.specs.Prelude.{ℕ, ◌+◌, ◌*◌, ◌%◌, ◌<◌, ◌≡◌, refl, true, List, length, get_or, eqb}
use Rattle.std.proofs.Math.Path.{sym, ap}
use Rattle.std.proofs.Common.{◌∙◌, eq-eqb}
use Rattle.std.proofs.Math.Option.{Option, some}
use native.Mathlib.Omega.{arith}
use Rattle.net_file.specs.Values.{Name}
use Rattle.definitions.specs.Lists.{or_else}
use Rattle.definitions.specs.Nets.{Port, Graph, Home, port, arity, across, follow}
use Rattle.definitions.specs.State.{Engine, graph_of, homes, net_at}
use Rattle.layout.specs.Layout
use Rattle.layout.specs.Layout.{next, net_word_words, node_word, principal}
use Rattle.join_laws.specs.Ports.{Frame, no_frame, arity_frame, across_real}
use Rattle.graph_laws.specs.Rest.{FreeNode, Rest}
use Rattle.good_laws.specs.Good.{Good}
use Rattle.reached_laws.specs.Wires.{home_at}
use Rattle.means.specs.Means.{Means}
use Rattle.means.specs.Frame.{real_inside}
use Rattle.image_nets.specs.Nets.{closed, is_free, free_holds}
use Rattle.image_means.specs.Yes.{same_yes, below_yes, given_yes}
use Rattle.image_means.specs.Tidy.{Tidy}
use Rattle.image_means.specs.InUse.{Held, held, frame_words, frame_used}

module _ (Named : ℕ → Name → Type 0) (s ws : List ℕ) (e : Engine) (m : Means Named ws e) (t : Tidy s ws e) (r : ℕ → ℕ) (good : Good r e)
    (path : ℕ) (rest : Rest path (homes e) (graph_of e)) (k : ℕ) (h : k < length e.nets) where
  free : ℕ
  free = (net_at e k).home.free

  node : FreeNode path (graph_of e) k (net_at e k).home
  node = rest.free k (net_at e k).home (home_at e k h)

  slot : Held (graph_of e) k free
  unfolding free
  slot = held (graph_of e) k (net_at e k).home.free node.held

  -- its ports 0 and 1
  wired : closed ws free ≡ true
  unfolding closed free follow
  wired =
      let a = port (net_at e k).home.free 0 in
      let real = across_real (graph_of e) a (port (net_at e k).home.free 1) node.wired in
      let w : Layout.across ws (32 * (net_at e k).home.free + 8) ≡ 32 * (net_at e k).home.free + 9
      = m.nodes.port a real ∙ ap (λ (o : Option Port). 32 * (or_else o a).node + (8 + (or_else o a).index)) node.wired in
      let i = (real_inside m.nodes a real).0 in
      let b = m.header.few_nodes in
      let c : principal (net_at e k).home.free ≡ 32 * (net_at e k).home.free + 8 = omega arith in
      let d : next (32 * (net_at e k).home.free + 8) ≡ 32 * (net_at e k).home.free + 9 = omega arith in
      rw (c, d) (eq-eqb (Layout.across ws (32 * (net_at e k).home.free + 8)) (32 * (net_at e k).home.free + 9) w)

  is : is_free ws (k + 1) free (arity (graph_of e) free) ≡ true
  unfolding is_free free
  is =
      let x = slot.node in
      let n = (net_at e k).home.free in
      let w = frame_words Named ws e m n x slot.is in
      let a : node_word ws n 3 ≡ arity (graph_of e) n = w.2 ∙ sym (arity_frame (graph_of e) n ∙ ap (λ (o : Option Frame). (or_else o no_frame).size) slot.is) in
      same_yes _ _ _ (w.0 ∙ ap (λ j. j + 1) slot.net) (same_yes _ _ _ (t.free_at k h) (eq-eqb (node_word ws n 3) (arity (graph_of e) n) a))

  -- `free-holds` answers yes for the ports that it has
  pub free_passes : free_holds ws (k + 1) (arity (graph_of e) (net_at e k).home.free) ≡ true
  unfolding free_holds free net_at
  free_passes =
      let n : net_word_words ws (k + 1) 1 ≡ (net_at e k).home.free = (m.nets k h).free in
      rw n (below_yes _ _ _ (frame_used Named ws e m r good free slot.node slot.is) (given_yes _ _ is wired))
