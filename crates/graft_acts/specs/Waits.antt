-- A node that waits: what holds during its visit holds on.
use Rattle.std.specs.Prelude.{ℕ, ◌+◌, ◌<◌, ◌≤◌, ◌≡◌, ◌≢◌, Bool, List, [], ◌∷◌, ◌++◌, length, ltb}
use Rattle.std.proofs.Common.{sym, ◌∙◌, arith}
use Rattle.std.proofs.Math.Path.{ap, subst}
use Rattle.std.proofs.Math.Bool.{true, false}
use Rattle.net_file.specs.Lists.{ok, need}
use Rattle.net_file.specs.Values.{FlatNet, File}
use Rattle.definitions.specs.Nets.{Graph, at, filled, name_of}
use Rattle.definitions.specs.State.{Pools, Engine, graph_of, homes, with_slots, with_graph, with_awaiting, net_at, over_net, more, waits}
use Rattle.definitions.specs.Visit.{passed, await_net}
use Rattle.engine_laws.specs.Frame.{Body, body, still_frame, still_graph, pools_kept, homes_kept, rules_kept, more_still, awaiting_still}
use Rattle.good_laws.specs.Good.{Good, bump, rest}
use Rattle.good_laws.specs.Idle.{Idle}
use Rattle.good_laws.specs.Scripts.{Visits, await_good}
use Rattle.good_laws.specs.Sound.{of_same}
use Rattle.waiter_laws.specs.Waiters.{Waited, await_waited}
use Rattle.reached_laws.specs.Wires.{Wires}
use Rattle.words.specs.Left.{Left}
use Rattle.waits.specs.Waits.{await_net_words}
use Rattle.waits.specs.declared.Awaited.{Awaited}
use Rattle.means.specs.Frame.{Rest}
use Rattle.good_means.specs.Room.{net_inside_lem}
use Rattle.waits_means.specs.Slots.{filled_below}
use Rattle.waits_means.specs.Await.{Agrees}
use Rattle.waits_means.proofs.Await.{await_net_good}
use Rattle.held_names.specs.Named.{Named}
use Rattle.script_means.specs.Tries.{net_read}
use Rattle.run_means.specs.Count.{LimitFits}
use Rattle.graft_means.specs.Tests.{Waits}
use Rattle.graft_means.specs.Held.{HeldWords, await_net_held, called_kept}
use Rattle.acts_means.specs.Holds.{free_path_of, During, nets_length, bump_small}
use Rattle.places_means.specs.Renamed.{renamed_filled}
use Rattle.places_means.specs.Brought.{Has}
use Rattle.places_means.specs.Starred.{is_free, no_name, Starred, star_graph, star, starred_means, starred_good, starred_free, free_starred, places_told}

module _ (s : List ℕ) (f : File FlatNet) (k : ℕ) (e₀ : Engine) (w : List ℕ) (e : Engine) (d : During s f k e₀ w e) (n : ℕ) (own : (at (graph_of e) n).net ≡ k)
    (there : filled (graph_of e) n ≡ true) (m : ℕ) (low : m < length e.nets) (above : (net_at e m).pending ≢ 0) where
  -- the engine once node n waits on net m
  abbrev waiting : Engine → Engine
  waiting x = more (at (graph_of x) n).net (over_net (λ t. with_awaiting (t.awaiting ++ record { node = n; net = (at (graph_of x) n).net } ∷ []) t) m x)

  abbrev l : Left Awaited
  l = await_net_words w (m + 1) n

  still : (x : Engine) → body (waiting x) ≡ body x
  still x =
      more_still (at (graph_of x) n).net (over_net (λ t. with_awaiting (t.awaiting ++ record { node = n; net = (at (graph_of x) n).net } ∷ []) t) m x)
      ∙ awaiting_still (λ t. t.awaiting ++ record { node = n; net = (at (graph_of x) n).net } ∷ []) m x

  small : (j : ℕ) → bump k rest j ≤ 4294900000
  small j = let z = bump_small k j in omega arith

  words : Rest HeldWords w (await_net_words w (m + 1) n).ws
  words = await_net_held w (m + 1) n (omega arith) (let z = net_read (Named s f) w e d.holds.means n there in omega arith)

  -- node n is a slot and its net a net
  waited : Waited (waiting e).pools.nodes (length (waiting e).nets) (waiting e)
  waited =
      let b = still_frame (still e) in
      let below : n < e.pools.nodes = filled_below (Named s f) w e.pools.nodes (graph_of e) d.holds.means.nodes n there in
      let inside = net_inside_lem (Named s f) w e d.holds.means (bump k rest) d.holds.kept.0 n there in
      subst (λ (p : Pools). Waited p.nodes (length (waiting e).nets) (waiting e)) (sym (pools_kept b))
      (subst (λ (j : ℕ). Waited e.pools.nodes j (waiting e)) (sym (nets_length (waiting e) e (homes_kept b)))
      (await_waited e.pools.nodes (length e.nets) m n (at (graph_of e) n).net e below inside d.holds.waited))

  during : Agrees (Named s f) l (ok (passed (waiting e))) → Agrees (Starred s f) l (ok (passed (waiting (star f e)))) → Good (bump (at (graph_of e) n).net rest) (waiting e) → Idle (waiting e)
      → During s f k e₀ (await_net_words w (m + 1) n).ws (waiting e)
  unfolding with_graph with_slots
  during a c good idle =
      let b = still e in
      let h = d.holds in
      record {
        holds = record {
          means = a.1;
          none_dead = words.same 17 (omega arith) ∙ h.none_dead;
          kept = (subst (λ (j : ℕ). Good (bump j rest) (waiting e)) own good, of_same (Wires (free_path_of f)) e (waiting e) b h.kept.1, idle);
          waited = waited;
          places = places_told s f (homes e) l.ws (waiting e) (waiting (star f e)) a.1 c.1
              (λ j y. starred_free s f w e h.means h.kept.1.0 h.places j (subst (λ (g : Graph). Has (no_name f) g j) (still_graph (still (star f e))) y))
              (λ j y i t. ap (λ (g : Graph). name_of g y.free) (still_graph (still (star f e))) ∙ free_starred s f w e h.means h.kept.1.0 h.places j y i) (homes_kept (still_frame b));
          rules = rules_kept (still_frame b) ∙ h.rules;
          limit = subst LimitFits (sym (ap (λ (z : Body). z.0.3) b)) h.limit;
          called = called_kept w l.ws e (waiting e) (record { long = words.long; same = λ i o. words.same i (omega arith) }) (homes_kept (still_frame b)) h.called;
        };
        still = b ∙ d.still;
      }

  -- the wait is level Engine's, and the visit goes on
  pub graft_waits : Waits (During s f k e₀) (await_net_words w (m + 1) n) (await_net m n e)
  unfolding await_net with_graph with_slots waits net_at
  graft_waits =
      let h = d.holds in
      go (ltb (waits e) e.pools.waits) (await_net_good (Named s f) w e h.means (bump k rest) h.kept.0 m n low there (small (at (graph_of e) n).net) above)
      (await_net_good (Starred s f) w (star f e) (starred_means s f w e h.means h.kept.1.0 h.places) (bump k rest)
      (starred_good s f w e h.means h.kept.1.0 h.places (bump k rest) h.kept.0) m n low (renamed_filled (is_free (homes e)) (no_name f) (graph_of e) n ∙ there)
      (small (at (star_graph f e) n).net) above)
      (await_good rest m n e (λ _. ⊥) (subst (λ (j : ℕ). Good (bump j rest) e) (sym own) h.kept.0) h.kept.2 above low)
    where
      go : (t : Bool) → Agrees (Named s f) l (need t 11 (ok (passed (waiting e)))) → Agrees (Starred s f) l (need t 11 (ok (passed (waiting (star f e)))))
          → Visits (λ _. ⊥) (λ y. Good (bump (at (graph_of e) n).net rest) y × (body y ≡ body e) × Idle y) (need t 11 (ok (passed (waiting e))))
          → Waits (During s f k e₀) l (need t 11 (ok (passed (waiting e))))
      go true a c g = (a.0, during a c g.0 g.2)
      go false a c g = a
