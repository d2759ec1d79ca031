-- A visit has ended: what holds of a run holds again between turns.
use Rattle.std.specs.Prelude.{ℕ, ◌+◌, ◌<◌, ◌≡◌, List, length}
use Rattle.std.proofs.Common.{sym, ap, ◌∙◌, arith}
use Rattle.std.proofs.Math.Path.{subst}
use Rattle.net_file.specs.Values.{FlatNet, File}
use Rattle.definitions.specs.State.{Pools, Engine, fewer}
use Rattle.definitions.specs.Books.{finish_edit_net}
use Rattle.engine_laws.specs.Frame.{Outline, Still, still_frame, pools_kept, rules_kept, homes_kept, steps_kept, fewer_still, finish_net_still}
use Rattle.good_laws.specs.Good.{bump, rest}
use Rattle.good_laws.specs.Marks.{fewer_good}
use Rattle.good_laws.specs.Answers.{fewer_awaits}
use Rattle.good_laws.proofs.AnswersLaws.{finish_net_good}
use Rattle.good_laws.proofs.Settled.{leave_idle}
use Rattle.good_laws.specs.Sound.{of_same}
use Rattle.waiter_laws.specs.Waiters.{Waited, waited_same, finish_waited}
use Rattle.reached_laws.specs.Wires.{Wires}
use Rattle.run_slice.specs.Run.{leave}
use Rattle.held_names.specs.Named.{Named}
use Rattle.answer_means.specs.Answer.{leave_means}
use Rattle.graft_means.specs.Held.{called_kept}
use Rattle.run_means.specs.Count.{LimitFits}
use Rattle.acts_means.specs.Holds.{free_path_of, Holds, nets_length}
use Rattle.places_means.specs.Leaves.{leaves_quiet}
use Rattle.visiting_means.specs.Names.{leave_names}

module _ (s : List ℕ) (f : File FlatNet) (k : ℕ) (ws : List ℕ) (e : Engine) (h : Holds s f (bump k rest) ws e) (below : k < length e.nets) where
  abbrev e' : Engine
  e' = finish_edit_net k (fewer k e)

  still : Still e e'
  still = finish_net_still k (fewer k e) ∙ fewer_still k e

  waited : Waited e'.pools.nodes (length e'.nets) e'
  waited =
      let t = still_frame still in
      subst (λ (p : Pools). Waited p.nodes (length e'.nets) e') (sym (pools_kept t))
      (subst (λ (m : ℕ). Waited e.pools.nodes m e') (sym (nets_length e' e (homes_kept t)))
      (finish_waited e.pools.nodes (length e.nets) k (fewer k e) (waited_same e.pools.nodes (length e.nets) e (fewer k e) (fewer_awaits k e) h.waited)))

  pub left_holds : Holds s f rest (leave ws (k + 1)) (finish_edit_net k (fewer k e)) × ((finish_edit_net k (fewer k e)).steps ≡ e.steps)
  unfolding leave
  left_holds =
      let t = still_frame still in
      let q = leaves_quiet s f k ws e h below in (
        record {
          means = leave_means (Named s f) ws e h.means rest (λ j. omega arith) k below h.kept.0 h.waited;
          none_dead = q.0;
          kept = (finish_net_good rest k (fewer k e) (fewer_good rest k e h.kept.0), of_same (Wires (free_path_of f)) e e' still h.kept.1, leave_idle k e h.kept.2);
          waited = waited;
          places = q.1;
          rules = rules_kept t ∙ h.rules;
          limit = subst LimitFits (sym (ap (λ (z : Outline). z.3) t)) h.limit;
          called = called_kept ws (leave ws (k + 1)) e e' (leave_names (Named s f) ws e h.means rest (λ j. omega arith) k below h.kept.0 h.waited) (homes_kept t) h.called;
        },
        steps_kept t,
      )
