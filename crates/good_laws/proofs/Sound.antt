-- A turn of the loop keeps the books, if every script that a rule finds is orderly. What makes it so is a condition on nodes, ports
use Rattle.std.specs.Prelude.{ℕ, ◌≤◌, ◌<◌, ◌≡◌, Bool, ◌&&◌, ◌≢◌, ◌⊎◌, length}
use Rattle.std.proofs.Math.Path.{refl, subst}
use Rattle.std.proofs.Common.{sym, ap, ◌∙◌, arith, inl, inr, eqb-true}
use Rattle.std.proofs.Math.Bool.{true, false}
use Rattle.std.proofs.Math.Option.{Option, none, some}
use mathlib.Core.List.Memᴰ
use mathlib.Core.List.{List, [], ◌∷◌, ◌++◌, map, Memᴰ}
use Rattle.std.proofs.Math.ListN.{get_or}
use Rattle.std.proofs.Math.Dec.{eqb}
use Rattle.std.proofs.lemmas.Bool.{eqb-false}
use Rattle.net_file.specs.Lists.{Result, ok, refuse, need, bit, concat_map}
use Rattle.net_file.specs.Values.{Rule, graft, annihilate, erase, commute, eta}
use Rattle.definitions.specs.Lists.{◌>>=◌, keep}
use Rattle.definitions.specs.Nets.{Port, Graph, Home, port, is_principal, at, name_of, follow}
use Rattle.definitions.specs.Scripts.{Script, apply_script}
use Rattle.definitions.specs.Rules.{eta_script, graft_script, graft_fits, reaches, interact}
use Rattle.definitions.specs.Step.{pairs, rewrites}
use Rattle.definitions.specs.State.{Engine, graph_of, homes, net_at, fewer}
use Rattle.definitions.specs.Books.{tighten_net, fresh, finish_edit_net}
use Rattle.definitions.specs.Visit.{Visited, acted, passed, Try, interaction, rewrite, act, act_if, await_net, graft_net, get_net, graft_named, graft_child, try_graft, try_pair, interactions, tries, try_rewrite, attempt, attempts, visit}
use Rattle.definitions.specs.Run.{leave}
use Rattle.dirty_laws.specs.Tests.{eqb_self}
use Rattle.engine_laws.specs.Frame.{Body, body, still_graph, fewer_still, finish_net_still}
use Rattle.good_laws.specs.Owners.{owners, net_of}
use Rattle.good_laws.specs.Good.{Good, bump, rest}
use Rattle.good_laws.specs.Marks.{fewer_good}
use Rattle.good_laws.specs.Removed.{tighten_good}
use Rattle.good_laws.proofs.AnswersLaws.{finish_net_good}
use Rattle.good_laws.specs.Idle.{Idle, rises_idle, tighten_rises}
use Rattle.good_laws.proofs.Settled.{leave_idle}
use Rattle.good_laws.specs.Scripts.{Orderly, Done, Visits, act_good, await_good}
use Rattle.good_laws.specs.Turned.{named_below}
use Rattle.good_laws.specs.Sound.{Condition, visiting, Sound, of_same, Kept, Fine, k}

module _ (P : Condition) where
  module _ (sound : Sound P) where
    -- the visit has ended
    pub leave_fine : (n k : ℕ) (e : Engine) → (at (graph_of e) n).net ≡ k → (r : Result Visited) → (Fine P) (visiting e n) e r
        → Visits ((Kept P) rest) (λ e'. Good rest e' × (body e' ≡ body e) × Idle e') (r >>= λ v. ok (leave k v))
    unfolding leave
    leave_fine n k e q (ok (acted e')) h =
        let s = finish_net_still k (fewer k e') ∙ fewer_still k e' in (
          finish_net_good rest k (fewer k e') (fewer_good rest k e' (subst (λ (j : ℕ). Good (bump j rest) e') q h.0)),
          (of_same P) e' (finish_edit_net k (fewer k e')) s h.1,
          leave_idle k e' h.2,
        )
    leave_fine n k e q (ok (passed e')) h = (
      finish_net_good rest k (fewer k e') (fewer_good rest k e' (subst (λ (j : ℕ). Good (bump j rest) e') q h.0)),
      finish_net_still k (fewer k e') ∙ fewer_still k e' ∙ h.1,
      leave_idle k e' h.2,
    )
    leave_fine n k e q (refuse r) h = tt
