-- No wait on a net at 0: removals and answers.
use Rattle.std.specs.Prelude.{ℕ, zero, suc, ◌+◌, ◌-◌, ◌≤◌, ◌<◌, ◌≡◌, refl, ◌≢◌, Bool, true, false, List, [], ◌∷◌, ◌++◌, length, get_or, eqb}
use Rattle.std.proofs.Common.{sym, ap, ◌∙◌, subst, arith, eqb-true}
use Rattle.std.proofs.Math.Decide.{ℕ_discrete}
use Rattle.std.proofs.Math.Option.{Option, none, some}
use Rattle.std.proofs.lemmas.List.{length-map}
use Rattle.std.proofs.lemmas.Bool.{eqb-false}
use Rattle.definitions.specs.Nets.{Node, at, holds}
use Rattle.definitions.specs.State.{Net, Wait, Engine, graph_of, with_slots, with_dirty, with_mark, with_nets, with_stale, with_list, with_pending, with_awaiting, net_at, over_net, more, fewer, waits}
use Rattle.definitions.specs.Books.{tight, loose, is_dirty, tighten_net, push_dirty, mark_dirty, vacated, went_dirty, remove_node, finish_edit, wake, answer, finish_edit_net}
use Rattle.engine_laws.specs.Frame.{either, still_frame, homes_kept, remove_frame, wake_still}
use Rattle.good_laws.specs.Owners.{owners, net_of}
use Rattle.good_laws.specs.Nets.{over_length, over_part, over_same, over_other}
use Rattle.good_laws.specs.Good.{Good}
use Rattle.good_laws.specs.Answers.{awaits, fewer_awaits, emptied}
use Rattle.good_laws.specs.Removed.{AllThere, went_is, remove_good, remove_owners}
use Rattle.good_laws.specs.Idle.{Idle, Rises, rises_then}
use Rattle.good_laws.specs.Settled.{IdleBut, fewer_but, emptied_idle, above_idle, wake_but}

answer_idle : (f : ℕ) (ws : List Wait) (e : Engine) → Idle e → Idle (answer f ws e)
unfolding answer
answer_idle zero ws e h = h
answer_idle (suc f) [] e h = h
answer_idle (suc f) (w ∷ ws) e h =
    let e₁ = wake w e in
    let b = wake_but w e h in
    go e₁ b (eqb (net_at e₁ w.net).pending 0) refl (λ us e₂ i. answer_idle f us e₂ i)
  where
    go : (e₁ : Engine) → IdleBut w.net e₁ → (t : Bool) → eqb (net_at e₁ w.net).pending 0 ≡ t → ((us : List Wait) (e₂ : Engine) → Idle e₂ → Idle (answer f us e₂))
        → Idle (elim t as (λ _. Engine) [ true ↦ answer f ((net_at e₁ w.net).awaiting ++ ws) (emptied w.net e₁) | false ↦ answer f ws e₁ ])
    go e₁ b true q r = r ((net_at e₁ w.net).awaiting ++ ws) (emptied w.net e₁) (emptied_idle w.net e₁ b)
    go e₁ b false q r = r ws e₁ (above_idle w.net e₁ b (eqb-false (net_at e₁ w.net).pending 0 q))

-- the visit ends
pub leave_idle : (k : ℕ) (e : Engine) → Idle e → Idle (finish_edit_net k (fewer k e))
unfolding finish_edit_net
leave_idle k e h = go (eqb (net_at (fewer k e) k).pending 0) refl
  where
    go : (t : Bool) → eqb (net_at (fewer k e) k).pending 0 ≡ t
        → Idle (elim t as (λ _. Engine) [ true ↦ answer (waits (fewer k e)) (net_at (fewer k e) k).awaiting (emptied k (fewer k e)) | false ↦ fewer k e ])
    go true q = answer_idle (waits (fewer k e)) (net_at (fewer k e) k).awaiting (emptied k (fewer k e)) (emptied_idle k (fewer k e) (fewer_but k e h))
    go false q = above_idle k (fewer k e) (fewer_but k e h) (eqb-false (net_at (fewer k e) k).pending 0 q)
