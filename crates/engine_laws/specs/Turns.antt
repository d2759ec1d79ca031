-- A turn counts one step where a rule acts, and none where none does; it keeps pools, rules and homes, and is never refused by 0.
use Prim.Native.Nat.{ℕ, ◌+◌, ◌-◌}
use Rattle.std.specs.Prelude.{◌≡◌, refl, ◌≢◌, Bool, eqb, ltb}
use Rattle.std.proofs.Common.{◌∙◌}
use native.Mathlib.Omega.{arith}
use Rattle.std.proofs.Math.Bool.{true, false}
use Rattle.std.proofs.Math.Option.{Option, none, some}
use mathlib.Core.List.{List, [], ◌∷◌, ◌++◌}
use Rattle.net_file.specs.Lists.{Result, ok, refuse, need}
use Rattle.net_file.specs.Values.{Rule, graft, annihilate, erase, commute, eta, max_steps}
use Rattle.definitions.specs.Lists.{◌>>=◌, each}
use Rattle.definitions.specs.Nets.{at, name_of}
use Rattle.definitions.specs.Scripts.{Script}
use Rattle.definitions.specs.Rules.{eta_script, graft_script, graft_fits, reaches, interact}
use Rattle.definitions.specs.State.{Engine, graph_of, with_steps, with_mark, with_slots, with_dirty, with_stale, with_awaiting, net_at, over_net, more, fewer, waits}
use Rattle.definitions.specs.Books.{is_dirty, tighten_net, fresh, edit, finish_edit}
use Rattle.definitions.specs.Visit.{Visited, acted, passed, Try, interaction, rewrite, less_one, act, act_if, await_net, graft_net, get_net, graft_named, graft_child, try_graft, tries, try_rewrite, attempt, attempts, visit}
use Rattle.definitions.specs.Run.{leave, turn}
use Rattle.engine_laws.specs.Frame.{either, Outline, frame, FramesOk, still_frame, more_still, fewer_still, awaiting_still, tighten_net_still, finish_net_still, edits_frame, finish_frame}

-- a frame with one step more
abbrev pub stepped : Outline → Outline
stepped x = (x.0, x.1, x.2, less_one x.3, x.4 + 1)

-- one step where a rule acted, none where none did
abbrev pub Counts : Outline → Result Visited → Type 0
Counts x (ok (acted e)) = frame e ≡ stepped x
Counts x (ok (passed e)) = frame e ≡ x
Counts x (refuse r) = r ≢ 0

pub act_counts : (s : Script) (x : Outline) (e : Engine) → frame e ≡ x → Counts x (act s e)
unfolding act with_steps
act_counts s x e h = go (ltb e.steps max_steps) (each edit s.edits e) (edits_frame s.edits e)
  where
    go : (t : Bool) (r : Result Engine) → FramesOk e r
        → Counts x (need t 14 (r >>= λ e'. ok (acted (with_steps (less_one e'.limit) (e'.steps + 1) (finish_edit s.dead e')))))
    go true (ok e') k =
        let a : frame (finish_edit s.dead e') ≡ x = finish_frame s.dead e' ∙ k ∙ h in
        let b : frame e' ≡ x = k ∙ h in
        λ i. ((a i).0, (a i).1, (a i).2, less_one (b i).3, (b i).4 + 1)
    go true (refuse r) k = k
    go false r k = omega arith

module _ (x : Outline) where
  pub await_counts : (m n : ℕ) (e : Engine) → frame e ≡ x → Counts x (await_net m n e)
  unfolding await_net
  await_counts m n e h = go (ltb (waits e) e.pools.waits)
    where
      k : ℕ
      k = (at (graph_of e) n).net

      e₁ : Engine
      e₁ = over_net (λ t. with_awaiting (t.awaiting ++ record { node = n; net = k } ∷ []) t) m e

      go : (t : Bool) → Counts x (need t 11 (ok (passed (more k e₁))))
      go true = still_frame (more_still k e₁) ∙ still_frame (awaiting_still (λ t. t.awaiting ++ record { node = n; net = k } ∷ []) m e) ∙ h
      go false = omega arith

  pub leave_counts : (k : ℕ) (r : Result Visited) → Counts x r → Counts x (r >>= λ v. ok (leave k v))
  unfolding leave
  leave_counts k (ok (acted e)) h = still_frame (finish_net_still k (fewer k e)) ∙ still_frame (fewer_still k e) ∙ h
  leave_counts k (ok (passed e)) h = still_frame (finish_net_still k (fewer k e)) ∙ still_frame (fewer_still k e) ∙ h
  leave_counts k (refuse r) h = h
