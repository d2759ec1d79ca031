-- A turn counts one step where a rule acts, and none where none does; it keeps pools, rules and homes, and is never refused by 0.
use Prim.Native.Nat.{ℕ, ◌+◌, ◌-◌}
use Rattle.std.specs.Prelude.{◌≡◌, refl, ◌≢◌, Bool, eqb, ltb}
use Rattle.std.proofs.Common.{◌∙◌}
use native.Mathlib.Omega.{arith}
use Rattle.std.proofs.Math.Bool.{true, false}
use Rattle.std.proofs.Math.Option.{Option, none, some}
use mathlib.Core.List.{List, [], ◌∷◌, ◌++◌}
use Rattle.net_file.specs.Lists.{Result, ok, refuse, need}
use Rattle.net_file.specs.Values.{Rule, graft, annihilate, erase, commute, eta, max_steps}
use Rattle.definitions.specs.Lists.{◌>>=◌, each}
use Rattle.definitions.specs.Nets.{at, name_of}
use Rattle.definitions.specs.Scripts.{Script}
use Rattle.definitions.specs.Rules.{eta_script, graft_script, graft_fits, reaches, interact}
use Rattle.definitions.specs.State.{Engine, graph_of, with_steps, with_mark, with_slots, with_dirty, with_stale, with_awaiting, net_at, over_net, more, fewer, waits}
use Rattle.definitions.specs.Books.{is_dirty, tighten_net, fresh, edit, finish_edit}
use Rattle.definitions.specs.Visit.{Visited, acted, passed, Try, interaction, rewrite, less_one, act, act_if, await_net, graft_net, get_net, graft_named, graft_child, try_graft, tries, try_rewrite, attempt, attempts, visit}
use Rattle.definitions.specs.Run.{leave, turn}
use Rattle.engine_laws.specs.Frame.{either, Outline, frame, FramesOk, still_frame, more_still, fewer_still, awaiting_still, tighten_net_still, finish_net_still, edits_frame, finish_frame}
use Rattle.engine_laws.specs.Turns.{Counts, act_counts, await_counts, leave_counts}

module _ (x : Outline) where
  act_if_counts : (o : Option Script) (e : Engine) → frame e ≡ x → Counts x (act_if o e)
  unfolding act_if
  act_if_counts none e h = h
  act_if_counts (some s) e h = act_counts s x e h

  graft_counts : (m n : ℕ) (e : Engine) → frame e ≡ x → Counts x (graft_net m n e)
  unfolding graft_net
  graft_counts m n e h =
      let e₁ = tighten_net m e in
      let free = (net_at e₁ m).home.free in
      let s = graft_script (fresh e₁) (graph_of e₁) (net_at e₁ m).list.items free n in
      go (act s e₁) (act_counts s x e₁ (still_frame (tighten_net_still m e) ∙ h)) (graft_fits (graph_of e₁) free n)
    where
      go : (r : Result Visited) → Counts x r → (t : Bool) → Counts x (r >>= λ v. need t 13 (ok v))
      go (ok v) k true = k
      go (ok v) k false = omega arith
      go (refuse r) k t = k

  named_counts : (o : Option ℕ) (n : ℕ) (e : Engine) → frame e ≡ x → Counts x (graft_named o n e)
  unfolding graft_named
  named_counts none n e h = h
  named_counts (some m) n e h =
      either (Counts x) (eqb (net_at e m).pending 0) (graft_net m n e) (await_net m n e) (graft_counts m n e h) ((await_counts x) m n e h)

  child_counts : (cs : List ℕ) (n : ℕ) (e : Engine) → frame e ≡ x → Counts x (graft_child cs n e)
  unfolding graft_child
  child_counts [] n e h = omega arith
  child_counts (c ∷ cs) n e h = named_counts (get_net e c) n e h

  rewrite_counts : (r : Rule) (n : ℕ) (e : Engine) → frame e ≡ x → Counts x (try_rewrite r n e)
  unfolding try_rewrite try_graft
  rewrite_counts (graft p lazy) n e h =
      either (Counts x) (reaches (graph_of e) lazy n) (graft_child (name_of (graph_of e) n).children n e) (ok (passed e))
      (child_counts (name_of (graph_of e) n).children n e h) h
  rewrite_counts (annihilate ps) n e h = h
  rewrite_counts (erase es ns) n e h = h
  rewrite_counts (commute xs ys) n e h = h
  rewrite_counts (eta cs vs ns) n e h = act_if_counts (eta_script (fresh e) (graph_of e) vs ns n) e h

  attempt_counts : (t : Try) (e : Engine) → frame e ≡ x → Counts x (attempt t e)
  unfolding attempt
  attempt_counts (interaction r a b) e h = act_if_counts (interact r (fresh e) (graph_of e) a b) e h
  attempt_counts (rewrite r n) e h = rewrite_counts r n e h

  pub attempts_count : (ts : List Try) (e : Engine) → frame e ≡ x → Counts x (attempts ts e)
  unfolding attempts
  attempts_count [] e h = h
  attempts_count (t ∷ ts) e h = go (attempt t e) (attempt_counts t e h) (λ e' h'. attempts_count ts e' h')
    where
      go : (r : Result Visited) → Counts x r → ((e' : Engine) → frame e' ≡ x → Counts x (attempts ts e'))
          → Counts x (r >>= λ v. elim v as (λ _. Result Visited) [ acted e' ↦ ok (acted e') | passed e' ↦ attempts ts e' ])
      go (ok (acted e')) k f = k
      go (ok (passed e')) k f = f e' k
      go (refuse r) k f = k

-- a turn, by whether its entry is live
pub turn_counts : (n : ℕ) (e : Engine) → Counts (frame e) (turn n e)
unfolding turn visit with_mark with_slots with_dirty
turn_counts n e =
    let e₁ = with_mark n false e in
    let k = (at (graph_of e) n).net in
    either (Counts (frame e)) (is_dirty e n) (visit n e₁ >>= λ v. ok (leave k v))
    (ok (passed (with_dirty (with_stale (e.dirty.stale - 1) e.dirty) e)))
    (leave_counts (frame e) k (visit n e₁) (attempts_count (frame e) (tries e₁.rules (graph_of e₁) n) e₁ refl)) refl
