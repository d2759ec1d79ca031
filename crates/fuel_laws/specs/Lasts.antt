-- `fuel` lasts for every slice, on every engine with good books on which rules find orderly scripts.
use Prim.Native.Nat.{ℕ, zero, suc, ◌+◌, ◌*◌, ◌-◌, ◌≤◌, ◌<◌}
use Rattle.std.specs.Prelude.{◌≡◌, refl, ◌≢◌, Bool, true, false, ◌||◌, List, [], ◌∷◌, ◌++◌}
use Rattle.std.proofs.Common.{sym, not-suc-le-zero, arith}
use Rattle.std.proofs.Math.Path.{subst}
use Rattle.std.proofs.Math.Option.{Option, none, some}
use Rattle.net_file.specs.Lists.{Result, ok, refuse}
use Rattle.definitions.specs.Lists.{◌>>=◌, unsnoc}
use Rattle.definitions.specs.State.{Pools, Engine, with_dirty}
use Rattle.definitions.specs.Visit.{Visited, acted, passed, less_one}
use Rattle.definitions.specs.Run.{with_items, spent, next, run, fuel}
use Rattle.dirty_laws.specs.Listed.{unsnoc_snoc}
use Rattle.engine_laws.specs.Frame.{frame, body, pools_kept, steps_kept}
use Rattle.engine_laws.specs.Turns.{Counts}
use Rattle.engine_laws.proofs.Turns.{turn_counts}
use Rattle.good_laws.specs.Good.{Good, rest}
use Rattle.good_laws.specs.Edits.{Answers}
use Rattle.good_laws.specs.Idle.{Idle}
use Rattle.good_laws.specs.Scripts.{Visits}
use Rattle.good_laws.specs.Sound.{Condition, Sound, Kept, of_same}
use Rattle.good_laws.proofs.Turn.{turn_kept}
use Rattle.slice_laws.specs.Loop.{Lasts, after, taken, run_by, run_by_lem}
use Rattle.fuel_laws.specs.Measure.{left, left_most}

-- the pools are in range
pub record InRange (p : Pools) : Type 0 where
  pub nodes : p.nodes ≤ 4096
  pub waits : p.waits ≤ 4096

-- the next entry is the last of the dirty list
pub next_last : (n : Option ℕ) (e : Engine) (p : List ℕ × ℕ) → next n e ≡ some p → e.dirty.items ≡ p.0 ++ p.1 ∷ []
unfolding next
next_last n e p h = go (spent n || spent e.limit) h
  where
    go : (t : Bool) → elim t as (λ _. Option (List ℕ × ℕ)) [ true ↦ none | false ↦ unsnoc e.dirty.items ] ≡ some p → e.dirty.items ≡ p.0 ++ p.1 ∷ []
    go true q = absurd (let z : ◌≡◌ {A = ℕ} 0 1 = cc in omega arith)
    go false q = unsnoc_snoc e.dirty.items p q

-- what is left: each step not yet taken weighs more than all that can be left without a step
abbrev pub fuel_of : Engine → ℕ
fuel_of e = (16777216 - e.steps) * 24581 + left e

refused : (r : ℕ) → r ≢ 0 → Lasts (refuse r)
refused r d q = d (cc)

pub answered : (e : Engine) → Lasts (ok e)
answered e q = let z : ◌≡◌ {A = ℕ} 0 1 = cc in omega arith

module _ (P : Condition) (sound : Sound P) where
  -- the engines that a run goes through
  abbrev pub Running : Engine → Type 0
  Running e = Kept P rest e × InRange e.pools

  module _ (e : Engine) (run' : Running e) where
    -- what a turn leaves
    turn_running : (r : Result Visited) → Counts (frame e) r → Visits (Kept P rest) (λ e'. Good rest e' × (body e' ≡ body e) × Idle e') r → Visits Running Running r
    turn_running (ok (acted e')) c k = (k, subst InRange (sym (pools_kept c)) run'.1)
    turn_running (ok (passed e')) c k = ((k.0, of_same P e e' k.1 run'.0.1, k.2), subst InRange (sym (pools_kept c)) run'.1)
    turn_running (refuse r) c k = tt

    -- less is left after it
    pub lasts_after : (f : ℕ) (n : Option ℕ) (r : Result Visited) → Counts (frame e) r → Visits Running Running r
        → Visits (λ _. Unit {0}) (λ e'. left e' + 1 ≤ left e) r → fuel_of e < suc f
        → ((n' : Option ℕ) (e' : Engine) → Running e' → fuel_of e' < f → Lasts (run f n' e')) → Lasts (r >>= λ v. after f n v)
    lasts_after f n (ok (acted e')) c k l b ih =
        let q : e'.steps ≡ e.steps + 1 = steps_kept c in
        let m = left_most rest e' k.0.0 in
        let u = k.1.nodes in
        let w = k.1.waits in
        let s = k.0.0.stepped in
        ih (less_one n) e' k (omega arith)
    lasts_after f n (ok (passed e')) c k l b ih =
        let q : e'.steps ≡ e.steps = steps_kept c in
        ih n e' k (omega arith)
    lasts_after f n (refuse r) c k l b ih = refused r c

  -- a turn from the dirty list's end
  pub taken_running : (p : List ℕ × ℕ) (e : Engine) → Running e → e.dirty.items ≡ p.0 ++ p.1 ∷ [] → Visits Running Running (taken p e)
  unfolding with_items with_dirty
  taken_running p e h l = turn_running e h (taken p e) (turn_counts p.1 (with_items p.0 e)) (turn_kept P sound p.0 p.1 e h.0 l)

  -- and a run keeps what it began with
  module _ (f : ℕ) (ih : (n : Option ℕ) (e : Engine) → Running e → Answers Running (run f n e)) where
    kept_after : (n : Option ℕ) (r : Result Visited) → Visits Running Running r → Answers Running (r >>= λ v. after f n v)
    kept_after n (ok (acted e)) k = ih (less_one n) e k
    kept_after n (ok (passed e)) k = ih n e k
    kept_after n (refuse r) k = tt

    kept_by : (n : Option ℕ) (e : Engine) → Running e → (o : Option (List ℕ × ℕ)) → next n e ≡ o → Answers Running (run_by f n e o)
    kept_by n e h none q = h
    kept_by n e h (some p) q = kept_after n (taken p e) (taken_running p e h (next_last n e p q))

  pub run_running : (f : ℕ) (n : Option ℕ) (e : Engine) → Running e → Answers Running (run f n e)
  unfolding run
  run_running zero n e h = tt
  run_running (suc f) n e h = subst (Answers Running) (sym (run_by_lem f n e)) (kept_by f (λ n' e' h'. run_running f n' e' h') n e h (next n e) refl)
