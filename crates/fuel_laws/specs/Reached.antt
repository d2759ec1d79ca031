-- The engines that the load and the turns of slices reach, and what holds of each: the dirty list is bounded, the fuel lasts, and
-- slices compose without a condition.
use Prim.Native.Nat.{ℕ, zero, suc, ◌+◌, ◌*◌, ◌≤◌, ◌<◌}
use Rattle.std.specs.Prelude.{◌≡◌, refl, ◌≢◌, true, ◌&&◌, List, [], ◌∷◌, ◌++◌, length, leb}
use Rattle.std.proofs.Common.{sym, ◌∙◌, arith, leb-true}
use Rattle.std.proofs.Math.Path.{subst}
use Rattle.std.proofs.Math.Option.{Option, none, some}
use Rattle.list_laws.specs.Tests.{both}
use Rattle.net_file.specs.Lists.{Result, ok, refuse}
use Rattle.net_file.specs.Values.{Name, FlatNet, File}
use Rattle.definitions.specs.Lists.{◌>>=◌, each}
use Rattle.definitions.specs.Nets.{Home}
use Rattle.definitions.specs.State.{Pools, Engine, with_nets, new_net}
use Rattle.definitions.specs.Books.{fresh, edit}
use Rattle.definitions.specs.Load.{load_net, add_flat_net, empty, included, free_name, load}
use Rattle.definitions.specs.Visit.{Visited, acted, passed, less_one}
use Rattle.definitions.specs.Run.{next, run, fuel, run_slice}
use Rattle.definitions.specs.Calls.{pools_fit}
use Rattle.engine_laws.specs.Frame.{FramesOk, edits_frame, pools_kept}
use Rattle.good_laws.specs.Good.{Good, rest}
use Rattle.good_laws.specs.Edits.{Answers}
use Rattle.good_laws.specs.Scripts.{Visits}
use Rattle.good_laws.specs.Loaded.{load_good, ok_injective}
use Rattle.good_laws.specs.Sound.{Condition, Sound, Of}
use Rattle.slice_laws.specs.Sums.{total, slices}
use Rattle.slice_laws.specs.Loop.{Lasts, taken, after, run_by, run_by_lem}
use Rattle.slice_laws.specs.Compose.{slices_compose}
use Rattle.fuel_laws.specs.Lasts.{InRange, Running, next_last, taken_running}

-- ---- the pools stay

net_pools : (free : Name) (t : FlatNet) (e : Engine) → Answers (λ e'. e'.pools ≡ e.pools) (add_flat_net free t e)
unfolding add_flat_net with_nets
net_pools free t e =
    let h : Home = record { name = t.name; free = fresh e 0 } in
    let e₁ = with_nets (e.nets ++ new_net h ∷ []) e in
    let ds = load_net (fresh e) free (length e.nets) t in
    go e₁ refl (each edit ds e₁) (edits_frame ds e₁)
  where
    go : (e₁ : Engine) → e₁.pools ≡ e.pools → (r : Result Engine) → FramesOk e₁ r → Answers (λ e'. e'.pools ≡ e.pools) r
    go e₁ q (ok e') f = pools_kept f ∙ q
    go e₁ q (refuse r) f = tt

nets_pools : (free : Name) (ts : List FlatNet) (e : Engine) → Answers (λ e'. e'.pools ≡ e.pools) (each (add_flat_net free) ts e)
nets_pools free [] e = refl
nets_pools free (t ∷ ts) e = go (add_flat_net free t e) (net_pools free t e) (λ e'. nets_pools free ts e')
  where
    go : (r : Result Engine) → Answers (λ e'. e'.pools ≡ e.pools) r → ((e' : Engine) → Answers (λ e₂. e₂.pools ≡ e'.pools) (each (add_flat_net free) ts e'))
        → Answers (λ e'. e'.pools ≡ e.pools) (r >>= λ e'. each (add_flat_net free) ts e')
    go (ok e') q f = then (each (add_flat_net free) ts e') (f e')
      where
        then : (r : Result Engine) → Answers (λ e₂. e₂.pools ≡ e'.pools) r → Answers (λ e₂. e₂.pools ≡ e.pools) r
        then (ok e₂) k = k ∙ q
        then (refuse r) k = tt
    go (refuse r) q f = tt

pub load_pools : (p : Pools) (f : File FlatNet) (e : Engine) → load p f ≡ ok e → e.pools ≡ p
unfolding load empty
load_pools p f e q = go (load p f) (nets_pools (free_name f.paths) (included f) (empty p f)) q
  where
    go : (r : Result Engine) → Answers (λ e'. e'.pools ≡ p) r → r ≡ ok e → e.pools ≡ p
    go (ok e') h s = subst (λ (d : Engine). d.pools ≡ p) (ok_injective s) h
    go (refuse r) h s = absurd (let z : ◌≡◌ {A = ℕ} 0 1 = cc in omega arith)

in_range : (p : Pools) → pools_fit p ≡ true → InRange p
unfolding pools_fit
in_range p h =
    let a = (both (leb 1 p.nodes && leb p.nodes 4096 && leb 1 p.entries && leb p.entries 16384) (leb p.waits 4096) h).0 in
    let b = (both (leb 1 p.nodes && leb p.nodes 4096 && leb 1 p.entries) (leb p.entries 16384) a).0 in
    let c = (both (leb 1 p.nodes && leb p.nodes 4096) (leb 1 p.entries) b).0 in
    record {
      nodes = leb-true p.nodes 4096 (both (leb 1 p.nodes) (leb p.nodes 4096) c).1;
      waits = leb-true p.waits 4096 (both (leb 1 p.nodes && leb p.nodes 4096 && leb 1 p.entries && leb p.entries 16384) (leb p.waits 4096) h).1;
    }

-- ---- reached

-- the engine that a visit left
abbrev pub leaves : Visited → Engine
leaves (acted e) = e
leaves (passed e) = e

-- by the load of a file, and by turns of slices of any numbers
pub data Reached (p : Pools) (f : File FlatNet) : Engine → Type 0 where
  loads : {e : Engine} → load p f ≡ ok e → Reached p f e
  turns : {e : Engine} (n : Option ℕ) (q : List ℕ × ℕ) (v : Visited) → Reached p f e → next n e ≡ some q → taken q e ≡ ok v → Reached p f (leaves v)

-- so a slice ends in an engine that is reached
module _ (p : Pools) (file : File FlatNet) where
  module _ (f : ℕ) (ih : (n : Option ℕ) (e : Engine) → Reached p file e → Answers (Reached p file) (run f n e)) where
    reached_after : (n : Option ℕ) (e : Engine) (q : List ℕ × ℕ) → Reached p file e → next n e ≡ some q → (r : Result Visited) → taken q e ≡ r
        → Answers (Reached p file) (r >>= λ v. after f n v)
    reached_after n e q h s (ok (acted e')) t = ih (less_one n) e' (turns n q (acted e') h s t)
    reached_after n e q h s (ok (passed e')) t = ih n e' (turns n q (passed e') h s t)
    reached_after n e q h s (refuse r) t = tt

    reached_by : (n : Option ℕ) (e : Engine) → Reached p file e → (o : Option (List ℕ × ℕ)) → next n e ≡ o → Answers (Reached p file) (run_by f n e o)
    reached_by n e h none s = h
    reached_by n e h (some q) s = reached_after n e q h s (taken q e) refl

  pub run_reached : (f : ℕ) (n : Option ℕ) (e : Engine) → Reached p file e → Answers (Reached p file) (run f n e)
  unfolding run
  run_reached zero n e h = tt
  run_reached (suc f) n e h = subst (Answers (Reached p file)) (sym (run_by_lem f n e)) (reached_by f (λ n' e' h'. run_reached f n' e' h') n e h (next n e) refl)

-- the bound of document 01: "The dirty list never exceeds 4N + 4 entries", stale ones "under half a nonzero capacity"
pub record Bounded (e : Engine) : Type 0 where
  pub entries : length e.dirty.items ≤ 4 * e.pools.nodes + 4
  pub capacity : e.dirty.capacity ≤ 4 * e.pools.nodes + 4
  pub stale : e.dirty.capacity ≢ 0 → 2 * e.dirty.stale < e.dirty.capacity

pub good_bounded : (x : ℕ → ℕ) (e : Engine) → Good x e → Bounded e
good_bounded x e g =
    let a = g.dirty.room in
    let b = g.dirty.bound in
    let c = g.dirty.half in
    record { entries = omega arith; capacity = b; stale = λ d. omega arith }

module _ (P : Condition) (sound : Sound P) (p : Pools) (fits : pools_fit p ≡ true) (f : File FlatNet) (begins : (e : Engine) → load p f ≡ ok e → Of P e) where
  -- what holds of every engine reached
  pub reached_running : {e : Engine} → Reached p f e → Running P sound e
  reached_running (loads {e = e} q) = (((load_good p f e q).0, begins e q, (load_good p f e q).1), subst InRange (sym (load_pools p f e q)) (in_range p fits))
  reached_running (turns {e = e} n q v r h t) =
      go v (subst (Visits (Running P sound) (Running P sound)) t (taken_running P sound q e (reached_running r) (next_last n e q h)))
    where
      go : (u : Visited) → Visits (Running P sound) (Running P sound) (ok u) → Running P sound (leaves u)
      go (acted e') k = k
      go (passed e') k = k

  -- `dirty-bounded`
  pub dirty_bounded : {e : Engine} → Reached p f e → Bounded e
  dirty_bounded {e} r = good_bounded rest e (reached_running r).0.0
