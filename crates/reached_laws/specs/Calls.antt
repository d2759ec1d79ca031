-- Slices compose, call by call: slice calls one after another on one workspace, up to the first that is refused, answer and leave what
-- one call of their sum does.
use Rattle.std.specs.Prelude.{ℕ, zero, suc, ◌+◌, ◌-◌, ◌≤◌, ◌≡◌, ◌≢◌, Bool, true, false, ◌&&◌, ◌||◌, List, [], ◌∷◌, map, length, leb}
use Rattle.std.proofs.Math.Path.{refl}
use Rattle.std.proofs.Common.{sym, ap, ◌∙◌, subst, arith, ne_eqb, le-leb}
use Rattle.std.proofs.Math.Option.{Option, none, some}
use Rattle.net_file.specs.Lists.{Result, ok, refuse, need, all}
use Rattle.net_file.specs.Values.{FlatNet, File, max_steps, no_limit}
use Rattle.net_file.specs.Read.{limit_of}
use Rattle.net_file.specs.Write.{limit_number}
use Rattle.net_file.specs.Checks.{flat, limit_fits, write}
use Rattle.list_laws.specs.Tests.{both}
use Rattle.definitions.specs.Lists.{◌>>=◌}
use Rattle.definitions.specs.State.{Pools, Engine, with_dirty}
use Rattle.definitions.specs.Visit.{Visited, acted, passed, less_one}
use Rattle.definitions.specs.Run.{with_items, next, run, fuel, run_slice}
use Rattle.definitions.specs.Calls.{Held, Workspace, unchanged, zeros, image, Outcome, pools_fit, same_pools, resume, slice, after}
use Rattle.engine_laws.specs.Frame.{frame, pools_kept}
use Rattle.engine_laws.specs.Turns.{Counts}
use Rattle.engine_laws.proofs.Turns.{turn_counts}
use Rattle.good_laws.specs.Edits.{Answers}
use Rattle.slice_laws.specs.Sums.{total, slices}
use Rattle.slice_laws.specs.Loop
use Rattle.slice_laws.specs.Compose.{slices_compose}

-- ---- a run keeps its pools

module _ (f : ℕ) (ih : (n : Option ℕ) (e : Engine) → Answers (λ e'. e'.pools ≡ e.pools) (run f n e)) where
  pools_after : (e : Engine) (n : Option ℕ) (r : Result Visited) → Counts (frame e) r → Answers (λ e'. e'.pools ≡ e.pools) (r >>= λ v. Loop.after f n v)
  pools_after e n (ok (acted e')) c = then (run f (less_one n) e') (ih (less_one n) e')
    where
      then : (r : Result Engine) → Answers (λ e₂. e₂.pools ≡ e'.pools) r → Answers (λ e₂. e₂.pools ≡ e.pools) r
      then (ok e₂) q = q ∙ pools_kept c
      then (refuse r) q = tt
  pools_after e n (ok (passed e')) c = then (run f n e') (ih n e')
    where
      then : (r : Result Engine) → Answers (λ e₂. e₂.pools ≡ e'.pools) r → Answers (λ e₂. e₂.pools ≡ e.pools) r
      then (ok e₂) q = q ∙ pools_kept c
      then (refuse r) q = tt
  pools_after e n (refuse r) c = tt

  pools_by : (n : Option ℕ) (e : Engine) (o : Option (List ℕ × ℕ)) → Answers (λ e'. e'.pools ≡ e.pools) (Loop.run_by f n e o)
  unfolding with_items with_dirty
  pools_by n e none = refl
  pools_by n e (some p) = pools_after (with_items p.0 e) n (Loop.taken p e) (turn_counts p.1 (with_items p.0 e))

run_pools : (f : ℕ) (n : Option ℕ) (e : Engine) → Answers (λ e'. e'.pools ≡ e.pools) (run f n e)
unfolding run
run_pools zero n e = tt
run_pools (suc f) n e = subst (Answers (λ e'. e'.pools ≡ e.pools)) (sym (Loop.run_by_lem f n e)) (pools_by f (λ n' e'. run_pools f n' e') n e (next n e))

-- ---- slice calls

-- the workspace with another run, or none
abbrev pub holding : Workspace → Option Held → Workspace
holding w h = record { fits = w.fits; held = h }

-- after a call the next ones, unless it was refused: what they deducted together, and the workspace that they leave
abbrev pub onward : Workspace → (Workspace → Result ℕ × Workspace) → Outcome ℕ → Result ℕ × Workspace
onward w calls (refuse r, l) = (refuse r, after w l)
onward w calls (ok k, l) = let c = calls (after w l) in (c.0 >>= λ j. ok (k + j), c.1)

-- slice calls in order
unfoldable pub slice_calls : Workspace → Pools → List ℕ → Result ℕ × Workspace
slice_calls w p [] = (ok 0, w)
slice_calls w p (n ∷ ns) = onward w (λ w'. slice_calls w' p ns) (slice w p n)

-- a run can be gone on with: the workspace holds it, in these pools and long enough
pub record Resumes (w : Workspace) (p : Pools) (h : Held) : Type 0 where
  pub fit : (pools_fit p && w.fits p 0) ≡ true
  pub held : w.held ≡ some h
  pub same : (same_pools p h.engine.pools && w.fits p (length (write flat h.file))) ≡ true

pub resumes : (w : Workspace) (p : Pools) (h : Held) → resume w p ≡ ok h → Resumes w p h
unfolding resume
resumes w p h q = go (pools_fit p && w.fits p 0) refl w.held refl q
  where
    hold : (t : Bool) → (h' : Held) → (same_pools p h'.engine.pools && w.fits p (length (write flat h'.file))) ≡ t → (pools_fit p && w.fits p 0) ≡ true → w.held ≡ some h'
        → need t 16 (ok h') ≡ ok h → Resumes w p h
    hold true h' s f r q = let e : h' ≡ h = cc in subst (Resumes w p) e (record { fit = f; held = r; same = s })
    hold false h' s f r q = absurd (let z : ◌≡◌ {A = ℕ} 0 1 = cc in omega arith)

    go : (t : Bool) → (pools_fit p && w.fits p 0) ≡ t → (o : Option Held) → w.held ≡ o
        → need t 1 (elim o as (λ _. Result Held) [
          | none ↦ refuse 16
          | some h' ↦ need (same_pools p h'.engine.pools && w.fits p (length (write flat h'.file))) 16 (ok h')
        ]) ≡ ok h → Resumes w p h
    go true f (some h') r q = hold (same_pools p h'.engine.pools && w.fits p (length (write flat h'.file))) h' refl f r q
    go true f none r q = absurd (let z : ◌≡◌ {A = ℕ} 0 1 = cc in omega arith)
    go false f o r q = absurd (let z : ◌≡◌ {A = ℕ} 0 1 = cc in omega arith)

resume_is : (w : Workspace) (p : Pools) (h : Held) → Resumes w p h → resume w p ≡ ok h
unfolding resume
resume_is w p h r =
    ap (λ (t : Bool). need t 1 (elim w.held as (λ _. Result Held) [ none ↦ refuse 16 | some h' ↦ need (same_pools p h'.engine.pools && w.fits p (length (write flat h'.file))) 16 (ok h') ])) r.fit
    ∙ ap (λ (o : Option Held). elim o as (λ _. Result Held) [ none ↦ refuse 16 | some h' ↦ need (same_pools p h'.engine.pools && w.fits p (length (write flat h'.file))) 16 (ok h') ]) r.held
    ∙ ap (λ (t : Bool). need t 16 (ok h)) r.same

-- a slice's outcome, by what the engine gives
abbrev outcome : File FlatNet → Result (Engine × ℕ) → Outcome ℕ
outcome f (refuse r) = (refuse r, zeros (length (write flat f)))
outcome f (ok r) = (ok r.1, image (record { file = f; engine = r.0 }))

pub slice_is : (w : Workspace) (p : Pools) (h : Held) (n : ℕ) → Resumes w p h → limit_fits n ≡ true → slice w p n ≡ outcome h.file (run_slice (limit_of n) h.engine)
unfolding slice
slice_is w p h n r l =
    ap {A = Result Held} (λ x. elim x as (λ _. Outcome ℕ) [
      | refuse r ↦ (refuse r, unchanged)
      | ok h' ↦ elim (run_slice (limit_of n) h'.engine) as (λ _. Outcome ℕ) [
        | refuse r ↦ (refuse r, zeros (length (write flat h'.file)))
        | ok r ↦ (ok r.1, image (record { file = h'.file; engine = r.0 }))
      ]
    ]) (ap {A = Result Held} (λ x. x >>= λ h'. need (limit_fits n) 4 (ok h')) (resume_is w p h r) ∙ ap (λ (t : Bool). need {A = Held} t 4 (ok h)) l)
    ∙ go (run_slice (limit_of n) h.engine)
  where
    go : (x : Result (Engine × ℕ)) → ◌≡◌ {A = Outcome ℕ} (elim x as (λ _. Outcome ℕ) [
      | refuse r ↦ (refuse r, zeros (length (write flat h.file)))
      | ok r ↦ (ok r.1, image (record { file = h.file; engine = r.0 }))
    ]) (outcome h.file x)
    go (refuse r) = refl
    go (ok r) = refl

-- ---- calls and slices

-- what the calls come to, by what the engine gives
abbrev pub ends : Workspace → File FlatNet → Result (Engine × ℕ) → Result ℕ × Workspace
ends w f (refuse r) = (refuse r, holding w none)
ends w f (ok r) = (ok r.1, holding w (some (record { file = f; engine = r.0 })))

-- one slice more
resumes_after : (w : Workspace) (p : Pools) (h : Held) (n : Option ℕ) (r : Engine × ℕ) → Resumes w p h → run_slice n h.engine ≡ ok r
    → Resumes (holding w (some (record { file = h.file; engine = r.0 }))) p (record { file = h.file; engine = r.0 })
unfolding run_slice
resumes_after w p h n r s q = record { fit = s.fit; held = refl; same = subst (λ (x : Pools). (same_pools p x && w.fits p (length (write flat h.file))) ≡ true) (sym (go (run fuel n h.engine) (run_pools fuel n h.engine) q)) s.same }
  where
    go : (x : Result Engine) → Answers (λ e'. e'.pools ≡ h.engine.pools) x → (x >>= λ e'. ok (e', e'.steps - h.engine.steps)) ≡ ok r → r.0.pools ≡ h.engine.pools
    go (ok e') k q = let z : e' ≡ r.0 = ap {A = Result (Engine × ℕ)} (λ y. elim y as (λ _. Engine) [ ok t ↦ t.0 | refuse t ↦ e' ]) q in subst (λ (d : Engine). d.pools ≡ h.engine.pools) z k
    go (refuse t) k q = absurd (let z : ◌≡◌ {A = ℕ} 0 1 = cc in omega arith)

pub calls_are : (ns : List ℕ) (w : Workspace) (p : Pools) (h : Held) → Resumes w p h → all limit_fits ns ≡ true → slice_calls w p ns ≡ ends w h.file (slices (map limit_of ns) h.engine)
unfolding slice_calls slices after
calls_are [] w p h r l = λ i. (ok 0, record { fits = w.fits; held = r.held i })
calls_are (n ∷ ns) w p h r l =
    let b = both (limit_fits n) (all limit_fits ns) l in
    ap (onward w (λ w'. slice_calls w' p ns)) (slice_is w p h n r b.0)
    ∙ go (run_slice (limit_of n) h.engine) refl (λ w' h' r'. calls_are ns w' p h' r' b.1)
  where
    more : (k : ℕ) (w' : Workspace) → w'.fits ≡ w.fits → (x : Result (Engine × ℕ))
        → ◌≡◌ {A = Result ℕ × Workspace} ((ends w' h.file x).0 >>= λ j. ok (k + j), (ends w' h.file x).1) (ends w h.file (x >>= λ s. ok (s.0, k + s.1)))
    more k w' q (refuse t) = λ i. (refuse t, record { fits = q i; held = none })
    more k w' q (ok s) = λ i. (ok (k + s.1), record { fits = q i; held = some (record { file = h.file; engine = s.0 }) })

    go : (x : Result (Engine × ℕ)) → run_slice (limit_of n) h.engine ≡ x
        → ((w' : Workspace) (h' : Held) → Resumes w' p h' → slice_calls w' p ns ≡ ends w' h'.file (slices (map limit_of ns) h'.engine))
        → onward w (λ w'. slice_calls w' p ns) (outcome h.file x) ≡ ends w h.file (x >>= λ r. slices (map limit_of ns) r.0 >>= λ s. ok (s.0, r.1 + s.1))
    go (refuse t) q ih = refl
    go (ok t) q ih =
        let h₁ : Held = record { file = h.file; engine = t.0 } in
        let w₁ = holding w (some h₁) in
        ap (λ (c : Result ℕ × Workspace). (c.0 >>= λ j. ok (t.1 + j), c.1)) (ih w₁ h₁ (resumes_after w p h (limit_of n) t r q))
        ∙ more t.1 w₁ refl (slices (map limit_of ns) t.0)

-- ---- one call of their sum

-- none, or at most 16,777,216 steps: what a call takes
abbrev pub SumFits : Option ℕ → Type 0
SumFits none = Unit {0}
SumFits (some n) = n ≤ max_steps

-- the number that stands for it
pub number_back : (o : Option ℕ) → SumFits o → (limit_of (limit_number o) ≡ o) × (limit_fits (limit_number o) ≡ true)
unfolding limit_of limit_number limit_fits
number_back none h = (refl, refl)
number_back (some n) h =
    let d : n ≢ no_limit = omega arith in
    let a = ne_eqb n no_limit d in
    (ap (λ (t : Bool). elim t as (λ _. Option ℕ) [ true ↦ none | false ↦ some n ]) a, ap (λ (t : Bool). t || leb n max_steps) a ∙ le-leb n max_steps h)

pub ends_outcome : (w : Workspace) (f : File FlatNet) (x : Result (Engine × ℕ)) → ends w f x ≡ ((outcome f x).0, after w (outcome f x).1)
unfolding after
ends_outcome w f (refuse r) = refl
ends_outcome w f (ok r) = refl
