-- A graft's edits made and its dead nodes listed, then the step counted and the dead nodes gone: what holds then.
use Rattle.std.specs.Prelude.{ℕ, ◌+◌, ◌<◌, ◌≤◌, ◌≡◌, ◌≢◌, Bool, true, false, List}
use Rattle.std.proofs.Math.Path.{refl, ap, subst}
use Rattle.std.proofs.Common.{sym, ◌∙◌, lt-ltb, arith}
use Rattle.std.proofs.Math.ListN.{length}
use Rattle.net_file.specs.Lists.{Result, ok}
use Rattle.net_file.specs.Values.{Name, max_steps}
use Rattle.definitions.specs.Lists.{◌>>=◌, each, foldl}
use Rattle.definitions.specs.Nets.{Graph, port, at, holds, name_of, arity}
use Rattle.definitions.specs.Scripts.{apply, apply_script}
use Rattle.definitions.specs.State.{Engine, graph_of, homes, with_steps, with_nets, net_at, over_net}
use Rattle.definitions.specs.Books.{tighten_net, fresh, edit, finish_edit}
use Rattle.definitions.specs.Visit.{acted, less_one, act, await_net, try_graft}
use Rattle.definitions.specs.Run.{spent}
use Rattle.engine_laws.specs.Frame.{Outline, FramesOk, edits_frame, steps_kept}
use Rattle.good_laws.specs.Owners.{owners}
use Rattle.good_laws.specs.Removed.{AllThere}
use Rattle.good_laws.specs.Edits.{Numbered, Edited, Answers, made, edits_good}
use Rattle.good_laws.specs.Scripts.{Orderly, Done, Visits, act_good}
use Rattle.script_laws.specs.Tidy.{real_filled}
use Rattle.edits.specs.Edits.{finish_edit_words}
use Rattle.waits.specs.Waits.{await_net_words}
use Rattle.tried.specs.Tries.{name}
use Rattle.graft.specs.Graft.{graft}
use Rattle.run_slice.specs.Run.{count_step}
use Rattle.script_means.specs.Tries.{Between}
use Rattle.names_means.specs.Kept.{Kept}
use Rattle.graft_means.specs.Ready.{graft_of, fits, Acts, Ready, between, grafting}
use Rattle.means.specs.Names.{Called}
use Rattle.graft_means.specs.Tests.{Children, Waits, graft_means}
use Rattle.visit_means.specs.Tells.{Tells}
use Rattle.run_means.specs.Count.{LimitFits}
use Rattle.acts_means.specs.Acted.{Finished, finish_means}
use Rattle.graft_acts.specs.Script.{graft_orderly}

-- net m was grafted in place of node n, on words ws that meant e
abbrev pub Grafted : (ℕ → Name → Type 0) → (ℕ → ℕ) → List ℕ → Engine → ℕ → ℕ → List ℕ → Engine → Type 0
Grafted Named x ws e m n w e' = Finished Named (finish_edit_words (count_step w)) e' × Kept ws w × Kept w (finish_edit_words (count_step w))
    × Done x (tighten_net m e) (apply_script (graph_of (tighten_net m e)) (graft_of e m n)) (homes (tighten_net m e)) (tighten_net m e).rules e' × Numbered (length (tighten_net m e).nets) (fresh (tighten_net m e)) 0 (graft_of e m n).edits

module _ (Named : ℕ → Name → Type 0) (x : ℕ → ℕ) (small : (k : ℕ) → x k ≤ 4294900000) (k : ℕ) (one : 1 ≤ x k) (ws : List ℕ) (e : Engine) (b : Between Named x ws e)
    (limit : LimitFits e.limit) (over : spent e.limit ≡ false) (m n : ℕ) (t : Ready x e m n) (own : (at (graph_of e) n).net ≡ k) where
  abbrev e₁ : Engine
  e₁ = tighten_net m e

  ordered : fits e m n ≡ true → Orderly (tighten_net m e) k (graft_of e m n)
  unfolding tighten_net over_net with_nets
  ordered f =
      let c = between Named x small ws e b m n t in
      let g = grafting Named x small ws e b m n t in
      graft_orderly x e₁ c.good c.wired m n k _ _ g.nodes g.there own g.free f

  -- the books after the edits
  module _ (f : fits e m n ≡ true) (e' : Engine) (is : each edit (graft_of e m n).edits (tighten_net m e) ≡ ok e') where
    edited : Edited x (length e₁.nets) e₁.slots.chain (0 + made (graft_of e m n).edits) (foldl apply (graph_of e₁) (graft_of e m n).edits) e'
    unfolding fresh
    edited =
        subst (Answers (λ y. Edited x (length e₁.nets) e₁.slots.chain (0 + made (graft_of e m n).edits) (foldl apply (graph_of e₁) (graft_of e m n).edits) y)) is
        (edits_good x (length e₁.nets) e₁.slots.chain (λ i. length (graph_of e₁) + i) (graft_of e m n).edits 0 (graph_of e₁) e₁
        (record { good = (between Named x small ws e b m n t).good; nets = refl; left = refl; nodes = refl }) (ordered f).0)

    framed : FramesOk (tighten_net m e) (ok e')
    framed = subst (FramesOk (tighten_net m e)) is (edits_frame (graft_of e m n).edits (tighten_net m e))

    done : e.steps < max_steps
        → Done x e₁ (apply_script (graph_of e₁) (graft_of e m n)) (homes e₁) e₁.rules (with_steps (less_one e'.limit) (e'.steps + 1) (finish_edit (graft_of e m n).dead e'))
    unfolding act tighten_net over_net with_nets
    done l =
        subst (λ (r : Result Engine). Visits (Done x e₁ (apply_script (graph_of e₁) (graft_of e m n)) (homes e₁) e₁.rules) (λ _. Unit {0})
        (r >>= λ y. ok (acted (with_steps (less_one y.limit) (y.steps + 1) (finish_edit (graft_of e m n).dead y))))) is
        (rw (lt-ltb e.steps max_steps l) at (act_good x k (graft_of e m n) e₁ (λ _. Unit {0}) (between Named x small ws e b m n t).good (ordered f) one))

  -- so a graft acts
  pub graft_acts : Acts Named (Grafted Named x ws e m n) ws e m n
  unfolding tighten_net over_net with_nets
  graft_acts w e' kept is f l means dead =
      let d = edited f e' is in
      let same = framed f e' is in
      let q : e'.steps ≡ e.steps = steps_kept same in
      let z : e'.limit ≡ e.limit = ap (λ (y : Outline). y.3) same in
      let there : AllThere (owners (graph_of e')) k (graft_of e m n).dead = subst (λ (y : Graph). AllThere (owners y) k (graft_of e m n).dead) (sym d.nodes) (ordered f).1 in
      let u = finish_means Named x k (small k) w e' (graft_of e m n).dead means dead d.good there (omega arith) (subst LimitFits (sym z) limit) (ap spent z ∙ over) in
      (u.0, kept, u.1, done f e' is l, (ordered f).0)

module _ (Named : ℕ → Name → Type 0) (x : ℕ → ℕ) (small : (k : ℕ) → x k ≤ 4294900000) (k : ℕ) (one : 1 ≤ x k) (file ws : List ℕ) (e : Engine) (b : Between Named x ws e)
    (limit : LimitFits e.limit) (over : spent e.limit ≡ false) (n : ℕ) (own : (at (graph_of e) n).net ≡ k) (P : List ℕ → Engine → Type 0) where
  -- some net at 0 was grafted in place of node n
  abbrev pub AnyGrafted : List ℕ → Engine → Type 0
  AnyGrafted w e' = (m : ℕ) × Ready x e m n × Grafted Named x ws e m n w e'

  -- graft, tried: P where it passes or waits
  pub graft_tried : P ws e → 0 < arity (graph_of e) n → Called ws e → Children file (name ws n) (name_of (graph_of e) n)
      → ((m : ℕ) → m < length e.nets → holds (graph_of e) m (net_at e m).home.free ≡ true)
      → ((m : ℕ) → m < length e.nets → (net_at e m).pending ≢ 0 → Waits P (await_net_words ws (m + 1) n) (await_net m n e))
      → (lazy : Bool) → Tells P AnyGrafted (graft ws file lazy (k + 1) n) (try_graft lazy n e)
  graft_tried now ported called children free waits lazy =
      subst (λ (j : ℕ). Tells P AnyGrafted (graft ws file lazy (j + 1) n) (try_graft lazy n e)) own
      (graft_means Named P AnyGrafted x small file ws e b n (record {
        holds_now = now;
        visited = visited;
        ported = ported;
        called = called;
        children = children;
        free = free;
        waits = waits;
        acts = λ m low z w e' kept is f l means dead. (m, ready m low z, graft_acts Named x small k one ws e b limit over m n (ready m low z) own w e' kept is f l means dead);
      }) lazy)
    where
      visited : 1 ≤ x (at (graph_of e) n).net
      visited = subst (λ (j : ℕ). 1 ≤ x j) (sym own) one

      ready : (m : ℕ) → m < length e.nets → (net_at e m).pending ≡ 0 → Ready x e m n
      ready m low z = record { low = low; there = real_filled (graph_of e) (port n 0) ported; visited = visited; at_zero = z; free = free m low }
