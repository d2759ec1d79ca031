-- A rule that acts by an orderly script keeps the books; so does one that waits.
use Rattle.std.specs.Prelude.{ℕ, ◌+◌, ◌≤◌, ◌<◌, ◌≡◌, ◌≢◌, Bool, List, [], ◌∷◌, ◌++◌}
use Rattle.std.proofs.Math.Path.{refl, ap, subst}
use Rattle.std.proofs.Common.{sym, ◌∙◌, arith, ltb-true}
use Rattle.std.proofs.Math.Bool.{true, false}
use Rattle.std.proofs.Math.ListN.{length, length-append}
use Rattle.std.proofs.Math.Dec.{ltb}
use Rattle.net_file.specs.Lists.{Result, ok, refuse, need}
use Rattle.net_file.specs.Values.{Rule, max_steps}
use Rattle.definitions.specs.Lists.{◌>>=◌, each, foldl}
use Rattle.definitions.specs.Nets.{Graph, Home, at}
use Rattle.definitions.specs.Scripts.{Script, apply, vacate, apply_script}
use Rattle.definitions.specs.State.{Net, Engine, graph_of, homes, with_steps, with_pending, with_awaiting, net_at, over_net, more, waits, entries}
use Rattle.definitions.specs.Books.{remove_node, fresh, edit, finish_edit}
use Rattle.definitions.specs.Visit.{Visited, acted, passed, less_one, act, await_net}
use Rattle.engine_laws.specs.Frame.{body, FramesOk, edits_frame, finish_frame, homes_kept, rules_kept, steps_kept, more_still, awaiting_still}
use Rattle.good_laws.specs.Owners.{owners}
use Rattle.good_laws.specs.Nets.{over_length, over_part, over_other, sum_over, part_at, pending_more}
use Rattle.good_laws.specs.Good.{Good, made_by, bump}
use Rattle.good_laws.specs.Marks.{over_good, more_good}
use Rattle.good_laws.specs.Removed.{AllThere, remove_graph, finish_good}
use Rattle.good_laws.specs.Answers.{made_append}
use Rattle.good_laws.specs.Idle.{Idle, Rises, rises_then, edits_rise}
use Rattle.good_laws.specs.Settled.{finish_rises}
use Rattle.good_laws.specs.Edits.{Numbered, Edited, Answers, made, edits_good}

-- a script fits an engine: its new nodes take the slots in the order of the chain, its dead nodes are there, each once, all of net k
abbrev pub Orderly : Engine → ℕ → Script → Type 0
Orderly e k s = Numbered (length e.nets) (fresh e) 0 s.edits × AllThere (owners (foldl apply (graph_of e) s.edits)) k s.dead

-- ---- a rule acts

finish_graph : (dead : List ℕ) (e : Engine) → graph_of (finish_edit dead e) ≡ foldl vacate (graph_of e) dead
unfolding finish_edit
finish_graph [] e = refl
finish_graph (n ∷ dead) e = finish_graph dead (remove_node e n) ∙ ap (λ (g : Graph). foldl vacate g dead) (remove_graph e n)

-- the books are good, the nodes are those of g, rules and homes are as they were, and from e₀ on no net came to 0
pub record Done (x : ℕ → ℕ) (e₀ : Engine) (g : Graph) (hs : List Home) (rs : List Rule) (e : Engine) : Type 0 where
  pub good : Good x e
  pub rises : Rises e₀ e
  pub nodes : graph_of e ≡ g
  pub home : homes e ≡ hs
  pub rules : e.rules ≡ rs

-- what a visit answers
abbrev pub Visits : (Engine → Type 0) → (Engine → Type 0) → Result Visited → Type 0
Visits A Q (ok (acted e)) = A e
Visits A Q (ok (passed e)) = Q e
Visits A Q (refuse r) = Unit {0}

pub act_good : (x : ℕ → ℕ) (k : ℕ) (s : Script) (e : Engine) (Q : Engine → Type 0) → Good x e → Orderly e k s → 1 ≤ x k
    → Visits (Done x e (apply_script (graph_of e) s) (homes e) e.rules) Q (act s e)
unfolding act with_steps apply_script fresh waits entries net_at
act_good x k s e Q g o one =
    go (ltb e.steps max_steps) refl (each edit s.edits e) (edits_frame s.edits e) (edits_rise s.edits e)
    (edits_good x (length e.nets) e.slots.chain (λ i. length (graph_of e) + i) s.edits 0 (graph_of e) e
    (record { good = g; nets = refl; left = refl; nodes = refl }) o.0)
  where
    go : (t : Bool) → ltb e.steps max_steps ≡ t → (r : Result Engine) → FramesOk e r → Answers (Rises e) r
        → Answers (λ e'. Edited x (length e.nets) e.slots.chain (0 + made s.edits) (foldl apply (graph_of e) s.edits) e') r
        → Visits (Done x e (foldl vacate (foldl apply (graph_of e) s.edits) s.dead) (homes e) e.rules) Q
        (need t 14 (r >>= λ e'. ok (acted (with_steps (less_one e'.limit) (e'.steps + 1) (finish_edit s.dead e')))))
    go true h (ok e') f u d =
        let there : AllThere (owners (graph_of e')) k s.dead = subst (λ (y : Graph). AllThere (owners y) k s.dead) (sym d.nodes) o.1 in
        let b = finish_good x k s.dead e' d.good there in
        let v = rises_then e e' (finish_edit s.dead e') u (finish_rises x k s.dead e' d.good there one) in
        let l = ltb-true e.steps max_steps h in
        let q : e'.steps ≡ e.steps = steps_kept f in
        record {
          good = record { slotted = b.slotted; dirty = b.dirty; lists = b.lists; pending = b.pending; waiting = b.waiting; entered = b.entered; stepped = omega arith };
          rises = record { nets = v.nets; same = v.same; was = v.was };
          nodes = finish_graph s.dead e' ∙ ap (λ (y : Graph). foldl vacate y s.dead) d.nodes;
          home = homes_kept (finish_frame s.dead e') ∙ homes_kept f;
          rules = rules_kept (finish_frame s.dead e') ∙ rules_kept f;
        }
    go true h (refuse r) f u d = tt
    go false h r f u d = tt

-- ---- a node waits

waits_over : (f : Net → Net) (m : ℕ) (e : Engine) → m < length e.nets
    → waits (over_net f m e) + length (net_at e m).awaiting ≡ waits e + length (f (net_at e m)).awaiting
unfolding waits
waits_over f m e l = sum_over (λ t. length t.awaiting) f m e l

module _ (x : ℕ → ℕ) (m n : ℕ) (e : Engine) where
  abbrev k : ℕ
  k = (at (graph_of e) n).net

  abbrev waited : Engine
  waited = over_net (λ t. with_awaiting (t.awaiting ++ record { node = n; net = k } ∷ []) t) m e

  -- the wait is counted in place of the visit
  waited_good : Good (bump k x) e → m < length e.nets → waits e < e.pools.waits → Good x waited
  unfolding with_awaiting
  waited_good g l w =
      let f : Net → Net = λ t. with_awaiting (t.awaiting ++ record { node = n; net = k } ∷ []) t in
      let s : waits waited + length (net_at e m).awaiting ≡ waits e + length ((net_at e m).awaiting ++ record { node = n; net = k } ∷ []) = waits_over f m e l in
      let c = length-append (net_at e m).awaiting (record { node = n; net = k } ∷ []) in
      over_good (bump k x) x f m e g (λ t. refl)
      (λ j h.
      let p = g.pending j h in
      let q = part_at (λ t. t.pending) e waited (over_part (λ t. t.pending) f m e (λ t. refl)) j in
      let a = sum_over (λ t. made_by j t.awaiting) f m e l in
      let b = made_append j (net_at e m).awaiting (record { node = n; net = k } ∷ []) in
      omega arith)
      (omega arith)

  -- net m is above 0
  waited_idle : Idle e → (net_at e m).pending ≢ 0 → Idle (more k waited)
  unfolding more with_awaiting with_pending
  waited_idle h above j l z =
      waits_kept ∙ ap (λ (t : Net). t.awaiting) (over_other (λ t. with_awaiting (t.awaiting ++ record { node = n; net = k } ∷ []) t) m e j apart) ∙ h j low was
    where
      low₁ : j < length waited.nets
      low₁ = subst (λ (c : ℕ). j < c) (over_length (λ t. with_pending (t.pending + 1) t) k waited) l

      low : j < length e.nets
      low = subst (λ (c : ℕ). j < c) (over_length (λ t. with_awaiting (t.awaiting ++ record { node = n; net = k } ∷ []) t) m e) low₁

      was : (net_at e j).pending ≡ 0
      was =
          let p = pending_more k waited j low₁ in
          let q = part_at (λ t. t.pending) e waited (over_part (λ t. t.pending) (λ t. with_awaiting (t.awaiting ++ record { node = n; net = k } ∷ []) t) m e (λ t. refl)) j in
          omega arith

      apart : j ≢ m
      apart q = above (ap (λ (i : ℕ). (net_at e i).pending) (sym q) ∙ was)

      waits_kept : (net_at (more k waited) j).awaiting ≡ (net_at waited j).awaiting
      waits_kept = part_at (λ t. t.awaiting) waited (more k waited) (over_part (λ t. t.awaiting) (λ t. with_pending (t.pending + 1) t) k waited (λ t. refl)) j

  pub await_good : (A : Engine → Type 0) → Good (bump k x) e → Idle e → (net_at e m).pending ≢ 0 → m < length e.nets
      → Visits A (λ e'. Good (bump k x) e' × (body e' ≡ body e) × Idle e') (await_net m n e)
  unfolding await_net
  await_good A g i above l = go (ltb (waits e) e.pools.waits) refl
    where
      go : (t : Bool) → ltb (waits e) e.pools.waits ≡ t → Visits A (λ e'. Good (bump k x) e' × (body e' ≡ body e) × Idle e') (need t 11 (ok (passed (more k waited))))
      go true h =
          (more_good x k waited (waited_good g l (ltb-true (waits e) e.pools.waits h)), more_still k waited ∙ awaiting_still (λ t. t.awaiting ++ record { node = n; net = k } ∷ []) m e, waited_idle i above)
      go false h = tt
