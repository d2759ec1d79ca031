-- A rule's edits made and its dead nodes listed, then the step counted and the dead nodes gone: the words mean the engine that level Engine's
-- `act` answers. One law for every rule with a script.
use Rattle.std.specs.Prelude.{ℕ, ◌+◌, ◌<◌, ◌≤◌, ◌≡◌, Bool, List, set}
use Rattle.std.proofs.Math.Path.{refl, subst}
use Rattle.std.proofs.Common.{sym, ap, ◌∙◌}
use Rattle.std.proofs.Math.Bool.{true, false}
use Rattle.std.proofs.Math.Option.{Option, none, some}
use Rattle.std.proofs.Math.ListN.{length}
use Rattle.std.proofs.Math.Dec.{ltb}
use borrow.Author.Tests.{ltb-true}
use native.Mathlib.Omega.{arith}
use Rattle.net_file.specs.Lists.{Result, ok, refuse, need}
use Rattle.net_file.specs.Values.{Name, max_steps}
use Rattle.definitions.specs.Lists.{◌>>=◌, each, foldl}
use Rattle.definitions.specs.Nets.{Graph}
use Rattle.definitions.specs.Scripts.{Script, apply, apply_script}
use Rattle.definitions.specs.State.{Engine, graph_of, homes, with_steps, net_at, waits, entries}
use Rattle.definitions.specs.Books.{fresh, edit, finish_edit}
use Rattle.definitions.specs.Visit.{Visited, acted, passed, less_one, act, act_if}
use Rattle.definitions.specs.Run.{spent}
use Rattle.engine_laws.specs.Frame.{Outline, FramesOk, edits_frame, steps_kept}
use Rattle.good_laws.specs.Owners.{owners}
use Rattle.good_laws.specs.Good.{Good}
use Rattle.good_laws.specs.Removed.{AllThere}
use Rattle.good_laws.specs.Edits.{Edited, Answers, made, edits_good}
use Rattle.good_laws.specs.Scripts.{Orderly, Done, Visits, act_good}
use Rattle.words.specs.Choose.{eq_split}
use Rattle.words.specs.Left.{Left}
use Rattle.layout.specs.Layout.{next, less, dead, limit, steps}
use Rattle.edits.specs.Edits.{finish_edit_words}
use Rattle.tried.specs.declared.Tried.{Tried}
use Rattle.run_slice.specs.Run.{deduct, count_step}
use Rattle.means.specs.Means.{Means}
use Rattle.means.specs.Frame.{rest_trans}
use Rattle.script_means.specs.Dead.{Dead}
use Rattle.script_means.specs.Tries.{Came, Tries, Between}
use Rattle.removal_means.specs.Kept.{Kept, kept_set}
use Rattle.removal_means.specs.Finish.{dead_kept}
use Rattle.removal_means.proofs.Finish.{finish_edit_means}
use Rattle.names_means.specs.Kept as Names
use Rattle.names_means.specs.Gone.{finish_edit_names}
use Rattle.run_means.specs.Count.{LimitFits, count_step_means}
use Rattle.run_means.specs.Steps.{finish_steps}
use Rattle.visit_means.specs.Tells.{Tells}

-- an edit is finished: the words mean the engine, and no node is to go
pub record Finished (Named : ℕ → Name → Type 0) (ws : List ℕ) (e : Engine) : Type 0 where
  pub means : Means Named ws e
  pub none_dead : dead ws ≡ 0

-- words and engine where nothing was done
abbrev pub Untouched : List ℕ → Engine → List ℕ → Engine → Type 0
Untouched ws e w e' = (w ≡ ws) × (e' ≡ e)

-- and where a script was; no net's name is written when the edit is finished
abbrev pub DoneBy : (ℕ → Name → Type 0) → (ℕ → ℕ) → Engine → Option Script → List ℕ → Engine → Type 0
DoneBy Named x e o w e' = (s : Script) × (o ≡ some s) × Finished Named (finish_edit_words (count_step w)) e' × Done x e (apply_script (graph_of e) s) (homes e) e.rules e'
    × Names.Kept w (finish_edit_words (count_step w))

-- a step is counted in words 5 and 6
count_kept : (ws : List ℕ) → Kept ws (count_step ws)
unfolding count_step deduct
count_kept ws =
    let w = set ws 6 (next (steps ws)) in
    let first : Kept ws w = kept_set ws 6 (next (steps ws)) (λ i o d. omega arith) in
    eq_split (limit w) 4294967295 w (set w 5 (less (limit w))) (λ (u : List ℕ). Kept ws u) (λ q. first) (λ q. rest_trans first (kept_set w 5 (less (limit w)) (λ i o d. omega arith)))

count_names : (ws : List ℕ) → Names.Kept ws (count_step ws)
unfolding count_step deduct
count_names ws =
    let w = set ws 6 (next (steps ws)) in
    let first : Names.Kept ws w = Names.before ws 6 (next (steps ws)) (omega arith) in
    eq_split (limit w) 4294967295 w (set w 5 (less (limit w))) (λ (u : List ℕ). Names.Kept ws u) (λ q. first) (λ q. rest_trans first (Names.before w 5 (less (limit w)) (omega arith)))

module _ (Named : ℕ → Name → Type 0) (x : ℕ → ℕ) (k : ℕ) (small : x k ≤ 4294900000) where
  -- the step is counted and the dead nodes go; no net's name is written
  pub finish_means : (w : List ℕ) (e : Engine) (gone : List ℕ) → Means Named w e → Dead w gone → Good x e → AllThere (owners (graph_of e)) k gone → e.steps < max_steps
      → LimitFits e.limit → spent e.limit ≡ false
      → Finished Named (finish_edit_words (count_step w)) (with_steps (less_one e.limit) (e.steps + 1) (finish_edit gone e)) × Names.Kept w (finish_edit_words (count_step w))
  unfolding with_steps waits entries net_at
  finish_means w e gone m d g there below fits over =
      let l = less_one e.limit in
      let s = e.steps + 1 in
      let e₁ = with_steps l s e in
      let good : Good x e₁ = record { slotted = g.slotted; dirty = g.dirty; lists = g.lists; pending = g.pending; waiting = g.waiting; entered = g.entered; stepped = omega arith } in
      let list : Dead (count_step w) gone = dead_kept w (count_step w) gone (count_kept w) d in
      let counted : Means Named (count_step w) e₁ = count_step_means Named w e m (omega arith) fits over in
      let done = finish_edit_means Named (count_step w) e₁ counted x good k small gone list there in (
        record { means = subst (λ (y : Engine). Means Named (finish_edit_words (count_step w)) y) (finish_steps l s gone e) done.0; none_dead = done.1.count },
        rest_trans (count_names w) (finish_edit_names Named (count_step w) e₁ counted x good k small gone list there),
      )

  module _ (one : 1 ≤ x k) (ws : List ℕ) (e : Engine) (b : Between Named x ws e) (fits : LimitFits e.limit) (over : spent e.limit ≡ false) where
    -- once the edit is finished
    abbrev Ended : List ℕ → Engine → Type 0
    Ended w e' = Finished Named (finish_edit_words (count_step w)) e' × Names.Kept w (finish_edit_words (count_step w))

    same_limit : {u v : Outline} → u ≡ v → u.3 ≡ v.3
    same_limit h = ap (λ (z : Outline). z.3) h

    script_tells : (s : Script) (t : Left Tried) → Orderly e k s → Tries Named ws e t (some s) → Tells (Untouched ws e) Ended t (act s e)
    unfolding act fresh
    script_tells s t o c =
        go (ltb e.steps max_steps) refl (each edit s.edits e) (edits_frame s.edits e)
        (edits_good x (length e.nets) e.slots.chain (λ i. length (graph_of e) + i) s.edits 0 (graph_of e) e
        (record { good = b.good; nets = refl; left = refl; nodes = refl }) o.0) c
      where
        go : (u : Bool) → ltb e.steps max_steps ≡ u → (r : Result Engine) → FramesOk e r
            → Answers (λ e'. Edited x (length e.nets) e.slots.chain (0 + made s.edits) (foldl apply (graph_of e) s.edits) e') r → Came Named s.dead t (need u 14 r)
            → Tells (Untouched ws e) Ended t
            (need u 14 (r >>= λ e'. ok (acted (with_steps (less_one e'.limit) (e'.steps + 1) (finish_edit s.dead e')))))
        go true h (ok e') f d c =
            let l = ltb-true e.steps max_steps h in
            let q : e'.steps ≡ e.steps = steps_kept f in
            let z : e'.limit ≡ e.limit = same_limit f in
            (c.0, finish_means t.ws e' s.dead c.1 c.2 d.good (subst (λ (y : Graph). AllThere (owners y) k s.dead) (sym d.nodes) o.1) (omega arith) (subst LimitFits (sym z) fits) (ap spent z ∙ over))
        go true h (refuse r) f d c = c
        go false h r f d c = c

    -- with what the books say
    with_books : (s : Script) (t : Left Tried) (r : Result Visited) → Tells (Untouched ws e) Ended t r
        → Visits (Done x e (apply_script (graph_of e) s) (homes e) e.rules) (λ _. Unit {0}) r → Tells (Untouched ws e) (DoneBy Named x e (some s)) t r
    with_books s t (ok (acted e')) h d = (h.0, (s, refl, h.1.0, d, h.1.1))
    with_books s t (ok (passed e')) h d = h
    with_books s t (refuse r) h d = h

    -- a rule that was tried, by its script
    pub act_tells : (o : Option Script) (t : Left Tried) → ((s : Script) → o ≡ some s → Orderly e k s) → Tries Named ws e t o → Tells (Untouched ws e) (DoneBy Named x e o) t (act_if o e)
    unfolding act_if
    act_tells none t f c = (ap (λ (l : Left Tried). l.is) c, (ap (λ (l : Left Tried). l.ws) c, refl))
    act_tells (some s) t f c = with_books s t (act s e) (script_tells s t (f s refl) c) (act_good x k s e (λ _. Unit {0}) b.good (f s refl) one)
