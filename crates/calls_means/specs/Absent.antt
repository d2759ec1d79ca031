-- Words that are no image in the pools of a call: slice and finish are refused by 1 or 16, as at level Engine. Zeros are an image in no
-- pools, a run in its own alone.
use Rattle.std.specs.Prelude.{ℕ, zero, suc, ◌+◌, ◌*◌, ◌<◌, Bool, ◌&&◌, List, [], ◌∷◌, length, get_or, eqb}
use Rattle.std.proofs.Math.Path.{◌≡◌, refl, sym, ap, subst}
use Rattle.std.proofs.Common.{◌∙◌, arith, eqb-true, eq-eqb, le-leb}
use Rattle.std.proofs.Math.Bool.{true, false}
use Rattle.std.proofs.lemmas.Bool.{false≢true}
use Rattle.std.proofs.Math.Option.{none, some}
use Rattle.std.proofs.Math.Dec.{leb}
use Rattle.list_laws.specs.Tests.{both, both_are}
use Rattle.net_file.specs.Lists.{Result, ok, refuse, need}
use Rattle.net_file.specs.Checks.{limit_fits}
use Rattle.definitions.specs.Lists.{◌>>=◌}
use Rattle.definitions.specs.State.{Pools}
use Rattle.definitions.specs.Calls
use Rattle.definitions.specs.Calls.{Held, Workspace, unchanged, pools_fit, same_pools, resume}
use Rattle.words.specs.Choose.{pick, if_eq, pick_and}
use Rattle.layout.specs.Layout.{node_pool, entry_pool, wait_pool}
use Rattle.clear.specs.Zeroed.{zeroed}
use Rattle.image_head.specs.Head.{pools_hold, header_holds}
use Rattle.image.specs.Image.{resumable}
use Rattle.lent.specs.Lent.{Lent, words_of, room, zero_words}
use Rattle.lent.specs.declared.Pools as Lent
use Rattle.lent.specs.declared.Answer.TheVariants.{Refused}
use Rattle.slicing.specs.Slicing.{slice_image, slice}
use Rattle.slicing.specs.Ways.{slice_room, slice_no_room}
use Rattle.slicing.specs.Ways as Slicing
use Rattle.finishing.specs.Finishing.{Given, finish_image, finish}
use Rattle.finishing.specs.Ways.{finish_room, finish_no_room}
use Rattle.finishing.specs.Ways as Finishing
use Rattle.start_means.specs.Start.{pools_of}
use Rattle.optimize_means.specs.Room.{space, room_is}
use Rattle.optimize_means.specs.Optimized.{unwritten}
use Rattle.calls_means.specs.Carries.{Carries, Outcomes, of_pools}
use Rattle.calls_means.specs.Slice.{steps_told, Slices}
use Rattle.calls_means.specs.Finish.{Finishes, Answers}

-- ---- refusals by 1 and 16

module _ (q : Lent.Pools) (ws bs : List ℕ) (w : Workspace) (absent : resumable q.nodes q.entries q.waits ws bs ≡ false)
    (e : resume w (pools_of q) ≡ need (room q ws) 1 (refuse 16)) where
  pub slice_refused : (n : ℕ) → Outcomes steps_told q ws bs (slice q n ws bs) (Calls.slice w (pools_of q) n)
  unfolding Calls.slice
  slice_refused n =
      subst (λ (r : Result Held). Outcomes steps_told q ws bs (slice q n ws bs) (Slices n (r >>= λ g. need (limit_fits n) 4 (ok g)))) (sym e) (go (room q ws) refl)
    where
      go : (t : Bool) → room q ws ≡ t → Outcomes steps_told q ws bs (slice q n ws bs) (Slices n (need t 1 (refuse 16) >>= λ g. need (limit_fits n) 4 (ok g)))
      go false h = subst (λ (x : Lent). Outcomes steps_told q ws bs x (refuse 1, unchanged)) (slice_no_room q n ws bs false (sym h) refl) (refl, (refl, refl))
      go true h =
          let i : ◌≡◌ {A = Lent} (record { is = Refused 16; ws = ws; bs = bs }) (slice_image q n ws bs) = Slicing.no_image q n ws bs false (sym absent) refl in
          subst (λ (x : Lent). Outcomes steps_told q ws bs x (refuse 16, unchanged))
          (slice_room q n ws ws bs bs true (Refused 16) (sym h) refl (ap (λ (x : Lent). x.is) i) (ap (λ (x : Lent). x.ws) i) (ap (λ (x : Lent). x.bs) i)) (refl, (refl, refl))

  pub finish_refused : (out : List ℕ) → Finishes q ws bs out (finish q ws bs out) (Calls.finish w (pools_of q) (length out))
  unfolding Calls.finish
  finish_refused out = subst (λ (r : Result Held). Finishes q ws bs out (finish q ws bs out) (Answers (length out) r)) (sym e) (go (room q ws) refl)
    where
      go : (t : Bool) → room q ws ≡ t → Finishes q ws bs out (finish q ws bs out) (Answers (length out) (need t 1 (refuse 16)))
      go false h =
          subst (λ (x : Given). Finishes q ws bs out x (refuse 1, unchanged)) (finish_no_room q ws bs out false (sym h) refl) (refl, unwritten out 1, (refl, refl))
      go true h =
          let i : ◌≡◌ {A = Given} (record { is = Refused 16; ws = ws; bs = bs; out = out }) (finish_image q ws bs out) = Finishing.no_image q ws bs out false (sym absent) refl in
          subst (λ (x : Given). Finishes q ws bs out x (refuse 16, unchanged))
          (finish_room q ws ws bs bs out out true (Refused 16) (sym h) refl (ap (λ (x : Given). x.is) i) (ap (λ (x : Given). x.ws) i) (ap (λ (x : Given). x.bs) i) (ap (λ (x : Given). x.out) i))
          (refl, unwritten out 16, (refl, refl))

-- ---- what an image's first words are

given_true : (t u : Bool) → pick t u false ≡ true → (t ≡ true) × (u ≡ true)
given_true t u h = both t u (sym (pick_and t u) ∙ h)

same_true : (m n : ℕ) (u : Bool) → if_eq m n u false ≡ true → (m ≡ n) × (u ≡ true)
unfolding if_eq
same_true m n u h = let g = given_true (eqb m n) u h in (eqb-true m n g.0, g.1)

-- the mark and the pools of the call
image_pools : (ws bs : List ℕ) (a b c : ℕ) → resumable a b c ws bs ≡ true → (get_or ws 0 0 ≡ 1) × (node_pool ws ≡ a) × (entry_pool ws ≡ b) × (wait_pool ws ≡ c)
unfolding resumable header_holds pools_hold
image_pools ws bs a b c h =
    let head = (given_true (header_holds ws a b c) _ h).0 in
    let x = same_true (get_or ws 0 0) 1 _ (given_true (pools_hold ws a b c) _ head).0 in
    let y = same_true (node_pool ws) a _ x.1 in
    let z = same_true (entry_pool ws) b _ y.1 in
    (x.0, y.0, z.0, eqb-true (wait_pool ws) c z.1)

is_not : (t : Bool) → (t ≡ true → ⊥) → t ≡ false
is_not true h = absurd (h refl)
is_not false h = refl

zeroed_first : (k : ℕ) (xs : List ℕ) → 0 < k → get_or (zeroed k xs) 0 0 ≡ 0
unfolding zeroed
zeroed_first zero xs h = absurd (omega arith)
zeroed_first (suc k) [] h = refl
zeroed_first (suc k) (x ∷ xs) h = refl

-- zeros are no image
pub zeros_absent : (q : Lent.Pools) (v bs : List ℕ) (a b c : ℕ) → resumable a b c (zero_words q v) bs ≡ false
unfolding zero_words words_of
zeros_absent q v bs a b c =
    is_not (resumable a b c (zero_words q v) bs)
    (λ h. let m = (image_pools (zero_words q v) bs a b c h).0 in let z = zeroed_first (words_of q) v (omega arith) in absurd (omega arith))

-- a run is no image in other pools
pub others_absent : (q p : Lent.Pools) (ws bs : List ℕ) (h : Held) → Carries q ws bs h → same_pools (pools_of p) (pools_of q) ≡ false
    → resumable p.nodes p.entries p.waits ws bs ≡ false
unfolding same_pools
others_absent q p ws bs h c d =
    is_not (resumable p.nodes p.entries p.waits ws bs)
    (λ i.
    let m = image_pools ws bs p.nodes p.entries p.waits i in
    let o = of_pools q ws bs h c in
    let head = c.holds.means.header in
    let n : p.nodes ≡ q.nodes = sym m.1 ∙ head.nodes ∙ ap (λ (x : Pools). x.nodes) o in
    let e : p.entries ≡ q.entries = sym m.2 ∙ head.entries ∙ ap (λ (x : Pools). x.entries) o in
    let w : p.waits ≡ q.waits = sym m.3 ∙ head.waits ∙ ap (λ (x : Pools). x.waits) o in
    false≢true (sym d ∙ both_are _ _ (both_are _ _ (eq-eqb p.nodes q.nodes n) (eq-eqb p.entries q.entries e)) (eq-eqb p.waits q.waits w)))

-- ---- level Engine

module _ (q : Lent.Pools) (ws bs : List ℕ) where
  -- 1, "as for no file"
  fits_is : (pools_fit (pools_of q) && (leb (5216 + 32 * q.nodes + 2 * q.entries + 3 * q.waits) (length ws) && leb 0 (length bs))) ≡ room q ws
  unfolding words_of
  fits_is =
      let p = pools_fit (pools_of q) in
      let l = leb (words_of q) (length ws) in
      ap (λ (b : Bool). p && (l && b)) (le-leb 0 (length bs) (omega arith)) ∙ go p l ∙ sym (room_is q ws)
    where
      go : (a b : Bool) → (a && (b && true)) ≡ (a && b)
      go true true = refl
      go true false = refl
      go false b = refl

  pub none_resumes : resume (space ws bs none) (pools_of q) ≡ need (room q ws) 1 (refuse 16)
  unfolding resume
  none_resumes = ap {A = Bool} (λ t. need {A = Held} t 1 (refuse 16)) fits_is

  pub others_resume : (h : Held) → same_pools (pools_of q) h.engine.pools ≡ false → resume (space ws bs (some h)) (pools_of q) ≡ need (room q ws) 1 (refuse 16)
  unfolding resume
  others_resume h d = rw (fits_is, d) refl
