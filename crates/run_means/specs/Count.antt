-- A step is counted: one more since begin, one less of the limit left, "a none staying none".
use Rattle.std.specs.Prelude.{ℕ, ◌+◌, ◌-◌, ◌<◌, ◌≤◌, ◌≡◌, ◌≢◌, false, List, get_or}
use Rattle.std.proofs.Math.Path.{refl, sym}
use Rattle.std.proofs.Common.{ap, ◌∙◌, subst, length-set, get_or-set_same}
use Rattle.std.proofs.Math.Option.{Option, none, some}
use Rattle.std.proofs.Math.ListN.{length, set}
use Rattle.std.proofs.Math.Seq.{get_or-set_other}
use native.Mathlib.Omega.{arith}
use Rattle.std.proofs.lemmas.Bool.{eqb-false}
use Rattle.net_file.specs.Values.{Name}
use Rattle.definitions.specs.State.{Engine, with_steps, entries, waits}
use Rattle.definitions.specs.Visit.{less_one}
use Rattle.definitions.specs.Run.{spent}
use Rattle.words.specs.Choose.{eq_yes, eq_no}
use Rattle.layout.specs.Layout.{next, less, limit, steps}
use Rattle.run_slice.specs.Run.{deduct, count_step}
use Rattle.means.specs.Means.{limit_word, Header, Means}
use Rattle.means.specs.Frame.{HeadWords, Rest, rest_set, rest_trans, used_keep, nodes_keep, marks_keep, vacant_keep, dirty_keep, nets_keep, lists_keep, awaits_keep}

-- a limit is none, or a number that no word takes for none
abbrev pub LimitFits : Option ℕ → Type 0
LimitFits none = Unit {0}
LimitFits (some l) = l < 4294967295

-- all but the words of limit and steps
abbrev OutSteps : ℕ → Type 0
OutSteps i = HeadWords 5 2 i → ⊥

-- other words of limit and steps
means_steps : (Named : ℕ → Name → Type 0) (ws w : List ℕ) (e : Engine) (l : Option ℕ) (s : ℕ) → Means Named ws e → Rest OutSteps ws w
    → limit w ≡ limit_word l → steps w ≡ s → Means Named w (with_steps l s e)
unfolding with_steps entries waits
means_steps Named ws w e l s m r el es =
    let few = m.header.few_nets in
    let h = m.header in
    let long = h.long in
    let same = r.long in
    record {
      header = record {
        long = omega arith;
        nodes = r.same 1 (omega arith) ∙ h.nodes;
        entries = r.same 2 (omega arith) ∙ h.entries;
        waits = r.same 3 (omega arith) ∙ h.waits;
        limit_is = el;
        steps_are = es;
        nets_are = r.same 7 (omega arith) ∙ h.nets_are;
        few_nodes = h.few_nodes;
        few_entries = h.few_entries;
        few_waits = h.few_waits;
        few_nets = h.few_nets;
      };
      used = used_keep Named ws w e m (λ i p. r.same i (omega arith)) (λ i p. r.same i (omega arith));
      nodes = nodes_keep ws w (λ i p. r.same i (omega arith)) m.nodes;
      marks = marks_keep ws w (λ i p. r.same i (omega arith)) m.marks;
      vacant = vacant_keep ws w m.header.few_nodes (λ i p. r.same i (omega arith)) (λ i p. r.same i (omega arith)) m.vacant;
      dirty = dirty_keep ws w (λ i p. r.same i (omega arith)) (λ i p. r.same i (omega arith)) m.dirty;
      nets = nets_keep Named ws w e m (λ k h i p. r.same i (omega arith));
      lists = lists_keep Named ws w e m (λ i p. r.same i (omega arith)) (λ i p. r.same i (omega arith)) (λ i p. r.same i (omega arith));
      waits_are = awaits_keep Named ws w e m (λ i p. r.same i (omega arith)) (λ i p. r.same i (omega arith)) (λ i p. r.same i (omega arith));
    }

module _ (ws : List ℕ) (long : 8 ≤ length ws) (v : ℕ) where
  abbrev w1 : List ℕ
  w1 = set ws 6 v

  -- what deducting leaves, by the limit
  deduct_none : limit ws ≡ 4294967295 → deduct w1 ≡ w1
  unfolding deduct
  deduct_none h = sym (eq_yes (limit w1) 4294967295 w1 _ (get_or-set_other ws 6 5 v 0 (omega arith) ∙ h) refl)

  deduct_some : limit ws ≢ 4294967295 → deduct w1 ≡ set w1 5 (less (limit ws))
  unfolding deduct
  deduct_some h =
      let e : limit w1 ≡ limit ws = get_or-set_other ws 6 5 v 0 (omega arith) in
      sym (eq_no (limit w1) 4294967295 w1 (set w1 5 (less (limit w1))) (λ q. h (sym e ∙ q)) (ap (λ (x : ℕ). set w1 5 (less x)) (sym e)))

module _ (Named : ℕ → Name → Type 0) (ws : List ℕ) (e : Engine) (m : Means Named ws e) where
  -- one step more, where the limit is not spent
  pub count_step_means : e.steps < 4294967295 → LimitFits e.limit → spent e.limit ≡ false → Means Named (count_step ws) (with_steps (less_one e.limit) (e.steps + 1) e)
  unfolding count_step less_one spent
  count_step_means b f x = go e.limit refl f x
    where
      long : 8 ≤ length ws
      long = let h = m.header.long in omega arith

      v : ℕ
      v = next (steps ws)

      v_is : v ≡ e.steps + 1
      v_is = let h = m.header.steps_are in omega arith

      first : Rest OutSteps ws (set ws 6 v)
      first = rest_set OutSteps ws 6 v (λ i o q. o (omega arith))

      go : (l : Option ℕ) → e.limit ≡ l → LimitFits l → spent l ≡ false → Means Named (deduct (set ws 6 v)) (with_steps (less_one l) (e.steps + 1) e)
      go none el f x =
          let word : limit ws ≡ 4294967295 = m.header.limit_is ∙ ap limit_word el in
          rw (deduct_none ws long v word)
          (means_steps Named ws (set ws 6 v) e none (e.steps + 1) m first (get_or-set_other ws 6 5 v 0 (omega arith) ∙ word) (get_or-set_same ws 6 v 0 (omega (arith, long)) ∙ v_is))
      go (some l) el f x =
          let word : limit ws ≡ l = m.header.limit_is ∙ ap limit_word el in
          let z : l ≢ 0 = eqb-false l 0 x in
          let k = length-set ws 6 v in
          rw (deduct_some ws long v (λ q. omega arith))
          (means_steps Named ws (set (set ws 6 v) 5 (less (limit ws))) e (some (l - 1)) (e.steps + 1) m (rest_trans first (rest_set OutSteps _ 5 _ (λ i o q. o (omega arith))))
          (get_or-set_same (set ws 6 v) 5 (less (limit ws)) 0 (omega (arith, long)) ∙ omega arith)
          (get_or-set_other (set ws 6 v) 5 6 (less (limit ws)) 0 (omega arith) ∙ get_or-set_same ws 6 v 0 (omega (arith, long)) ∙ v_is))
