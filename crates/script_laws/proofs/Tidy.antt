-- A script that uses each port of its dead and of its new nodes once, and no other, leaves the nets well wired.
use Rattle.std.specs.Prelude.{◌≡◌, refl, ◌≢◌, ◌⊎◌, ℕ, ◌<◌, ◌≤◌, Bool, true, false, not, length}
use Rattle.std.proofs.Common.{sym, ap, ◌∙◌, subst, inl, inr, arith, true≢false}
use Rattle.std.proofs.Math.Decide.{ℕ_discrete, dec_lt}
use Rattle.std.proofs.lemmas.Bool.{false≢true}
use Rattle.std.proofs.Math.Option.{Option, none, some}
use mathlib.Core.List.{List, [], ◌∷◌, Memᴰ}
use Rattle.std.proofs.Math.ListN.{get_or-eq_default}
use Rattle.definitions.specs.Lists.{or_else, is_some, foldl}
use Rattle.definitions.specs.Nets.{Port, Graph, port, at, filled, arity, across}
use Rattle.definitions.specs.Scripts.{Edit, Script, apply, vacate, apply_script}
use Rattle.join_laws.specs.Ports.{Frame, no_frame, frame, arity_frame, arity_same, net_same, filled_frame, filled_same, Real, across_real}
use Rattle.join_laws.specs.Link.{Wired}
use Rattle.script_laws.specs.Slots.{frame_vacate_same, frame_vacate_other, across_vacate, across_vacant}
use Rattle.script_laws.specs.Safe.{Safe, Born, Turns, frame_edits}
use Rattle.script_laws.proofs.Safe.{edits_wired, edits_kept}
use Rattle.script_laws.specs.Tidy.{WellWired, Tidy, across_past, hole, real_filled, vacates_across, h, start, dead_frame, left, real_frame}

-- ---- the law

module _ (g : Graph) (s : Script) (Z : Port → Type 0) (w : WellWired g) (t : Tidy g s Z) where
  made : Wired (h g s Z w t) × Turns g (h g s Z w t) Z
  made = edits_wired Z s.edits g g (λ _. ⊥) Z w.wired (start g s Z w t) t.safe

  dead_holes : (n : ℕ) → Memᴰ n s.dead → (i : ℕ) → across (h g s Z w t) (port n i) ≡ none
  dead_holes n m i = go (dec_lt i (arity g n))
    where
      go : Dec (i < arity g n) → across (h g s Z w t) (port n i) ≡ none
      go (yes l) = hole (across (h g s Z w t) (port n i)) (made.1.used (port n i) ((t.gone n m).1 i l) ∙ ap not (w.full (port n i) l))
      go (no l) = across_past (h g s Z w t) n i (let e = arity_same g (h g s Z w t) n ((dead_frame g s Z w t) n m) in omega arith)

  pub script_across : (r : Port) → across (apply_script g s) r ≡ across (h g s Z w t) r
  unfolding apply_script
  script_across = vacates_across s.dead (h g s Z w t) dead_holes

  script_full : (r : Port) → Real (apply_script g s) r → is_some (across (apply_script g s) r) ≡ true
  script_full r l =
      let x = (left g s Z w t) r.node ((real_frame g s Z w t) (apply_script g s) r l) in
      let y : Real (h g s Z w t) r = subst (λ (k : ℕ). r.index < k) (arity_same (h g s Z w t) (apply_script g s) r.node x.1) l in
      ap is_some (script_across r) ∙ go x.0 y (frame_edits Z s.edits g (λ _. ⊥) Z t.safe r.node)
    where
      old : ¬ Memᴰ r.node s.dead → Real g r → ¬ Z r
      old d y z = via (t.only r z)
        where
          via : Memᴰ r.node s.dead ⊎ (filled g r.node ≡ false) → ⊥
          via (inl m) = d m
          via (inr v) = true≢false (sym (real_filled g r y) ∙ v)

      go : ¬ Memᴰ r.node s.dead → Real (h g s Z w t) r
          → (frame (h g s Z w t) r.node ≡ frame g r.node) ⊎ Born Z g (h g s Z w t) r.node
          → is_some (across (h g s Z w t) r) ≡ true
      go d y (inl e) =
          let z : Real g r = subst (λ (k : ℕ). r.index < k) (arity_same g (h g s Z w t) r.node e) y in
          made.1.rest r (old d z) ∙ w.full r z
      go d y (inr x) = made.1.used r (x.1 r.index y) ∙ ap (λ (o : Option Port). not (is_some o)) (across_vacant g r x.0)

  script_wired : Wired (apply_script g s)
  script_wired = record {
    back = λ p q e. script_across q ∙ made.0.back p q (sym (script_across p) ∙ e);
    apart = λ p e. made.0.apart p (sym (script_across p) ∙ e);
    within = λ p q e.
        let k = sym (script_across p) ∙ e in
        net p q e ∙ made.0.within p q k ∙ sym (net q p (script_across q ∙ made.0.back p q k));
  }
    where
      net : (p q : Port) → across (apply_script g s) p ≡ some q → (at (apply_script g s) p.node).net ≡ (at (h g s Z w t) p.node).net
      net p q e = net_same (h g s Z w t) (apply_script g s) p.node ((left g s Z w t) p.node ((real_frame g s Z w t) (apply_script g s) p (across_real (apply_script g s) p q e))).1

  -- a tidy script leaves the nets well wired
  pub tidy_wired : WellWired (apply_script g s)
  tidy_wired = record { wired = script_wired; full = script_full }

  -- a wire between two nodes that do not die stays
  pub wire_kept : (p q : Port) → across g p ≡ some q → ¬ Memᴰ p.node s.dead → ¬ Memᴰ q.node s.dead → across (apply_script g s) p ≡ some q
  wire_kept p q e dp dq =
      script_across p ∙ edits_kept Z s.edits g g (λ _. ⊥) Z w.wired (start g s Z w t) t.safe p q e
      (unused p dp (real_filled g p (across_real g p q e)))
      (unused q dq (real_filled g q (across_real g q p (w.wired.back p q e))))
    where
      unused : (r : Port) → ¬ Memᴰ r.node s.dead → filled g r.node ≡ true → ¬ Z r
      unused r d f z = via (t.only r z)
        where
          via : Memᴰ r.node s.dead ⊎ (filled g r.node ≡ false) → ⊥
          via (inl m) = d m
          via (inr v) = true≢false (sym f ∙ v)
