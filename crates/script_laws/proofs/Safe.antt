-- One law for all scripts. While a script runs, a port is a hole exactly if it is new and not yet used, or old and already used.
use Rattle.std.specs.Prelude.{◌≡◌, refl, ◌≢◌, ◌⊎◌, ℕ, ◌<◌, Bool, true, false, not, List, [], ◌∷◌, ◌++◌, length}
use Rattle.std.proofs.Common.{sym, ap, ◌∙◌, subst, inl, inr, arith, true≢false}
use Rattle.std.proofs.Math.Decide.{ℕ_discrete}
use Rattle.std.proofs.Math.Option.{Option, none, some}
use Rattle.definitions.specs.Lists.{or_else, is_some, foldl}
use Rattle.definitions.specs.Nets.{Port, Node, Graph, port, at, filled, arity, across}
use Rattle.definitions.specs.Scripts.{Edit, Insert, Copy, Join, Cut, fill, join, cut, apply}
use Rattle.join_laws.specs.Ports.{Frame, no_frame, frame, frame_of, arity_same, arity_frame, net_same, filled_frame, filled_same, Real, across_real}
use Rattle.join_laws.specs.Link.{Wired, Turned, frame_cut, cut_other, cut_wired}
use Rattle.join_laws.proofs.Join.{frame_join, join_wired, join_kept}
use Rattle.script_laws.specs.Slots.{Holes, frame_fill_same, frame_fill_other, across_fill}
use Rattle.script_laws.specs.Safe.{was, Fits, Used, Safe, used_same, fits_same, Turns, edit_wired, safe_used, edit_kept}

pub safe_same : (F : Port → Type 0) (ds : List Edit) (g : Graph) (U U' Z : Port → Type 0) → ((r : Port) → (U r → U' r) × (U' r → U r)) → Safe F g U ds Z → Safe F g U' ds Z
safe_same F [] g U U' Z h s = λ r. (λ u. (s r).0 ((h r).1 u), λ v. (h r).0 ((s r).1 v))
safe_same F (d ∷ ds) g U U' Z h s = (fits_same F g U U' d h s.0, safe_same F ds (apply g d) (Used U d) (Used U' d) Z (used_same U U' d h) s.1)

pub safe_append : (F : Port → Type 0) (ds es : List Edit) (g : Graph) (U Z W : Port → Type 0) → Safe F g U ds Z → Safe F (foldl apply g ds) Z es W → Safe F g U (ds ++ es) W
safe_append F [] es g U Z W s t = safe_same F es g Z U W (λ r. ((s r).1, (s r).0)) t
safe_append F (d ∷ ds) es g U Z W s t = (s.0, safe_append F ds es (apply g d) (Used U d) Z W s.1 t)

-- ---- all edits

pub edits_wired : (F : Port → Type 0) (ds : List Edit) (g₀ g : Graph) (U Z : Port → Type 0) → Wired g → Turns g₀ g U → Safe F g U ds Z
    → Wired (foldl apply g ds) × Turns g₀ (foldl apply g ds) Z
edits_wired F [] g₀ g U Z w t s = (w, record { used = λ r v. t.used r ((s r).1 v); rest = λ r n. t.rest r (λ u. n ((s r).0 u)) })
edits_wired F (d ∷ ds) g₀ g U Z w t s =
    let k = edit_wired F g₀ g U d w t s.0 in
    edits_wired F ds g₀ (apply g d) (Used U d) Z k.0 k.1 s.1

-- a wire whose two ports are not used stays
pub edits_kept : (F : Port → Type 0) (ds : List Edit) (g₀ g : Graph) (U Z : Port → Type 0) → Wired g → Turns g₀ g U → Safe F g U ds Z
    → (p q : Port) → across g p ≡ some q → ¬ Z p → ¬ Z q → across (foldl apply g ds) p ≡ some q
edits_kept F [] g₀ g U Z w t s p q e np nq = e
edits_kept F (d ∷ ds) g₀ g U Z w t s p q e np nq =
    let k = edit_wired F g₀ g U d w t s.0 in
    let h = safe_used F ds (apply g d) (Used U d) Z s.1 in
    edits_kept F ds g₀ (apply g d) (Used U d) Z k.0 k.1 s.1 p q (edit_kept F g U d w s.0 p q e (λ u. np (h p u)) (λ u. nq (h q u))) np nq

-- a wire whose two ports are used already stays too
pub edits_still : (F : Port → Type 0) (ds : List Edit) (g₀ g : Graph) (U Z : Port → Type 0) → Wired g → Turns g₀ g U → Safe F g U ds Z
    → (p q : Port) → across g p ≡ some q → U p → U q → across (foldl apply g ds) p ≡ some q
unfolding apply
edits_still F [] g₀ g U Z w t s p q e up uq = e
edits_still F (d ∷ ds) g₀ g U Z w t s p q e up uq =
    let k = edit_wired F g₀ g U d w t s.0 in
    let h = still d s.0 in
    edits_still F ds g₀ (apply g d) (Used U d) Z k.0 k.1 s.1 p q h.0 h.1 h.2
  where
    still : (d : Edit) → Fits F g U d → (across (apply g d) p ≡ some q) × Used U d p × Used U d q
    still (Insert n x) f = (across_fill g n x p f.vacant f.holes ∙ e, up, uq)
    still (Copy n x) f = absurd f
    still (Join a b) f = (
      join_kept g w a b f.real_a f.real_b f.differ p q e (λ s. f.unused_a (subst U s up)) (λ s. f.unused_b (subst U s up))
          (λ s. f.unused_a (subst U s uq)) (λ s. f.unused_b (subst U s uq)),
      was up,
      was uq,
    )
    still (Cut a b) f = (cut_other g a b p (λ s. f.unused_a (subst U s up)) (λ s. f.unused_b (subst U s up)) ∙ e, was up, was uq)
