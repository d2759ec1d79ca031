-- One turn of the walk over the file's nets, in the words of its tests and calls, and its end.
use Prim.Native.Nat.{ℕ, zero, suc, ◌-◌, ◌<◌, ◌≤◌}
use Rattle.std.specs.Prelude.{◌≡◌, Bool, false, Option, Some, None, List}
use Rattle.std.proofs.Common.{sym, ap, ◌∙◌, not-suc-le-zero, sub-one}
use Rattle.stored.specs.Stored.{flat_net_end}
use Rattle.ends.specs.Ends.{within, next_net, next_is}
use Rattle.image_nets.specs.Nets.{known, after_net, counted, included_hold}

module _ (ws file : List ℕ) (at t : ℕ) (o : Option ℕ) (x : Bool) where
  pub included_more : (at' u k : ℕ) → included_hold ws file at t k ≡ x → 0 < k → o ≡ after_net ws file t at → o ≡ Some u → at' ≡ next_net file at k
      → included_hold ws file at' u (k - 1) ≡ x
  unfolding included_hold
  included_more at' u zero e h eo y ea = absurd (not-suc-le-zero h)
  included_more at' u (suc zero) e h eo y ea = ap (λ v. known v (λ w. included_hold ws file (within file (flat_net_end file at)) w 0)) (sym y ∙ eo) ∙ e
  included_more at' u (suc (suc k)) e h eo y ea =
      rw (sub-one, next_is file at at' k ea) (ap (λ v. known v (λ w. included_hold ws file (within file (flat_net_end file at)) w (suc k))) (sym y ∙ eo) ∙ e)

  pub included_no : (k : ℕ) → included_hold ws file at t k ≡ x → 0 < k → o ≡ after_net ws file t at → o ≡ None → false ≡ x
  unfolding included_hold
  included_no zero e h eo y = absurd (not-suc-le-zero h)
  included_no (suc k) e h eo y = ap (λ v. known v (λ w. included_hold ws file (within file (flat_net_end file at)) w k)) (sym y ∙ eo) ∙ e

pub included_done : (ws file : List ℕ) (at t k : ℕ) (r x : Bool) → included_hold ws file at t k ≡ x → k ≤ 0 → r ≡ counted ws t → r ≡ x
unfolding included_hold
included_done ws file at t zero r x e h er = er ∙ e
included_done ws file at t (suc k) r x e h er = absurd (not-suc-le-zero h)
