-- `slices-leave`: slices one after another on words and bytes that carry a run, up to the first that is refused, answer what one slice of
use Rattle.std.specs.Prelude.{ℕ, ◌+◌, ◌≤◌, ◌≡◌, true}
use Rattle.std.proofs.Math.Path.{refl, sym, ap, subst}
use Rattle.std.proofs.Common.{◌∙◌}
use Rattle.std.proofs.Math.Logic.{inl, inr}
use Rattle.std.proofs.Math.Bool.{false}
use Rattle.std.proofs.Math.Option.{Option, none, some}
use mathlib.Core.List.{List, [], ◌∷◌, map}
use native.Mathlib.Omega.{arith}
use Rattle.list_laws.specs.Tests.{both}
use Rattle.net_file.specs.Lists.{all, sum}
use Rattle.net_file.specs.Values.{max_steps, no_limit}
use Rattle.net_file.specs.Read.{limit_of}
use Rattle.net_file.specs.Write.{limit_number}
use Rattle.net_file.specs.Checks.{limit_fits}
use Rattle.definitions.specs.Calls.{Held}
use Rattle.good_laws.specs.Good.{rest}
use Rattle.slice_laws.specs.Sums.{◌⊕◌, total}
use Rattle.reached_laws.specs.Calls.{SumFits}
use Rattle.words.specs.Left.{Left}
use Rattle.run_slice.specs.Run.{on_ran}
use Rattle.run_slice.specs.Run.{slice as run_slice}
use Rattle.run_slice.specs.declared.Ran.{Ran}
use Rattle.run_slice.specs.declared.Ran.TheVariants.{Rested}
use Rattle.run_slice.specs.declared.Ran.TheVariants.{Refused as Ran-as-Refused}
use Rattle.run_laws.specs.Course.{alive, at_rest}
use Rattle.run_laws.specs.Shift.{later, longer}
use Rattle.lent.specs.Lent.{Lent}
use Rattle.lent.specs.declared.Pools as Lent
use Rattle.lent.specs.declared.Answer.TheVariants.{Done}
use Rattle.finishing.specs.Finishing.{on_answer}
use Rattle.slicing.specs.Slicing.{slice}
use Rattle.acts_means.specs.Holds.{Holds}
use Rattle.calls_means.specs.Carries.{Carries}
use Rattle.calls_means.specs.Slices.{add_steps, go_on, slice_calls_words}
use Rattle.fuel_means.specs.Lasts.{slice_refused, none_dead, slice_dead, slice_of_zero, slice_and_slice, slice_and_none}
use Rattle.fuel_means.specs.Call.{left_by, sum_fits, number_small, fits_small, number_is, sum_is, call_is, Onward, slice_onward}
use Rattle.fuel_means.specs.Leave.{slices_leave}

module _ (q : Lent.Pools) where
  -- numbers that add up to at most 16,777,216
  pub slices_of_sum : (ns ws bs : List ℕ) (h : Held) → Carries q ws bs h → sum ns ≤ 16777216 → slice_calls_words q ns ws bs ≡ slice q (sum ns) ws bs
  unfolding limit_number
  slices_of_sum ns ws bs h c b =
      let t = sum_is ns b in
      (slices_leave q) ns ws bs h c t.1 (subst SumFits (sym t.0) b) ∙ ap (λ (o : Option ℕ). slice q (limit_number o) ws bs) t.0
