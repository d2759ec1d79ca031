-- `result-is-engine`: the one-call form on lent words, bytes and output answers what level Engine's does, writes its bytes, and leaves
use Rattle.std.specs.Prelude.{Ok, Err, ℕ, ◌<◌, ◌≡◌, Bool, true, false, ◌&&◌, List, length}
use Rattle.std.proofs.Math.Path.{refl, ap, subst}
use Rattle.std.proofs.Common.{sym, ◌∙◌, leb-true, leb-false}
use Rattle.std.proofs.Math.Option.{Option}
use Rattle.std.proofs.Math.Dec.{leb}
use Rattle.net_file.specs.Lists.{Result, ok, refuse, need}
use Rattle.net_file.specs.Values.{FlatNet, File}
use Rattle.net_file.specs.Checks.{flat, read}
use Rattle.net_file_laws.specs.Bytes.{Bytes}
use Rattle.refusals.specs.Numbers.{by}
use Rattle.refusals.specs.Told.{Numbered}
use Rattle.net_check.specs.Verdict.{verdict, read_numbered}
use Rattle.definitions.specs.Lists.{◌>>=◌}
use Rattle.definitions.specs.Calls
use Rattle.definitions.specs.Calls.{Held, Left, unchanged, zeros, image, Outcome, pools_fit, accept, deliver, optimized, written}
use Rattle.lent.specs.Lent.{words_of, room, zero_words, zero_bytes}
use Rattle.lent.specs.declared.Pools as Lent
use Rattle.lent.specs.declared.Answer.TheVariants.{Refused}
use Rattle.finishing.specs.Finishing.{Given}
use Rattle.optimising.specs.Optimising.{optimize_loaded, optimize_file, optimize_checked, optimize}
use Rattle.optimising.specs.Ways.{file_accepted, file_refused, optimize_checks, optimize_short, optimize_no_room}
use Rattle.start_means.specs.Start.{pools_of}
use Rattle.optimize_means.specs.Optimized.{answer_of, unwritten, loaded_gives}
use Rattle.optimize_means.specs.Room.{space, room_is, room_ranges}
use Rattle.optimize_means.specs.Whole.{Outcomes, refused, file_gives, and_then}

module _ (q : Lent.Pools) (ws bs s out : List ℕ) (is : Bytes s) (size : length out < 18446744073709551616) where
  -- 2 to 8
  checked_gives : room q ws ≡ true → (r : Result (File FlatNet)) → read flat s ≡ r
      → Outcomes q ws bs out (optimize_checked q ws bs s out) (elim r as (λ _. Outcome (List ℕ)) [
        | refuse n ↦ (refuse n, unchanged)
        | ok f ↦ (optimized (pools_of q) f >>= deliver (length out), zeros (length s))
      ])
  unfolding verdict
  checked_gives h (refuse n) e =
      subst (λ (x : Given). Outcomes q ws bs out x (refuse n, unchanged)) (file_refused q ws bs s out (Err (by n)) (by n) n (ap verdict (sym e)) refl (sym (subst Numbered e (read_numbered flat s)))) ((refused q ws bs s out is size) n)
  checked_gives h (ok f) e =
      let x = optimize_file q ws bs s out in
      subst (λ (y : Given). Outcomes q ws bs out y (optimized (pools_of q) f >>= deliver (length out), zeros (length s)))
      (file_accepted q ws x.ws bs x.bs s out x.out (Ok tt) x.is (ap verdict (sym e)) refl refl refl refl refl) ((file_gives q ws bs s out is size) f e h)

  -- 1
  all_gives : (t u : Bool) → room q ws ≡ t → leb (length s) (length bs) ≡ u
      → Outcomes q ws bs out (optimize q ws bs s out) (elim (need (t && u) 1 (read flat s)) as (λ _. Outcome (List ℕ)) [
        | refuse n ↦ (refuse n, unchanged)
        | ok f ↦ (optimized (pools_of q) f >>= deliver (length out), zeros (length s))
      ])
  all_gives false u h i = subst (λ (x : Given). Outcomes q ws bs out x (refuse 1, unchanged)) (optimize_no_room q ws bs s out false (sym h) refl) ((refused q ws bs s out is size) 1)
  all_gives true false h i =
      subst (λ (x : Given). Outcomes q ws bs out x (refuse 1, unchanged)) (optimize_short q ws bs s out true (sym h) refl (leb-false (length s) (length bs) i)) ((refused q ws bs s out is size) 1)
  all_gives true true h i =
      let x = optimize_checked q ws bs s out in
      subst (λ (y : Given). Outcomes q ws bs out y (elim (read flat s) as (λ _. Outcome (List ℕ)) [
        | refuse n ↦ (refuse n, unchanged)
        | ok f ↦ (optimized (pools_of q) f >>= deliver (length out), zeros (length s))
      ]))
      (optimize_checks q ws x.ws bs x.bs s out x.out true x.is (sym h) refl (leb-true (length s) (length bs) i) refl refl refl refl) (checked_gives h (read flat s) refl)

  -- `result-is-engine`
  pub result_is_engine : (held : Option Held) → Outcomes q ws bs out (optimize q ws bs s out) (Calls.optimize (space ws bs held) (pools_of q) (length out) s)
  unfolding Calls.optimize accept words_of
  result_is_engine held =
      let p = pools_fit (pools_of q) in
      let l = leb (words_of q) (length ws) in
      let u = leb (length s) (length bs) in
      let same : (p && (l && u)) ≡ (room q ws && u) = (and_then q ws bs s out is size) p l u ∙ ap (λ (b : Bool). b && u) (sym (room_is q ws)) in
      subst (λ (t : Bool). Outcomes q ws bs out (optimize q ws bs s out) (elim (need t 1 (read flat s)) as (λ _. Outcome (List ℕ)) [
        | refuse n ↦ (refuse n, unchanged)
        | ok f ↦ (optimized (pools_of q) f >>= deliver (length out), zeros (length s))
      ])) (sym same) (all_gives (room q ws) u refl refl)
