-- `result-is-engine`: the one-call form on lent words, bytes and output answers what level Engine's does, writes its bytes, and leaves
-- words and bytes as it says: unchanged, or zeros up to the documented length.
use Rattle.std.specs.Prelude.{ℕ, ◌<◌, ◌≡◌, Bool, true, false, ◌&&◌, List, length}
use Rattle.std.proofs.Math.Path.{refl, ap, subst}
use Rattle.std.proofs.Common.{sym, ◌∙◌, leb-true, leb-false}
use Rattle.std.proofs.Math.Option.{Option}
use Rattle.std.proofs.Math.Dec.{leb}
use Rattle.net_file.specs.Lists.{Result, ok, refuse, need}
use Rattle.net_file.specs.Values.{FlatNet, File}
use Rattle.net_file.specs.Checks.{flat, read}
use Rattle.net_file_laws.specs.Bytes.{Bytes}
use Rattle.net_check.specs.Verdict.{verdict}
use Rattle.definitions.specs.Lists.{◌>>=◌}
use Rattle.definitions.specs.Calls
use Rattle.definitions.specs.Calls.{Held, Left, unchanged, zeros, image, Outcome, pools_fit, accept, deliver, optimized, written}
use Rattle.lent.specs.Lent.{words_of, room, zero_words, zero_bytes}
use Rattle.lent.specs.declared.Pools as Lent
use Rattle.lent.specs.declared.Answer.TheVariants.{Refused}
use Rattle.finishing.specs.Finishing.{Given}
use Rattle.optimising.specs.Optimising.{optimize_loaded, optimize_file, optimize_checked, optimize}
use Rattle.optimising.specs.Ways.{file_accepted, file_refused, optimize_checks, optimize_short, optimize_no_room}
use Rattle.start_means.specs.Start.{pools_of}
use Rattle.optimize_means.specs.Optimized.{answer_of, unwritten, loaded_gives}
use Rattle.optimize_means.specs.Room.{space, room_is, room_ranges}

-- what a call leaves in words and bytes
abbrev pub Leaves : Lent.Pools → List ℕ → List ℕ → Given → Left → Type 0
Leaves q ws bs x unchanged = (x.ws ≡ ws) × (x.bs ≡ bs)
Leaves q ws bs x (zeros n) = (w : List ℕ) × (x.ws ≡ zero_words q w) × (x.bs ≡ zero_bytes n bs)
Leaves q ws bs x (image h) = ⊥

-- answer, output and what is left are those of level Engine
abbrev pub Outcomes : Lent.Pools → List ℕ → List ℕ → List ℕ → Given → Outcome (List ℕ) → Type 0
Outcomes q ws bs out x o = (x.is ≡ answer_of o.0) × (x.out ≡ written o.0 out) × Leaves q ws bs x o.1

module _ (q : Lent.Pools) (ws bs s out : List ℕ) (is : Bytes s) (size : length out < 18446744073709551616) where
  -- a refusal that leaves all as it was
  pub refused : (n : ℕ) → Outcomes q ws bs out (record { is = Refused n; ws = ws; bs = bs; out = out }) (refuse n, unchanged)
  refused n = (refl, unwritten out n, (refl, refl))

  -- an accepted file: zeros, whatever comes
  pub file_gives : (f : File FlatNet) → read flat s ≡ ok f → room q ws ≡ true
      → Outcomes q ws bs out (optimize_file q ws bs s out) (optimized (pools_of q) f >>= deliver (length out), zeros (length s))
  unfolding optimize_file
  file_gives f accepted h =
      let r = room_ranges q ws h in
      let g = loaded_gives s is f accepted q r.0 ws r.2 r.1.few_nodes r.1.few_entries r.1.few_waits out size in
      (g.0, g.1, ((optimize_loaded q ws s out).ws, refl, refl))

  pub and_then : (a b c : Bool) → (a && (b && c)) ≡ ((a && b) && c)
  and_then true b c = refl
  and_then false b c = refl
