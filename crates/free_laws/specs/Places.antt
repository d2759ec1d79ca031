-- A rule that lies within s and has a tag from 1 to 5: `rule_names` looks at the paths that it names, and goes on where it ends.
use Prim.Native.Nat.{ℕ, zero, suc, ◌+◌, ◌<◌, ◌≤◌}
use Rattle.std.specs.Prelude.{◌≡◌, Bool, false, ◌||◌, List, [], ◌∷◌, ◌++◌, length, eqb}
use Rattle.std.proofs.Math.Path.{refl, ap}
use Rattle.std.proofs.Common.{sym, ◌∙◌}
use Rattle.std.proofs.Math.Bool.{or-false, or_assoc}
use native.Mathlib.Omega.{arith}
use Rattle.words.specs.Choose.{pick, if_eq, if_lt}
use Rattle.net_file.specs.Lists.{any}
use Rattle.list_laws.specs.Lists.{any_append}
use Rattle.net_file.specs.Checks.{rule_paths}
use Rattle.fields.specs.Fields.{byte}
use Rattle.stored.specs.Stored.{table_at, table_end, numbers_at, list_at, list_end, rule_of, rule_of_end}
use Rattle.ends.specs.Ends.{within, on, list_up, table_up}
use Rattle.rule_names.specs.RuleNames.{lists_of, list_has, lists_have, lists_after, tagged_names, tagged_after}
use Rattle.ends.specs.Runs.{run_all}

module _ (s : List ℕ) where
  module _ (at n : ℕ) (h : table_end (list_end s) (list_end s at) n ≤ length s) where
    list_in : list_end s at ≤ length s
    list_in = omega (arith, table_up (list_end s) (list_up s) (list_end s at) n)

    list_within : within s (list_end s at) ≡ list_end s at
    list_within = omega (arith, list_in)

  lists_after_lem : (n at : ℕ) → table_end (list_end s) at n ≤ length s → lists_after s at n ≡ table_end (list_end s) at n
  unfolding lists_after table_end
  lists_after_lem zero at h = refl
  lists_after_lem (suc n) at h = rw (list_within at n h) (lists_after_lem n (list_end s at) h)

  pub tagged_after_lem : (tag at : ℕ) → 0 < tag → tag < 6 → rule_of_end s tag at ≤ length s → tagged_after s tag at ≡ rule_of_end s tag at
  unfolding tagged_after rule_of_end lists_of if_eq if_lt pick table_end
  tagged_after_lem zero at l m h = absurd (omega arith)
  tagged_after_lem (suc zero) at l m h = omega arith
  tagged_after_lem (suc (suc zero)) at l m h = lists_after_lem 1 at h
  tagged_after_lem (suc (suc (suc zero))) at l m h = lists_after_lem 2 at h
  tagged_after_lem (suc (suc (suc (suc zero)))) at l m h = lists_after_lem 2 at h
  tagged_after_lem (suc (suc (suc (suc (suc zero))))) at l m h = lists_after_lem 3 at h
  tagged_after_lem (suc (suc (suc (suc (suc (suc n)))))) at l m h = absurd (omega arith)

module _ (s : List ℕ) (x : ℕ) where
  list_has_lem : (at : ℕ) → list_end s at ≤ length s → list_has s at x ≡ any (eqb x) (list_at s at)
  unfolding list_has list_at list_end
  list_has_lem at h = let e : on s at 1 ≡ at + 1 = omega arith in rw e (ap (any (eqb x)) (run_all s (at + 1) (byte s at) h))

  lists_have_lem : (n at : ℕ) → table_end (list_end s) at n ≤ length s → lists_have s at n x ≡ any (any (eqb x)) (table_at (list_at s) (list_end s) at n)
  unfolding lists_have table_at table_end
  lists_have_lem zero at h = refl
  lists_have_lem (suc n) at h = rw (list_within s at n h) (λ i. list_has_lem at (list_in s at n h) i || lists_have_lem n (list_end s at) h i)

  two : (a b : List ℕ) → (any (eqb x) a || (any (eqb x) b || false)) ≡ any (eqb x) (a ++ b)
  two a b = simp (any_append, or-false)

  three : (a b c : List ℕ) → (any (eqb x) a || (any (eqb x) b || (any (eqb x) c || false))) ≡ any (eqb x) (a ++ b ++ c)
  three a b c = simp (any_append, or-false, or_assoc)

  pub tagged_names_lem : (tag at : ℕ) → 0 < tag → tag < 6 → rule_of_end s tag at ≤ length s → tagged_names s tag at x ≡ any (eqb x) (rule_paths (rule_of s tag at))
  unfolding tagged_names rule_of_end rule_of rule_paths lists_of if_eq if_lt pick table_end table_at numbers_at
  tagged_names_lem zero at l m h = absurd (omega arith)
  tagged_names_lem (suc zero) at l m h = ap (any (eqb x)) (run_all s at 1 (omega arith))
  tagged_names_lem (suc (suc zero)) at l m h = lists_have_lem 1 at h ∙ or-false _
  tagged_names_lem (suc (suc (suc zero))) at l m h = lists_have_lem 2 at h ∙ two (list_at s at) (list_at s (list_end s at))
  tagged_names_lem (suc (suc (suc (suc zero)))) at l m h = lists_have_lem 2 at h ∙ two (list_at s at) (list_at s (list_end s at))
  tagged_names_lem (suc (suc (suc (suc (suc zero))))) at l m h = lists_have_lem 3 at h ∙ three (list_at s at) (list_at s (list_end s at)) (list_at s (list_end s (list_end s at)))
  tagged_names_lem (suc (suc (suc (suc (suc (suc n)))))) at l m h = absurd (omega arith)
