-- Check 8 by numbers: where the paths differ, a rule names the free path exactly if it names the free path's number.
use Rattle.std.specs.Prelude.{ℕ, zero, suc, ◌+◌, ◌<◌, ◌≤◌, ◌≡◌, refl, Bool, true, false, ◌&&◌, ◌||◌, List, [], ◌∷◌, length, get_or, drop, eqb, ltb}
use Rattle.std.proofs.Common.{sym, ap, ◌∙◌, arith, ltb-true}
use Rattle.std.proofs.Math.Option.{some}
use Rattle.net_file.specs.Lists.{all, any, distinct, eqs}
use Rattle.net_file.specs.Values.{Rule, free_path}
use Rattle.net_file.specs.Checks.{rule_paths, names_free}
use Rattle.net_file.specs.Read.{times_from, times, read_path, read_tagged, read_rule}
use Rattle.net_file.specs.Read
use Rattle.fields.specs.Fields.{byte}
use Rattle.stored.specs.Stored.{rule_at, rule_end}
use Rattle.stored.specs.Laws.{some_value, bound, stands_byte}
use Rattle.stored.specs.Parts.{stands_rule}
use Rattle.ends.specs.Ends.{on}
use Rattle.free_path.specs.FreePath.{free_number}
use Rattle.rule_names.specs.RuleNames.{rule_names, rule_after, rules_name}
use Rattle.free_laws.specs.Paths.{free_index, number_exact, paths_counted, index_free}
use Rattle.free_laws.specs.Read.{Small, Ruled, tagged}
use Rattle.free_laws.specs.Places.{tagged_after_lem, tagged_names_lem}

-- a test of numbers that agrees with another below np, on a list of such numbers
any_below : (np : ℕ) (f g : ℕ → Bool) → ((p : ℕ) → p < np → f p ≡ g p) → (l : List ℕ) → Small np l → any f l ≡ any g l
any_below np f g h [] e = refl
any_below np f g h (p ∷ l) e = go (ltb p np) refl e (any_below np f g h l)
  where
    go : (t : Bool) → ltb p np ≡ t → (t && all (λ q. ltb q np) l) ≡ true → (Small np l → any f l ≡ any g l) → (f p || any f l) ≡ (g p || any g l)
    go true i k r = λ j. h p (ltb-true p np i) j || r k j
    go false i k r = let z : ◌≡◌ {A = ℕ} 0 1 = cc in absurd (omega arith)

-- ---- one rule that was read

module _ (s : List ℕ) (np at : ℕ) (rule : Rule) (q : List ℕ) (e : read_rule np (drop at s) ≡ some (rule, q)) (h : at ≤ length s) where
  stood : (rule ≡ rule_at s at) × (q ≡ drop (rule_end s at) s) × (at ≤ rule_end s at) × (rule_end s at ≤ length s)
  stood = (stands_rule s np at).by rule q h e

  -- its tag stands before the end
  record Told : Type 0 where
    pub inside : at + 1 ≤ length s
    pub ruled : Ruled np (byte s at) rule

  told : Told
  unfolding read_rule
  told =
      let w = bound Read.byte (read_tagged np) (drop at s) rule q e in
      let y = (stands_byte s at).by w.value w.rest h w.first in
      record { inside = y.3; ruled = tagged np (byte s at) w.rest rule q (rw y.0 at w.next) }

  next : on s at 1 ≡ at + 1
  next = let i = told.inside in omega arith

  rule_after_lem : rule_after s at ≡ rule_end s at
  unfolding rule_after rule_end stood
  rule_after_lem = rw next (tagged_after_lem s (byte s at) (at + 1) told.ruled.least told.ruled.most stood.3)

  rule_names_lem : (x : ℕ) → rule_names s at x ≡ any (eqb x) (rule_paths rule)
  unfolding rule_names rule_end rule_at stood
  rule_names_lem x = rw (next, stood.0) (tagged_names_lem s x (byte s at) (at + 1) told.ruled.least told.ruled.most stood.3)

-- ---- the rules

-- by any test f of path numbers that says which one is x
rules_name_lem : (s : List ℕ) (np x : ℕ) (f : ℕ → Bool) → ((p : ℕ) → p < np → eqb x p ≡ f p) → (n i at : ℕ) (rs : List Rule) (r : List ℕ)
    → times_from (λ j. read_rule np) i n (drop at s) ≡ some (rs, r) → at ≤ length s → rules_name s at n x ≡ any (λ rule. any f (rule_paths rule)) rs
unfolding times_from rules_name
rules_name_lem s np x f g zero i at rs r e h = rw (← (some_value e).0)
rules_name_lem s np x f g (suc n) i at rs r e h =
    let w = bound (read_rule np) _ (drop at s) rs r e in
    let v = bound (times_from (λ j. read_rule np) (suc i) n) _ w.rest rs r w.next in
    let y = stood s np at w.value w.rest w.first h in
    let one = rule_names_lem s np at w.value w.rest w.first h x ∙ any_below np (eqb x) f g (rule_paths w.value) (told s np at w.value w.rest w.first h).ruled.small in
    let others = rules_name_lem s np x f g n (suc i) (rule_end s at) v.value v.rest (ap (times_from (λ j. read_rule np) (suc i) n) (sym y.1) ∙ v.first) y.3 in
    rw (← (some_value v.next).0, rule_after_lem s np at w.value w.rest w.first h) (λ j. one j || others j)

-- the free number is named exactly if the free path is
pub free_named_lem : (s : List ℕ) (from np : ℕ) (ps : List (List ℕ)) (r : List ℕ) → times np read_path (drop from s) ≡ some (ps, r) → from ≤ length s
    → distinct eqs ps ≡ true → (at n : ℕ) (rs : List Rule) (r' : List ℕ) → times n (read_rule np) (drop at s) ≡ some (rs, r') → at ≤ length s
    → rules_name s at n (free_number s from np) ≡ any (names_free ps) rs
unfolding times names_free
free_named_lem s from np ps r e h d at n rs r' e' h' =
    let l = paths_counted s from np ps r e h in
    rw (number_exact s from np ps r e h)
    (rules_name_lem s np (free_index ps) (λ p. eqs free_path (get_or ps p [])) (λ p i. index_free ps d p (rw l i)) n 0 at rs r' e' h')
