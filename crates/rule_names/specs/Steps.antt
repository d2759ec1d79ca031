-- Each way out of the loops over rules.
use Prim.Native.Nat.{ℕ, zero, suc, ◌+◌, ◌-◌, ◌/◌, ◌<◌, ◌≤◌}
use Rattle.std.specs.Prelude.{◌≡◌, Bool, true, false, ◌||◌, List, length, eqb}
use Rattle.std.proofs.Math.Path.{sym, ap}
use Rattle.std.proofs.Common.{◌∙◌, arith, not-suc-le-zero, eq-eqb, ne_eqb}
use Rattle.std.proofs.Math.Numerals.{sub-one}
use Rattle.net_file.specs.Lists.{any}
use Rattle.fields.specs.Fields.{be16}
use Rattle.stored.specs.Stored.{table_at, numbers_at, list_end}
use Rattle.ends.specs.Ends.{within}
use Rattle.ends.specs.Runs.{run, run_none, run_all}
use Rattle.rule_names.specs.RuleNames.{list_has, lists_have, lists_after, rule_names, rule_after, rules_name}

-- ---- numbers

module _ (s : List ℕ) (from n x : ℕ) where
  pub has_past : length s < from → false ≡ any (eqb x) (run s from n)
  has_past h = rw (run_none s from n (omega arith))

  pub has_short : from ≤ length s → (length s - from) / 2 < n → false ≡ any (eqb x) (run s from n)
  has_short i h = rw (run_none s from n (omega arith))

  pub has_start : from ≤ length s → n ≤ (length s - from) / 2 → any (eqb x) (numbers_at s from n) ≡ any (eqb x) (run s from n)
  has_start i h = rw (run_all s from n (omega arith))

module _ (s : List ℕ) (at x p : ℕ) (y : Bool) where
  pub has_more : (k : ℕ) → any (eqb x) (numbers_at s at k) ≡ y → 0 < k → p ≡ be16 s at → (x ≡ p → ⊥) → any (eqb x) (numbers_at s (at + 2) (k - 1)) ≡ y
  unfolding numbers_at table_at
  has_more zero g h ep e = absurd (not-suc-le-zero h)
  has_more (suc k) g h ep e = rw sub-one (ap (λ t. t || any (eqb x) (numbers_at s (at + 2) k)) (sym (ne_eqb _ _ (λ z. e (z ∙ sym ep)))) ∙ g)

  pub has_yes : (k : ℕ) → any (eqb x) (numbers_at s at k) ≡ y → 0 < k → p ≡ be16 s at → x ≡ p → true ≡ y
  unfolding numbers_at table_at
  has_yes zero g h ep e = absurd (not-suc-le-zero h)
  has_yes (suc k) g h ep e = ap (λ t. t || any (eqb x) (numbers_at s (at + 2) k)) (sym (eq-eqb _ _ (e ∙ ep))) ∙ g

pub has_done : (s : List ℕ) (at x k : ℕ) (y : Bool) → any (eqb x) (numbers_at s at k) ≡ y → k ≤ 0 → false ≡ y
unfolding numbers_at table_at
has_done s at x zero y g h = g
has_done s at x (suc k) y g h = absurd (not-suc-le-zero h)

-- ---- lists

module _ (s : List ℕ) (at x : ℕ) (y t : Bool) (et : t ≡ list_has s at x) where
  pub lists_more : (a k : ℕ) → lists_have s at k x ≡ y → 0 < k → t ≡ false → a ≡ within s (list_end s at) → lists_have s a (k - 1) x ≡ y
  unfolding lists_have
  lists_more a zero g h f ea = absurd (not-suc-le-zero h)
  lists_more a (suc k) g h f ea = rw (sub-one, ea) (ap (λ u. u || lists_have s (within s (list_end s at)) k x) (sym f ∙ et) ∙ g)

  pub lists_yes : (k : ℕ) → lists_have s at k x ≡ y → 0 < k → t ≡ true → true ≡ y
  unfolding lists_have
  lists_yes zero g h f = absurd (not-suc-le-zero h)
  lists_yes (suc k) g h f = ap (λ u. u || lists_have s (within s (list_end s at)) k x) (sym f ∙ et) ∙ g

pub lists_done : (s : List ℕ) (at k x : ℕ) (y : Bool) → lists_have s at k x ≡ y → k ≤ 0 → false ≡ y
unfolding lists_have
lists_done s at zero x y g h = g
lists_done s at (suc k) x y g h = absurd (not-suc-le-zero h)

pub after_more : (s : List ℕ) (at a k x : ℕ) → lists_after s at k ≡ x → 0 < k → a ≡ within s (list_end s at) → lists_after s a (k - 1) ≡ x
unfolding lists_after
after_more s at a zero x g h ea = absurd (not-suc-le-zero h)
after_more s at a (suc k) x g h ea = rw (sub-one, ea) g

pub after_done : (s : List ℕ) (at k x : ℕ) → lists_after s at k ≡ x → k ≤ 0 → at ≡ x
unfolding lists_after
after_done s at zero x g h = g
after_done s at (suc k) x g h = absurd (not-suc-le-zero h)

-- ---- rules

module _ (s : List ℕ) (at x : ℕ) (y t : Bool) (et : t ≡ rule_names s at x) where
  pub rules_more : (a k : ℕ) → rules_name s at k x ≡ y → 0 < k → t ≡ false → a ≡ rule_after s at → rules_name s a (k - 1) x ≡ y
  unfolding rules_name
  rules_more a zero g h f ea = absurd (not-suc-le-zero h)
  rules_more a (suc k) g h f ea = rw (sub-one, ea) (ap (λ u. u || rules_name s (rule_after s at) k x) (sym f ∙ et) ∙ g)

  pub rules_yes : (k : ℕ) → rules_name s at k x ≡ y → 0 < k → t ≡ true → true ≡ y
  unfolding rules_name
  rules_yes zero g h f = absurd (not-suc-le-zero h)
  rules_yes (suc k) g h f = ap (λ u. u || rules_name s (rule_after s at) k x) (sym f ∙ et) ∙ g

pub rules_done : (s : List ℕ) (at k x : ℕ) (y : Bool) → rules_name s at k x ≡ y → k ≤ 0 → false ≡ y
unfolding rules_name
rules_done s at zero x y g h = g
rules_done s at (suc k) x y g h = absurd (not-suc-le-zero h)
