-- A rule that stands at a place, by its tag: which of the five it is, and its lists where `rule_list_place` finds them.
use Rattle.std.specs.Prelude.{ℕ, ◌+◌, ◌≤◌, ◌≡◌, List, eqb}
use native.Mathlib.Omega.{arith}
use Rattle.net_file.specs.Values.{Rule, graft, annihilate, erase, commute, eta}
use Rattle.fields.specs.Fields.{byte, be16}
use Rattle.stored.specs.Stored.{table_end, list_at, list_end, rule_of, rule_at}
use Rattle.ends.specs.Ends.{within}
use Rattle.readers_laws.specs.Tables.{list_clamped}
use Rattle.readers_laws.specs.Parts.{ListStands, list_stands}

module _ (s : List ℕ) where
  -- the i-th list after a rule's tag
  unfoldable pub rule_list : ℕ → ℕ → List ℕ
  rule_list at i = list_at s (table_end (list_end s) (at + 1) i)

  pub rule_list_lem : (at i a : ℕ) → a ≡ within s (table_end (list_end s) (at + 1) i) → ListStands s (rule_list at i) a
  unfolding rule_list
  rule_list_lem at i a e = rw (← list_clamped s (table_end (list_end s) (at + 1) i) a e) (list_stands s a)

  pub record RuleStands (r : Rule) (at : ℕ) : Type 0 where
    pub tagged : (1 ≤ byte s at) × (byte s at ≤ 5)
    pub grafts : byte s at ≡ 1 → r ≡ graft (be16 s (at + 1)) (eqb (byte s (at + 3)) 1)
    pub annihilates : byte s at ≡ 2 → r ≡ annihilate (rule_list at 0)
    pub erases : byte s at ≡ 3 → r ≡ erase (rule_list at 0) (rule_list at 1)
    pub commutes : byte s at ≡ 4 → r ≡ commute (rule_list at 0) (rule_list at 1)
    pub etas : byte s at ≡ 5 → r ≡ eta (rule_list at 0) (rule_list at 1) (rule_list at 2)

  pub rule_stands : (at : ℕ) → (1 ≤ byte s at) × (byte s at ≤ 5) → RuleStands (rule_at s at) at
  unfolding rule_at rule_of rule_list table_end
  rule_stands at h =
      let e : at + 1 + 2 ≡ at + 3 = omega arith in
      record {
        tagged = h;
        grafts = λ t. rw (t, e);
        annihilates = λ t. rw t;
        erases = λ t. rw t;
        commutes = λ t. rw t;
        etas = λ t. rw t;
      }
