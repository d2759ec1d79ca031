-- The sets that `rule-sets` makes of a file that is read: each has a rule under a path exactly where it collects the path of the rule,
-- and the rule's place is known.
use Prim.Native.Nat.{ℕ, zero, suc, ◌+◌, ◌*◌, ◌<◌, ◌≤◌}
use Rattle.std.specs.Prelude.{◌≡◌, false, List, [], ◌∷◌, get_or, set, replicate}
use Rattle.std.proofs.Math.Path.{refl, ap, subst}
use Rattle.std.proofs.Common.{sym, ◌∙◌, get_or-set_same}
use native.Mathlib.Omega.{arith}
use Rattle.std.proofs.Math.Decide.{dec_lt, ℕ_discrete}
use Rattle.std.proofs.Math.ListN.{length, length-set}
use Rattle.std.proofs.lemmas.List.{length-replicate, get_or-replicate}
use Rattle.std.proofs.Math.Seq.{get_or-set_other}
use Rattle.net_file.specs.Lists.{ok}
use Rattle.net_file.specs.Values.{Name, Rule, annihilate, FlatNet, File}
use Rattle.net_file.specs.Checks.{flat, read}
use Rattle.net_file_laws.specs.Bytes.{Bytes}
use Rattle.definitions.specs.Lists.{has as listed}
use Rattle.definitions.specs.Step.{rewrites}
use Rattle.fields.specs.Fields.{be16}
use Rattle.stored.specs.Stored.{table_end, rule_end, rule_count_at}
use Rattle.ends.specs.Ends.{within}
use Rattle.readers_laws.specs.Bounds.{read_bounds}
use Rattle.readers_laws.specs.Flat.{flat_stands}
use Rattle.readers_laws.specs.Rules.{RuleStands}
use Rattle.readers_laws.specs.Steps.{rule_next}
use Rattle.node_names.specs.Names.{path}
use Rattle.rule_sets.specs.Sets.{set_of, has, rule_at_words, bit_of, add_rule, rule_here, add_rules, rule_sets, value, nil}
use Rattle.rule_sets.specs.Places.{rule_here_is}
use Rattle.held_names.specs.Named.{Stands, path_is}
use Rattle.rule_means.specs.Bits.{has_none}
use Rattle.rule_means.specs.Collected.{collected, first_paths, second_paths, nil_paths, value_paths}
use Rattle.rule_means.specs.Adds.{Adds}
use Rattle.rule_means.specs.Rules.{or_false, rule_adds}

-- rule r; past the last one that names nothing
abbrev pub rule_of : File FlatNet → ℕ → Rule
rule_of f r = get_or f.rules r (annihilate [])

-- where rule r stands
abbrev pub rule_place : List ℕ → ℕ → ℕ
rule_place s r = table_end (rule_end s) (rule_count_at s + 2) r

-- the first n rules are in the sets, and no others
pub record Built (s : List ℕ) (f : File FlatNet) (n : ℕ) (sets : List ℕ) : Type 0 where
  pub long : 2112 ≤ length sets
  pub known : (p k r : ℕ) → p < 256 → k < 6 → r < n → has (set_of sets p k) r ≡ listed (collected k (rule_of f r)) p
  pub unknown : (p k r : ℕ) → p < 256 → k < 6 → n ≤ r → has (set_of sets p k) r ≡ false
  pub place : (r : ℕ) → r < n → rule_at_words sets r ≡ rule_place s r

module _ (s : List ℕ) (is : Bytes s) (f : File FlatNet) (e : read flat s ≡ ok f) where
  -- ---- one rule more

  module _ (n at : ℕ) (sets : List ℕ) (more : n < length f.rules) (there : at ≡ within s (rule_place s n)) (b : Built s f n sets) where
    pub here : at ≡ rule_place s n
    here = omega (arith, there, (flat_stands s f e).rule_inside n (omega arith))

    pub rule_is : rule_here s at ≡ rule_of f n
    rule_is =
        let t = ((flat_stands s f e).rule n at (annihilate []) more there).tagged in
        rule_here_is s at (omega arith) ∙ sym ((flat_stands s f e).rule_is n at (annihilate []) more there)

    pub few : n < 64
    few = omega (arith, (read_bounds s is f e).few_rules)

    unfoldable pub placed : List ℕ
    placed = set sets (2048 + n) at

    pub set_kept : (p k : ℕ) → p < 256 → k < 6 → set_of placed p k ≡ set_of sets p k
    unfolding placed
    set_kept p k hp hk = get_or-set_other sets (2048 + n) (8 * p + k) at 0 (omega arith)

  pub zeros_built : (l : ℕ) → 2112 ≤ l → Built s f 0 (replicate l 0)
  zeros_built l h = record {
    long = omega (arith, length-replicate {A = ℕ} l 0);
    known = λ p k r hp hk hr. absurd (omega arith);
    unknown = λ p k r hp hk hr. ap (λ (x : ℕ). has x r) (get_or-replicate l (8 * p + k) 0 0 (omega arith)) ∙ has_none r;
    place = λ r hr. absurd (omega arith);
  }

-- ---- what they mean

pub names_nothing : (k p : ℕ) → listed (collected k (annihilate [])) p ≡ false
unfolding collected first_paths second_paths rewrites nil_paths value_paths
names_nothing zero p = refl
names_nothing (suc zero) p = refl
names_nothing (suc (suc zero)) p = refl
names_nothing (suc (suc (suc zero))) p = refl
names_nothing (suc (suc (suc (suc zero)))) p = refl
names_nothing (suc (suc (suc (suc (suc zero))))) p = refl
names_nothing (suc (suc (suc (suc (suc (suc k)))))) p = refl

past : {A : Type 0} (xs : List A) (r : ℕ) (d : A) → length xs ≤ r → get_or xs r d ≡ d
past [] r d h = refl
past (x ∷ xs) zero d h = absurd (omega arith)
past (x ∷ xs) (suc r) d h = past xs r d (omega arith)

module _ (s : List ℕ) (f : File FlatNet) (sets : List ℕ) (b : Built s f (length f.rules) sets) where
  -- rule r is in set k of path p exactly where the set collects p of it
  pub has_is : (p k r : ℕ) → p < 256 → k < 6 → has (set_of sets p k) r ≡ listed (collected k (rule_of f r)) p
  has_is p k r hp hk = elim (dec_lt r (length f.rules)) [
    | yes h ↦ b.known p k r hp hk h
    | no h ↦ let n = past f.rules r (annihilate []) (omega arith) in b.unknown p k r hp hk (omega arith) ∙ sym (ap (λ (x : Rule). listed (collected k x) p) n ∙ names_nothing k p)
  ]

  -- rule r stands at its place: its tag, its lists, a graft's flag
  pub rule_stands_at : read flat s ≡ ok f → (r : ℕ) → r < length f.rules → RuleStands s (rule_of f r) (rule_at_words sets r)
  rule_stands_at e r h =
      let i = (flat_stands s f e).rule_inside r (omega arith) in
      (flat_stands s f e).rule r (rule_at_words sets r) (annihilate []) h (b.place r h ∙ omega arith)

  pub value_is : (r a : ℕ) (n : Name) → Stands s f a n → n.path < 256 → value s sets r a ≡ listed (value_paths (rule_of f r)) n.path
  unfolding value collected
  value_is r a n h l = rw (path_is s f a n h) (has_is n.path 4 r l (omega arith))

  pub nil_is : (r a : ℕ) (n : Name) → Stands s f a n → n.path < 256 → nil s sets r a ≡ listed (nil_paths (rule_of f r)) n.path
  unfolding nil collected
  nil_is r a n h l = rw (path_is s f a n h) (has_is n.path 5 r l (omega arith))
