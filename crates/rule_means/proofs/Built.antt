-- The sets that `rule-sets` makes of a file that is read: each has a rule under a path exactly where it collects the path of the rule,
use Prim.Native.Nat.{ℕ, zero, suc, ◌+◌, ◌*◌, ◌<◌, ◌≤◌}
use Rattle.std.specs.Prelude.{◌≡◌, false, List, [], ◌∷◌, get_or, set, replicate}
use Rattle.std.proofs.Math.Path.{refl, ap, subst}
use Rattle.std.proofs.Common.{sym, ◌∙◌, get_or-set_same}
use native.Mathlib.Omega.{arith}
use Rattle.std.proofs.Math.Decide.{dec_lt, ℕ_discrete}
use Rattle.std.proofs.Math.ListN.{length, length-set}
use Rattle.std.proofs.lemmas.List.{length-replicate, get_or-replicate}
use Rattle.std.proofs.Math.Seq.{get_or-set_other}
use Rattle.net_file.specs.Lists.{ok}
use Rattle.net_file.specs.Values.{Name, Rule, annihilate, FlatNet, File}
use Rattle.net_file.specs.Checks.{flat, read}
use Rattle.net_file_laws.specs.Bytes.{Bytes}
use Rattle.definitions.specs.Lists.{has as listed}
use Rattle.definitions.specs.Step.{rewrites}
use Rattle.fields.specs.Fields.{be16}
use Rattle.stored.specs.Stored.{table_end, rule_end, rule_count_at}
use Rattle.ends.specs.Ends.{within}
use Rattle.readers_laws.specs.Bounds.{read_bounds}
use Rattle.readers_laws.specs.Flat.{flat_stands}
use Rattle.readers_laws.specs.Rules.{RuleStands}
use Rattle.readers_laws.specs.Steps.{rule_next}
use Rattle.node_names.specs.Names.{path}
use Rattle.rule_sets.specs.Sets.{set_of, has, rule_at_words, bit_of, add_rule, rule_here, add_rules, rule_sets, value, nil}
use Rattle.rule_sets.specs.Places.{rule_here_is}
use Rattle.held_names.specs.Named.{Stands, path_is}
use Rattle.rule_means.specs.Bits.{has_none}
use Rattle.rule_means.specs.Collected.{collected, first_paths, second_paths, nil_paths, value_paths}
use Rattle.rule_means.specs.Adds.{Adds}
use Rattle.rule_means.specs.Rules.{or_false, rule_adds}
use Rattle.rule_means.specs.Built.{rule_of, rule_place, Built, here, rule_is, few, placed, set_kept, zeros_built}

module _ (s : List ℕ) (is : Bytes s) (f : File FlatNet) (e : read flat s ≡ ok f) where
  -- ---- one rule more

  module _ (n at : ℕ) (sets : List ℕ) (more : n < length f.rules) (there : at ≡ within s (rule_place s n)) (b : Built s f n sets) where
    adds : Adds n (λ p k. listed (collected k (rule_of f n)) p) (placed s is f e n at sets more there b) (add_rule (placed s is f e n at sets more there b) n (bit_of n) (rule_of f n))
    unfolding placed
    adds =
        rule_adds n (length f.paths) (few s is f e n at sets more there b) (read_bounds s is f e).few_paths (rule_of f n) ((read_bounds s is f e).rule n (annihilate []) more)
        (set sets (2048 + n) at) (let l = b.long in omega (arith, length-set sets (2048 + n) at))

    rule_built : Built s f (n + 1) (add_rule (placed s is f e n at sets more there b) n (bit_of n) (rule_of f n))
    unfolding placed
    rule_built = record {
      long = let l = b.long in omega (arith, adds.long, length-set sets (2048 + n) at);
      known = λ p k r hp hk hr. elim (ℕ_discrete r n) [
        | yes i ↦ rw i (adds.own p k hk ∙ or_false _ _ (ap (λ (x : ℕ). has x n) ((set_kept s is f e n at sets more there b) p k hp hk) ∙ b.unknown p k n hp hk (omega arith)))
        | no i ↦ adds.others p k r hk i ∙ ap (λ (x : ℕ). has x r) ((set_kept s is f e n at sets more there b) p k hp hk) ∙ b.known p k r hp hk (omega arith)
      ];
      unknown = λ p k r hp hk hr. adds.others p k r hk (omega arith) ∙ ap (λ (x : ℕ). has x r) ((set_kept s is f e n at sets more there b) p k hp hk) ∙ b.unknown p k r hp hk (omega arith);
      place = λ r hr. adds.places (2048 + r) (omega arith) ∙ elim (ℕ_discrete r n) [
        | yes i ↦ rw i (get_or-set_same sets (2048 + n) at 0 (let l = b.long in let z = (few s is f e n at sets more there b) in omega arith) ∙ (here s is f e n at sets more there b))
        | no i ↦ get_or-set_other sets (2048 + n) (2048 + r) at 0 (omega arith) ∙ b.place r (omega arith)
      ];
    }

    rule_added : Built s f (n + 1) (add_rule (set sets (2048 + n) at) n (bit_of n) (rule_here s at))
    unfolding placed
    rule_added = rw (rule_is s is f e n at sets more there b) rule_built

  -- ---- all of them

  rules_added : (m n at : ℕ) (sets : List ℕ) → n + m ≡ length f.rules → at ≡ within s (rule_place s n) → Built s f n sets → Built s f (length f.rules) (add_rules s at n m sets)
  unfolding add_rules
  rules_added zero n at sets c h b = let d : n ≡ length f.rules = omega arith in subst (λ (j : ℕ). Built s f j sets) d b
  rules_added (suc m) n at sets c h b =
      rules_added m (n + 1) (within s (rule_end s at)) _ (omega arith) (rule_next s (rule_count_at s + 2) n at (within s (rule_end s at)) h refl)
      (rule_added n at sets (omega arith) h b)

  -- the sets made from zeros
  pub rule_sets_built : (l : ℕ) → 2112 ≤ l → Built s f (length f.rules) (rule_sets s (replicate l 0))
  unfolding rule_sets table_end
  rule_sets_built l h =
      rules_added (be16 s (rule_count_at s)) 0 (within s (rule_count_at s + 2)) (replicate l 0) (omega (arith, (flat_stands s f e).rule_count)) refl ((zeros_built s is f e) l h)
