-- On a body that is read, the checks of its tables by offsets are level File's: repeated paths and names (6), and a rule that
-- names the free path (8). For either version.
use Rattle.std.specs.Prelude.{ℕ, ◌+◌, ◌<◌, ◌≤◌, ◌≡◌, refl, Bool, true, false, ◌&&◌, List, length, get_or, drop}
use Rattle.std.proofs.Common.{sym, ap, ◌∙◌, arith}
use Rattle.std.proofs.Math.Option.{some}
use Rattle.words.specs.Choose.{pick_and}
use Rattle.net_file.specs.Lists.{any, distinct, eqs}
use Rattle.net_file.specs.Read.{Parser}
use Rattle.net_file.specs.Checks.{same_name, names_free}
use Rattle.fields.specs.Fields.{be16}
use Rattle.stored.specs.Stored.{name_count_at, rule_count_at}
use Rattle.stored.specs.Body.{paths_at, names_at, rules_at}
use Rattle.ends.specs.Ends.{within, on}
use Rattle.repeats.specs.declared.Item.TheVariants.{Path, Name}
use Rattle.repeats.specs.Repeats.{differ}
use Rattle.repeats_laws.proofs.Names.{names_differ_lem}
use Rattle.repeats_laws.proofs.Many.{paths_differ_fit}
use Rattle.free_path.specs.FreePath.{free_number}
use Rattle.rule_names.specs.RuleNames.{rules_name}
use Rattle.free_laws.specs.Named.{free_named_lem}
use Rattle.body.specs.Reached.{Table, Reached}
use Rattle.checks.specs.Checks.{names_differ, tables_differ, free_named}

-- a place inside the file, and the place two bytes on
inside : (s : List ℕ) (at : ℕ) → at + 2 ≤ length s → (within s at ≡ at) × (on s (within s at) 2 ≡ at + 2)
inside s at h = let e : within s at ≡ at = omega arith in (e, rw e (omega arith))

module _ {Net : Type 0} (read_net : ℕ → ℕ → Parser Net) (net_at : List ℕ → ℕ → Net) (net_end : List ℕ → ℕ → ℕ) (s : List ℕ) (g : Reached read_net net_at net_end s) where
  paths_differ : differ s 11 (be16 s 9) Path ≡ distinct eqs (paths_at s)
  paths_differ = let t = g.paths in paths_differ_fit s 11 (be16 s 9) (paths_at s) t.rest t.read t.inside g.fit

  module _ (b : (i : ℕ) → get_or s i 0 < 256) where
    names_different : names_differ s ≡ distinct same_name (names_at s)
    unfolding names_differ
    names_different =
        let t = g.names in
        let p = inside s (name_count_at s) t.inside in
        (λ i. differ s (p.1 i) (be16 s (p.0 i)) Name) ∙ names_differ_lem s b (be16 s 9) (name_count_at s + 2) 0 (be16 s (name_count_at s)) (names_at s) t.rest t.read t.inside t.few

    pub tables_differ_lem : tables_differ s ≡ (distinct eqs (paths_at s) && distinct same_name (names_at s))
    unfolding tables_differ
    tables_differ_lem = pick_and (differ s 11 (be16 s 9) Path) (names_differ s) ∙ (λ i. paths_differ i && names_different i)

  pub free_is_named : distinct eqs (paths_at s) ≡ true → free_named s ≡ any (names_free (paths_at s)) (rules_at s)
  unfolding free_named
  free_is_named d =
      let t = g.paths in
      let u = g.rules in
      let p = inside s (rule_count_at s) u.inside in
      (λ i. rules_name s (p.1 i) (be16 s (p.0 i)) (free_number s 11 (be16 s 9)))
      ∙ free_named_lem s 11 (be16 s 9) (paths_at s) t.rest t.read t.inside d (rule_count_at s + 2) (be16 s (rule_count_at s)) (rules_at s) u.rest u.read u.inside
