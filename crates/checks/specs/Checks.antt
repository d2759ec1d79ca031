-- The checks of a file's tables, by offsets. What they mean is in `Laws`.
use Rattle.std.specs.Prelude.{ℕ, ◌≡◌, refl, Bool, true, false, List}
use Rattle.std.proofs.Common.{sym, ap, ◌∙◌}
use Rattle.words.specs.Choose.{pick, pick_true, pick_false}
use Rattle.fields.specs.Fields.{be16}
use Rattle.stored.specs.Stored.{name_count_at, rule_count_at}
use Rattle.ends.specs.Ends.{within, on}
use Rattle.repeats.specs.declared.Item.TheVariants.{Path, Name}
use Rattle.repeats.specs.Repeats.{differ}
use Rattle.free_path.specs.FreePath.{free_number}
use Rattle.rule_names.specs.RuleNames.{rules_name}

-- the name table's items differ
unfoldable pub names_differ : List ℕ → Bool
names_differ s = let m = within s (name_count_at s) in differ s (on s m 2) (be16 s m) Name

-- and those of the path table
unfoldable pub tables_differ : List ℕ → Bool
tables_differ s = pick (differ s 11 (be16 s 9) Path) (names_differ s) false

-- a rule names the number of the free path
unfoldable pub free_named : List ℕ → Bool
free_named s = let m = within s (rule_count_at s) in rules_name s (on s m 2) (be16 s m) (free_number s 11 (be16 s 9))

pub tables_same : (s : List ℕ) (np : ℕ) (t : Bool) → np ≡ be16 s 9 → t ≡ differ s 11 np Path → t ≡ false → false ≡ tables_differ s
unfolding tables_differ
tables_same s np t en et f = pick_false _ _ _ (sym (rw en at et) ∙ f) refl

pub tables_on : (s : List ℕ) (np m nm from : ℕ) (t r : Bool) → np ≡ be16 s 9 → t ≡ differ s 11 np Path → t ≡ true
    → m ≡ within s (name_count_at s) → nm ≡ be16 s m → from ≡ on s m 2 → r ≡ differ s from nm Name → r ≡ tables_differ s
unfolding tables_differ names_differ
tables_on s np m nm from t r en et y em enm ef er = pick_true _ _ _ (sym (rw en at et) ∙ y) (er ∙ rw (ef, enm, em))
