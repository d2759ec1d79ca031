-- A table of names that was read: `differ` tells whether the names are pairwise different.
use Rattle.std.specs.Prelude.{ℕ, ◌<◌, ◌≤◌, ◌≡◌, List, get_or, drop}
use Rattle.std.proofs.Common.{◌∙◌}
use Rattle.std.proofs.Math.Option.{some}
use Rattle.std.proofs.Math.ListN.{length}
use borrow.Author.Tests.{eqb-true, eq-eqb}
use Rattle.net_file.specs.Lists.{distinct, eqs}
use Rattle.list_laws.specs.Tests.{both, same_test}
use Rattle.list_laws.specs.Lists.{eqs_true, eqs_eq}
use Rattle.net_file.specs.Values.{Name}
use Rattle.net_file.specs.Read.{times_from, read_name}
use Rattle.net_file.specs.Checks.{same_name}
use Rattle.stored.specs.Stored.{name_at, name_end}
use Rattle.stored.specs.Laws.{stands_times_from}
use Rattle.stored.specs.Parts.{stands_name}
use Rattle.repeats.specs.declared.Item.TheVariants.{Name as Named}
use Rattle.repeats.specs.Repeats.{differ}
use Rattle.repeats_laws.specs.Items.{item_at, item_end, items, item_same, item_alike}
use Rattle.repeats_laws.proofs.Exact.{differ_exact}
use Rattle.repeats_laws.specs.Paths.{distinct_table}
use Rattle.repeats_laws.specs.Names.{name_end_lem, Parts, parts, bytes}

module _ (s : List ℕ) where
  module _ (small : (i : ℕ) → get_or s i 0 < 256) where
    -- two names are the same where their bytes are
    pub name_same : (a b : ℕ) → eqs (item_at s Named a) (item_at s Named b) ≡ same_name (name_at s a) (name_at s b)
    unfolding same_name name_at
    name_same a b = same_test _ _
        (λ e.
        let g = (parts s) a b (item_alike s Named a b (eqs_true _ _ e)) in
        rw (eq-eqb _ _ g.path, eq-eqb _ _ g.payload, eqs_eq _ _ g.children))
        (λ e.
        let f = both _ _ e in
        let h = both _ _ f.0 in
        let g : (Parts s) a b = record { path = eqb-true _ _ h.0; payload = eqb-true _ _ h.1; children = eqs_true _ _ f.1 } in
        eqs_eq _ _ (item_same s Named a b ((bytes s small) a b g)))

    pub names_differ_lem : (paths at i n : ℕ) (ms : List Name) (r : List ℕ) → times_from (read_name paths) i n (drop at s) ≡ some (ms, r)
        → at ≤ length s → n ≤ 1024 → differ s at n Named ≡ distinct same_name ms
    unfolding items
    names_differ_lem paths at i n ms r e l h =
        let y = (stands_times_from s (read_name paths) (name_at s) (name_end s) (λ c a. stands_name s paths c a) i n at).by ms r l e in
        let f : name_end s ≡ item_end s Named = λ j a. (name_end_lem s) a j in
        differ_exact s at n Named h (rw (← f) y.3)
        ∙ distinct_table eqs same_name (item_at s Named) (name_at s) (item_end s Named) name_same n at
        ∙ rw (y.0, f)
