-- As many rounds as there are names reach exactly what is reached: each round adds a name or rests.
use Prim.Native.Nat.{ℕ, zero, suc, ◌+◌, ◌<◌, ◌≤◌}
use Rattle.std.specs.Prelude.{◌≡◌, true, ◌↔◌, List, [], length, eqb}
use Rattle.std.proofs.Math.Path.{refl, ap, subst}
use Rattle.std.proofs.Common.{sym, ◌∙◌, arith}
use Rattle.std.proofs.Math.Logic.{inl, inr}
use Rattle.std.proofs.Math.Decide.{dec_lt}
use Rattle.net_file.specs.Lists.{distinct, concat_map}
use Rattle.net_file.specs.Values.{FlatNet, File}
use Rattle.conversions.specs.Prune.{next, Reached, entry, onward, join, reach}
use Rattle.prune_laws.specs.Members.{In, in_many, in_one, in_as, join_keeps, join_adds, join_only, join_same, false_true}
use Rattle.prune_laws.specs.Few.{few_below, join_distinct}
use Rattle.prune_laws.specs.Exact.{apart_join, apart_none, reached_in, reach_closed, reach_keeps, reach_sound, entries_in, entries_only}

module _ (f : File FlatNet) (n : ℕ) (small : (i j : ℕ) → In j (next f i) → j < n) where
  -- pruning keeps exactly what is reached
  pub reach_exact : (es : List ℕ) → ((i : ℕ) → In i es → i < n) → (i : ℕ) → In i (reach n f (join [] es)) ↔ Reached f es i
  reach_exact es h i = (
    (reach_sound f n small) es n (join [] es) ((entries_only f n small) es) i,
    reached_in f es (reach n f (join [] es)) (λ j k. (reach_keeps f n small) n j (join [] es) ((entries_in f n small) es j k))
        ((reach_closed f n small) n (join [] es) (apart_join n [] es (apart_none n) h) (omega arith)) i,
  )
