-- A table of paths that was read: `differ` tells whether the paths are pairwise different.
use Prim.Native.Nat.{ℕ, zero, suc, ◌+◌}
use Rattle.std.specs.Prelude.{◌≡◌, Bool, List}
use Rattle.std.proofs.Math.Path.{refl}
use native.Mathlib.Omega.{arith}
use Rattle.net_file.specs.Lists.{any, distinct}
use Rattle.fields.specs.Fields.{byte}
use Rattle.stored.specs.Stored.{table_at, path_end}
use Rattle.repeats.specs.declared.Item.TheVariants.{Path}
use Rattle.repeats.specs.Repeats.{size_of}
use Rattle.repeats_laws.specs.Runs.{Alike, more}
use Rattle.repeats_laws.specs.Items.{item_end}

-- ---- tables of the same places

module _ {A B : Type 0} (same : A → A → Bool) (alike : B → B → Bool) (one : ℕ → A) (two : ℕ → B) (end : ℕ → ℕ)
    (h : (a b : ℕ) → same (one a) (one b) ≡ alike (two a) (two b)) where
  any_table : (n a at : ℕ) → any (same (one a)) (table_at one end at n) ≡ any (alike (two a)) (table_at two end at n)
  unfolding table_at
  any_table zero a at = refl
  any_table (suc n) a at = rw (h a at, any_table n a (end at))

  pub distinct_table : (n at : ℕ) → distinct same (table_at one end at n) ≡ distinct alike (table_at two end at n)
  unfolding table_at
  distinct_table zero at = refl
  distinct_table (suc n) at = rw (any_table n at (end at), distinct_table n (end at))

-- ---- paths

pub alike_rest : {s : List ℕ} {n a b : ℕ} → Alike s (suc n) a b → (byte s a ≡ byte s b) × Alike s n (a + 1) (b + 1)
alike_rest (more e g) = (e, g)

module _ (s : List ℕ) where
  pub path_end_lem : (a : ℕ) → path_end s a ≡ item_end s Path a
  unfolding path_end item_end size_of
  path_end_lem a = omega arith

  pub path_size : (a : ℕ) → size_of s Path a ≡ suc (byte s a)
  unfolding size_of
  path_size a = omega arith
