-- The items of a table as lists of bytes. Either kind tells its own size, so two items are the same where as many bytes as the
-- first has are.
use Prim.Native.Nat.{ℕ, zero, suc, ◌+◌, ◌≤◌}
use Rattle.std.specs.Prelude.{◌≡◌, List}
use Rattle.std.proofs.Math.Path.{sym, ap}
use Rattle.std.proofs.Common.{◌∙◌, add-zero}
use native.Mathlib.Omega.{arith}
use Rattle.std.proofs.Math.ListN.{length}
use Rattle.fields.specs.Fields.{byte}
use Rattle.stored.specs.Stored.{table_at, table_end, bytes_at}
use Rattle.repeats.specs.declared.Item.{Item}
use Rattle.repeats.specs.declared.Item.TheVariants.{Path, Name}
use Rattle.repeats.specs.Repeats.{size_of}
use Rattle.repeats_laws.specs.Runs.{Alike, alike_at, length_bytes, bytes_alike, alike_bytes}

-- ---- the items

module _ (s : List ℕ) (item : Item) where
  unfoldable pub item_at : ℕ → List ℕ
  item_at at = bytes_at s at (size_of s item at)

  unfoldable pub item_end : ℕ → ℕ
  item_end at = at + size_of s item at

  pub after_end : (n at : ℕ) → at ≤ table_end item_end at n
  unfolding table_end item_end
  after_end zero at = omega arith
  after_end (suc n) at = let h = after_end n (item_end at) in omega arith

-- the stored bytes of n items from `at` on
unfoldable pub items : List ℕ → ℕ → ℕ → Item → List (List ℕ)
items s at n item = table_at (item_at s item) (item_end s item) at n

pub same_size : (s : List ℕ) (item : Item) (a b : ℕ) → Alike s (size_of s item a) a b → size_of s item a ≡ size_of s item b
unfolding size_of
same_size s Path a b h = let e : byte s a ≡ byte s b = simp add-zero at (alike_at h 0 (omega arith)) in rw e
same_size s Name a b h = rw (alike_at h 10 (omega arith))

module _ (s : List ℕ) (item : Item) (a b : ℕ) where
  pub item_same : Alike s (size_of s item a) a b → item_at s item a ≡ item_at s item b
  unfolding item_at
  item_same h = bytes_alike s h ∙ ap (bytes_at s b) (same_size s item a b h)

  pub item_alike : item_at s item a ≡ item_at s item b → Alike s (size_of s item a) a b
  unfolding item_at
  item_alike e =
      let z : size_of s item a ≡ size_of s item b = sym (length_bytes s _ a) ∙ ap length e ∙ length_bytes s _ b in
      alike_bytes s _ a b (e ∙ ap (bytes_at s b) (sym z))
