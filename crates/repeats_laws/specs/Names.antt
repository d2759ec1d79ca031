-- A table of names that was read: `differ` tells whether the names are pairwise different.
use Rattle.std.specs.Prelude.{ℕ, ◌+◌, ◌*◌, ◌<◌, ◌≡◌, List, get_or}
use Rattle.std.proofs.Math.Path.{sym, ap}
use Rattle.std.proofs.Common.{◌∙◌}
use native.Mathlib.Omega.{arith}
use Rattle.std.proofs.Math.Nat.{add-zero}
use Rattle.std.proofs.Math.ListN.{length}
use Rattle.fields.specs.Fields.{byte, be16, be64}
use Rattle.stored.specs.Stored.{numbers_at, list_at, list_end, name_end}
use Rattle.repeats.specs.declared.Item.TheVariants.{Name as Named}
use Rattle.repeats.specs.Repeats.{size_of}
use Rattle.repeats_laws.specs.Runs.{Alike, none, more, alike_at}
use Rattle.repeats_laws.specs.Items.{item_end}
use Rattle.repeats_laws.specs.Numbers.{alike_part, alike_join, be16_alike, be64_alike, numbers_alike, length_numbers, alike_be16, alike_be64, alike_numbers}

module _ (s : List ℕ) where
  pub name_end_lem : (a : ℕ) → name_end s a ≡ item_end s Named a
  unfolding name_end list_end item_end size_of
  name_end_lem a = omega arith

  -- ten bytes, the count, the children
  name_size : (a : ℕ) → size_of s Named a ≡ 2 + (8 + (1 + 2 * byte s (a + 10)))
  unfolding size_of
  name_size a = omega arith

  -- what the bytes of two names say of their parts
  pub record Parts (a b : ℕ) : Type 0 where
    pub path : be16 s a ≡ be16 s b
    pub payload : be64 s (a + 2) ≡ be64 s (b + 2)
    pub children : list_at s (a + 10) ≡ list_at s (b + 10)

  pub parts : (a b : ℕ) → Alike s (size_of s Named a) a b → Parts a b
  unfolding list_at
  parts a b g =
      let k = byte s (a + 10) in
      let h : Alike s (2 + (8 + (1 + 2 * k))) a b = rw name_size at g in
      let e : byte s (a + 10) ≡ byte s (b + 10) = alike_at h 10 (omega arith) in
      let p : a + 10 + 1 ≡ a + 11 = omega arith in
      let q : b + 10 + 1 ≡ b + 11 = omega arith in
      record {
        path = be16_alike s a b (simp add-zero at (alike_part s _ a b h 0 2 (omega arith)));
        payload = be64_alike s (a + 2) (b + 2) (alike_part s _ a b h 2 8 (omega arith));
        children = rw (p, q) (numbers_alike s k (a + 11) (b + 11) (alike_part s _ a b h 11 (2 * k) (omega arith)) ∙ ap (numbers_at s (b + 11)) e);
      }

  module _ (small : (i : ℕ) → get_or s i 0 < 256) where
    pub bytes : (a b : ℕ) → Parts a b → Alike s (size_of s Named a) a b
    unfolding list_at
    bytes a b g =
        let k = byte s (a + 10) in
        let c = g.children in
        let e : byte s (a + 10) ≡ byte s (b + 10) = sym (length_numbers s _ (a + 10 + 1)) ∙ ap length c ∙ length_numbers s _ (b + 10 + 1) in
        let d : numbers_at s (a + 10 + 1) k ≡ numbers_at s (b + 10 + 1) k = c ∙ ap (numbers_at s (b + 10 + 1)) (sym e) in
        let p : a + 2 + 8 ≡ a + 10 = omega arith in
        let q : b + 2 + 8 ≡ b + 10 = omega arith in
        let t : Alike s (1 + 2 * k) (a + 10) (b + 10) = alike_join s 1 (2 * k) (a + 10) (b + 10) (more e none) (alike_numbers s small k _ _ d) in
        rw name_size (alike_join s 2 _ a b (alike_be16 s small a b g.path)
        (alike_join s 8 _ (a + 2) (b + 2) (alike_be64 s small (a + 2) (b + 2) g.payload) (rw (p, q) t)))
