-- A big-endian number and its bytes determine each other, where every byte is below 256.
use Prim.Native.Nat.{ℕ, zero, suc, ◌+◌, ◌*◌, ◌-◌, ◌<◌, ◌≤◌}
use Rattle.std.specs.Prelude.{◌≡◌, List, length, get_or}
use Rattle.std.proofs.Math.Path.{refl, ap}
use Rattle.std.proofs.Common.{sym, ◌∙◌}
use native.Mathlib.Omega.{arith}
use Rattle.std.proofs.Math.Decide.{dec_lt}
use Rattle.std.proofs.Math.Nat.{add-zero}
use Rattle.fields.specs.Fields.{byte, be16, be32, be64}
use Rattle.stored.specs.Stored.{table_at, numbers_at}
use Rattle.repeats_laws.specs.Runs.{Alike, none, more, alike_at, alike_all}
use Rattle.repeats_laws.specs.Paths.{alike_rest}

module _ (s : List ℕ) where
  -- ---- a run and its parts

  pub alike_part : (n a b : ℕ) → Alike s n a b → (i m : ℕ) → i + m ≤ n → Alike s m (a + i) (b + i)
  alike_part n a b h i m r = alike_all s m (a + i) (b + i) (λ j l.
      let p : a + i + j ≡ a + (i + j) = omega arith in
      let q : b + i + j ≡ b + (i + j) = omega arith in
      rw (p, q) (alike_at h (i + j) (omega arith)))

  pub alike_join : (m n a b : ℕ) → Alike s m a b → Alike s n (a + m) (b + m) → Alike s (m + n) a b
  alike_join m n a b h g = alike_all s (m + n) a b (λ j l. elim (dec_lt j m) [
    | yes i ↦ alike_at h j i
    | no i ↦
        let p : a + j ≡ a + m + (j - m) = omega arith in
        let q : b + j ≡ b + m + (j - m) = omega arith in
        rw (p, q) (alike_at g (j - m) (omega arith))
  ])

  alike_2 : (a b : ℕ) → byte s a ≡ byte s b → byte s (a + 1) ≡ byte s (b + 1) → Alike s 2 a b
  alike_2 a b e f = more e (more f none)

  -- ---- from the bytes

  pub be16_alike : (a b : ℕ) → Alike s 2 a b → be16 s a ≡ be16 s b
  be16_alike a b h = let g = alike_rest h in let f = alike_rest g.1 in rw (g.0, f.0)

  be32_alike : (a b : ℕ) → Alike s 4 a b → be32 s a ≡ be32 s b
  be32_alike a b h =
      let g : byte s a ≡ byte s b = simp add-zero at (alike_at h 0 (omega arith)) in
      rw (g, alike_at h 1 (omega arith), alike_at h 2 (omega arith), alike_at h 3 (omega arith))

  pub be64_alike : (a b : ℕ) → Alike s 8 a b → be64 s a ≡ be64 s b
  be64_alike a b h =
      let g : Alike s 4 a b = simp add-zero at (alike_part 8 a b h 0 4 (omega arith)) in
      rw (be32_alike a b g, be32_alike (a + 4) (b + 4) (alike_part 8 a b h 4 4 (omega arith)))

  pub numbers_alike : (k a b : ℕ) → Alike s (2 * k) a b → numbers_at s a k ≡ numbers_at s b k
  unfolding numbers_at table_at
  numbers_alike zero a b h = refl
  numbers_alike (suc k) a b h =
      let g : Alike s 2 a b = simp add-zero at (alike_part (2 * suc k) a b h 0 2 (omega arith)) in
      rw (be16_alike a b g, numbers_alike k (a + 2) (b + 2) (alike_part (2 * suc k) a b h 2 (2 * k) (omega arith)))

  pub length_numbers : (k a : ℕ) → length (numbers_at s a k) ≡ k
  unfolding numbers_at table_at
  length_numbers zero a = refl
  length_numbers (suc k) a = ap suc (length_numbers k (a + 2))

  -- ---- back to them

  module _ (small : (i : ℕ) → get_or s i 0 < 256) where
    pub alike_be16 : (a b : ℕ) → be16 s a ≡ be16 s b → Alike s 2 a b
    alike_be16 a b e =
        let p = small a in let q = small b in let v = small (a + 1) in let w = small (b + 1) in
        alike_2 a b (omega arith) (omega arith)

    -- a number of 32 bits is two of 16
    halves : (a : ℕ) → be32 s a ≡ 65536 * be16 s a + be16 s (a + 2)
    halves a = let e : a + 2 + 1 ≡ a + 3 = omega arith in rw e (omega arith)

    alike_be32 : (a b : ℕ) → be32 s a ≡ be32 s b → Alike s 4 a b
    alike_be32 a b e =
        let f : 65536 * be16 s a + be16 s (a + 2) ≡ 65536 * be16 s b + be16 s (b + 2) = sym (halves a) ∙ e ∙ halves b in
        let p = small (a + 2) in let q = small (b + 2) in let v = small (a + 2 + 1) in let w = small (b + 2 + 1) in
        alike_join 2 2 a b (alike_be16 a b (omega arith)) (alike_be16 (a + 2) (b + 2) (omega arith))

    be32_fits : (a : ℕ) → be32 s a < 4294967296
    be32_fits a = let p = small a in let q = small (a + 1) in let v = small (a + 2) in let w = small (a + 3) in omega arith

    split : (x y v w : ℕ) → 4294967296 * x + y ≡ 4294967296 * v + w → y < 4294967296 → w < 4294967296 → (x ≡ v) × (y ≡ w)
    split x y v w e h i = (omega arith, omega arith)

    pub alike_be64 : (a b : ℕ) → be64 s a ≡ be64 s b → Alike s 8 a b
    alike_be64 a b e =
        let f = split (be32 s a) (be32 s (a + 4)) (be32 s b) (be32 s (b + 4)) e (be32_fits (a + 4)) (be32_fits (b + 4)) in
        alike_join 4 4 a b (alike_be32 a b f.0) (alike_be32 (a + 4) (b + 4) f.1)

    pub alike_numbers : (k a b : ℕ) → numbers_at s a k ≡ numbers_at s b k → Alike s (2 * k) a b
    unfolding numbers_at table_at
    alike_numbers zero a b e = none
    alike_numbers (suc k) a b e =
        let f : be16 s a ≡ be16 s b = cc in
        let g : numbers_at s (a + 2) k ≡ numbers_at s (b + 2) k = cc in
        let z : 2 * suc k ≡ 2 + 2 * k = omega arith in
        rw z (alike_join 2 (2 * k) a b (alike_be16 a b f) (alike_numbers k (a + 2) (b + 2) g))
