-- Runs of bytes at two places of s, and what `compare` says of them. The order is by the first byte that differs; a run has no
-- length of its own, so that the order of places stays the same whatever the lengths compared.
use Prim.Native.Nat.{ℕ, zero, suc, ◌+◌, ◌<◌, ◌≤◌}
use Rattle.std.specs.Prelude.{◌≡◌, List, length}
use Rattle.std.proofs.Math.Path.{refl, ap}
use Rattle.std.proofs.Common.{sym, ◌∙◌, arith, add-zero}
use Rattle.words.specs.Choose.{lt_no, lt_split}
use Rattle.fields.specs.Fields.{byte}
use Rattle.stored.specs.Stored.{table_at, bytes_at}
use Rattle.std.specs.declared.cmp.Ordering.{Ordering}
use Rattle.std.specs.declared.cmp.Ordering.TheVariants.{Less, Equal, Greater}
use Rattle.repeats.specs.Repeats.{compare_from, compare}

-- the n bytes at a are those at b
pub data Alike (s : List ℕ) : ℕ → ℕ → ℕ → Type 0 where
  none : {a b : ℕ} → Alike s zero a b
  more : {n a b : ℕ} → byte s a ≡ byte s b → Alike s n (a + 1) (b + 1) → Alike s (suc n) a b

-- among the n bytes at a and at b the first that differ are less at a
pub data Before (s : List ℕ) : ℕ → ℕ → ℕ → Type 0 where
  here : {n a b : ℕ} → byte s a < byte s b → Before s (suc n) a b
  later : {n a b : ℕ} → byte s a ≡ byte s b → Before s n (a + 1) (b + 1) → Before s (suc n) a b

module _ {s : List ℕ} where
  pub alike_sym : {n a b : ℕ} → Alike s n a b → Alike s n b a
  alike_sym none = none
  alike_sym (more e h) = more (sym e) (alike_sym h)

  pub alike_at : {n a b : ℕ} → Alike s n a b → (i : ℕ) → i < n → byte s (a + i) ≡ byte s (b + i)
  alike_at none i h = absurd (omega arith)
  alike_at (more {a = a} {b = b} e g) zero h = simp add-zero e
  alike_at (more {a = a} {b = b} e g) (suc i) h =
      let p : a + suc i ≡ a + 1 + i = omega arith in
      let q : b + suc i ≡ b + 1 + i = omega arith in
      rw (p, q) (alike_at g i (omega arith))

  -- of two orders in a row, either length holds
  pub before_by_first : {m n a b c : ℕ} → Before s m a b → Before s n b c → Before s m a c
  before_by_first {a = a} {c = c} (here p) (here q) = let r : byte s a < byte s c = omega arith in here r
  before_by_first {a = a} {c = c} (here p) (later q h) = let r : byte s a < byte s c = omega arith in here r
  before_by_first {a = a} {c = c} (later p g) (here q) = let r : byte s a < byte s c = omega arith in here r
  before_by_first (later p g) (later q h) = later (p ∙ q) (before_by_first g h)

  pub before_by_second : {m n a b c : ℕ} → Before s m a b → Before s n b c → Before s n a c
  before_by_second {a = a} {c = c} (here p) (here q) = let r : byte s a < byte s c = omega arith in here r
  before_by_second {a = a} {c = c} (here p) (later q h) = let r : byte s a < byte s c = omega arith in here r
  before_by_second {a = a} {c = c} (later p g) (here q) = let r : byte s a < byte s c = omega arith in here r
  before_by_second (later p g) (later q h) = later (p ∙ q) (before_by_second g h)

  pub before_asym : {m n a b : ℕ} → Before s m a b → Before s n b a → ⊥
  before_asym (here p) (here q) = omega arith
  before_asym (here p) (later q h) = omega arith
  before_asym (later p g) (here q) = omega arith
  before_asym (later p g) (later q h) = before_asym g h

  pub alike_not_before : {n a b : ℕ} → Alike s n a b → Before s n a b → ⊥
  alike_not_before (more e g) (here p) = omega arith
  alike_not_before (more e g) (later p h) = alike_not_before g h
  alike_not_before (none {a = a} {b = b}) x5 = elim x5 [ ]

module _ (s : List ℕ) where
  pub alike_all : (n a b : ℕ) → ((i : ℕ) → i < n → byte s (a + i) ≡ byte s (b + i)) → Alike s n a b
  alike_all zero a b h = none
  alike_all (suc n) a b h = more (simp add-zero at (h 0 (omega arith))) (alike_all n (a + 1) (b + 1) (λ i l.
      let p : a + 1 + i ≡ a + suc i = omega arith in
      let q : b + 1 + i ≡ b + suc i = omega arith in
      rw (p, q) (h (suc i) (omega arith))))

  -- ---- the bytes as a list

  pub length_bytes : (n a : ℕ) → length (bytes_at s a n) ≡ n
  unfolding bytes_at table_at
  length_bytes zero a = refl
  length_bytes (suc n) a = ap suc (length_bytes n (a + 1))

  pub bytes_alike : {n a b : ℕ} → Alike s n a b → bytes_at s a n ≡ bytes_at s b n
  unfolding bytes_at table_at
  bytes_alike none = refl
  bytes_alike (more e g) = rw (e, bytes_alike g)

  pub alike_bytes : (n a b : ℕ) → bytes_at s a n ≡ bytes_at s b n → Alike s n a b
  unfolding bytes_at table_at
  alike_bytes zero a b e = none
  alike_bytes (suc n) a b e =
      let h : byte s a ≡ byte s b = cc in
      let g : bytes_at s (a + 1) n ≡ bytes_at s (b + 1) n = cc in
      more h (alike_bytes n (a + 1) (b + 1) g)

  -- ---- what the comparison says

  abbrev pub Compared : ℕ → ℕ → ℕ → Ordering → Type 0
  Compared n a b Less = Before s n a b
  Compared n a b Equal = Alike s n a b
  Compared n a b Greater = Before s n b a

  one_more : (n a b : ℕ) (o : Ordering) → byte s a ≡ byte s b → Compared n (a + 1) (b + 1) o → Compared (suc n) a b o
  one_more n a b Less e h = later e h
  one_more n a b Equal e h = more e h
  one_more n a b Greater e h = later (sym e) h

  compared_from : (n a b : ℕ) → Compared n a b (compare_from s a b n)
  unfolding compare_from
  compared_from zero a b = none
  compared_from (suc n) a b = lt_split _ _ _ _ (λ (o : Ordering). Compared (suc n) a b o) (λ h. here h) (λ h.
      lt_split _ _ _ _ (λ (o : Ordering). Compared (suc n) a b o) (λ i. here i) (λ i.
      one_more n a b (compare_from s (a + 1) (b + 1) n) (omega arith) (compared_from n (a + 1) (b + 1))))

  pub compared : (n a b : ℕ) → a + n ≤ length s → b + n ≤ length s → Compared n a b (compare s a b n)
  unfolding compare
  compared n a b h i = rw (← lt_no _ _ _ _ h (lt_no _ _ _ _ i refl)) (compared_from n a b)
