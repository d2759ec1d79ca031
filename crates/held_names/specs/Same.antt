-- Two names are the same by their bytes exactly where they are the same: path, payload and children.
use Rattle.std.specs.Prelude.{ℕ, zero, suc, ◌+◌, ◌*◌, ◌<◌, ◌≡◌, Bool, true, ◌&&◌, List, length, eqb}
use Rattle.std.proofs.Math.Path.{refl}
use Rattle.std.proofs.Common.{sym, ap, ◌∙◌, arith, eqb-true, eq-eqb}
use Rattle.net_file.specs.Lists.{eqs}
use Rattle.net_file.specs.Checks.{same_name}
use Rattle.net_file_laws.specs.Bytes.{Bytes}
use Rattle.list_laws.specs.Tests.{both, both_are, same_test}
use Rattle.list_laws.specs.Lists.{eqs_true}
use Rattle.words.specs.Choose.{pick_and, if_eq}
use Rattle.fields.specs.Fields.{byte, be16, be64}
use Rattle.stored.specs.Stored.{table_at, numbers_at, list_at, name_at}
use Rattle.readers_laws.specs.Tables.{list_length}
use Rattle.node_names.specs.Names.{path, child_count, same_numbers, same_children, same_head, same_bytes}

-- ---- numbers of eight bytes are equal where the bytes are

-- four bytes as a number
abbrev four : ℕ → ℕ → ℕ → ℕ → ℕ
four a b c d = 16777216 * a + 65536 * b + 256 * c + d

module _ (a b c d u v w x : ℕ) (hb : b < 256) (hc : c < 256) (hd : d < 256) (hv : v < 256) (hw : w < 256) (hx : x < 256) where
  four_same : four a b c d ≡ four u v w x → (a ≡ u) × (b ≡ v) × (c ≡ w) × (d ≡ x)
  four_same e = (omega arith, omega arith, omega arith, omega arith)

-- eight bytes from a + k on as a number
abbrev eight : List ℕ → ℕ → ℕ → ℕ
eight s a k =
    4294967296 * four (byte s (a + k)) (byte s (a + (k + 1))) (byte s (a + (k + 2))) (byte s (a + (k + 3)))
    + four (byte s (a + (k + 4))) (byte s (a + (k + 5))) (byte s (a + (k + 6))) (byte s (a + (k + 7)))

be64_is : (s : List ℕ) (a k : ℕ) → be64 s (a + k) ≡ eight s a k
be64_is s a k =
    let e₁ : a + k + 1 ≡ a + (k + 1) = omega arith in
    let e₂ : a + k + 2 ≡ a + (k + 2) = omega arith in
    let e₃ : a + k + 3 ≡ a + (k + 3) = omega arith in
    let e₄ : a + k + 4 ≡ a + (k + 4) = omega arith in
    let e₅ : a + (k + 4) + 1 ≡ a + (k + 5) = omega arith in
    let e₆ : a + (k + 4) + 2 ≡ a + (k + 6) = omega arith in
    let e₇ : a + (k + 4) + 3 ≡ a + (k + 7) = omega arith in
    rw (e₁, e₂, e₃, e₄, e₅, e₆, e₇)

-- byte i of two names is the same
abbrev Alike : List ℕ → ℕ → ℕ → ℕ → Type 0
Alike s a b i = byte s (a + i) ≡ byte s (b + i)

module _ (s : List ℕ) (is : Bytes s) (a b : ℕ) where
  eight_same : (k : ℕ) → be64 s (a + k) ≡ be64 s (b + k)
      → (Alike s a b k × Alike s a b (k + 1) × Alike s a b (k + 2) × Alike s a b (k + 3))
      × (Alike s a b (k + 4) × Alike s a b (k + 5) × Alike s a b (k + 6) × Alike s a b (k + 7))
  eight_same k e =
      let g : eight s a k ≡ eight s b k = sym (be64_is s a k) ∙ e ∙ be64_is s b k in
      let l : (x : ℕ) → byte s x < 256 = is in
      let h : four (byte s (a + k)) (byte s (a + (k + 1))) (byte s (a + (k + 2))) (byte s (a + (k + 3))) ≡ four (byte s (b + k)) (byte s (b + (k + 1))) (byte s (b + (k + 2))) (byte s (b + (k + 3)))
      = omega (arith, l (a + (k + 4)), l (a + (k + 5)), l (a + (k + 6)), l (a + (k + 7)), l (b + (k + 4)), l (b + (k + 5)), l (b + (k + 6)), l (b + (k + 7))) in (
        four_same _ _ _ _ _ _ _ _ (l (a + (k + 1))) (l (a + (k + 2))) (l (a + (k + 3))) (l (b + (k + 1))) (l (b + (k + 2))) (l (b + (k + 3))) h,
        four_same _ _ _ _ _ _ _ _ (l (a + (k + 5))) (l (a + (k + 6))) (l (a + (k + 7))) (l (b + (k + 5))) (l (b + (k + 6))) (l (b + (k + 7))) (omega arith),
      )

  -- ---- path, payload and count by eleven bytes

  head_is : same_head s a b ≡ (eqb (be64 s a) (be64 s b) && eqb (be64 s (a + 3)) (be64 s (b + 3)))
  unfolding same_head if_eq
  head_is = pick_and (eqb (be64 s a) (be64 s b)) (eqb (be64 s (a + 3)) (be64 s (b + 3)))

  head_same : same_head s a b ≡ true → (path s a ≡ path s b) × (be64 s (a + 2) ≡ be64 s (b + 2)) × (child_count s a ≡ child_count s b)
  head_same t =
      let h = both (eqb (be64 s a) (be64 s b)) (eqb (be64 s (a + 3)) (be64 s (b + 3))) (sym head_is ∙ t) in
      let za : a + 0 ≡ a = omega arith in
      let zb : b + 0 ≡ b = omega arith in
      let x = eight_same 0 (rw (za, zb) (eqb-true _ _ h.0)) in
      let y = eight_same 3 (eqb-true _ _ h.1) in
      let x₀ : byte s a ≡ byte s b = rw (za, zb) at x.0.0 in
      (omega arith, be64_is s a 2 ∙ omega arith ∙ sym (be64_is s b 2), y.1.3)

  same_head_of : path s a ≡ path s b → be64 s (a + 2) ≡ be64 s (b + 2) → child_count s a ≡ child_count s b → same_head s a b ≡ true
  same_head_of p y c =
      let l : (x : ℕ) → byte s x < 256 = is in
      let za : a + 0 ≡ a = omega arith in
      let zb : b + 0 ≡ b = omega arith in
      let x = eight_same 2 y in
      let u : (byte s a ≡ byte s b) × (byte s (a + 1) ≡ byte s (b + 1)) = (omega (arith, l (a + 1), l (b + 1)), omega (arith, l (a + 1), l (b + 1))) in
      let v : eight s a 0 ≡ eight s b 0 = rw (za, zb) (omega arith) in
      let w : be64 s a ≡ be64 s b = rw (za, zb) at (be64_is s a 0 ∙ v ∙ sym (be64_is s b 0)) in
      let q : be64 s (a + 3) ≡ be64 s (b + 3) = be64_is s a 3 ∙ omega arith ∙ sym (be64_is s b 3) in
      head_is ∙ both_are _ _ (eq-eqb _ _ w) (eq-eqb _ _ q)

-- ---- children

numbers_same : (s : List ℕ) (x y k : ℕ) → same_numbers s x y k ≡ eqs (numbers_at s x k) (numbers_at s y k)
unfolding same_numbers numbers_at table_at if_eq
numbers_same s x y zero = refl
numbers_same s x y (suc k) =
    pick_and (eqb (be16 s x) (be16 s y)) (same_numbers s (x + 2) (y + 2) k)
    ∙ ap (λ (t : Bool). eqb (be16 s x) (be16 s y) && t) (numbers_same s (x + 2) (y + 2) k)

children_same : (s : List ℕ) (a b : ℕ) → child_count s a ≡ child_count s b → same_children s a b (child_count s a) ≡ eqs (list_at s (a + 10)) (list_at s (b + 10))
unfolding same_children list_at
children_same s a b c =
    let e : a + 10 + 1 ≡ a + 11 = omega arith in
    let g : b + 10 + 1 ≡ b + 11 = omega arith in
    rw (e, g, ← c) (numbers_same s (a + 11) (b + 11) (child_count s a))

-- ---- the whole name

module _ (s : List ℕ) (is : Bytes s) (a b : ℕ) where
  bytes_are : same_bytes s a b ≡ (same_head s a b && same_children s a b (child_count s a))
  unfolding same_bytes
  bytes_are = pick_and (same_head s a b) (same_children s a b (child_count s a))

  name_are : same_name (name_at s a) (name_at s b) ≡ (eqb (path s a) (path s b) && eqb (be64 s (a + 2)) (be64 s (b + 2)) && eqs (list_at s (a + 10)) (list_at s (b + 10)))
  unfolding same_name name_at
  name_are = refl

  forth : same_bytes s a b ≡ true → same_name (name_at s a) (name_at s b) ≡ true
  forth t =
      let h = both (same_head s a b) (same_children s a b (child_count s a)) (sym bytes_are ∙ t) in
      let e = head_same s is a b h.0 in
      name_are ∙ both_are _ _ (both_are _ _ (eq-eqb _ _ e.0) (eq-eqb _ _ e.1)) (sym (children_same s a b e.2) ∙ h.1)

  back : same_name (name_at s a) (name_at s b) ≡ true → same_bytes s a b ≡ true
  back t =
      let h = both (eqb (path s a) (path s b) && eqb (be64 s (a + 2)) (be64 s (b + 2))) (eqs (list_at s (a + 10)) (list_at s (b + 10))) (sym name_are ∙ t) in
      let g = both (eqb (path s a) (path s b)) (eqb (be64 s (a + 2)) (be64 s (b + 2))) h.0 in
      let c : child_count s a ≡ child_count s b
      = sym (list_length s (a + 10)) ∙ ap (λ (l : List ℕ). length l) (eqs_true (list_at s (a + 10)) (list_at s (b + 10)) h.1) ∙ list_length s (b + 10) in
      bytes_are ∙ both_are _ _ (same_head_of s is a b (eqb-true _ _ g.0) (eqb-true _ _ g.1) c) (children_same s a b c ∙ h.1)

  pub same_bytes_is : same_bytes s a b ≡ same_name (name_at s a) (name_at s b)
  same_bytes_is = same_test _ _ forth back
