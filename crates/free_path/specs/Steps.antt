-- Each way out of the loops over paths. A place past the end is moved to the end, where the same bytes stand: none, read as 0.
use Prim.Native.Nat.{ℕ, zero, suc, ◌+◌, ◌-◌, ◌<◌, ◌≤◌}
use Rattle.std.specs.Prelude.{◌≡◌, Bool, true, false, not, ◌&&◌, List, [], ◌∷◌, length, get_or, drop, eqb}
use Rattle.std.proofs.Math.Path.{refl}
use Rattle.std.proofs.Common.{sym, ap, ◌∙◌, add-one, sub-one, not-suc-le-zero, drop_of_length-le, drop-cons, eq-eqb, ne_eqb}
use native.Mathlib.Omega.{arith}
use Rattle.std.proofs.Math.Decide.{dec_lt}
use Rattle.std.proofs.Math.Nat.{sub-zero}
use Rattle.words.specs.Choose.{pick_true, pick_false}
use Rattle.net_file.specs.Lists.{bit, eqs}
use Rattle.net_file.specs.Values.{free_path}
use Rattle.fields.specs.Fields.{byte, byte_past}
use Rattle.stored.specs.Stored.{table_at, bytes_at, path_at, path_end}
use Rattle.stored.specs.Parts.{path_length}
use Rattle.ends.specs.Ends.{within, on}
use Rattle.free_path.specs.FreePath.{same_from, other, others, free_number}

-- ---- bytes past the end

-- from any two places past the end the same bytes stand
past_same : (s : List ℕ) (a b n : ℕ) → length s ≤ a → length s ≤ b → bytes_at s a n ≡ bytes_at s b n
unfolding bytes_at table_at
past_same s a b zero h i = refl
past_same s a b (suc n) h i = rw (byte_past s a h, byte_past s b i) (ap (λ l. 0 ∷ l) (past_same s (a + 1) (b + 1) n (omega arith) (omega arith)))

pub bytes_within : (s : List ℕ) (at n : ℕ) → bytes_at s (within s at) n ≡ bytes_at s at n
bytes_within s at n = elim (dec_lt at (length s)) [
  | yes l ↦ let e : within s at ≡ at = omega arith in rw e
  | no l ↦ past_same s (within s at) at n (omega arith) (omega arith)
]

-- ---- the bytes of t

pub same_start : (s t : List ℕ) (from : ℕ) → same_from s from t 0 ≡ eqs t (bytes_at s from (length t))
unfolding same_from
same_start s t from = rw sub-zero

-- the next byte of either
same_next : (s t : List ℕ) (at i : ℕ) → i < length t → same_from s at t i ≡ (eqb (get_or t i 0) (byte s at) && same_from s (on s at 1) t (i + 1))
unfolding same_from bytes_at table_at
same_next s t at i h =
    let e : length t - i ≡ suc (length t - (i + 1)) = omega arith in
    rw (drop-cons t i 0 h, e, add-one i) (ap (λ l. eqb (get_or t i 0) (byte s at) && eqs (drop (suc i) t) l) (sym (bytes_within s (at + 1) (length t - suc i))))

module _ (s t : List ℕ) (at i a : ℕ) (x : Bool) where
  pub same_more : (n : ℕ) → same_from s at t i ≡ x → i < length t → a ≡ byte s at → a ≡ get_or t i 0 → n ≡ on s at 1 → same_from s n t (i + 1) ≡ x
  same_more n g h ea e en = rw en (sym (same_next s t at i h ∙ ap (λ u. u && same_from s (on s at 1) t (i + 1)) (eq-eqb _ _ (sym e ∙ ea))) ∙ g)

  pub same_no : same_from s at t i ≡ x → i < length t → a ≡ byte s at → (a ≡ get_or t i 0 → ⊥) → false ≡ x
  same_no g h ea e = sym (same_next s t at i h ∙ ap (λ u. u && same_from s (on s at 1) t (i + 1)) (ne_eqb _ _ (λ z. e (ea ∙ sym z)))) ∙ g

pub same_done : (s t : List ℕ) (at i : ℕ) (x : Bool) → same_from s at t i ≡ x → length t ≤ i → true ≡ x
unfolding same_from bytes_at table_at
same_done s t at i x g h = let e : length t - i ≡ 0 = omega arith in rw (drop_of_length-le t h, e) at g

-- ---- one path

-- lists of different lengths differ
eqs_longer : (xs ys : List ℕ) → (length xs ≡ length ys → ⊥) → eqs xs ys ≡ false
eqs_longer [] [] h = absurd (h refl)
eqs_longer [] (y ∷ ys) h = refl
eqs_longer (x ∷ xs) [] h = refl
eqs_longer (x ∷ xs) (y ∷ ys) h = rw (eqs_longer xs ys (λ e. h (ap suc e))) (never (eqb x y))
  where
    never : (t : Bool) → (t && false) ≡ false
    never true = refl
    never false = refl

module _ (s : List ℕ) (at n : ℕ) (e : n ≡ byte s at) where
  pub free_short : (n ≡ 15 → ⊥) → false ≡ eqs free_path (path_at s at)
  free_short h = sym (eqs_longer free_path (path_at s at) (λ z. h (e ∙ sym (path_length s at) ∙ sym z)))

  pub free_same : (from : ℕ) (t : List ℕ) (r : Bool) → n ≡ 15 → from ≡ on s at 1 → t ≡ free_path → r ≡ eqs t (bytes_at s from (length t)) → r ≡ eqs free_path (path_at s at)
  unfolding path_at
  free_same from t r h ef et er = er ∙ rw (et, ef, bytes_within s (at + 1) 15, ← e, h)

-- ---- how many are not free

module _ (s : List ℕ) (at : ℕ) (t : Bool) (e : t ≡ eqs free_path (path_at s at)) where
  pub other_free : t ≡ true → 0 ≡ other s at
  unfolding other
  other_free h = rw (← e, h)

  pub other_not : t ≡ false → 1 ≡ other s at
  unfolding other
  other_not h = rw (← e, h)

pub other_small : (s : List ℕ) (at o : ℕ) → o ≡ other s at → o ≤ 1
unfolding other
other_small s at o e = rw e (small (eqs free_path (path_at s at)))
  where
    small : (t : Bool) → bit (not t) ≤ 1
    small true = omega arith
    small false = omega arith

pub others_more : (s : List ℕ) (at a k found o x : ℕ) → found + others s at k ≡ x → 0 < k → o ≡ other s at → a ≡ within s (path_end s at)
    → found + o + others s a (k - 1) ≡ x
unfolding others
others_more s at a zero found o x g h eo ea = absurd (not-suc-le-zero h)
others_more s at a (suc k) found o x g h eo ea = rw (sub-one, ea) (omega arith)

pub others_done : (s : List ℕ) (at k found x : ℕ) → found + others s at k ≡ x → k ≤ 0 → found ≡ x
unfolding others
others_done s at zero found x g h = omega arith
others_done s at (suc k) found x g h = absurd (not-suc-le-zero h)

-- ---- the first free one

module _ (s : List ℕ) (at : ℕ) (t : Bool) (x : ℕ) (e : t ≡ eqs free_path (path_at s at)) where
  pub number_more : (a i k : ℕ) → i + free_number s at k ≡ x → 0 < k → t ≡ false → a ≡ within s (path_end s at) → i + 1 + free_number s a (k - 1) ≡ x
  unfolding free_number
  number_more a i zero g h y ea = absurd (not-suc-le-zero h)
  number_more a i (suc k) g h y ea =
      let f : suc (free_number s (within s (path_end s at)) k) ≡ free_number s at (suc k) = pick_false _ _ _ (sym e ∙ y) refl in
      rw (sub-one, ea) (omega arith)

  pub number_found : (i k : ℕ) → i + free_number s at k ≡ x → 0 < k → t ≡ true → i ≡ x
  unfolding free_number
  number_found i zero g h y = absurd (not-suc-le-zero h)
  number_found i (suc k) g h y = let f : 0 ≡ free_number s at (suc k) = pick_true _ _ _ (sym e ∙ y) refl in omega arith

pub number_done : (s : List ℕ) (at i k x : ℕ) → i + free_number s at k ≡ x → k ≤ 0 → i ≡ x
unfolding free_number
number_done s at i zero x g h = omega arith
number_done s at i (suc k) x g h = absurd (not-suc-le-zero h)
