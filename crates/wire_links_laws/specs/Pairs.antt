-- The pairs that the table begins, wire by wire, are those of the definitions: counted and written.
use Rattle.std.specs.Prelude.{ℕ, zero, suc, ◌+◌, ◌-◌, ◌%◌, ◌<◌, ◌≤◌, min, ◌≡◌, refl, Bool, true, false, List, [], ◌∷◌, ◌++◌, length, get_or, ltb}
use Rattle.std.proofs.Common.{sym, ap, ◌∙◌, append_assoc, append-nil, arith, length-append, lt-ltb, le-ltb}
use Rattle.std.proofs.Math.Option.{Option, none, some}
use Rattle.std.proofs.Math.Decide.{dec_lt}
use Rattle.std.proofs.lemmas.List.Edits.{sets}
use Rattle.std.proofs.Math.Seq.{length-sets}
use Rattle.words.specs.Choose.{if_lt, lt_yes, lt_no}
use Rattle.net_file.specs.Lists.{concat_map}
use Rattle.net_file.specs.Write.{be, write_pair}
use Rattle.net_file_laws.specs.Bytes.{length_be}
use Rattle.net_file_laws.specs.Exact.{Each}
use Rattle.text_writers.specs.Wrote.{far, Wrote, nothing, then, wrote_as}
use Rattle.conversions.specs.Links.{Links, get, from, pairs_of}
use Rattle.wire_links.specs.Table.{on, begins, count_over, pair_place, pair_bytes, place_over, bytes_over}
use Rattle.wire_links_laws.specs.Means.{code, Means}

-- bytes stored from a place on
pub laid : (bs : List ℕ) (at : ℕ) (out : List ℕ) (r : ℕ) → length out ≤ far → r ≡ min far (at + length bs) → Wrote bs at out (sets out at bs) r
laid bs at out r h e = record { is = e; out = refl; fits = h }

-- the pair that begins at wire a, by what a is linked with
unfoldable pub pair_from : ℕ → Option ℕ → List (ℕ × ℕ)
pair_from a none = []
pair_from a (some b) = elim (ltb a b) as (λ u. List (ℕ × ℕ)) [ true ↦ (a, b) ∷ [] | false ↦ [] ]

concat_as : {A B : Type 0} (f g : A → List B) → ((x : A) → f x ≡ g x) → (xs : List A) → concat_map f xs ≡ concat_map g xs
concat_as f g h [] = refl
concat_as f g h (x ∷ xs) = rw (h x, concat_as f g h xs)

-- the pairs of the definitions, wire by wire
pairs_from : (l : Links) (n : ℕ) → pairs_of l n ≡ concat_map (λ a. pair_from a (get l a)) (from 0 n)
unfolding pairs_of pair_from
pairs_from l n = concat_as _ (λ a. pair_from a (get l a)) (λ a. by (get l a) a) (from 0 n)
  where
    by : (o : Option ℕ) (a : ℕ) → (elim o as (λ u. List (ℕ × ℕ)) [ none ↦ [] | some b ↦ elim (ltb a b) as (λ u. List (ℕ × ℕ)) [ true ↦ (a, b) ∷ [] | false ↦ [] ] ]) ≡ pair_from a o
    by none a = refl
    by (some b) a = refl

-- ---- on the words

-- the pair that begins at wire a, by its word
unfoldable pub pair_at : List ℕ → ℕ → List (ℕ × ℕ)
pair_at ws a = if_lt (a + 1) (get_or ws a 0) ((a, get_or ws a 0 - 1) ∷ []) []

-- those of some wires
unfoldable pub pairs_in : List ℕ → List ℕ → List (ℕ × ℕ)
pairs_in ws l = concat_map (pair_at ws) l

pair_by : (ws : List ℕ) (a : ℕ) (o : Option ℕ) → get_or ws a 0 ≡ code o → pair_at ws a ≡ pair_from a o
unfolding pair_at pair_from code
pair_by ws a none e = sym (lt_no _ _ _ _ (omega arith) refl)
pair_by ws a (some b) e = elim (dec_lt a b) [
  | yes h ↦
      let f : get_or ws a 0 - 1 ≡ b = omega arith in
      sym (lt_yes _ _ _ _ (omega arith) (rw f (ap (λ (t : Bool). elim t as (λ u. List (ℕ × ℕ)) [ true ↦ (a, b) ∷ [] | false ↦ [] ]) (lt-ltb a b h))))
  | no h ↦ sym (lt_no _ _ _ _ (omega arith) (ap (λ (t : Bool). elim t as (λ u. List (ℕ × ℕ)) [ true ↦ (a, b) ∷ [] | false ↦ [] ]) (le-ltb a b (omega arith))))
]

-- the wires from one on are below a bound
from_as : {B : Type 0} (f g : ℕ → List B) (m : ℕ) → ((x : ℕ) → x < m → f x ≡ g x) → (k n : ℕ) → k + n ≤ m → concat_map f (from k n) ≡ concat_map g (from k n)
unfolding from
from_as f g m h k zero l = refl
from_as f g m h k (suc n) l = rw (h k (omega arith), from_as f g m h (suc k) n (omega arith))

-- the pairs that the words begin are those of the links that they mean
pub pairs_mean : (ws : List ℕ) (l : Links) → Means ws l → (n : ℕ) → n ≤ 65536 → pairs_in ws (from 0 n) ≡ pairs_of l n
unfolding pairs_in
pairs_mean ws l m n h =
    from_as (pair_at ws) (λ a. pair_from a (get l a)) 65536 (λ a i. pair_by ws a (get l a) (m.word a i)) 0 n (omega arith) ∙ sym (pairs_from l n)

begins_one : (ws : List ℕ) (a : ℕ) → begins ws a ≡ length (pair_at ws a)
unfolding begins pair_at
begins_one ws a = elim (dec_lt (a + 1) (get_or ws a 0)) [
  | yes h ↦ sym (lt_yes _ _ _ _ h refl) ∙ ap length (lt_yes _ _ _ _ h refl)
  | no h ↦ sym (lt_no _ _ _ _ (omega arith) refl) ∙ ap length (lt_no _ _ _ _ (omega arith) refl)
]

pub pairs_counted : (ws : List ℕ) (l : List ℕ) → count_over ws l ≡ length (pairs_in ws l)
unfolding count_over pairs_in
pairs_counted ws [] = refl
pairs_counted ws (a ∷ l) = rw (length-append, begins_one ws a, pairs_counted ws l)

-- ---- written

concat_append : (xs ys : List (ℕ × ℕ)) → concat_map write_pair (xs ++ ys) ≡ concat_map write_pair xs ++ concat_map write_pair ys
concat_append [] ys = refl
concat_append (x ∷ xs) ys = rw (concat_append xs ys) (sym (append_assoc (write_pair x) (concat_map write_pair xs) (concat_map write_pair ys)))

one_wrote : (a b to : ℕ) (out : List ℕ) → a < 65536 → b ≤ 65536 → 0 < b → length out ≤ far
    → Wrote (write_pair (a, b - 1)) to out (sets (sets out to (be 2 (a % 65536))) (on to 2) (be 2 ((b - 1) % 65536))) (on to 4)
unfolding write_pair on
one_wrote a b to out h k p l =
    let x : a % 65536 ≡ a = omega arith in
    let y : (b - 1) % 65536 ≡ b - 1 = omega arith in
    rw (x, y) (then (laid (be 2 a) to out (min far (to + 2)) l (rw length_be)) (laid (be 2 (b - 1)) (min far (to + 2)) (sets out to (be 2 a)) (min far (to + 4)) (rw length-sets l) (rw length_be (omega arith))))

pair_wrote : (ws out : List ℕ) (a to : ℕ) → a < 65536 → get_or ws a 0 ≤ 65536 → to ≤ far → length out ≤ far
    → Wrote (concat_map write_pair (pair_at ws a)) to out (pair_bytes ws out to a) (pair_place ws to a)
unfolding pair_at pair_bytes pair_place
pair_wrote ws out a to h k t l = elim (dec_lt (a + 1) (get_or ws a 0)) [
  | yes i ↦
      let e₁ : ◌≡◌ {A = List (ℕ × ℕ)} ((a, get_or ws a 0 - 1) ∷ []) (if_lt (a + 1) (get_or ws a 0) ((a, get_or ws a 0 - 1) ∷ []) []) = lt_yes _ _ _ _ i refl in
      let e₂ : on to 4 ≡ if_lt (a + 1) (get_or ws a 0) (on to 4) to = lt_yes _ _ _ _ i refl in
      let o = sets (sets out to (be 2 (a % 65536))) (on to 2) (be 2 ((get_or ws a 0 - 1) % 65536)) in
      let e₃ : o ≡ if_lt (a + 1) (get_or ws a 0) o out = lt_yes _ _ _ _ i refl in
      rw (← e₁, ← e₂, ← e₃) (wrote_as (sym (append-nil (write_pair (a, get_or ws a 0 - 1)))) (one_wrote a (get_or ws a 0) to out h k (omega arith) l))
  | no i ↦
      let j : get_or ws a 0 ≤ a + 1 = omega arith in
      let e₁ : ◌≡◌ {A = List (ℕ × ℕ)} [] (if_lt (a + 1) (get_or ws a 0) ((a, get_or ws a 0 - 1) ∷ []) []) = lt_no _ _ _ _ j refl in
      let e₂ : to ≡ if_lt (a + 1) (get_or ws a 0) (on to 4) to = lt_no _ _ _ _ j refl in
      let o = sets (sets out to (be 2 (a % 65536))) (on to 2) (be 2 ((get_or ws a 0 - 1) % 65536)) in
      let e₃ : out ≡ if_lt (a + 1) (get_or ws a 0) o out = lt_no _ _ _ _ j refl in
      rw (← e₁, ← e₂, ← e₃) (nothing t l)
]

-- all of them, in order
pub pairs_wrote : (ws : List ℕ) → ((a : ℕ) → a < 65536 → get_or ws a 0 ≤ 65536) → (l : List ℕ) → Each (λ a. a < 65536) l → (to : ℕ) (out : List ℕ) → to ≤ far → length out ≤ far
    → Wrote (concat_map write_pair (pairs_in ws l)) to out (bytes_over ws l to out) (place_over ws l to)
unfolding bytes_over place_over pairs_in
pairs_wrote ws low [] h to out t k = nothing t k
pairs_wrote ws low (a ∷ l) h to out t k =
    let p = pair_wrote ws out a to h.0 (low a h.0) t k in
    let e = p.is in
    let f : length (pair_bytes ws out to a) ≤ far = rw (p.out, length-sets) k in
    rw (concat_append (pair_at ws a) (pairs_in ws l)) (then p (pairs_wrote ws low l h.1 (pair_place ws to a) (pair_bytes ws out to a) (omega arith) f))
