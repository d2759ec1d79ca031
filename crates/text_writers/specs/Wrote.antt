-- What a writer of text does: bytes from a place on, as far as the slice goes, and the place after them.
use Rattle.std.specs.Prelude.{ℕ, zero, suc, ◌+◌, ◌-◌, ◌/◌, ◌%◌, ◌≤◌, ◌<◌, min, ◌≡◌, refl, Bool, true, false, List, [], ◌∷◌, ◌++◌, length, get_or, take, drop, set, ltb}
use Rattle.std.proofs.Common.{sym, ap, ◌∙◌, append_assoc, append-nil, arith, add-one, length-append, drop_of_length-le, drop-cons, length-take-le, take-append-drop, take_all, lt-ltb, le-ltb}
use Rattle.std.proofs.Math.Decide.{dec_lt}
use Rattle.std.proofs.lemmas.List.Edits.{sets, sets-eq}
use Rattle.std.proofs.lemmas.Slice.{put_mid-paste}
use borrow.Rule.Slice.PartMut.{put_mid}
use Rattle.std.proofs.Math.Seq.{length-sets, set_out}
use Rattle.definitions.specs.Text.{digits, decimal}

-- the last place that a number can say; every slice ends before it
abbrev pub far : ℕ
far = 18446744073709551615

-- each byte at its place, those past the end at none; and the place after them
pub record Wrote (bs : List ℕ) (at : ℕ) (before after : List ℕ) (r : ℕ) : Type 0 where
  pub is : r ≡ min far (at + length bs)
  pub out : after ≡ sets before at bs
  pub fits : length before ≤ far

-- ---- bytes stored one after another

pub sets_append : (l : List ℕ) (i : ℕ) (xs ys : List ℕ) → sets l i (xs ++ ys) ≡ sets (sets l i xs) (i + length xs) ys
sets_append l i [] ys = let e : i + 0 ≡ i = omega arith in rw e
sets_append l i (x ∷ xs) ys = let e : i + suc (length xs) ≡ suc i + length xs = omega arith in rw e (sets_append (set l i x) (suc i) xs ys)

sets_past : (l : List ℕ) (i : ℕ) (xs : List ℕ) → length l ≤ i → sets l i xs ≡ l
sets_past l i [] h = refl
sets_past l i (x ∷ xs) h = rw (set_out l i x h) (sets_past l (suc i) xs (omega arith))

sets_far : (l : List ℕ) (i : ℕ) (xs : List ℕ) → length l ≤ far → sets l (min far i) xs ≡ sets l i xs
sets_far l i xs h = elim (dec_lt i far) [
  | yes k ↦ let e : min far i ≡ i = omega arith in rw e
  | no k ↦ sets_past l (min far i) xs (omega arith) ∙ sym (sets_past l i xs (omega arith))
]

-- as many as there is room for
sets_front : (l : List ℕ) (i n : ℕ) (xs : List ℕ) → i ≤ length l → n ≡ min (length xs) (length l - i) → sets l i xs ≡ sets l i (take n xs)
sets_front l i n xs h e =
    let t : length (take n xs) ≡ n = length-take-le n xs (omega arith) in
    let m : length (sets l i (take n xs)) ≡ length l = length-sets l i (take n xs) in
    let j : sets l i xs ≡ sets (sets l i (take n xs)) (i + length (take n xs)) (drop n xs) = rw take-append-drop at (sets_append l i (take n xs) (drop n xs)) in
    elim (dec_lt n (length xs)) [
      | yes k ↦ j ∙ sets_past (sets l i (take n xs)) (i + length (take n xs)) (drop n xs) (omega arith)
      | no k ↦ let d : drop n xs ≡ [] = drop_of_length-le xs (omega arith) in j ∙ rw d
    ]

-- ---- one part after another

pub nothing : {at : ℕ} {out : List ℕ} → at ≤ far → length out ≤ far → Wrote [] at out out at
nothing h k = record { is = omega arith; out = refl; fits = k }

pub one : {b at : ℕ} {out : List ℕ} {r : ℕ} → length out ≤ far → r ≡ min far (at + 1) → Wrote (b ∷ []) at out (set out at b) r
one k e = record { is = e; out = refl; fits = k }

-- no room for it
pub one_past : {b at : ℕ} {out : List ℕ} {r : ℕ} → length out ≤ at → length out ≤ far → r ≡ min far (at + 1) → Wrote (b ∷ []) at out out r
one_past {b} {at} {out} h k e = record { is = e; out = sym (set_out out at b h); fits = k }

module _ {xs ys : List ℕ} {at r s : ℕ} {out m w : List ℕ} where
  pub then : Wrote xs at out m r → Wrote ys r m w s → Wrote (xs ++ ys) at out w s
  then p q =
      let l = length-append xs ys in
      let lm : length (sets out at xs) ≤ far = rw (length-sets out at xs) p.fits in
      let e : w ≡ sets (sets out at xs) (min far (at + length xs)) ys = rw (p.is, p.out) at q.out in
      let i = p.is in
      let j = q.is in
      record { is = omega arith; out = e ∙ sets_far (sets out at xs) (at + length xs) ys lm ∙ sym (sets_append out at xs ys); fits = p.fits }

-- the same text in other words
pub wrote_as : {xs ys : List ℕ} {at r : ℕ} {out w : List ℕ} → xs ≡ ys → Wrote xs at out w r → Wrote ys at out w r
wrote_as e p = rw e at p

-- ---- loops: what is still to be written of a whole

pub record Still (rest whole : List ℕ) (at : ℕ) (before after : List ℕ) (r : ℕ) : Type 0 where
  pub done : List ℕ
  pub wrote : Wrote done at before after r
  pub is : done ++ rest ≡ whole

pub still_all : {whole : List ℕ} {at : ℕ} {out : List ℕ} → at ≤ far → length out ≤ far → Still whole whole at out out at
still_all h k = record { done = []; wrote = nothing h k; is = refl }

module _ {rest whole : List ℕ} {at r : ℕ} {out w : List ℕ} where
  pub still_on : {xs y : List ℕ} {s : ℕ} {z : List ℕ} → Still y whole at out w r → y ≡ xs ++ rest → Wrote xs r w z s → Still rest whole at out z s
  still_on {xs} {y} s e p = record { done = s.done ++ xs; wrote = then s.wrote p; is = append_assoc s.done xs rest ∙ rw (← e) s.is }

  pub still_none : Still rest whole at out w r → rest ≡ [] → Wrote whole at out w r
  still_none s e = let f : s.done ≡ whole = sym (append-nil s.done) ∙ rw (← e) s.is in wrote_as f s.wrote

-- ---- the bytes of a slice

module _ {s : List ℕ} {at p i : ℕ} {out w : List ℕ} where
  pub word_more : {z : List ℕ} {q b : ℕ} → Still (drop i s) s at out w p → i < length s → b ≡ get_or s i 0 → Wrote (b ∷ []) p w z q → Still (drop (i + 1) s) s at out z q
  word_more st h e t = still_on st (drop-cons s i 0 h ∙ rw (e, add-one)) t

  pub word_done : Still (drop i s) s at out w p → length s ≤ i → Wrote s at out w p
  word_done st h = still_none st (drop_of_length-le s h)

-- as many of them copied as there is room for
module _ {s : List ℕ} {at start n k r : ℕ} {out w m : List ℕ} where
  pub word_copied : length out ≤ far → start ≡ min at (length out) → n ≡ min (length s) (length out - start) → w ≡ put_mid start k out m → m ≡ take n s → k ≡ n
      → r ≡ min (at + length s) far → Wrote s at out w r
  word_copied f es en ew em ek er =
      let t : length (take n s) ≡ n = length-take-le n s (omega arith) in
      let j : n ≡ k = omega arith in
      let l : n ≡ length (take n s) = omega arith in
      let all : take n (take n s) ≡ take n s = take_all n (take n s) (omega arith) in
      let there = rw t at (sets-eq (take n s) out start (omega arith)) in
      let put : w ≡ sets out start (take n s) = ew ∙ put_mid-paste start k out m (take n s) n em j l ∙ rw all (sym there) in
      let front : sets out start s ≡ sets out start (take n s) = sets_front out start n s (omega arith) en in
      let same : sets out start s ≡ sets out at s = elim (dec_lt at (length out)) [
        | yes h ↦ let i : start ≡ at = omega arith in rw i
        | no h ↦ sets_past out start s (omega arith) ∙ sym (sets_past out at s (omega arith))
      ] in
      record { is = omega arith; out = put ∙ sym front ∙ same; fits = f }

-- ---- digits

digits_by : (k n : ℕ) {t : Bool} → ltb n 10 ≡ t → digits (suc k) n ≡ elim t [ true ↦ (48 + n) ∷ [] | false ↦ digits k (n / 10) ++ (48 + n % 10) ∷ [] ]
unfolding digits
digits_by k n e = ap (λ (t : Bool). elim t [ true ↦ (48 + n) ∷ [] | false ↦ digits k (n / 10) ++ (48 + n % 10) ∷ [] ]) e

last_digit : (k n : ℕ) → (k ≡ 0 → ⊥) → n < 10 → (48 + n % 10) ∷ [] ≡ digits k n
last_digit zero n z h = absurd (z refl)
last_digit (suc k) n z h = let m : n % 10 ≡ n = omega arith in rw m (sym (digits_by k n (lt-ltb n 10 h)))

more_digits : (k n : ℕ) → (k ≡ 0 → ⊥) → 10 ≤ n → digits (k - 1) (n / 10) ++ (48 + n % 10) ∷ [] ≡ digits k n
more_digits zero n z h = absurd (z refl)
more_digits (suc k) n z h = let e : suc k - 1 ≡ k = omega arith in rw e (sym (digits_by k n (le-ltb n 10 h)))

module _ (at n k : ℕ) (out w : List ℕ) where
  pub digits_none : k ≡ 0 → at ≤ far → length out ≤ far → Wrote (digits k n) at out out at
  unfolding digits
  digits_none e h l = rw e (nothing h l)

  pub digits_last : (r : ℕ) → (k ≡ 0 → ⊥) → n < 10 → Wrote ((48 + n % 10) ∷ []) at out w r → Wrote (digits k n) at out w r
  digits_last r z h t = wrote_as (last_digit k n z h) t

  pub digits_more : (p r : ℕ) (m : List ℕ) → (k ≡ 0 → ⊥) → 10 ≤ n → Wrote (digits (k - 1) (n / 10)) at out m p → Wrote ((48 + n % 10) ∷ []) p m w r
      → Wrote (digits k n) at out w r
  digits_more p r m z h s t = wrote_as (more_digits k n z h) (then s t)

-- a space before it
pub number_is : (at n : ℕ) (out w : List ℕ) (p r : ℕ) (m : List ℕ) → Wrote (32 ∷ []) at out m p → Wrote (decimal n) p m w r → Wrote (32 ∷ decimal n) at out w r
number_is at n out w p r m s t = then s t
