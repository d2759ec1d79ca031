-- How a proof shows that bytes were written: there was no room, or they were stored, or one part was written right after another.
use Rattle.std.specs.Prelude.{ℕ, Option, Some, None, ◌+◌, ◌≤◌, ◌<◌, ◌⊎◌, ◌≡◌, refl, List, ◌++◌, take, drop}
use Rattle.std.proofs.Common.{inl, inr, sym, ap, ◌∙◌, append_assoc, arith, length-append, length-drop, length-take-le, take_at, take_all, drop_at, drop-drop, le-leb}
use Rattle.std.proofs.Math.ListN.{length}
use Rattle.std.proofs.lemmas.List.Edits.{sets, sets-eq}
use Rattle.std.proofs.lemmas.Bool.{lt-leb}
use Rattle.std.proofs.lemmas.Slice.{put_mid-paste}
use borrow.Rule.Slice.PartMut.{put_mid}
use Rattle.put.specs.Written.{pick, if_fits, put_at, put_in, Written, WrittenIf}

-- how many bytes there are: a record, so that a proof that has the size shows the bytes
pub record Size (bs : List ℕ) (n : ℕ) : Type 0 where
  pub is : length bs ≡ n

module _ {A : Type 0} (out : List ℕ) (at : ℕ) (bs : List ℕ) (a b : A) where
  pub if_fits_yes : at + length bs ≤ length out → if_fits out at bs a b ≡ a
  unfolding if_fits pick
  if_fits_yes h = rw (le-leb (at + length bs) (length out) h)

  pub if_fits_no : length out < at + length bs → if_fits out at bs a b ≡ b
  unfolding if_fits pick
  if_fits_no h = rw (lt-leb (at + length bs) (length out) h)

module _ (out : List ℕ) (at : ℕ) (bs : List ℕ) (h : at + length bs ≤ length out) where
  pub put_at_yes : put_at out at bs ≡ Some (at + length bs)
  unfolding put_at
  put_at_yes = if_fits_yes out at bs _ _ h

  pub put_in_yes : put_in out at bs ≡ take at out ++ bs ++ drop (at + length bs) out
  unfolding put_in
  put_in_yes = if_fits_yes out at bs _ _ h

  front_length : length (take at out ++ bs) ≡ at + length bs
  front_length = let t : length (take at out) ≡ at = length-take-le at out (omega arith) in simp (length-append) (omega arith)

  pub length_put_in : length (put_in out at bs) ≡ length out
  length_put_in = rw (put_in_yes, length-append, front_length, length-drop) (omega arith)

  pub take_put_in : take (at + length bs) (put_in out at bs) ≡ take at out ++ bs
  take_put_in = rw put_in_yes (take_at (take at out ++ bs) (drop (at + length bs) out) (at + length bs) front_length)

  pub drop_put_in : (k : ℕ) → drop (at + length bs + k) (put_in out at bs) ≡ drop (at + length bs + k) out
  drop_put_in k =
      let n = at + length bs in
      let e : drop n (put_in out at bs) ≡ drop n out = rw put_in_yes (drop_at (take at out ++ bs) (drop n out) n front_length) in
      sym (drop-drop k n (put_in out at bs)) ∙ ap (drop k) e ∙ drop-drop k n out

-- no room: the slice as it was
pub full : {bs : List ℕ} {at n : ℕ} {out : List ℕ} → Size bs n → length out < at + n → Written bs at out out None
unfolding put_at put_in
full {bs} {at} {n} {out} l h =
    let f : length out < at + length bs = omega arith in
    record { is = sym (if_fits_no out at bs _ _ f); out = sym (if_fits_no out at bs _ _ f) }

-- the bytes stored one after another
pub stored : {bs : List ℕ} {at : ℕ} {out w : List ℕ} → at + length bs ≤ length out → w ≡ sets out at bs → Written bs at out w (Some (at + length bs))
stored {bs} {at} {out} h e = record { is = sym (put_at_yes out at bs h); out = e ∙ sets-eq bs out at h ∙ sym (put_in_yes out at bs h) }

-- the bytes written over as many
pub pasted : {bs : List ℕ} {at k : ℕ} {out w m : List ℕ} → at + length bs ≤ length out → w ≡ put_mid at k out m → m ≡ bs → k ≡ length bs
    → Written bs at out w (Some (at + length bs))
pasted {bs} {at} {k} {out} {w} {m} h e b n =
    let j : length bs ≡ k = sym n in
    let all : take (length bs) bs ≡ bs = take_all (length bs) bs (omega arith) in
    let p = put_mid-paste at k out m bs (length bs) b j refl in
    record { is = sym (put_at_yes out at bs h); out = e ∙ p ∙ rw all (sym (put_in_yes out at bs h)) }

-- the bytes are in the slice, and their number is known
pub placed : {bs : List ℕ} {at n : ℕ} {out w : List ℕ} → Size bs n → at + n ≤ length out → w ≡ put_in out at bs → Written bs at out w (Some (at + n))
placed {bs} {at} {n} {out} l h e = record { is = ap Some (rw l.is) ∙ sym (put_at_yes out at bs (omega arith)); out = e }

pub both : {xs ys : List ℕ} {k j : ℕ} → Size xs k → Size ys j → Size (xs ++ ys) (k + j)
both {xs} {ys} l m = let e = length-append xs ys in record { is = omega arith }

-- what is written so far, and how much it is
pub record Begun (k : ℕ) (bs : List ℕ) (at : ℕ) (out w : List ℕ) (r : Option ℕ) : Type 0 where
  pub size : Size bs k
  pub written : Written bs at out w r

pub begin : {k : ℕ} {bs : List ℕ} {at : ℕ} {out w : List ℕ} {r : Option ℕ} → Size bs k → Written bs at out w r → Begun k bs at out w r
begin l p = record { size = l; written = p }

-- one part more, right after it, where there is room for all: both are written as one
pub then : {xs ys : List ℕ} {k j at a : ℕ} {out m w : List ℕ} {r s : Option ℕ} → Begun k xs at out m r → Size ys j → a ≡ at + k → at + (k + j) ≤ length out
    → Written ys a m w s → Begun (k + j) (xs ++ ys) at out w s
then {xs} {ys} {k} {j} {at} {a} {out} {m} {w} {r} {s} b ly e room q =
    let p = b.written in
    let lx = b.size in
    let l = length-append xs ys in
    let h : at + length (xs ++ ys) ≤ length out = omega arith in
    let hx : at + length xs ≤ length out = omega arith in
    let lm : length m ≡ length out = rw p.out (length_put_in out at xs hx) in
    let hy : a + length ys ≤ length m = omega arith in
    let n : a + length ys ≡ at + length (xs ++ ys) = omega arith in
    let n' : at + length xs + length ys ≡ at + length (xs ++ ys) = omega arith in
    let e' : a ≡ at + length xs = omega arith in
    let front : take a m ≡ take at out ++ xs = rw (e', p.out) (take_put_in out at xs hx) in
    let back : drop (a + length ys) m ≡ drop (at + length (xs ++ ys)) out = rw (n, ← n', p.out) (drop_put_in out at xs hx (length ys)) in
    let is : s ≡ put_at out at (xs ++ ys) = q.is ∙ put_at_yes m a ys hy ∙ ap Some n ∙ sym (put_at_yes out at (xs ++ ys) h) in
    let in' : w ≡ put_in out at (xs ++ ys) = q.out ∙ put_in_yes m a ys hy ∙ rw (front, back, append_assoc (take at out) xs ys) refl ∙ sym (put_in_yes out at (xs ++ ys) h) in
    record { size = both lx ly; written = record { is = is; out = in' } }

-- where the bytes may be written
module _ {may : Type 0} {bs : List ℕ} {at : ℕ} {out : List ℕ} where
  pub refused : (may → ⊥) → WrittenIf may bs at out out None
  refused n = record { yes = λ m. absurd (n m); no = λ _. (refl, refl) }

  pub full_if : {n : ℕ} → Size bs n → length out < at + n → WrittenIf may bs at out out None
  full_if l h = record { yes = λ _. full l h; no = λ _. (refl, refl) }

  pub written_if : {w : List ℕ} {r : Option ℕ} → may → Written bs at out w r → WrittenIf may bs at out w r
  written_if m p = record { yes = λ _. p; no = λ n. absurd (n m) }

-- a contract determines the answer and every byte
pub written_once : {bs : List ℕ} {at : ℕ} {out w w' : List ℕ} {r r' : Option ℕ} → Written bs at out w r → Written bs at out w' r' → (r ≡ r') × (w ≡ w')
written_once p q = (p.is ∙ sym q.is, p.out ∙ sym q.out)

pub written_if_once : {may : Type 0} {bs : List ℕ} {at : ℕ} {out w w' : List ℕ} {r r' : Option ℕ} → may ⊎ (may → ⊥) → WrittenIf may bs at out w r → WrittenIf may bs at out w' r'
    → (r ≡ r') × (w ≡ w')
written_if_once (inl m) p q = written_once (p.yes m) (q.yes m)
written_if_once (inr n) p q = ((p.no n).0 ∙ sym (q.no n).0, (p.no n).1 ∙ sym (q.no n).1)
