-- The header: length, version, limit, as fields at their places; and what an answer of the checks tells.
-- Document 01, "The numbers it refuses by", 2 to 4 and 6 to 8.
use Rattle.std.specs.Prelude.{ℕ, zero, suc, ◌+◌, ◌*◌, ◌-◌, ◌^◌, ◌<◌, ◌≤◌, refl, Bool, true, false, not, ◌&&◌, ◌||◌, List, [], ◌∷◌, ◌++◌, length, drop, eqb, leb, ltb}
use Rattle.std.proofs.Common.{arith, sym, ap, ◌∙◌, le→leb, nltb→le}
use Rattle.std.proofs.Math.Path.{◌≡◌, subst}
use Rattle.std.proofs.Math.Option.{Option, none, some}
use Rattle.std.proofs.Math.Dec.{T, leb→le, ltb→lt, eqb→eq, eqb_refl}
use Rattle.net_file.specs.Lists.{Result, ok, need}
use Rattle.net_file.specs.Values.{File, max_steps, no_limit}
use Rattle.net_file.specs.Read.{byte, number_from, number, limit_of, read_body}
use Rattle.net_file.specs.Write.{be, limit_number}
use Rattle.net_file.specs.Checks.{Version, field, limit_fits, ordered, wired, free_named, checked, read}
use Rattle.net_file_laws.specs.Bytes.{Bytes, bytes_drop, Answer, number_written, number_read}
use Rattle.net_file_laws.specs.Parts.{both, each_of}
use Rattle.net_file_laws.specs.Body.{LimitFits, LimitWritten}

-- ---- fields

-- where k bytes are left a number is read of them
number_there : (k n : ℕ) (bs : List ℕ) → k ≤ length bs → (x : ℕ) × (number_from k n bs ≡ some (x, drop k bs))
unfolding number_from byte
number_there zero n bs h = (n, refl)
number_there (suc k) n [] h = absurd (omega arith)
number_there (suc k) n (b ∷ bs) h = number_there k (n * 256 + b) bs (omega arith)

field_is : (i k x : ℕ) (bs r : List ℕ) → number k (drop i bs) ≡ some (x, r) → field i k bs ≡ x
unfolding field
field_is i k x bs r e = ap (λ (o : Answer ℕ). elim o as (λ u. ℕ) [ none ↦ 0 | some y ↦ y.0 ]) e

-- a field that is written at its place
pub field_written : (i k x : ℕ) (bs r : List ℕ) → x < 256 ^ k → drop i bs ≡ be k x ++ r → field i k bs ≡ x
field_written i k x bs r h e = field_is i k x bs r (ap (number k) e ∙ number_written k x h r)

-- a field that is there is below 256 ^ k, and its bytes are those that are written of it
pub field_read : (i k : ℕ) (bs : List ℕ) → Bytes bs → k ≤ length (drop i bs) → (field i k bs < 256 ^ k) × (drop i bs ≡ be k (field i k bs) ++ drop k (drop i bs))
unfolding number
field_read i k bs h l =
    let n = number_there k 0 (drop i bs) l in
    rw (field_is i k n.0 bs (drop k (drop i bs)) n.1) (number_read k (drop i bs) (bytes_drop i bs h) n.0 (drop k (drop i bs)) n.1)

-- ---- the limit

or_else : (s t : Bool) → (T (not s) → T t) → T (s || t)
or_else true t f = tt
or_else false t f = f tt

or_rest : (s t : Bool) → T (s || t) → (T s → ⊥) → T t
or_rest true t h n = absurd (n tt)
or_rest false t h n = h

eq→eqb : (m n : ℕ) → m ≡ n → T (eqb m n)
eq→eqb m n e = rw e (eqb_refl n)

pub limit_passes : (l : Option ℕ) → LimitFits l → T (limit_fits (limit_number l))
unfolding limit_number limit_fits
limit_passes none h = tt
limit_passes (some n) h = or_else (eqb n no_limit) (leb n max_steps) (λ x. le→leb n max_steps h)

none_some : {A : Type 0} {a : A} → ◌≡◌ {A = Option A} none (some a) → ⊥
none_some e = let z : ◌≡◌ {A = ℕ} 0 1 = cc in omega arith

pub limit_passed : (l : Option ℕ) → LimitWritten l → T (limit_fits (limit_number l)) → LimitFits l
unfolding limit_number limit_fits limit_of
limit_passed none w t = tt
limit_passed (some n) w t = leb→le n max_steps (or_rest (eqb n no_limit) (leb n max_steps) t (λ x. none_some (ap limit_of (sym (eqb→eq n no_limit x)) ∙ w.same)))

-- ---- answers

pub need_true : {A : Type 0} (t : Bool) (r : ℕ) (x : Result A) → T t → need t r x ≡ x
need_true true r x h = refl
need_true {A = A} false r x h = elim h [ ]

pub need_ok : {A : Type 0} (t : Bool) (r : ℕ) (x : Result A) (a : A) → need t r x ≡ ok a → T t × (x ≡ ok a)
need_ok true r x a e = (tt, e)
need_ok false r x a e = let z : ◌≡◌ {A = ℕ} 0 1 = cc in absurd (omega arith)

ok_same : {A : Type 0} (a b : A) → ok a ≡ ok b → a ≡ b
ok_same a b e = cc

-- a file that is accepted was read, and has passed 6 to 8
pub record Accepted {Net : Type 0} (v : Version Net) (o : Answer (File Net)) (f : File Net) : Type 0 where
  pub rest : List ℕ
  pub answer : o ≡ some (f, rest)
  pub ordered : T (ordered v f)
  pub wired : T (wired v f)
  pub unnamed : T (not (free_named v f))

module _ {Net : Type 0} (v : Version Net) (f : File Net) where
  pub checked_passes : (r : List ℕ) → T (ordered v f) → T (wired v f) → T (not (free_named v f)) → checked v (some (f, r)) ≡ ok f
  unfolding checked
  checked_passes r o w n = need_true (ordered v f) 6 _ o ∙ need_true (wired v f) 7 _ w ∙ need_true (not (free_named v f)) 8 (ok f) n

  pub checked_passed : (o : Answer (File Net)) → checked v o ≡ ok f → Accepted v o f
  unfolding checked
  checked_passed none e = let z : ◌≡◌ {A = ℕ} 0 1 = cc in absurd (omega arith)
  checked_passed (some y) e =
      let g = y.0 in
      let six = need_ok (ordered v g) 6 _ f e in
      let seven = need_ok (wired v g) 7 _ f six.1 in
      let eight = need_ok (not (free_named v g)) 8 _ f seven.1 in
      let s : g ≡ f = ok_same g f eight.1 in
      subst (Accepted v (some y)) s (record { rest = y.1; answer = refl; ordered = six.0; wired = seven.0; unnamed = eight.0 })

-- ---- the checks 2 to 4

abbrev length_test : List ℕ → Bool
length_test bs = leb 5 (length bs) && eqb (field 0 4 bs) (length bs - 4)

abbrev limit_test : List ℕ → Bool
limit_test bs = ltb (length bs) 9 || limit_fits (field 5 4 bs)

-- the header is right: what 2 to 4 let pass
pub record Headed {Net : Type 0} (v : Version Net) (bs : List ℕ) : Type 0 where
  pub long : 5 ≤ length bs
  pub size : field 0 4 bs ≡ length bs - 4
  pub version : field 4 1 bs ≡ v.version
  pub limit : 9 ≤ length bs → T (limit_fits (field 5 4 bs))

module _ {Net : Type 0} (v : Version Net) (bs : List ℕ) where
  pub read_passes : Headed v bs → read v bs ≡ checked v (read_body v.read_net v.nodes (drop 5 bs))
  unfolding read
  read_passes h = need_true (length_test bs) 2 _ two ∙ (need_true (eqb (field 4 1 bs) v.version) 3 _ three ∙ need_true (limit_test bs) 4 _ four)
    where
      two : T (length_test bs)
      two = both (leb 5 (length bs)) (eqb (field 0 4 bs) (length bs - 4)) (le→leb 5 (length bs) h.long) (eq→eqb (field 0 4 bs) (length bs - 4) h.size)

      three : T (eqb (field 4 1 bs) v.version)
      three = eq→eqb (field 4 1 bs) v.version h.version

      four : T (limit_test bs)
      four = or_else (ltb (length bs) 9) (limit_fits (field 5 4 bs)) (λ x. h.limit (nltb→le (length bs) 9 x))

  pub read_passed : (f : File Net) → read v bs ≡ ok f → Headed v bs × Accepted v (read_body v.read_net v.nodes (drop 5 bs)) f
  unfolding read
  read_passed f e =
      let two = need_ok (length_test bs) 2 _ f e in
      let three = need_ok (eqb (field 4 1 bs) v.version) 3 _ f two.1 in
      let four = need_ok (limit_test bs) 4 _ f three.1 in
      let size = each_of (leb 5 (length bs)) (eqb (field 0 4 bs) (length bs - 4)) two.0 in (
        record {
          long = leb→le 5 (length bs) size.0;
          size = eqb→eq (field 0 4 bs) (length bs - 4) size.1;
          version = eqb→eq (field 4 1 bs) v.version three.0;
          limit = λ l. or_rest (ltb (length bs) 9) (limit_fits (field 5 4 bs)) four.0 (λ x. absurd (omega (arith, ltb→lt (length bs) 9 x)));
        },
        checked_passed v f _ four.1,
      )
