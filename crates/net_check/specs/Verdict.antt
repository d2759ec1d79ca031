-- What a checker answers: this is `checked_exact`'s right side.
use Rattle.std.specs.Prelude
use Rattle.std.specs.Prelude.{ℕ, zero, ◌-◌, ◌≡◌, refl, Bool, true, false, not, ◌&&◌, ◌||◌, List, length, drop, Ok, Err, eqb, leb, ltb}
use Rattle.std.proofs.Common.{sym, ap, ◌∙◌, arith}
use Rattle.std.proofs.Math.Option.{Option, none, some}
use Rattle.net_file.specs.Lists.{Result, ok, refuse, need}
use Rattle.net_file.specs.Read.{read_body}
use Rattle.net_file.specs.Values.{File}
use Rattle.net_file.specs.Checks.{Version, field, limit_fits, checked, ordered, wired, free_named, read}
use Rattle.refusals.specs.declared.Refusal.{Refusal}
use Rattle.refusals.specs.Numbers.{number, by}
use Rattle.refusals.specs.Told.{Numbered}

abbrev pub Checked : Type 0
Checked = Prelude.Result (Unit {0}) Refusal

-- document 01's number for each answer; 0 is none
unfoldable pub number_of : Checked → ℕ
number_of (Ok a) = 0
number_of (Err e) = number e

-- accepted where a file was read, else refused by the number that reading gives
unfoldable pub verdict : {A : Type 0} → Result A → Checked
verdict (ok a) = Ok tt
verdict (refuse n) = Err (by n)

-- the number that reading gives; 0 is none
unfoldable pub refused_by : {A : Type 0} → Result A → ℕ
refused_by (ok a) = 0
refused_by (refuse n) = n

-- ---- reading gives the documents' numbers

need_numbered : {A : Type 0} (t : Bool) (n : ℕ) (x : Result A) → number (by n) ≡ n → Numbered x → Numbered (need t n x)
need_numbered true n x e h = h
need_numbered false n x e h = e

module _ {Net : Type 0} (v : Version Net) where
  checked_numbered : (o : Option (File Net × List ℕ)) → Numbered (checked v o)
  unfolding checked
  checked_numbered none = refl
  checked_numbered (some x) =
      let f = x.0 in
      need_numbered (ordered v f) 6 _ refl (need_numbered (wired v f) 7 _ refl (need_numbered (not (free_named v f)) 8 _ refl tt))

  pub read_numbered : (s : List ℕ) → Numbered (read v s)
  unfolding read
  read_numbered s =
      let body = read_body v.read_net v.nodes (drop 5 s) in
      need_numbered (leb 5 (length s) && eqb (field 0 4 s) (length s - 4)) 2 _ refl
      (need_numbered (eqb (field 4 1 s) v.version) 3 _ refl
      (need_numbered (ltb (length s) 9 || limit_fits (field 5 4 s)) 4 _ refl (checked_numbered body)))

pub verdict_number : {A : Type 0} (r : Result A) → Numbered r → number_of (verdict r) ≡ refused_by r
unfolding number_of verdict refused_by
verdict_number (ok a) h = refl
verdict_number (refuse n) h = h

pub number_is : {Net : Type 0} (v : Version Net) (s : List ℕ) (c : Checked) → c ≡ verdict (read v s) → number_of c ≡ refused_by (read v s)
number_is v s c e = ap number_of e ∙ verdict_number (read v s) (read_numbered v s)

-- ---- what a checker's answer says of the reading

module _ {A : Type 0} where
  pub was_read : (r : Result A) → Ok tt ≡ verdict r → (x : A) × (r ≡ ok x)
  unfolding verdict
  was_read (ok x) e = (x, refl)
  was_read (refuse n) e = let z : ◌≡◌ {A = ℕ} 0 1 = cc in absurd (omega arith)

  pub was_refused : (r : Result A) (e : Refusal) → Numbered r → Err e ≡ verdict r → r ≡ refuse (number e)
  unfolding verdict
  was_refused (ok x) e h q = let z : ◌≡◌ {A = ℕ} 0 1 = cc in absurd (omega arith)
  was_refused (refuse n) e h q = let z : e ≡ by n = cc in ap refuse (sym h ∙ ap number (sym z))
