-- A file's head is refused as `read` refuses it; past it `read` looks at the body (`read_head`).
use Rattle.std.specs.Prelude
use Rattle.std.specs.Prelude.{ℕ, zero, suc, Ok, Err, ◌+◌, ◌-◌, ◌<◌, ◌≤◌, ◌≡◌, refl, Bool, true, false, ◌&&◌, ◌||◌, List, length, drop, ltb}
use Rattle.std.proofs.Common.{◌∙◌, arith}
use Rattle.std.proofs.Math.Path.{ap}
use Rattle.std.proofs.Math.Option.{some}
use Rattle.std.proofs.Math.Dec.{eqb, leb}
use borrow.Author.Tests.{le-leb, lt-leb, lt-ltb, le-ltb, eq-eqb, ne_eqb}
use Rattle.words.specs.Choose.{if_lt, lt_split, eq_split}
use Rattle.net_file.specs.Lists.{Result, refuse, need}
use Rattle.net_file.specs.Values.{File, max_steps, no_limit}
use Rattle.net_file.specs.Read.{number, read_body}
use Rattle.net_file.specs.Checks.{Version, field, limit_fits, checked, read}
use Rattle.fields.specs.Fields.{byte, be32}
use Rattle.stored.specs.Laws.{in_1, in_4}
use Rattle.refusals.specs.declared.Refusal.{Refusal}
use Rattle.refusals.specs.Numbers.{number as number_of}
use Rattle.head.specs.Head.{limit_head, head_of}

-- refused, or what comes after
unfoldable pub past : {A : Type 0} → Prelude.Result (Unit {0}) Refusal → Result A → Result A
past (Ok a) x = x
past (Err e) x = refuse (number_of e)

module _ (s : List ℕ) where
  field_in : (i k x : ℕ) (r : List ℕ) → number k (drop i s) ≡ some (x, r) → field i k s ≡ x
  unfolding field
  field_in i k x r e = rw (e, field)

  length_field : 4 ≤ length s → field 0 4 s ≡ be32 s 0
  length_field h = field_in 0 4 (be32 s 0) (drop 4 s) (in_4 s 0 h)

  version_field : 5 ≤ length s → field 4 1 s ≡ byte s 4
  version_field h = field_in 4 1 (byte s 4) (drop 5 s) (in_1 s 4 h)

  limit_field : 9 ≤ length s → field 5 4 s ≡ be32 s 5
  limit_field h = field_in 5 4 (be32 s 5) (drop 9 s) (in_4 s 5 h)

module _ {A : Type 0} where
  pub need_no : (t : Bool) (r : ℕ) (x : Result A) → t ≡ false → need t r x ≡ refuse r
  need_no t r x e = ap (λ u. need u r x) e

  pub need_yes : (t : Bool) (r : ℕ) (x : Result A) → t ≡ true → need t r x ≡ x
  need_yes t r x e = ap (λ u. need u r x) e

  limit_past : (l : ℕ) (x : Result A) → need (limit_fits l) 4 x ≡ past (limit_head l) x
  unfolding limit_fits limit_head past
  limit_past l x = eq_split l no_limit _ _ (λ n. need (eqb l no_limit || leb l max_steps) 4 x ≡ past n x)
      (λ e. ap (λ u. need (u || leb l max_steps) 4 x) (eq-eqb l no_limit e))
      (λ e. lt_split max_steps l _ _ (λ n. need (eqb l no_limit || leb l max_steps) 4 x ≡ past n x)
      (λ h. (λ i. need (ne_eqb l no_limit e i || lt-leb l max_steps h i) 4 x))
      (λ h. (λ i. need (ne_eqb l no_limit e i || le-leb l max_steps h i) 4 x)))

module _ {Net : Type 0} (v : Version Net) (s : List ℕ) where
  abbrev body : Result (File Net)
  body = checked v (read_body v.read_net v.nodes (drop 5 s))

  -- from the version on
  abbrev versioned : Result (File Net)
  versioned = need (eqb (field 4 1 s) v.version) 3 (need (ltb (length s) 9 || limit_fits (field 5 4 s)) 4 body)

  -- from the limit on
  limited : 5 ≤ length s → need (ltb (length s) 9 || limit_fits (field 5 4 s)) 4 body ≡ past (if_lt (length s) 9 (Ok tt) (limit_head (be32 s 5))) body
  unfolding past
  limited h = lt_split (length s) 9 _ _ (λ n. need (ltb (length s) 9 || limit_fits (field 5 4 s)) 4 body ≡ past n body)
      (λ l. ap (λ t. need (t || limit_fits (field 5 4 s)) 4 body) (lt-ltb (length s) 9 l))
      (λ l. (λ i. need (le-ltb (length s) 9 l i || limit_fits (limit_field s l i)) 4 body) ∙ limit_past (be32 s 5) body)

  pub read_head : read v s ≡ past (head_of v.version s) body
  unfolding read head_of past
  read_head = lt_split (length s) 5 _ _ (λ n. read v s ≡ past n body)
      (λ l. ap (λ t. need (t && eqb (field 0 4 s) (length s - 4)) 2 versioned) (lt-leb 5 (length s) l))
      (λ l. (λ i. need (le-leb 5 (length s) l i && eqb (length_field s (omega arith) i) (length s - 4)) 2 versioned)
      ∙ eq_split (be32 s 0) (length s - 4) _ _ (λ n. need (eqb (be32 s 0) (length s - 4)) 2 versioned ≡ past n body)
      (λ e. need_yes (eqb (be32 s 0) (length s - 4)) 2 versioned (eq-eqb _ _ e)
      ∙ ap (λ x. need (eqb x v.version) 3 (need (ltb (length s) 9 || limit_fits (field 5 4 s)) 4 body)) (version_field s l)
      ∙ eq_split (byte s 4) v.version _ _ (λ n. need (eqb (byte s 4) v.version) 3 (need (ltb (length s) 9 || limit_fits (field 5 4 s)) 4 body) ≡ past n body)
      (λ f. need_yes (eqb (byte s 4) v.version) 3 _ (eq-eqb _ _ f) ∙ limited l)
      (λ f. need_no (eqb (byte s 4) v.version) 3 _ (ne_eqb _ _ f)))
      (λ e. need_no (eqb (be32 s 0) (length s - 4)) 2 versioned (ne_eqb _ _ e)))
