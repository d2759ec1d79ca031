-- How many bytes a parser needs at least: with fewer left there is nothing to read.
use Rattle.std.specs.Prelude.{ℕ, suc, ◌+◌, ◌<◌, ◌≤◌, ◌≡◌, refl, List, length, drop, None}
use Rattle.std.proofs.Common.{ap, arith}
use Rattle.std.proofs.Math.Option.{Option as Parsed, none, some}
use Rattle.std.proofs.Math.Decide.{dec_lt}
use Rattle.net_file.specs.Read.{Parser, then, ◌>>=◌, number, below, times, many}
use Rattle.net_file.specs.Read
use Rattle.stored.specs.Laws.{Stands, run_out, below_out, byte_out}
use Rattle.walk.specs.After.{after, after_past, after_none}

pub record Needs {A : Type 0} (s : List ℕ) (k : ℕ) (p : Parser A) : Type 0 where
  pub out : (at : ℕ) → at ≤ length s → length s < at + k → p (drop at s) ≡ none

module _ {s : List ℕ} where
  pub needs_number : (k : ℕ) → Needs s k (number k)
  needs_number k = record { out = λ at i h. run_out s k at i h }

  pub needs_below : (k n : ℕ) → Needs s k (below k n)
  needs_below k n = record { out = λ at i h. below_out k n (drop at s) (run_out s k at i h) }

  pub needs_byte : Needs s 1 Read.byte
  needs_byte = record { out = λ at i h. byte_out s at (omega arith) }

  -- the first part alone
  pub needs_first : {A B : Type 0} {k : ℕ} {p : Parser A} (f : A → Parser B) → Needs s k p → Needs s k (p >>= f)
  needs_first f h = record { out = λ at i l. ap (λ o. then o f) (h.out at i l) }

  pub needs_many : {A : Type 0} (k m : ℕ) (p : Parser A) → Needs s k (many k m p)
  unfolding many
  needs_many k m p = needs_first (λ n. times n p) (needs_below k (suc m))

  -- a part of j bytes, and what the next needs
  pub needs_next : {A B : Type 0} (j : ℕ) {k : ℕ} {p : Parser A} {v : ℕ → A} (f : A → Parser B)
      → ((at : ℕ) → Stands s p at (v at) (at + j)) → ((x : A) → Needs s k (f x)) → Needs s (j + k) (p >>= f)
  needs_next {A} {B} j {k} {p} {v} f h g = record { out = λ at i l. go at i l (p (drop at s)) refl }
    where
      go : (at : ℕ) → at ≤ length s → length s < at + (j + k) → (o : Parsed (A × List ℕ)) → p (drop at s) ≡ o → then (p (drop at s)) f ≡ none
      go at i l none e = rw e
      go at i l (some q) e =
          let y = (h at).by q.0 q.1 i e in
          let z : then (some q) f ≡ none = rw y.1 ((g q.0).out (at + j) y.3 (omega arith)) in
          rw e z

pub after_short : {A : Type 0} {k : ℕ} {p : Parser A} (s : List ℕ) (at : ℕ) → Needs s k p → length s < at + k → None ≡ after at p s
after_short {p = p} s at h l = elim (dec_lt (length s) at) [
  | yes o ↦ after_past p s at o
  | no o ↦ after_none p s at (omega arith) (h.out at (omega arith) l)
]
