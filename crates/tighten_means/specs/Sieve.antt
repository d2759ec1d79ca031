-- "Each live number at its first place only", by a test that a number fails once it was kept: the pass that the words do.
use Rattle.std.specs.Prelude.{ℕ, suc, ◌≤◌, ◌≡◌, refl, Bool, true, false, not, ◌&&◌, ◌||◌, List, [], ◌∷◌, length, eqb}
use Rattle.std.proofs.Common.{sym, ap, ◌∙◌, arith}
use Rattle.net_file.specs.Lists.{any}
use Rattle.definitions.specs.Lists.{keep, firsts}
use Rattle.dirty_laws.specs.Tally.{off}

-- those that pass, each once
abbrev pub sieve : (ℕ → Bool) → List ℕ → List ℕ
sieve b [] = []
sieve b (x ∷ l) = elim (b x) [ true ↦ x ∷ sieve (off b x) l | false ↦ sieve b l ]

-- a number passes while it is live and was not seen
abbrev pub Unseen : (ℕ → Bool) → List ℕ → (ℕ → Bool) → Type 0
Unseen live seen b = (n : ℕ) → b n ≡ (live n && not (any (eqb n) seen))

unseen_more : (live b : ℕ → Bool) (seen : List ℕ) (x : ℕ) → Unseen live seen b → Unseen live (x ∷ seen) (off b x)
unseen_more live b seen x u n = go (eqb n x) (live n) (any (eqb n) seen) (b n) (u n)
  where
    go : (e l a c : Bool) → c ≡ (l && not a) → elim e as (λ _. Bool) [ true ↦ false | false ↦ c ] ≡ (l && not (e || a))
    go true true a c h = refl
    go true false a c h = refl
    go false l a c h = h

pub sieve_is : (l : List ℕ) (live b : ℕ → Bool) (seen : List ℕ) → Unseen live seen b → sieve b l ≡ firsts eqb seen (keep live l)
sieve_is [] live b seen u = refl
sieve_is (x ∷ l) live b seen u =
    go (live x) (any (eqb x) seen) (b x) (u x) refl (sieve_is l live b seen u) (sieve_is l live (off b x) (x ∷ seen) (unseen_more live b seen x u))
  where
    go : (v a c : Bool) → c ≡ (v && not a) → any (eqb x) seen ≡ a → sieve b l ≡ firsts eqb seen (keep live l) → sieve (off b x) l ≡ firsts eqb (x ∷ seen) (keep live l)
        → elim c as (λ _. List ℕ) [ true ↦ x ∷ sieve (off b x) l | false ↦ sieve b l ]
        ≡ firsts eqb seen (elim v as (λ _. List ℕ) [ true ↦ x ∷ keep live l | false ↦ keep live l ])
    go false a c e s r0 r1 = rw e r0
    go true true c e s r0 r1 = rw (e, s, firsts) r0
    go true false c e s r0 r1 = rw (e, s, firsts) (ap {B = List ℕ} (λ r. x ∷ r) r1)

-- with nothing seen
pub sieve_firsts : (live : ℕ → Bool) (l : List ℕ) → sieve live l ≡ firsts eqb [] (keep live l)
sieve_firsts live l = sieve_is l live live [] (λ n. go (live n))
  where
    go : (t : Bool) → t ≡ (t && not false)
    go true = refl
    go false = refl
