-- Slices one after another, and the one slice that they add up to.
use Rattle.std.specs.Prelude.{ℕ, zero, suc, ◌+◌, ◌≡◌, refl, true, false, List, [], ◌∷◌, eqb}
use Rattle.std.proofs.Common.{sym, ap, ◌∙◌, suc-add, zero-add, arith, true≢false}
use Rattle.std.proofs.lemmas.Bool.{false≢true}
use Rattle.std.proofs.Math.Option.{Option, none, some}
use Rattle.std.proofs.Math.Dec.{eqb-suc-zero}
use Rattle.net_file.specs.Lists.{Result, ok}
use Rattle.definitions.specs.Lists.{◌>>=◌}
use Rattle.definitions.specs.State.{Engine}
use Rattle.definitions.specs.Visit.{less_one}
use Rattle.definitions.specs.Run.{spent, run_slice}

-- two numbers of steps together; none is no bound
infixl 60 ◌⊕◌
abbrev pub ◌⊕◌ : Option ℕ → Option ℕ → Option ℕ
none ⊕ b = none
some n ⊕ none = none
some n ⊕ some m = some (n + m)

-- the sum of a list of slices
abbrev pub total : List (Option ℕ) → Option ℕ
total [] = some 0
total (n ∷ ns) = n ⊕ total ns

-- the slices in order, up to the first that is refused: the engine after them, and the steps that they deducted together
unfoldable pub slices : List (Option ℕ) → Engine → Result (Engine × ℕ)
slices [] e = ok (e, 0)
slices (n ∷ ns) e = run_slice n e >>= λ r. slices ns r.0 >>= λ s. ok (s.0, r.1 + s.1)

pub less_plus : (a b : Option ℕ) → spent a ≡ false → less_one (a ⊕ b) ≡ less_one a ⊕ b
unfolding spent less_one
less_plus none b h = refl
less_plus (some zero) b h = absurd (true≢false h)
less_plus (some (suc n)) none h = refl
less_plus (some (suc n)) (some m) h = ap {B = Option ℕ} some (omega arith)

pub spent_plus : (a b : Option ℕ) → spent a ≡ false → spent (a ⊕ b) ≡ false
unfolding spent
spent_plus none b h = refl
spent_plus (some zero) b h = absurd (true≢false h)
spent_plus (some (suc n)) none h = refl
spent_plus (some (suc n)) (some m) h = ap (λ (k : ℕ). eqb k 0) (suc-add n m) ∙ eqb-suc-zero (n + m)

-- where the first is spent the sum is the second
pub plus_spent : (a b : Option ℕ) → spent a ≡ true → a ⊕ b ≡ b
unfolding spent
plus_spent none b h = absurd (false≢true h)
plus_spent (some zero) none h = refl
plus_spent (some zero) (some m) h = ap {B = Option ℕ} some (zero-add m)
plus_spent (some (suc n)) b h = absurd (false≢true (sym (eqb-suc-zero n) ∙ h))
