-- What a call that writes leaves: its answer, the words, the bytes as they then are.
use Rattle.std.specs.Prelude.{◌≡◌, List, ℕ, Option}
use Rattle.std.proofs.Common.{ap}
use Rattle.resolve_walk.specs.declared.Pen.{Pen}

-- where to go on from and write at next, or None where a tree was too deep
abbrev pub Stepped : Type 0
Stepped = Option Pen

pub record Penned (A : Type 0) : Type 0 where
  pub is : A
  pub ws : List ℕ
  pub out : List ℕ

-- a contract's three equations from one
pub penned : {A : Type 0} {x : Penned A} {a : A} {w o : List ℕ} → record { is = a; ws = w; out = o } ≡ x → (a ≡ x.is) × (w ≡ x.ws) × (o ≡ x.out)
penned e = (ap (λ t. t.is) e, ap (λ t. t.ws) e, ap (λ t. t.out) e)

-- one equation from a contract's three
pub whole : {A : Type 0} (x : Penned A) {a : A} {w o : List ℕ} → a ≡ x.is → w ≡ x.ws → o ≡ x.out → record { is = a; ws = w; out = o } ≡ x
whole x e f g = λ i. record { is = e i; ws = f i; out = g i }

-- where no word is written: the answer and the bytes
pub record Inked (A : Type 0) : Type 0 where
  pub is : A
  pub out : List ℕ
