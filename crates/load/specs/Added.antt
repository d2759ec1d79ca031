-- What a call leaves that puts nodes in: its answer, the words, and the table by wire.
use Rattle.std.specs.Prelude.{ℕ, ◌≡◌, List}
use Rattle.std.proofs.Common.{ap}
use Rattle.words.specs.Left.{Left}
use Rattle.wire_ends.specs.WireEnds.{Joined}

pub record Added : Type 0 where
  pub is : ℕ
  pub ws : List ℕ
  pub wires : List ℕ

-- a contract's three equations from one
pub added : {x : Added} {r : ℕ} {w t : List ℕ} → record { is = r; ws = w; wires = t } ≡ x → (r ≡ x.is) × (w ≡ x.ws) × (t ≡ x.wires)
added e = (ap (λ o. o.is) e, ap (λ o. o.ws) e, ap (λ o. o.wires) e)

-- one equation from a contract's three
pub all_added : (x : Added) {r : ℕ} {w t : List ℕ} → r ≡ x.is → w ≡ x.ws → t ≡ x.wires → record { is = r; ws = w; wires = t } ≡ x
all_added x e f g = λ i. record { is = e i; ws = f i; wires = g i }

-- nothing was refused
unfoldable pub unrefused : Joined → Added
unrefused j = record { is = 0; ws = j.ws; wires = j.wires }

-- the table is given up
unfoldable pub without : Added → Left ℕ
without a = record { is = a.is; ws = a.ws }
