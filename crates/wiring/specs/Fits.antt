-- Whether the counts have a word for each wire of a net.
use Rattle.std.specs.Prelude.{ℕ, ◌+◌, ◌<◌, ◌≤◌, ◌≡◌, Bool, true, false, ◌⊎◌, List}
use Rattle.std.proofs.Math.Path.{sym, ap}
use Rattle.std.proofs.Common.{◌∙◌, le-leb}
use Rattle.std.proofs.Math.Logic.{inl, inr}
use native.Mathlib.Omega.{arith}
use Rattle.std.proofs.Math.Decide.{dec_lt}
use Rattle.std.proofs.Math.ListN.{length}
use Rattle.std.proofs.Math.Dec.{leb}
use Rattle.std.proofs.lemmas.Bool.{lt-leb}
use Rattle.fields.specs.Fields.{be32, be32_past}
use Rattle.ends.specs.Ends.{on}

-- the counter in the head of the net at a place, flat or of trees, is at most the number of words
unfoldable pub fits : List ℕ → List ℕ → ℕ → Bool
fits counts s at = leb (be32 s (at + 3)) (length counts)

module _ (counts s : List ℕ) (at : ℕ) where
  pub fits_is : (p w : ℕ) → p ≡ on s at 3 → w ≡ be32 s p → leb w (length counts) ≡ fits counts s at
  unfolding fits
  fits_is p w ep ew = ap (λ x. leb x (length counts)) (elim (dec_lt (length s) (at + 3)) [
    | yes h ↦ ew ∙ be32_past s p (omega arith) ∙ sym (be32_past s (at + 3) (omega arith))
    | no h ↦ let q : p ≡ at + 3 = omega arith in rw q at ew
  ])

  pub fits_cases : ((fits counts s at ≡ true) × (be32 s (at + 3) ≤ length counts)) ⊎ ((fits counts s at ≡ false) × (length counts < be32 s (at + 3)))
  unfolding fits
  fits_cases = elim (dec_lt (length counts) (be32 s (at + 3))) [
    | yes h ↦ inr (lt-leb _ _ h, h)
    | no h ↦ let l : be32 s (at + 3) ≤ length counts = omega arith in inl (le-leb _ _ l, l)
  ]
