-- Lists and rules at a place past the end are those at the end; a rule whose tag is not 0 is the one that is stored there.
use Rattle.std.specs.Prelude.{◌≡◌, ℕ, zero, suc, ◌+◌, ◌≤◌, List, [], ◌∷◌, length, replicate, ◌==◌, ◌≢◌}
use Rattle.std.proofs.Math.Path.{refl}
use Rattle.std.proofs.Common.{sym, ap, ◌∙◌, arith}
use Rattle.std.proofs.Math.Decide.{dec_lt}
use Rattle.net_file.specs.Values.{Rule, graft, annihilate, erase, commute, eta}
use Rattle.fields.specs.Fields.{byte, byte_past, be16_past}
use Rattle.stored.specs.Stored.{table_at, numbers_at, list_at, list_end, rule_of, rule_at}
use Rattle.ends.specs.Ends.{within, list_up}
use Rattle.readers.specs.Places.{end_within}
use Rattle.rule_sets.specs.Sets.{tagged, rule_here}

module _ {A : Type 0} (f : ℕ → A) (s : List ℕ) (past : (x : ℕ) → length s ≤ x → f x ≡ f (length s)) where
  -- what is the same at all places past the end
  clamped : (x : ℕ) → f (within s x) ≡ f x
  clamped x = elim (dec_lt (length s) x) [
    | yes l ↦ let e : within s x ≡ length s = omega arith in rw e (sym (past x (omega arith)))
    | no l ↦ let e : within s x ≡ x = omega arith in rw e
  ]

module _ (s : List ℕ) where
  numbers_past : (x k : ℕ) → length s ≤ x → numbers_at s x k ≡ replicate k 0
  unfolding numbers_at table_at
  numbers_past x zero h = refl
  numbers_past x (suc k) h = rw (be16_past s x h) (ap (λ l. 0 ∷ l) (numbers_past (x + 2) k (omega arith)))

  pub numbers_within : (x k : ℕ) → numbers_at s (within s x) k ≡ numbers_at s x k
  numbers_within x k = clamped (λ a. numbers_at s a k) s (λ a h. numbers_past a k h ∙ sym (numbers_past (length s) k (omega arith))) x

  list_past : (x : ℕ) → length s ≤ x → list_at s x ≡ []
  unfolding list_at numbers_at table_at
  list_past x h = rw (byte_past s x h)

  pub list_within : (x : ℕ) → list_at s (within s x) ≡ list_at s x
  list_within x = clamped (list_at s) s (λ a h. list_past a h ∙ sym (list_past (length s) (omega arith))) x

  -- where the place of a list is the end of another that may be past the end
  pub list_at_lem : (x a : ℕ) → a ≡ within s x → list_at s a ≡ list_at s x
  list_at_lem x a e = rw e (list_within x)

  pub list_next : (x a b : ℕ) → a ≡ within s (list_end s x) → b ≡ within s (list_end s a) → list_at s b ≡ list_at s (list_end s (list_end s x))
  list_next x a b e f = list_at_lem (list_end s (list_end s x)) b (f ∙ rw e (end_within (list_end s) (list_up s) s (list_end s x)))

  three_past : (x : ℕ) → length s ≤ x
      → ◌≡◌ {A = Rule} (eta (list_at s x) (list_at s (list_end s x)) (list_at s (list_end s (list_end s x)))) (eta [] [] [])
  three_past x h =
      let u = list_up s x in
      let v = list_up s (list_end s x) in
      rw (list_past x h, list_past (list_end s x) (omega arith), list_past (list_end s (list_end s x)) (omega arith))

  two_past : (x : ℕ) → length s ≤ x → list_at s (list_end s x) ≡ []
  two_past x h = let u = list_up s x in list_past (list_end s x) (omega arith)

  -- a rule whose tag is the last byte of the file
  nothing : ℕ → Rule
  nothing zero = eta [] [] []
  nothing (suc zero) = graft 0 (0 == 1)
  nothing (suc (suc zero)) = annihilate []
  nothing (suc (suc (suc zero))) = erase [] []
  nothing (suc (suc (suc (suc zero)))) = commute [] []
  nothing (suc (suc (suc (suc (suc n))))) = eta [] [] []

  tagged_past : (tag x : ℕ) → length s ≤ x → tagged s tag x ≡ nothing tag
  unfolding tagged rule_of nothing
  tagged_past zero x h = three_past x h
  tagged_past (suc zero) x h = rw (be16_past s x h, byte_past s (x + 2) (omega arith))
  tagged_past (suc (suc zero)) x h = rw (list_past x h)
  tagged_past (suc (suc (suc zero))) x h = rw (list_past x h, two_past x h)
  tagged_past (suc (suc (suc (suc zero)))) x h = rw (list_past x h, two_past x h)
  tagged_past (suc (suc (suc (suc (suc n))))) x h = three_past x h

  pub tagged_within : (tag x : ℕ) → tagged s tag (within s x) ≡ tagged s tag x
  tagged_within tag x = clamped (tagged s tag) s (λ a h. tagged_past tag a h ∙ sym (tagged_past tag (length s) (omega arith))) x

  tagged_is : (tag at : ℕ) → (tag ≢ 0) → tagged s tag at ≡ rule_of s tag at
  unfolding tagged
  tagged_is zero at n = absurd (n refl)
  tagged_is (suc tag) at n = refl

  pub rule_here_is : (at : ℕ) → (byte s at ≢ 0) → rule_here s at ≡ rule_at s at
  unfolding rule_here rule_at
  rule_here_is at n = tagged_is (byte s at) (at + 1) n
