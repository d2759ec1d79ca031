-- What `all` over a range of numbers says of a test that closes over it: what `each` says. Level Words.
use Prim.Native.Nat.{ℕ, zero, suc, ◌+◌, ◌%◌, ◌<◌, ◌≤◌}
use Rattle.std.specs.Prelude.{◌≡◌, Bool, true, false, length}
use Rattle.std.proofs.Math.Path.{refl, sym}
use Rattle.std.proofs.Common.{arith, ap, ◌∙◌, not-suc-le-zero, add-one, zero-add}
use Rattle.std.specs.Bool.{MatchBool}
use Rattle.std.specs.List.{range_with_len, AllWithin, HoldsAt}
use Rattle.std.specs.Fn.{Called}
use Rattle.std.specs.Iterator.{ChecksAll}
use Rattle.std.specs.declared.ops.Range.{Range}
use Rattle.std.proofs.iter.Yields.{nat_range_steps}
use Rattle.std.proofs.lemmas.Iterator.{cases_from_all, YieldsList-from_range}
use Rattle.std.proofs.lemmas.List.FromFn.{length-range_with_len, get_or-range_with_len}
use denote.Param.Members.{Mut}
use Rattle.layout.specs.Layout.{next}
use Rattle.words.specs.Choose.{pick, pick_true, pick_false}
use Rattle.marks.specs.Tests.{each}

-- the number that is j past i, as a word holds it
abbrev pub past : ℕ → ℕ → ℕ
past i j = (i + j) % 4294967296

past_none : (i : ℕ) → i < 4294967296 → past i 0 ≡ i
past_none i h = omega arith

past_more : (i j : ℕ) → past (next i) j ≡ past i (j + 1)
past_more i j = omega arith

no_more : (b x : Bool) → false ≡ x → false ≡ pick b x false
unfolding pick
no_more true x e = e
no_more false x e = refl

module _ (test : ℕ → Bool) where
  each_true : (k i : ℕ) → i < 4294967296 → ((j : ℕ) → j < k → test (past i j) ≡ true) → true ≡ each test i k
  unfolding each
  each_true zero i h t = refl
  each_true (suc k) i h t =
      let here = rw (past_none i h) at (t 0 (omega arith)) in
      pick_true _ _ _ here (each_true k (next i) (omega arith) (λ j l. rw (past_more i j) (t (j + 1) (omega arith))))

  each_false : (k i j : ℕ) → i < 4294967296 → j < k → test (past i j) ≡ false → false ≡ each test i k
  unfolding each
  each_false zero i j h l t = absurd (not-suc-le-zero l)
  each_false (suc k) i zero h l t = pick_false _ _ _ (rw (past_none i h) at t) refl
  each_false (suc k) i (suc j) h l t = no_more (test i) _ (each_false k (next i) j (omega arith) (omega arith) (rw (past_more i j, add-one) t))

  each_said : (t : ℕ → Bool) (i k : ℕ) (r : Bool) → i < 4294967296 → ((j : ℕ) → j < k → t j ≡ test (past i j))
      → MatchBool r (AllWithin (λ j. t j ≡ true) (range_with_len 0 k) 0 (length (range_with_len 0 k))) ((j : ℕ) × (j < length (range_with_len 0 k)) × HoldsAt (λ j. t j ≡ false) (range_with_len 0 k) j)
      → r ≡ each test i k
  each_said t i k true h e m =
      each_true k i h (λ j l. sym (e j l) ∙ (rw (get_or-range_with_len 0 k j 0 l, zero-add) at (m j 0 (omega arith) (rw length-range_with_len l))))
  each_said t i k false h e m =
      let l = rw length-range_with_len at m.1 in
      each_false k i m.0 h l (sym (e m.0 l) ∙ (rw (get_or-range_with_len 0 k m.0 0 l, zero-add) at (m.2 0)))

module _ {F : Type 0} {g : Mut F (ℕ × Unit {0}) Bool} {u : Range ℕ} {f : F} {r : Bool} where
  -- `(0..k).all(f)`, where f of j is a test of the number that is j past i
  pub each_from : (test : ℕ → Bool) (i k : ℕ) → ChecksAll nat_range_steps g (record { start = 0; end = k }) f r u → i < 4294967296
      → ((x : ℕ) (b : Bool) (q : F) → Called g f (x, tt) b q → (q ≡ f) × (b ≡ test (past i x))) → r ≡ each test i k
  each_from test i k d h e =
      each_said test (λ j. test (past i j)) i k r h (λ j l. refl)
      (cases_from_all _ _ _ _ _ d (YieldsList-from_range 0 k k refl (omega arith)) (λ x q c. ((e x true q c).0, sym (e x true q c).1)) (λ x q c. sym (e x false q c).1))

  -- the same, of j itself
  pub each_below : (test : ℕ → Bool) (k : ℕ) → ChecksAll nat_range_steps g (record { start = 0; end = k }) f r u → k ≤ 4294967296
      → ((x : ℕ) (b : Bool) (q : F) → Called g f (x, tt) b q → (q ≡ f) × (b ≡ test x)) → r ≡ each test 0 k
  each_below test k d h e =
      each_said test test 0 k r (omega arith) (λ j l. let same : j ≡ past 0 j = omega arith in ap test same)
      (cases_from_all _ _ _ _ _ d (YieldsList-from_range 0 k k refl (omega arith)) (λ x q c. ((e x true q c).0, sym (e x true q c).1)) (λ x q c. sym (e x false q c).1))

  -- the same, of the number after j
  pub each_after : (test : ℕ → Bool) (k : ℕ) → ChecksAll nat_range_steps g (record { start = 0; end = k }) f r u
      → ((x : ℕ) (b : Bool) (q : F) → Called g f (x, tt) b q → (q ≡ f) × (b ≡ test (next x))) → r ≡ each test 1 k
  each_after test k d e =
      each_said test (λ j. test (next j)) 1 k r (omega arith) (λ j l. let same : next j ≡ past 1 j = omega arith in ap test same)
      (cases_from_all _ _ _ _ _ d (YieldsList-from_range 0 k k refl (omega arith)) (λ x q c. ((e x true q c).0, sym (e x true q c).1)) (λ x q c. sym (e x false q c).1))
