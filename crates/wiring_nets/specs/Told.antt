-- Check 7 over n nets, one after another, flat or of trees.
use Prim.Native.Nat.{ℕ, zero, suc, ◌+◌, ◌-◌, ◌<◌, ◌≤◌}
use Rattle.std.specs.Prelude.{◌≡◌, Bool, true, false, List, replicate, Option, Some, None, MatchOption}
use Rattle.std.proofs.Math.Path.{refl}
use Rattle.std.proofs.Common.{sym, ◌∙◌, sub-one, not-suc-le-zero, arith}
use Rattle.words.specs.Choose.{if_lt, pick, lt_yes, lt_no, pick_true, pick_false}
use Rattle.words.specs.Left.{Left}
use Rattle.wiring.specs.Fits.{fits}
use Rattle.wiring.specs.Tells.{by_told, by_tests}
use Rattle.wiring.specs.declared.Told.{Told}
use Rattle.wiring.specs.declared.Told.TheVariants.{Well, Not, Wide}
use Rattle.wiring_nets.specs.declared.Rest.{Rest}

-- how a net is told by its wires: the counts with all of them tallied, whether those say that it is well wired, and the place behind it
pub record Net : Type 0 where
  pub tallied : List ℕ → ℕ → List ℕ → ℕ → List ℕ
  pub wired : List ℕ → ℕ → List ℕ → ℕ → Bool
  pub behind : List ℕ → ℕ → ℕ

module _ (w : Net) where
  -- the net at a place is tallied, and the place behind it is answered if it is well wired and others follow
  abbrev pub Next : List ℕ → ℕ → List ℕ → ℕ → ℕ → List ℕ → Option ℕ → Type 0
  Next counts base s at left c r = (c ≡ w.tallied counts base s at) × MatchOption r (w.wired c base s at ≡ false) (λ a. (w.wired c base s at ≡ true) × (1 < left → a ≡ w.behind s at))

  -- how far n nets are told by the counts, each above a base of its own: all are wired, one is not, or those from a place on do not fit
  unfoldable pub told : List ℕ → ℕ → List ℕ → ℕ → ℕ → Left (Told Rest)
  told counts base s at zero = record { is = Well; ws = counts }
  told counts base s at (suc n) =
      let c = w.tallied counts base s at in
      let r = told c (base + 4) s (w.behind s at) n in
      pick (fits counts s at) (pick (w.wired c base s at) r (record { is = Not; ws = c })) (record { is = Wide (record { at = at; left = suc n }); ws = counts })

  -- n nets, with these counts and then with `wide`
  unfoldable pub nets_from : (ℕ → ℕ → Bool) → List ℕ → ℕ → List ℕ → ℕ → ℕ → Bool
  nets_from wide counts base s at n = by_told (λ r. wide r.at r.left) (told counts base s at n).is

  -- at most 256 nets, 65,536 words: no net that is read has more wires
  unfoldable pub nets_wide : List ℕ → ℕ → ℕ → Bool
  nets_wide s at n = if_lt 256 n false (nets_from (λ a k. false) (replicate 65536 0) 0 s at n)

  -- at most 256 nets, 1,024 words
  unfoldable pub nets_well : List ℕ → ℕ → ℕ → Bool
  nets_well s at n = if_lt 256 n false (nets_from (nets_wide s) (replicate 1024 0) 0 s at n)

  -- ---- net by net

  pub nets_zero : (wide : ℕ → ℕ → Bool) (counts : List ℕ) (base : ℕ) (s : List ℕ) (at : ℕ) → nets_from wide counts base s at 0 ≡ true
  unfolding nets_from told by_told
  nets_zero wide counts base s at = refl

  pub nets_suc : (wide : ℕ → ℕ → Bool) (counts : List ℕ) (base : ℕ) (s : List ℕ) (at n : ℕ)
      → nets_from wide counts base s at (suc n)
      ≡ pick (fits counts s at) (pick (w.wired (w.tallied counts base s at) base s at) (nets_from wide (w.tallied counts base s at) (base + 4) s (w.behind s at) n) false) (wide at (suc n))
  unfolding nets_from told
  nets_suc wide counts base s at n = by_tests (λ r. wide r.at r.left) (fits counts s at) (w.wired (w.tallied counts base s at) base s at) _ (w.tallied counts base s at) counts (record { at = at; left = suc n })

  -- ---- one turn, and the end

  module _ (s counts : List ℕ) (base at : ℕ) (x : Left (Told Rest)) (f : Bool) (ef : f ≡ fits counts s at) where
    -- a net that does not fit
    pub told_unfit : (k : ℕ) → told counts base s at k ≡ x → 0 < k → f ≡ false → record { is = Wide (record { at = at; left = k }); ws = counts } ≡ x
    unfolding told
    told_unfit zero g h n = absurd (not-suc-le-zero h)
    told_unfit (suc k) g h n = pick_false _ _ _ (sym ef ∙ n) refl ∙ g

    module _ (c : List ℕ) (y : f ≡ true) (ec : c ≡ w.tallied counts base s at) where
      told_next : (a k : ℕ) → told counts base s at k ≡ x → 0 < k → w.wired c base s at ≡ true → (1 < k → a ≡ w.behind s at) → told c (base + 4) s a (k - 1) ≡ x
      unfolding told
      told_next a zero g h z ea = absurd (not-suc-le-zero h)
      told_next a (suc zero) g h z ea = rw ec (pick_true _ _ _ (sym ef ∙ y) (pick_true _ _ _ (rw ec at z) refl) ∙ g)
      told_next a (suc (suc k)) g h z ea = rw (sub-one, ea (omega arith), ec) (pick_true _ _ _ (sym ef ∙ y) (pick_true _ _ _ (rw ec at z) refl) ∙ g)

      told_none : (k : ℕ) → told counts base s at k ≡ x → 0 < k → w.wired c base s at ≡ false → record { is = Not; ws = c } ≡ x
      unfolding told
      told_none zero g h z = absurd (not-suc-le-zero h)
      told_none (suc k) g h z = rw ec (pick_true _ _ _ (sym ef ∙ y) (pick_false _ _ _ (rw ec at z) refl) ∙ g)

  pub told_more : (s counts : List ℕ) (base at : ℕ) (x : Left (Told Rest)) (f : Bool) (c : List ℕ) (a k : ℕ) → f ≡ fits counts s at → f ≡ true
      → Next counts base s at k c (Some a) → told counts base s at k ≡ x → 0 < k → told c (base + 4) s a (k - 1) ≡ x
  told_more s counts base at x f c a k ef y e g h = told_next s counts base at x f ef c y e.0 a k g h e.1.0 e.1.1

  pub told_not : (s counts : List ℕ) (base at : ℕ) (x : Left (Told Rest)) (f : Bool) (c : List ℕ) (k : ℕ) → f ≡ fits counts s at → f ≡ true
      → Next counts base s at k c None → told counts base s at k ≡ x → 0 < k → record { is = Not; ws = c } ≡ x
  told_not s counts base at x f c k ef y e g h = told_none s counts base at x f ef c y e.0 k g h e.1

  pub told_done : (s counts : List ℕ) (base at k : ℕ) (x : Left (Told Rest)) → told counts base s at k ≡ x → k ≤ 0 → record { is = Well; ws = counts } ≡ x
  unfolding told
  told_done s counts base at zero x g h = g
  told_done s counts base at (suc k) x g h = absurd (not-suc-le-zero h)

  module _ (s : List ℕ) (at n : ℕ) where
    pub wide_over : 256 < n → false ≡ nets_wide s at n
    unfolding nets_wide
    wide_over h = lt_yes _ _ _ _ h refl

    pub wide_start : n ≤ 256 → nets_from (λ a k. false) (replicate 65536 0) 0 s at n ≡ nets_wide s at n
    unfolding nets_wide
    wide_start h = lt_no _ _ _ _ h refl

    pub nets_over : 256 < n → false ≡ nets_well s at n
    unfolding nets_well
    nets_over h = lt_yes _ _ _ _ h refl

    pub nets_start : n ≤ 256 → nets_from (nets_wide s) (replicate 1024 0) 0 s at n ≡ nets_well s at n
    unfolding nets_well
    nets_start h = lt_no _ _ _ _ h refl

  -- ---- with 65,536 words, and with 1,024

  none_well : (r : Told Rest) → (r ≡ Well → ⊥) → by_told (λ r. false) r ≡ false
  unfolding by_told
  none_well Well e = absurd (e refl)
  none_well Not e = refl
  none_well (Wide q) e = refl

  module _ (s : List ℕ) (at n : ℕ) (r : Told Rest) (h : n ≤ 256) where
    pub wide_is : r ≡ (told (replicate 65536 0) 0 s at n).is → by_told (λ r. false) r ≡ nets_wide s at n
    unfolding nets_from
    wide_is er = rw (← er) at (wide_start s at n h)

    pub well_is : r ≡ (told (replicate 1024 0) 0 s at n).is → by_told (λ r. nets_wide s r.at r.left) r ≡ nets_well s at n
    unfolding nets_from
    well_is er = rw (← er) at (nets_start s at n h)

    module _ (er : r ≡ (told (replicate 65536 0) 0 s at n).is) where
      pub wide_well : r ≡ Well → true ≡ nets_wide s at n
      unfolding by_told
      wide_well e = rw e at (wide_is er)

      pub wide_rest : (r ≡ Well → ⊥) → false ≡ nets_wide s at n
      wide_rest e = sym (none_well r e) ∙ wide_is er

    module _ (er : r ≡ (told (replicate 1024 0) 0 s at n).is) where
      pub nets_all : r ≡ Well → true ≡ nets_well s at n
      unfolding by_told
      nets_all e = rw e at (well_is er)

      pub nets_not : r ≡ Not → false ≡ nets_well s at n
      unfolding by_told
      nets_not e = rw e at (well_is er)

      pub nets_left : (q : Rest) (b : Bool) → r ≡ Wide q → b ≡ nets_wide s q.at q.left → b ≡ nets_well s at n
      unfolding by_told
      nets_left q b e eb = eb ∙ rw e at (well_is er)
