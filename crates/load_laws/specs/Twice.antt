-- In a well wired net each wire, of a pair the smaller, stands at two places or at none.
use Rattle.std.specs.Prelude.{◌≡◌, ◌≢◌, ◌⊎◌, Bool, true, false, not, ◌&&◌, ◌||◌}
use Rattle.std.proofs.Math.Path.{refl, sym, ap}
use Rattle.std.proofs.Common.{◌∙◌, subst, inl, inr, arith, true≢false, eqb-true, eq-eqb}
use Prim.Native.Nat.{ℕ, zero, suc, ◌+◌, ◌≤◌}
use Rattle.std.proofs.Math.Decide.{ℕ_discrete}
use Rattle.std.proofs.lemmas.Bool.{false≢true}
use Rattle.std.proofs.Math.Option.{Option, none, some}
use mathlib.Core.List.Memᴰ
use mathlib.Core.List.{List, [], ◌∷◌, ◌++◌, map, Memᴰ}
use Rattle.std.proofs.Math.Dec.{eqb, ltb}
use Rattle.list_laws.specs.Tests.{both, either}
use Rattle.net_file.specs.Lists.{bit, all, any, count, distinct, concat_map, ascend}
use Rattle.net_file.specs.Values.{FlatNode, FlatNet}
use Rattle.net_file.specs.Checks.{pair_wires, pairs_ordered, occurs, places, pair_wired, wire_wired, flat_wired}
use Rattle.definitions.specs.Lists.{find}
use Rattle.definitions.specs.Load.{canonical}
use Rattle.rule_laws.specs.Ids.{any_mem, distinct_head}
use Rattle.load_laws.specs.Finds.{eqb_no, all_mem, any_found, find_mem, find_none, find_all_none, count_same, count_none, count_two, count_map}

-- ---- pairs

pair_wires_lem : (ps : List (ℕ × ℕ)) (p : ℕ × ℕ) → Memᴰ p ps → Memᴰ p.0 (pair_wires ps) × Memᴰ p.1 (pair_wires ps)
unfolding pair_wires
pair_wires_lem [] p m = absurd (Memᴰ.not-nil m)
pair_wires_lem (q ∷ ps) p m = go (Memᴰ.cases_cons m) (pair_wires_lem ps p)
  where
    go : (p ≡ q) ⊎ Memᴰ p ps → (Memᴰ p ps → Memᴰ p.0 (pair_wires ps) × Memᴰ p.1 (pair_wires ps))
        → Memᴰ p.0 (q.0 ∷ q.1 ∷ pair_wires ps) × Memᴰ p.1 (q.0 ∷ q.1 ∷ pair_wires ps)
    go (inl s) r = (Memᴰ.head (ap (λ (t : ℕ × ℕ). t.0) s), Memᴰ.tail (Memᴰ.head (ap (λ (t : ℕ × ℕ). t.1) s)))
    go (inr k) r = let y = r k in (Memᴰ.tail (Memᴰ.tail y.0), Memᴰ.tail (Memᴰ.tail y.1))

-- no wire is in two pairs, nor twice in one
pub record PairsApart (ps : List (ℕ × ℕ)) : Type 0 where
  pub crossed : (p q : ℕ × ℕ) → Memᴰ p ps → Memᴰ q ps → p.0 ≢ q.1
  pub seconds : (p q : ℕ × ℕ) → Memᴰ p ps → Memᴰ q ps → p.1 ≡ q.1 → p.0 ≡ q.0
  pub firsts' : (p q : ℕ × ℕ) → Memᴰ p ps → Memᴰ q ps → p.0 ≡ q.0 → p.1 ≡ q.1

pairs_apart : (ps : List (ℕ × ℕ)) → distinct eqb (pair_wires ps) ≡ true → PairsApart ps
unfolding pair_wires
pairs_apart [] d = record {
  crossed = λ p q m. absurd (Memᴰ.not-nil m);
  seconds = λ p q m. absurd (Memᴰ.not-nil m);
  firsts' = λ p q m. absurd (Memᴰ.not-nil m);
}
pairs_apart (x ∷ ps) d =
    let d₁ = (both (not (any (eqb x.0) (x.1 ∷ pair_wires ps))) (distinct eqb (x.1 ∷ pair_wires ps)) d).1 in
    let d₂ = (both (not (any (eqb x.1) (pair_wires ps))) (distinct eqb (pair_wires ps)) d₁).1 in
    let r = pairs_apart ps d₂ in
    record {
      crossed = λ p q m n. crossed r p q (Memᴰ.cases_cons m) (Memᴰ.cases_cons n);
      seconds = λ p q m n. seconds r d₁ p q (Memᴰ.cases_cons m) (Memᴰ.cases_cons n);
      firsts' = λ p q m n. firsts'' r p q (Memᴰ.cases_cons m) (Memᴰ.cases_cons n);
    }
  where
    n₀ : ¬ Memᴰ x.0 (x.1 ∷ pair_wires ps)
    n₀ = distinct_head x.0 (x.1 ∷ pair_wires ps) d

    n₁ : distinct eqb (x.1 ∷ pair_wires ps) ≡ true → ¬ Memᴰ x.1 (pair_wires ps)
    n₁ e = distinct_head x.1 (pair_wires ps) e

    crossed : PairsApart ps → (p q : ℕ × ℕ) → (p ≡ x) ⊎ Memᴰ p ps → (q ≡ x) ⊎ Memᴰ q ps → p.0 ≢ q.1
    crossed r p q (inl s) (inl t) e = n₀ (Memᴰ.head (sym (ap (λ (u : ℕ × ℕ). u.0) s) ∙ e ∙ ap (λ (u : ℕ × ℕ). u.1) t))
    crossed r p q (inl s) (inr n) e =
        n₀ (Memᴰ.tail (subst (λ (u : ℕ). Memᴰ u (pair_wires ps)) (sym e ∙ ap (λ (u : ℕ × ℕ). u.0) s) (pair_wires_lem ps q n).1))
    crossed r p q (inr m) (inl t) e =
        n₁ (both (not (any (eqb x.0) (x.1 ∷ pair_wires ps))) (distinct eqb (x.1 ∷ pair_wires ps)) d).1
        (subst (λ (u : ℕ). Memᴰ u (pair_wires ps)) (e ∙ ap (λ (u : ℕ × ℕ). u.1) t) (pair_wires_lem ps p m).0)
    crossed r p q (inr m) (inr n) e = r.crossed p q m n e

    seconds : PairsApart ps → distinct eqb (x.1 ∷ pair_wires ps) ≡ true → (p q : ℕ × ℕ) → (p ≡ x) ⊎ Memᴰ p ps → (q ≡ x) ⊎ Memᴰ q ps → p.1 ≡ q.1 → p.0 ≡ q.0
    seconds r d₁ p q (inl s) (inl t) e = ap (λ (u : ℕ × ℕ). u.0) (s ∙ sym t)
    seconds r d₁ p q (inl s) (inr n) e =
        absurd (n₁ d₁ (subst (λ (u : ℕ). Memᴰ u (pair_wires ps)) (sym e ∙ ap (λ (u : ℕ × ℕ). u.1) s) (pair_wires_lem ps q n).1))
    seconds r d₁ p q (inr m) (inl t) e = absurd (n₁ d₁ (subst (λ (u : ℕ). Memᴰ u (pair_wires ps)) (e ∙ ap (λ (u : ℕ × ℕ). u.1) t) (pair_wires_lem ps p m).1))
    seconds r d₁ p q (inr m) (inr n) e = r.seconds p q m n e

    firsts'' : PairsApart ps → (p q : ℕ × ℕ) → (p ≡ x) ⊎ Memᴰ p ps → (q ≡ x) ⊎ Memᴰ q ps → p.0 ≡ q.0 → p.1 ≡ q.1
    firsts'' r p q (inl s) (inl t) e = ap (λ (u : ℕ × ℕ). u.1) (s ∙ sym t)
    firsts'' r p q (inl s) (inr n) e =
        absurd (n₀ (Memᴰ.tail (subst (λ (u : ℕ). Memᴰ u (pair_wires ps)) (sym e ∙ ap (λ (u : ℕ × ℕ). u.0) s) (pair_wires_lem ps q n).0)))
    firsts'' r p q (inr m) (inl t) e =
        absurd (n₀ (Memᴰ.tail (subst (λ (u : ℕ). Memᴰ u (pair_wires ps)) (e ∙ ap (λ (u : ℕ × ℕ). u.0) t) (pair_wires_lem ps p m).0)))
    firsts'' r p q (inr m) (inr n) e = r.firsts' p q m n e

-- ---- the wire that stands for another

module _ (ps : List (ℕ × ℕ)) (a : PairsApart ps) where
  canonical_second : (p : ℕ × ℕ) → Memᴰ p ps → canonical ps p.1 ≡ p.0
  unfolding canonical
  canonical_second p m = go (find (λ q. eqb p.1 q.1) ps) refl
    where
      go : (o : Option (ℕ × ℕ)) → find (λ q. eqb p.1 q.1) ps ≡ o → elim o as (λ _. ℕ) [ none ↦ p.1 | some q ↦ q.0 ] ≡ p.0
      go none e = absurd (true≢false (sym (eq-eqb p.1 p.1 refl) ∙ find_none (λ q. eqb p.1 q.1) ps e p m))
      go (some q) e = let y = find_mem (λ q. eqb p.1 q.1) ps q e in sym (a.seconds p q m y.0 (eqb-true p.1 q.1 y.1))

  canonical_other : (v : ℕ) → ((p : ℕ × ℕ) → Memᴰ p ps → v ≢ p.1) → canonical ps v ≡ v
  unfolding canonical
  canonical_other v h = ap (λ (o : Option (ℕ × ℕ)). elim o as (λ _. ℕ) [ none ↦ v | some q ↦ q.0 ]) (find_all_none (λ q. eqb v q.1) ps (λ q m. eqb_no v q.1 (h q m)))

  -- a wire is some pair's second, or none's
  second : (v : ℕ) → ((p : ℕ × ℕ) × Memᴰ p ps × (v ≡ p.1)) ⊎ ((p : ℕ × ℕ) → Memᴰ p ps → v ≢ p.1)
  second v = go (any_found (λ p. eqb v p.1) ps)
    where
      go : ((p : ℕ × ℕ) × Memᴰ p ps × (eqb v p.1 ≡ true)) ⊎ ((p : ℕ × ℕ) → Memᴰ p ps → eqb v p.1 ≡ false)
          → ((p : ℕ × ℕ) × Memᴰ p ps × (v ≡ p.1)) ⊎ ((p : ℕ × ℕ) → Memᴰ p ps → v ≢ p.1)
      go (inl x) = inl (x.0, x.1, eqb-true v x.0.1 x.2)
      go (inr x) = inr (λ p m e. true≢false (sym (eq-eqb v p.1 e) ∙ x p m))

  -- the first of a pair stands for the two
  stands_pair : (p : ℕ × ℕ) → Memᴰ p ps → (v : ℕ) → bit (eqb p.0 (canonical ps v)) ≡ bit (eqb p.0 v) + bit (eqb p.1 v)
  stands_pair p m v = go (second v)
    where
      go : ((q : ℕ × ℕ) × Memᴰ q ps × (v ≡ q.1)) ⊎ ((q : ℕ × ℕ) → Memᴰ q ps → v ≢ q.1) → bit (eqb p.0 (canonical ps v)) ≡ bit (eqb p.0 v) + bit (eqb p.1 v)
      go (inl x) = via (ℕ_discrete p.1 v)
        where
          q : ℕ × ℕ
          q = x.0

          here : canonical ps v ≡ q.0
          here = ap (canonical ps) x.2 ∙ canonical_second q x.1

          none₀ : eqb p.0 v ≡ false
          none₀ = eqb_no p.0 v (λ e. a.crossed p q m x.1 (e ∙ x.2))

          via : Dec (p.1 ≡ v) → bit (eqb p.0 (canonical ps v)) ≡ bit (eqb p.0 v) + bit (eqb p.1 v)
          via (yes e) =
              rw (none₀, eq-eqb p.1 v e, eq-eqb p.0 (canonical ps v) (a.seconds p q m x.1 (e ∙ x.2) ∙ sym here))
          via (no e) =
              rw (none₀, eqb_no p.1 v e, eqb_no p.0 (canonical ps v) (λ s. e (a.firsts' p q m x.1 (s ∙ here) ∙ sym x.2)))
      go (inr x) = rw (canonical_other v x, eqb_no p.1 v (λ e. x p m (sym e))) (let z : bit (eqb p.0 v) ≡ bit (eqb p.0 v) + 0 = omega arith in z)

  -- no wire is stood for by a pair's second
  stands_second : (p : ℕ × ℕ) → Memᴰ p ps → (v : ℕ) → p.1 ≢ canonical ps v
  stands_second p m v e = go (second v)
    where
      go : ((q : ℕ × ℕ) × Memᴰ q ps × (v ≡ q.1)) ⊎ ((q : ℕ × ℕ) → Memᴰ q ps → v ≢ q.1) → ⊥
      go (inl x) = a.crossed x.0 p x.1 m (sym (e ∙ ap (canonical ps) x.2 ∙ canonical_second x.0 x.1))
      go (inr x) = x p m (sym (e ∙ canonical_other v x))

  -- a wire in no pair stands for itself
  stands_alone : (w : ℕ) → ((p : ℕ × ℕ) → Memᴰ p ps → (w ≢ p.0) × (w ≢ p.1)) → (v : ℕ) → eqb w (canonical ps v) ≡ eqb w v
  stands_alone w h v = go (second v)
    where
      go : ((q : ℕ × ℕ) × Memᴰ q ps × (v ≡ q.1)) ⊎ ((q : ℕ × ℕ) → Memᴰ q ps → v ≢ q.1) → eqb w (canonical ps v) ≡ eqb w v
      go (inl x) =
          eqb_no w (canonical ps v) (λ e. (h x.0 x.1).0 (e ∙ ap (canonical ps) x.2 ∙ canonical_second x.0 x.1))
          ∙ sym (eqb_no w v (λ e. (h x.0 x.1).1 (e ∙ x.2)))
      go (inr x) = ap (eqb w) (canonical_other v x)

-- a wire in no pair is not among their wires
not_paired : (w : ℕ) (ps : List (ℕ × ℕ)) → ((p : ℕ × ℕ) → Memᴰ p ps → (w ≢ p.0) × (w ≢ p.1)) → ¬ (any (eqb w) (pair_wires ps) ≡ true)
unfolding pair_wires
not_paired w [] h e = true≢false (sym e)
not_paired w (p ∷ ps) h e = go (either (eqb w p.0) (eqb w p.1 || any (eqb w) (pair_wires ps)) e) (not_paired w ps (λ q m. h q (Memᴰ.tail m)))
  where
    go : (eqb w p.0 ≡ true) ⊎ ((eqb w p.1 || any (eqb w) (pair_wires ps)) ≡ true) → ¬ (any (eqb w) (pair_wires ps) ≡ true) → ⊥
    go (inl x) r = (h p (Memᴰ.head refl)).0 (eqb-true w p.0 x)
    go (inr x) r = via (either (eqb w p.1) (any (eqb w) (pair_wires ps)) x)
      where
        via : (eqb w p.1 ≡ true) ⊎ (any (eqb w) (pair_wires ps) ≡ true) → ⊥
        via (inl y) = (h p (Memᴰ.head refl)).1 (eqb-true w p.1 y)
        via (inr y) = r y

-- ---- counts

module _ (t : FlatNet) (ordered : pairs_ordered t.pairs ≡ true) (wired : flat_wired t ≡ true) where
  -- the wires as they stand at the places, of a pair the smaller
  abbrev pub wires : List ℕ
  wires = map (canonical t.pairs) (places t)

  pub apart : PairsApart t.pairs
  unfolding pairs_ordered
  apart = pairs_apart t.pairs (both (all (λ p. ltb p.0 p.1) t.pairs && ascend (map (λ p. p.0) t.pairs)) (distinct eqb (pair_wires t.pairs)) ordered).1

  pairs_wired : all (pair_wired (places t)) t.pairs ≡ true
  unfolding flat_wired
  pairs_wired = (both (all (pair_wired (places t)) t.pairs) (all (wire_wired (places t) t.pairs) (places t)) wired).0

  wires_wired : all (wire_wired (places t) t.pairs) (places t) ≡ true
  unfolding flat_wired
  wires_wired = (both (all (pair_wired (places t)) t.pairs) (all (wire_wired (places t) t.pairs) (places t)) wired).1

  at_pair : (p : ℕ × ℕ) → Memᴰ p t.pairs → (count (eqb p.0) wires ≡ 0) ⊎ (count (eqb p.0) wires ≡ 2)
  unfolding pair_wired occurs
  at_pair p m = go (either (eqb a 1 && eqb b 1) (eqb a 0 && eqb b 0) (all_mem (pair_wired (places t)) t.pairs p pairs_wired m))
    where
      a : ℕ
      a = count (eqb p.0) (places t)

      b : ℕ
      b = count (eqb p.1) (places t)

      sum : count (eqb p.0) wires ≡ a + b
      sum = count_map (eqb p.0) (canonical t.pairs) (places t)
          ∙ count_two (λ v. eqb p.0 (canonical t.pairs v)) (eqb p.0) (eqb p.1) (places t) (stands_pair t.pairs apart p m)

      go : ((eqb a 1 && eqb b 1) ≡ true) ⊎ ((eqb a 0 && eqb b 0) ≡ true) → (count (eqb p.0) wires ≡ 0) ⊎ (count (eqb p.0) wires ≡ 2)
      go (inl e) = let y = both (eqb a 1) (eqb b 1) e in let u = eqb-true a 1 y.0 in let v = eqb-true b 1 y.1 in inr (sum ∙ (let z : a + b ≡ 2 = omega arith in z))
      go (inr e) = let y = both (eqb a 0) (eqb b 0) e in let u = eqb-true a 0 y.0 in let v = eqb-true b 0 y.1 in inl (sum ∙ (let z : a + b ≡ 0 = omega arith in z))

  at_alone : (w : ℕ) → ((p : ℕ × ℕ) → Memᴰ p t.pairs → (w ≢ p.0) × (w ≢ p.1)) → (count (eqb w) wires ≡ 0) ⊎ (count (eqb w) wires ≡ 2)
  unfolding wire_wired occurs
  at_alone w h = go (any_found (eqb w) (places t))
    where
      same : count (eqb w) wires ≡ count (eqb w) (places t)
      same = count_map (eqb w) (canonical t.pairs) (places t) ∙ count_same (λ v. eqb w (canonical t.pairs v)) (eqb w) (places t) (stands_alone t.pairs apart w h)

      go : ((v : ℕ) × Memᴰ v (places t) × (eqb w v ≡ true)) ⊎ ((v : ℕ) → Memᴰ v (places t) → eqb w v ≡ false) → (count (eqb w) wires ≡ 0) ⊎ (count (eqb w) wires ≡ 2)
      go (inr x) = inl (same ∙ count_none (eqb w) (places t) x)
      go (inl x) = via (either (any (eqb w) (pair_wires t.pairs)) (eqb (count (eqb w) (places t)) 2)
          (all_mem (wire_wired (places t) t.pairs) (places t) w wires_wired (subst (λ (v : ℕ). Memᴰ v (places t)) (sym (eqb-true w x.0 x.2)) x.1)))
        where
          via : (any (eqb w) (pair_wires t.pairs) ≡ true) ⊎ (eqb (count (eqb w) (places t)) 2 ≡ true) → (count (eqb w) wires ≡ 0) ⊎ (count (eqb w) wires ≡ 2)
          via (inl e) = absurd (not_paired w t.pairs h e)
          via (inr e) = inr (same ∙ eqb-true (count (eqb w) (places t)) 2 e)

  -- each wire stands at two places or at none
  pub twice : (w : ℕ) → (count (eqb w) wires ≡ 0) ⊎ (count (eqb w) wires ≡ 2)
  twice w = go (any_found (λ p. eqb w p.0) t.pairs) (any_found (λ p. eqb w p.1) t.pairs)
    where
      go : ((p : ℕ × ℕ) × Memᴰ p t.pairs × (eqb w p.0 ≡ true)) ⊎ ((p : ℕ × ℕ) → Memᴰ p t.pairs → eqb w p.0 ≡ false)
          → ((p : ℕ × ℕ) × Memᴰ p t.pairs × (eqb w p.1 ≡ true)) ⊎ ((p : ℕ × ℕ) → Memᴰ p t.pairs → eqb w p.1 ≡ false)
          → (count (eqb w) wires ≡ 0) ⊎ (count (eqb w) wires ≡ 2)
      go (inl x) y = subst (λ (v : ℕ). (count (eqb v) wires ≡ 0) ⊎ (count (eqb v) wires ≡ 2)) (sym (eqb-true w x.0.0 x.2)) (at_pair x.0 x.1)
      go (inr x) (inl y) =
          inl (count_map (eqb w) (canonical t.pairs) (places t)
          ∙ count_none (λ v. eqb w (canonical t.pairs v)) (places t)
          (λ v _. eqb_no w (canonical t.pairs v) (λ e. stands_second t.pairs apart y.0 y.1 v (sym (eqb-true w y.0.1 y.2) ∙ e))))
      go (inr x) (inr y) =
          at_alone w (λ p m. (λ e. true≢false (sym (eq-eqb w p.0 e) ∙ x p m), λ e. true≢false (sym (eq-eqb w p.1 e) ∙ y p m)))
