-- The answer of `pairs_run` on pairs whose wires all have their word: whether they are ordered.
use Rattle.std.specs.Prelude.{ℕ, ◌+◌, ◌<◌, ◌≡◌, Bool, ◌&&◌, ◌||◌, List, [], ◌∷◌, map, length, get_or, eqb, leb, ltb}
use Rattle.std.proofs.Math.Path.{refl, ap}
use Rattle.std.proofs.Common.{sym, ◌∙◌, arith, length-set, get_or-set_other}
use Rattle.std.proofs.Math.Bool.{true, false, not}
use Rattle.std.proofs.Math.Decide.{ℕ_discrete, dec_lt}
use Rattle.std.proofs.Math.Seq.{get_or-set_same, set_out}
use borrow.Author.Tests.{eq-eqb, ne_eqb, lt-ltb, le-ltb, ltb-true}
use Rattle.words.specs.Choose.{pick, if_lt}
use Rattle.net_file.specs.Lists.{all}
use Rattle.net_file.specs.Checks.{occurs, pair_wires, pairs_ordered}
use Rattle.tally.specs.Tally.{Low, Inside}
use Rattle.repeats_laws.specs.Fresh.{fresh, fresh_distinct}
use Rattle.orders.specs.Orders.{marked, mark, pair_fits, pair_step, pairs_from}
use Rattle.orders_laws.specs.Ascend.{ascend_from, ascends, not_below}

-- ---- one wire more

module _ (counts : List ℕ) (base w : ℕ) where
  pub mark_length : length (mark counts base w) ≡ length counts
  mark_length = rw length-set

  pub mark_low : Low counts (base + 1) → Low (mark counts base w) (base + 1)
  mark_low l v = elim (ℕ_discrete v w) [
    | yes e ↦ elim (dec_lt w (length counts)) [
      | yes h ↦ rw (e, get_or-set_same counts w (base + 1) 0 h) (omega arith)
      | no h ↦ rw (set_out counts w (base + 1) (omega arith)) (l v)
    ]
    | no n ↦ rw (get_or-set_other counts w v (base + 1) 0 n) (l v)
  ]

  mark_marked : w < length counts → (v : ℕ) → marked (mark counts base w) base v ≡ (eqb w v || marked counts base v)
  unfolding marked
  mark_marked h v = elim (ℕ_discrete v w) [
    | yes e ↦ rw (e, get_or-set_same counts w (base + 1) 0 h, eq-eqb w w refl) (lt-ltb base (base + 1) (omega arith))
    | no n ↦ rw (get_or-set_other counts w v (base + 1) 0 n, ne_eqb w v (λ e. n (sym e)))
  ]

-- ---- one pair

module _ (counts : List ℕ) (base last a b : ℕ) where
  fits_is : pair_fits counts base last a b ≡ (leb last a && (ltb a b && (not (marked counts base a) && not (marked counts base b))))
  unfolding pair_fits if_lt pick
  fits_is = go (ltb a last) (ltb a b) (marked counts base a) (marked counts base b) ∙ ap (λ t. t && (ltb a b && (not (marked counts base a) && not (marked counts base b)))) (not_below a last)
    where
      go : (l m s t : Bool) → pick l false (pick m (pick s false (pick t false true)) false) ≡ (not l && (m && (not s && not t)))
      go true m s t = refl
      go false false s t = refl
      go false true true t = refl
      go false true false true = refl
      go false true false false = refl

  -- whatever the answer, the rest may be looked at as if the pair fitted
  from_is : (ps : List (ℕ × ℕ)) → (pairs_from counts base last ((a, b) ∷ ps)).is ≡ pick (pair_fits counts base last a b) (pairs_from (mark (mark counts base a) base b) base (a + 1) ps).is false
  unfolding pairs_from pair_step pick
  from_is ps = go (pair_fits counts base last a b) refl
    where
      go : (t : Bool) → pair_fits counts base last a b ≡ t
          → (pairs_from counts base last ((a, b) ∷ ps)).is ≡ pick (pair_fits counts base last a b) (pairs_from (mark (mark counts base a) base b) base (a + 1) ps).is false
      go true e = rw e
      go false e = rw e

  -- what holds of the counts at each mark holds at the end
  from_keeps : (P : List ℕ → Type 0) (ps : List (ℕ × ℕ)) → P counts → P (pairs_from (mark (mark counts base a) base b) base (a + 1) ps).ws → P (pairs_from counts base last ((a, b) ∷ ps)).ws
  unfolding pairs_from pair_step pick
  from_keeps P ps h k = go (pair_fits counts base last a b) refl
    where
      go : (t : Bool) → pair_fits counts base last a b ≡ t → P (pairs_from counts base last ((a, b) ∷ ps)).ws
      go true e = rw e k
      go false e = rw e h

pub pairs_keep : (base : ℕ) (P : List ℕ → Type 0) → ((c : List ℕ) (w : ℕ) → P c → P (mark c base w)) → (ps : List (ℕ × ℕ)) (counts : List ℕ) (last : ℕ)
    → P counts → P (pairs_from counts base last ps).ws
unfolding pairs_from
pairs_keep base P f [] counts last h = h
pairs_keep base P f (p ∷ ps) counts last h =
    from_keeps counts base last p.0 p.1 P ps h
    (pairs_keep base P f ps (mark (mark counts base p.0) base p.1) (p.0 + 1) (f (mark counts base p.0) p.1 (f counts p.0 h)))

-- ---- pairs

shuffle : (l m s t e x y z : Bool) → (m ≡ true → e ≡ false)
    → pick (l && (m && (not s && not t))) (x && y && z) false ≡ (m && x && (l && y) && pick s false (pick (e || t) false z))
unfolding pick
shuffle false false s t e x y z h = refl
shuffle true false s t e x y z h = refl
shuffle false true s t e false y z h = refl
shuffle false true s t e true y z h = refl
shuffle true true true t e false y z h = refl
shuffle true true true t e true false z h = refl
shuffle true true true t e true true z h = refl
shuffle true true false true e false y z h = refl
shuffle true true false true e true false z h = refl
shuffle true true false true true true true z h = refl
shuffle true true false true false true true z h = refl
shuffle true true false false e false y z h = refl
shuffle true true false false e true false z h = refl
shuffle true true false false true true true z h = let q = h refl in let c : ◌≡◌ {A = ℕ} 0 1 = cc in absurd (omega arith)
shuffle true true false false false true true z h = refl

-- the wires that were met are those that are marked
abbrev Marks : List ℕ → ℕ → (ℕ → Bool) → Type 0
Marks counts base met = (w : ℕ) → marked counts base w ≡ met w

pairs_fit : (base : ℕ) (ps : List (ℕ × ℕ)) (counts : List ℕ) (last : ℕ) (met : ℕ → Bool) → Marks counts base met → Inside (length counts) (pair_wires ps)
    → (pairs_from counts base last ps).is ≡ (all (λ p. ltb p.0 p.1) ps && ascend_from last (map (λ p. p.0) ps) && fresh eqb met (pair_wires ps))
unfolding pairs_from pair_wires ascend_from fresh
pairs_fit base [] counts last met h i = refl
pairs_fit base (p ∷ ps) counts last met h i =
    let a = p.0 in
    let b = p.1 in
    let c = mark counts base a in
    let d = mark c base b in
    let ma : Marks c base (λ v. eqb a v || met v) = λ v. mark_marked counts base a i.0 v ∙ ap (λ t. eqb a v || t) (h v) in
    let mb : Marks d base (λ v. eqb b v || (eqb a v || met v)) = λ v. mark_marked c base b (rw (mark_length counts base a) i.1.0) v ∙ ap (λ t. eqb b v || t) (ma v) in
    let id : Inside (length d) (pair_wires ps) = rw (mark_length c base b, mark_length counts base a) i.1.1 in
    from_is counts base last a b ps
    ∙ ap (λ t. pick (pair_fits counts base last a b) t false) (pairs_fit base ps d (a + 1) (λ v. eqb b v || (eqb a v || met v)) mb id)
    ∙ rw (fits_is counts base last a b, h a, h b)
    (shuffle (leb last a) (ltb a b) (met a) (met b) (eqb a b) _ _ _ (λ y. ne_eqb a b (λ e. let g = ltb-true a b y in absurd (omega arith))))

pub pairs_ordered_lem : (counts : List ℕ) (base : ℕ) (ps : List (ℕ × ℕ)) → Low counts base → Inside (length counts) (pair_wires ps) → (pairs_from counts base 0 ps).is ≡ pairs_ordered ps
unfolding pairs_ordered marked
pairs_ordered_lem counts base ps l i =
    pairs_fit base ps counts 0 (λ v. false) (λ v. le-ltb base (get_or counts v 0) (l v)) i
    ∙ rw (ascends (map (λ p. p.0) ps), fresh_distinct eqb (pair_wires ps))
