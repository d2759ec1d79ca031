-- Which wires are one wire: two places of a flat net are joined by one wire or by the wires of a pair; then they take one number.
use Rattle.std.specs.Prelude.{ℕ, zero, suc, min, ◌<◌, ◌≤◌, ◌≡◌, refl, Bool, true, false, not, ◌&&◌, ◌||◌, ◌⊎◌, List, [], ◌∷◌, ◌++◌, map, eqb, ltb}
use Rattle.std.proofs.Common.{arith, ap, ◌∙◌, subst, inl, inr, eqb-true, eq-eqb, ne_eqb, ltb-true}
use Rattle.std.proofs.Math.Nat.{min-eq_left, min-eq_right}
use Rattle.std.proofs.Math.Path.{sym}
use Rattle.std.proofs.Math.Option.{Option, none, some}
use Rattle.std.proofs.lemmas.Bool.{eqb-false, not-true}
use Rattle.net_file.specs.Lists.{all, any, distinct, concat_map}
use Rattle.net_file.specs.Checks.{pair_wires, pairs_ordered}
use Rattle.list_laws.specs.Tests.{both, both_are, either, same_test}
use Rattle.conversions.specs.Links.{get, canonical, links_of}

-- a pair is of these two wires
unfoldable pub joins : ℕ → ℕ → ℕ × ℕ → Bool
joins a b p = (eqb p.0 a && eqb p.1 b) || (eqb p.1 a && eqb p.0 b)

-- one wire, or the two of a pair
unfoldable pub same_wire : List (ℕ × ℕ) → ℕ → ℕ → Bool
same_wire ps a b = eqb a b || any (joins a b) ps

-- the smaller wire first, no wire in two pairs
pub record Apart (ps : List (ℕ × ℕ)) : Type 0 where
  pub smaller : all (λ p. ltb p.0 p.1) ps ≡ true
  pub once : distinct eqb (pair_wires ps) ≡ true

pub ordered_apart : (ps : List (ℕ × ℕ)) → pairs_ordered ps ≡ true → Apart ps
unfolding pairs_ordered
ordered_apart ps h =
    let s = both (all (λ p. ltb p.0 p.1) ps && _) (distinct eqb (pair_wires ps)) h in
    record { smaller = (both (all (λ p. ltb p.0 p.1) ps) _ s.0).0; once = s.1 }

pub clash : ◌≡◌ {A = Bool} false true → ⊥
clash e = let z : ◌≡◌ {A = ℕ} 0 1 = cc in absurd (omega arith)

pub or_right : (s : Bool) → (s || true) ≡ true
or_right true = refl
or_right false = refl

-- where a wire stands beside a pair
pub data Place (p : ℕ × ℕ) (w : ℕ) : Type 0 where
  first : p.0 ≡ w → Place p w
  second : p.1 ≡ w → Place p w
  other : eqb p.0 w ≡ false → eqb p.1 w ≡ false → Place p w

pub place : (p : ℕ × ℕ) (w : ℕ) → Place p w
place p w = go (eqb p.0 w) (eqb p.1 w) refl refl
  where
    go : (s t : Bool) → eqb p.0 w ≡ s → eqb p.1 w ≡ t → Place p w
    go true t e f = first (eqb-true p.0 w e)
    go false true e f = second (eqb-true p.1 w f)
    go false false e f = other e f

module _ (p : ℕ × ℕ) (ps : List (ℕ × ℕ)) where
  pub canonical_other : (w : ℕ) → eqb p.0 w ≡ false → eqb p.1 w ≡ false → canonical (links_of (p ∷ ps)) w ≡ canonical (links_of ps) w
  unfolding canonical links_of get
  canonical_other w e f = rw (e, canonical, get) (rw (f, canonical, get) refl)

  module _ (h : p.0 < p.1) where
    -- both wires of a pair take the smaller number
    pub canonical_first : (w : ℕ) → p.0 ≡ w → canonical (links_of (p ∷ ps)) w ≡ p.0
    unfolding canonical links_of get
    canonical_first w e = rw (eq-eqb p.0 w e, canonical, get) (min-eq_left (omega arith) ∙ sym e)

    pub canonical_second : (w : ℕ) → p.1 ≡ w → canonical (links_of (p ∷ ps)) w ≡ p.0
    unfolding canonical links_of get
    canonical_second w f =
        rw (ne_eqb p.0 w (λ e. absurd (omega arith)), canonical, get) (rw (eq-eqb p.1 w f, canonical, get) (min-eq_right (omega arith)))

-- what `Apart` says of the first pair
pub record First (p : ℕ × ℕ) (ps : List (ℕ × ℕ)) : Type 0 where
  pub less : p.0 < p.1
  pub first : any (eqb p.0) (pair_wires ps) ≡ false
  pub second : any (eqb p.1) (pair_wires ps) ≡ false
  pub rest : Apart ps

pub apart_first : (p : ℕ × ℕ) (ps : List (ℕ × ℕ)) → Apart (p ∷ ps) → First p ps
unfolding pair_wires
apart_first p ps h =
    let s = both (ltb p.0 p.1) (all (λ q. ltb q.0 q.1) ps) h.smaller in
    let f = both (not (eqb p.0 p.1 || any (eqb p.0) (pair_wires ps))) (not (any (eqb p.1) (pair_wires ps)) && distinct eqb (pair_wires ps)) h.once in
    let g = both (not (any (eqb p.1) (pair_wires ps))) (distinct eqb (pair_wires ps)) f.1 in
    record {
      less = ltb-true p.0 p.1 s.0;
      first = (neither (eqb p.0 p.1) (any (eqb p.0) (pair_wires ps)) (not-true _ f.0)).1;
      second = not-true _ g.0;
      rest = record { smaller = s.1; once = g.1 };
    }
  where
    neither : (s t : Bool) → (s || t) ≡ false → (s ≡ false) × (t ≡ false)
    neither true t e = let z : ◌≡◌ {A = ℕ} 0 1 = cc in absurd (omega arith)
    neither false t e = (refl, e)

-- without pairs each wire keeps its number
canonical_alone : (w : ℕ) → canonical (links_of []) w ≡ w
unfolding canonical links_of get
canonical_alone w = refl

pub wire_first : (p : ℕ × ℕ) (ps : List (ℕ × ℕ)) (w : ℕ) → p.0 ≡ w → any (eqb w) (pair_wires (p ∷ ps)) ≡ true
unfolding pair_wires
wire_first p ps w e = rw (eq-eqb w p.0 (sym e)) refl

pub wire_second : (p : ℕ × ℕ) (ps : List (ℕ × ℕ)) (w : ℕ) → p.1 ≡ w → any (eqb w) (pair_wires (p ∷ ps)) ≡ true
unfolding pair_wires
wire_second p ps w e = rw (eq-eqb w p.1 (sym e)) (middle (eqb w p.0) (any (eqb w) (pair_wires ps)))
  where
    middle : (s t : Bool) → (s || (true || t)) ≡ true
    middle true t = refl
    middle false t = refl

or_true : (s t : Bool) → (s || (t || true)) ≡ true
or_true true t = refl
or_true false true = refl
or_true false false = refl

pub later_wire : (p : ℕ × ℕ) (ps : List (ℕ × ℕ)) (x : ℕ) → any (eqb x) (pair_wires ps) ≡ true → any (eqb x) (pair_wires (p ∷ ps)) ≡ true
unfolding pair_wires
later_wire p ps x e = rw e (or_true (eqb x p.0) (eqb x p.1))

-- a wire's number is its own, or that of a wire of a pair
pub canonical_in : (ps : List (ℕ × ℕ)) → Apart ps → (w : ℕ) → (canonical (links_of ps) w ≡ w) ⊎ (any (eqb (canonical (links_of ps) w)) (pair_wires ps) ≡ true)
canonical_in [] h w = inl (canonical_alone w)
canonical_in (p ∷ ps) h w = at (canonical_in ps (apart_first p ps h).rest w) (place p w)
  where
    f : First p ps
    f = apart_first p ps h

    at : (canonical (links_of ps) w ≡ w) ⊎ (any (eqb (canonical (links_of ps) w)) (pair_wires ps) ≡ true) → Place p w → (canonical (links_of (p ∷ ps)) w ≡ w) ⊎ (any (eqb (canonical (links_of (p ∷ ps)) w)) (pair_wires (p ∷ ps)) ≡ true)
    at i (first e) = inr (rw (canonical_first p ps f.less w e) (wire_first p ps p.0 refl))
    at i (second e) = inr (rw (canonical_second p ps f.less w e) (wire_first p ps p.0 refl))
    at i (other e g) = elim i [
      | inl k ↦ inl (canonical_other p ps w e g ∙ k)
      | inr k ↦ inr (rw (canonical_other p ps w e g) (later_wire p ps (canonical (links_of ps) w) k))
    ]

-- a wire beside the first pair never takes its number
not_first : (p : ℕ × ℕ) (ps : List (ℕ × ℕ)) → First p ps → (w : ℕ) → eqb p.0 w ≡ false → canonical (links_of ps) w ≡ p.0 → ⊥
not_first p ps f w e k = elim (canonical_in ps f.rest w) [
  | inl q ↦ eqb-false p.0 w e (sym k ∙ q)
  | inr q ↦ clash (sym f.first ∙ subst (λ x. any (eqb x) (pair_wires ps) ≡ true) k q)
]

-- ---- two wires of one pair

-- of a pair among these, both wires are in pairs
pub joined_in : (ps : List (ℕ × ℕ)) (a b : ℕ) → any (joins a b) ps ≡ true → (any (eqb a) (pair_wires ps) ≡ true) × (any (eqb b) (pair_wires ps) ≡ true)
unfolding joins pair_wires
joined_in [] a b e = let z : ◌≡◌ {A = ℕ} 0 1 = cc in absurd (omega arith)
joined_in (p ∷ ps) a b e = elim (either (joins a b p) (any (joins a b) ps) e) [
  | inl j ↦ elim (either (eqb p.0 a && eqb p.1 b) (eqb p.1 a && eqb p.0 b) j) [
    | inl k ↦ let q = both (eqb p.0 a) (eqb p.1 b) k in (wire_first p ps a (eqb-true p.0 a q.0), wire_second p ps b (eqb-true p.1 b q.1))
    | inr k ↦ let q = both (eqb p.1 a) (eqb p.0 b) k in (wire_second p ps a (eqb-true p.1 a q.0), wire_first p ps b (eqb-true p.0 b q.1))
  ]
  | inr j ↦ let q = joined_in ps a b j in (later_wire p ps a q.0, later_wire p ps b q.1)
]

-- a wire of the later pairs is none of the first
pub beside : (p : ℕ × ℕ) (ps : List (ℕ × ℕ)) → First p ps → (w : ℕ) → any (eqb w) (pair_wires ps) ≡ true → (eqb p.0 w ≡ false) × (eqb p.1 w ≡ false)
beside p ps f w e = (ne_eqb p.0 w (λ q. clash (sym f.first ∙ subst (λ x. any (eqb x) (pair_wires ps) ≡ true) (sym q) e)), ne_eqb p.1 w (λ q. clash (sym f.second ∙ subst (λ x. any (eqb x) (pair_wires ps) ≡ true) (sym q) e)))

-- one wire or the two of a pair have one number
pub same_number : (ps : List (ℕ × ℕ)) → Apart ps → (a b : ℕ) → same_wire ps a b ≡ true → canonical (links_of ps) a ≡ canonical (links_of ps) b
unfolding same_wire joins
same_number [] h a b e = elim (either (eqb a b) false e) [
  | inl q ↦ ap (canonical (links_of [])) (eqb-true a b q)
  | inr q ↦ absurd (clash q)
]
same_number (p ∷ ps) h a b e = elim (either (eqb a b) (joins a b p || any (joins a b) ps) e) [
  | inl q ↦ ap (canonical (links_of (p ∷ ps))) (eqb-true a b q)
  | inr q ↦ elim (either (joins a b p) (any (joins a b) ps) q) [
    | inl j ↦ elim (either (eqb p.0 a && eqb p.1 b) (eqb p.1 a && eqb p.0 b) j) [
      | inl k ↦ let t = both (eqb p.0 a) (eqb p.1 b) k in
          canonical_first p ps f.less a (eqb-true p.0 a t.0) ∙ sym (canonical_second p ps f.less b (eqb-true p.1 b t.1))
      | inr k ↦ let t = both (eqb p.1 a) (eqb p.0 b) k in
          canonical_second p ps f.less a (eqb-true p.1 a t.0) ∙ sym (canonical_first p ps f.less b (eqb-true p.0 b t.1))
    ]
    | inr j ↦
        let m = joined_in ps a b j in
        let x = beside p ps f a m.0 in
        let y = beside p ps f b m.1 in
        canonical_other p ps a x.0 x.1 ∙ same_number ps f.rest a b (rw j (or_right (eqb a b))) ∙ sym (canonical_other p ps b y.0 y.1)
  ]
]
  where
    f : First p ps
    f = apart_first p ps h

-- and no others do
pub number_same : (ps : List (ℕ × ℕ)) → Apart ps → (a b : ℕ) → canonical (links_of ps) a ≡ canonical (links_of ps) b → same_wire ps a b ≡ true
unfolding same_wire joins
number_same [] h a b e = rw (eq-eqb a b (sym (canonical_alone a) ∙ e ∙ canonical_alone b)) refl
number_same (p ∷ ps) h a b e = go (number_same ps (apart_first p ps h).rest a b) (place p a) (place p b)
  where
    f : First p ps
    f = apart_first p ps h

    equal : a ≡ b → same_wire (p ∷ ps) a b ≡ true
    equal q = rw (eq-eqb a b q) refl

    paired : joins a b p ≡ true → same_wire (p ∷ ps) a b ≡ true
    paired j = rw j (or_right (eqb a b))

    go : (canonical (links_of ps) a ≡ canonical (links_of ps) b → same_wire ps a b ≡ true) → Place p a → Place p b → same_wire (p ∷ ps) a b ≡ true
    go i (first x) (first y) = equal (sym x ∙ y)
    go i (first x) (second y) = paired (rw (eq-eqb p.0 a x) (rw (eq-eqb p.1 b y) refl))
    go i (first x) (other s t) = absurd (not_first p ps f b s (sym (canonical_other p ps b s t) ∙ sym e ∙ canonical_first p ps f.less a x))
    go i (second x) (first y) = paired (rw (eq-eqb p.1 a x) (rw (eq-eqb p.0 b y) (or_right (eqb p.0 a && eqb p.1 b))))
    go i (second x) (second y) = equal (sym x ∙ y)
    go i (second x) (other s t) = absurd (not_first p ps f b s (sym (canonical_other p ps b s t) ∙ sym e ∙ canonical_second p ps f.less a x))
    go i (other s t) (first y) = absurd (not_first p ps f a s (sym (canonical_other p ps a s t) ∙ e ∙ canonical_first p ps f.less b y))
    go i (other s t) (second y) = absurd (not_first p ps f a s (sym (canonical_other p ps a s t) ∙ e ∙ canonical_second p ps f.less b y))
    go i (other s t) (other u v) = elim (either (eqb a b) (any (joins a b) ps) (i (sym (canonical_other p ps a s t) ∙ e ∙ canonical_other p ps b u v))) [
      | inl q ↦ rw q refl
      | inr q ↦ rw q (or_true (eqb a b) (joins a b p))
    ]

-- two wires take one number exactly if they are one wire or the two of a pair
pub same_wires : (ps : List (ℕ × ℕ)) → Apart ps → (a b : ℕ) → eqb (canonical (links_of ps) a) (canonical (links_of ps) b) ≡ same_wire ps a b
same_wires ps h a b =
    same_test (eqb (canonical (links_of ps) a) (canonical (links_of ps) b)) (same_wire ps a b)
    (λ e. number_same ps h a b (eqb-true (canonical (links_of ps) a) (canonical (links_of ps) b) e))
    (λ e. eq-eqb (canonical (links_of ps) a) (canonical (links_of ps) b) (same_number ps h a b e))
