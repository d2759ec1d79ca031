-- How often a wire occurs once the wires of each pair have one number: twice, where the net was well wired.
use Rattle.std.specs.Prelude.{ℕ, zero, suc, ◌+◌, ◌<◌, ◌≤◌, ◌≡◌, Bool, not, ◌&&◌, ◌||◌, ◌⊎◌, eqb, ltb}
use Rattle.std.proofs.Common.{arith, sym, ◌∙◌, subst, inl, inr, eqb-true, eq-eqb, ne_eqb}
use Rattle.std.proofs.Math.Path.{refl, ap}
use Rattle.std.proofs.Math.Bool.{true, false}
use mathlib.Core.List.{List, [], ◌∷◌, ◌++◌, map}
use Rattle.std.proofs.lemmas.Bool.{eqb-false}
use Rattle.net_file.specs.Lists.{bit, all, any, count}
use Rattle.net_file.specs.Checks.{pair_wires, occurs, pair_wired, wire_wired}
use Rattle.list_laws.specs.Tests.{both, either}
use Rattle.list_laws.specs.Lists.{count_none}
use Rattle.conversions.specs.Links.{canonical, links_of}
use Rattle.conversion_laws.specs.SameWire.{joins, same_wire, Apart, First, apart_first, same_wires, clash, or_right, joined_in, beside}

-- ---- tests over lists

pub count_alike : {A : Type 0} (f g : A → Bool) → ((x : A) → f x ≡ g x) → (xs : List A) → count f xs ≡ count g xs
count_alike f g h [] = refl
count_alike f g h (x ∷ xs) = rw (h x) (rw (count_alike f g h xs) refl)

-- where each element passes one of two tests, or neither, that never pass both
count_two : (f g k : ℕ → Bool) → ((x : ℕ) → bit (f x) ≡ bit (g x) + bit (k x)) → (xs : List ℕ) → count f xs ≡ count g xs + count k xs
count_two f g k h [] = refl
count_two f g k h (x ∷ xs) = omega (arith, h x, count_two f g k h xs)

pub all_at : (f : ℕ → Bool) (xs : List ℕ) → all f xs ≡ true → (w : ℕ) → any (eqb w) xs ≡ true → f w ≡ true
all_at f [] h w m = absurd (clash m)
all_at f (x ∷ xs) h w m = elim (either (eqb w x) (any (eqb w) xs) m) [
  | inl e ↦ subst (λ y. f y ≡ true) (sym (eqb-true w x e)) (both (f x) (all f xs) h).0
  | inr e ↦ all_at f xs (both (f x) (all f xs) h).1 w e
]

-- what holds of each element's image holds of all images
pub all_mapped : (f : ℕ → Bool) (c : ℕ → ℕ) (xs : List ℕ) → ((w : ℕ) → any (eqb w) xs ≡ true → f (c w) ≡ true) → all f (map c xs) ≡ true
all_mapped f c [] h = refl
all_mapped f c (x ∷ xs) h = rw (h x (rw (eq-eqb x x refl) refl)) (all_mapped f c xs (λ w m. h w (rw m (or_right (eqb w x)))))

pub some_occurs : (w : ℕ) (xs : List ℕ) → any (eqb w) xs ≡ true → 1 ≤ occurs w xs
unfolding occurs
some_occurs w [] m = absurd (clash m)
some_occurs w (x ∷ xs) m = elim (either (eqb w x) (any (eqb w) xs) m) [
  | inl e ↦ rw e (omega arith)
  | inr e ↦ omega (arith, some_occurs w xs e)
]

-- ---- occurrences of a number

module _ (ps : List (ℕ × ℕ)) (h : Apart ps) where
  -- a number occurs as often as the wires that take it
  pub number_occurs : (w : ℕ) (ws : List ℕ) → occurs (canonical (links_of ps) w) (map (canonical (links_of ps)) ws) ≡ count (same_wire ps w) ws
  unfolding occurs
  number_occurs w [] = refl
  number_occurs w (v ∷ ws) = rw (same_wires ps h w v) (rw (number_occurs w ws) refl)

-- a wire of no pair
pub alone_occurs : (ps : List (ℕ × ℕ)) (w : ℕ) → any (eqb w) (pair_wires ps) ≡ false → (ws : List ℕ) → count (same_wire ps w) ws ≡ occurs w ws
unfolding occurs same_wire
alone_occurs ps w e ws = count_alike (same_wire ps w) (eqb w) alike ws
  where
    none_joins : (v : ℕ) (t : Bool) → any (joins w v) ps ≡ t → t ≡ false
    none_joins v true q = absurd (clash (sym e ∙ (joined_in ps w v q).0))
    none_joins v false q = refl

    right : (s : Bool) → (s || false) ≡ s
    right true = refl
    right false = refl

    alike : (v : ℕ) → (eqb w v || any (joins w v) ps) ≡ eqb w v
    alike v = rw (none_joins v (any (joins w v) ps) refl) (right (eqb w v))

-- ---- a wire of a pair

module _ (p : ℕ × ℕ) (ps : List (ℕ × ℕ)) (f : First p ps) where
  none_later : (w v : ℕ) → any (eqb w) (pair_wires ps) ≡ false → any (joins w v) ps ≡ false
  none_later w v e = go (any (joins w v) ps) refl
    where
      go : (t : Bool) → any (joins w v) ps ≡ t → t ≡ false
      go true q = absurd (clash (sym e ∙ (joined_in ps w v q).0))
      go false q = refl

  -- not both
  one_bit : (v : ℕ) → bit (eqb p.0 v || eqb p.1 v) ≡ bit (eqb p.0 v) + bit (eqb p.1 v)
  one_bit v = go (eqb p.0 v) (eqb p.1 v) refl refl
    where
      go : (s t : Bool) → eqb p.0 v ≡ s → eqb p.1 v ≡ t → bit (s || t) ≡ bit s + bit t
      go true true a b = absurd (omega (arith, f.less, eqb-true p.0 v a, eqb-true p.1 v b))
      go true false a b = refl
      go false true a b = refl
      go false false a b = refl

  pub first_same : (v : ℕ) → same_wire (p ∷ ps) p.0 v ≡ (eqb p.0 v || eqb p.1 v)
  unfolding same_wire joins
  first_same v =
      rw (none_later p.0 v f.first) (rw (eq-eqb p.0 p.0 refl) (rw (ne_eqb p.1 p.0 (λ e. absurd (omega (arith, f.less)))) (right (eqb p.0 v) (eqb p.1 v))))
    where
      right : (s t : Bool) → (s || ((t || false) || false)) ≡ (s || t)
      right true t = refl
      right false true = refl
      right false false = refl

  second_same : (v : ℕ) → same_wire (p ∷ ps) p.1 v ≡ (eqb p.0 v || eqb p.1 v)
  unfolding same_wire joins
  second_same v =
      rw (none_later p.1 v f.second) (rw (eq-eqb p.1 p.1 refl) (rw (ne_eqb p.0 p.1 (λ e. absurd (omega (arith, f.less)))) (right (eqb p.0 v) (eqb p.1 v))))
    where
      right : (s t : Bool) → (t || (s || false)) ≡ (s || t)
      right true true = refl
      right true false = refl
      right false true = refl
      right false false = refl

  pub later_same : (w : ℕ) → eqb p.0 w ≡ false → eqb p.1 w ≡ false → (v : ℕ) → same_wire (p ∷ ps) w v ≡ same_wire ps w v
  unfolding same_wire joins
  later_same w a b v = rw a (rw b refl)

  -- both wires of the pair together
  pub pair_occurs : (w : ℕ) → ((v : ℕ) → same_wire (p ∷ ps) w v ≡ (eqb p.0 v || eqb p.1 v)) → (ws : List ℕ) → count (same_wire (p ∷ ps) w) ws ≡ occurs p.0 ws + occurs p.1 ws
  unfolding occurs
  pair_occurs w e ws = count_two (same_wire (p ∷ ps) w) (eqb p.0) (eqb p.1) (λ v. ap bit (e v) ∙ one_bit v) ws

-- of a pair, both wires occur once or neither does
pair_two : (ws : List ℕ) (p : ℕ × ℕ) → pair_wired ws p ≡ true → 1 ≤ occurs p.0 ws + occurs p.1 ws → occurs p.0 ws + occurs p.1 ws ≡ 2
unfolding pair_wired
pair_two ws p e l = elim (either (eqb (occurs p.0 ws) 1 && eqb (occurs p.1 ws) 1) (eqb (occurs p.0 ws) 0 && eqb (occurs p.1 ws) 0) e) [
  | inl k ↦ let t = both (eqb (occurs p.0 ws) 1) (eqb (occurs p.1 ws) 1) k in omega (arith, eqb-true (occurs p.0 ws) 1 t.0, eqb-true (occurs p.1 ws) 1 t.1)
  | inr k ↦ let t = both (eqb (occurs p.0 ws) 0) (eqb (occurs p.1 ws) 0) k in absurd (omega (arith, eqb-true (occurs p.0 ws) 0 t.0, eqb-true (occurs p.1 ws) 0 t.1))
]

pub paired_occurs : (ps : List (ℕ × ℕ)) → Apart ps → (ws : List ℕ) → all (pair_wired ws) ps ≡ true → (w : ℕ) → any (eqb w) (pair_wires ps) ≡ true → 1 ≤ occurs w ws
    → count (same_wire ps w) ws ≡ 2
unfolding pair_wires
paired_occurs [] h ws g w m l = absurd (clash m)
paired_occurs (p ∷ ps) h ws g w m l = elim (either (eqb w p.0) (eqb w p.1 || any (eqb w) (pair_wires ps)) m) [
  | inl e ↦
      let q = eqb-true w p.0 e in
      subst (λ x. count (same_wire (p ∷ ps) x) ws ≡ 2) (sym q)
      (pair_occurs p ps f p.0 (first_same p ps f) ws ∙ pair_two ws p t.0 (subst (λ x. 1 ≤ occurs x ws + occurs p.1 ws) q (omega (arith, l))))
  | inr r ↦ elim (either (eqb w p.1) (any (eqb w) (pair_wires ps)) r) [
    | inl e ↦
        let q = eqb-true w p.1 e in
        subst (λ x. count (same_wire (p ∷ ps) x) ws ≡ 2) (sym q)
        (pair_occurs p ps f p.1 (second_same p ps f) ws ∙ pair_two ws p t.0 (subst (λ x. 1 ≤ occurs p.0 ws + occurs x ws) q (omega (arith, l))))
    | inr e ↦
        let b = beside p ps f w e in
        count_alike (same_wire (p ∷ ps) w) (same_wire ps w) (later_same p ps f w b.0 b.1) ws ∙ paired_occurs ps f.rest ws t.1 w e l
  ]
]
  where
    f : First p ps
    f = apart_first p ps h

    t : (pair_wired ws p ≡ true) × (all (pair_wired ws) ps ≡ true)
    t = both (pair_wired ws p) (all (pair_wired ws) ps) g

-- each number of a well wired net occurs twice
pub numbers_twice : (ps : List (ℕ × ℕ)) → Apart ps → (ws : List ℕ) → all (pair_wired ws) ps ≡ true → all (wire_wired ws ps) ws ≡ true
    → (w : ℕ) → any (eqb w) ws ≡ true → occurs (canonical (links_of ps) w) (map (canonical (links_of ps)) ws) ≡ 2
unfolding wire_wired
numbers_twice ps h ws g k w m = number_occurs ps h w ws ∙ go (any (eqb w) (pair_wires ps)) refl
  where
    l : 1 ≤ occurs w ws
    l = some_occurs w ws m

    go : (t : Bool) → any (eqb w) (pair_wires ps) ≡ t → count (same_wire ps w) ws ≡ 2
    go true e = paired_occurs ps h ws g w e l
    go false e = alone_occurs ps w e ws ∙ eqb-true (occurs w ws) 2 (subst (λ x. (x || eqb (occurs w ws) 2) ≡ true) e (all_at (wire_wired ws ps) ws k w m))
