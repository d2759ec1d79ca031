-- The pairs of a net one by one, and those that `resolve_links` leaves.
use Rattle.std.specs.Prelude.{ℕ, zero, suc, ◌+◌, ◌<◌, ◌≤◌, ◌≡◌, refl, Bool, true, false, not, ◌&&◌, ◌||◌, ◌⊎◌, List, [], ◌∷◌, ◌++◌, map, length, eqb, ltb}
use Rattle.std.proofs.Common.{arith, sym, ap, ◌∙◌, subst, inl, inr, eqb-true, eq-eqb, ne_eqb, ltb-true, lt-ltb}
use Rattle.std.proofs.lemmas.Bool.{eqb-false}
use Rattle.net_file.specs.Lists.{all, any, count, distinct, ascend}
use Rattle.net_file.specs.Checks.{pair_wires, pairs_ordered, occurs, pair_wired}
use Rattle.net_file_laws.specs.Exact.{Each}
use Rattle.list_laws.specs.Tests.{both, both_are, either}
use Rattle.list_laws.specs.Lists.{count_none}
use Rattle.conversions.specs.Links.{canonical, links_of}
use Rattle.conversions.specs.Convert.{unused}
use Rattle.conversion_laws.specs.SameWire.{Apart, First, apart_first, same_wire, clash, or_right, wire_first, wire_second, later_wire, Place, first, second, other, place, canonical_first, canonical_second, canonical_other, canonical_in, beside}
use Rattle.conversion_laws.specs.Counts.{count_alike, number_occurs, first_same, later_same, pair_occurs}

-- a pair of these
abbrev pub In : ℕ × ℕ → List (ℕ × ℕ) → Type 0
In p [] = ⊥
In p (q ∷ ps) = (p ≡ q) ⊎ In p ps

pub in_wires : (p : ℕ × ℕ) (ps : List (ℕ × ℕ)) → In p ps → (any (eqb p.0) (pair_wires ps) ≡ true) × (any (eqb p.1) (pair_wires ps) ≡ true)
in_wires p [] m = absurd m
in_wires p (q ∷ ps) (inl e) = (wire_first q ps p.0 (ap (λ (r : ℕ × ℕ). r.0) (sym e)), wire_second q ps p.1 (ap (λ (r : ℕ × ℕ). r.1) (sym e)))
in_wires p (q ∷ ps) (inr m) = let t = in_wires p ps m in (later_wire q ps p.0 t.0, later_wire q ps p.1 t.1)

module _ (f : ℕ × ℕ → Bool) where
  pub all_in : (ps : List (ℕ × ℕ)) → ((p : ℕ × ℕ) → In p ps → f p ≡ true) → all f ps ≡ true
  all_in [] h = refl
  all_in (p ∷ ps) h = both_are (f p) (all f ps) (h p (inl refl)) (all_in ps (λ q m. h q (inr m)))

  pub all_of : (ps : List (ℕ × ℕ)) → all f ps ≡ true → (p : ℕ × ℕ) → In p ps → f p ≡ true
  all_of [] h p m = absurd m
  all_of (q ∷ ps) h p (inl e) = subst (λ r. f r ≡ true) (sym e) (both (f q) (all f ps) h).0
  all_of (q ∷ ps) h p (inr m) = all_of ps (both (f q) (all f ps) h).1 p m

-- ---- the numbers of its wires

-- the first wire of a pair keeps its number
pub first_number : (ps : List (ℕ × ℕ)) → Apart ps → (p : ℕ × ℕ) → In p ps → canonical (links_of ps) p.0 ≡ p.0
first_number [] h p m = absurd m
first_number (q ∷ ps) h p (inl e) =
    let f = apart_first q ps h in
    canonical_first q ps f.less p.0 (ap (λ (r : ℕ × ℕ). r.0) (sym e)) ∙ ap (λ (r : ℕ × ℕ). r.0) (sym e)
first_number (q ∷ ps) h p (inr m) =
    let f = apart_first q ps h in
    let b = beside q ps f p.0 (in_wires p ps m).0 in
    canonical_other q ps p.0 b.0 b.1 ∙ first_number ps f.rest p m

-- the number of the first occurs as often as both wires
pub pair_count_lem : (ps : List (ℕ × ℕ)) → Apart ps → (p : ℕ × ℕ) → In p ps → (ws : List ℕ) → count (same_wire ps p.0) ws ≡ occurs p.0 ws + occurs p.1 ws
pair_count_lem [] h p m ws = absurd m
pair_count_lem (q ∷ ps) h p (inl e) ws =
    let f = apart_first q ps h in
    subst (λ r. count (same_wire (q ∷ ps) r.0) ws ≡ occurs r.0 ws + occurs r.1 ws) (sym e) (pair_occurs q ps f q.0 (first_same q ps f) ws)
pair_count_lem (q ∷ ps) h p (inr m) ws =
    let f = apart_first q ps h in
    let b = beside q ps f p.0 (in_wires p ps m).0 in
    count_alike (same_wire (q ∷ ps) p.0) (same_wire ps p.0) (later_same q ps f p.0 b.0 b.1) ws ∙ pair_count_lem ps f.rest p m ws

-- no wire takes the number of the second
pub second_never : (ps : List (ℕ × ℕ)) → Apart ps → (p : ℕ × ℕ) → In p ps → (v : ℕ) → canonical (links_of ps) v ≡ p.1 → ⊥
second_never [] h p m v k = m
second_never (q ∷ ps) h p (inl e) v k = at (place q v)
  where
    f : First q ps
    f = apart_first q ps h

    is : p.1 ≡ q.1
    is = ap (λ (r : ℕ × ℕ). r.1) e

    at : Place q v → ⊥
    at (first x) = absurd (omega (arith, f.less, sym (canonical_first q ps f.less v x) ∙ k ∙ is))
    at (second x) = absurd (omega (arith, f.less, sym (canonical_second q ps f.less v x) ∙ k ∙ is))
    at (other x y) = elim (canonical_in ps f.rest v) [
      | inl z ↦ eqb-false q.1 v y (sym is ∙ sym k ∙ canonical_other q ps v x y ∙ z)
      | inr z ↦ clash (sym f.second ∙ subst (λ w. any (eqb w) (pair_wires ps) ≡ true) (sym (canonical_other q ps v x y) ∙ k ∙ is) z)
    ]
second_never (q ∷ ps) h p (inr m) v k = at (second_never ps (apart_first q ps h).rest p m v) (place q v)
  where
    f : First q ps
    f = apart_first q ps h

    not_head : q.0 ≡ p.1 → ⊥
    not_head e = clash (sym f.first ∙ subst (λ w. any (eqb w) (pair_wires ps) ≡ true) (sym e) (in_wires p ps m).1)

    at : (canonical (links_of ps) v ≡ p.1 → ⊥) → Place q v → ⊥
    at i (first x) = not_head (sym (canonical_first q ps f.less v x) ∙ k)
    at i (second x) = not_head (sym (canonical_second q ps f.less v x) ∙ k)
    at i (other x y) = i (sym (canonical_other q ps v x y) ∙ k)
