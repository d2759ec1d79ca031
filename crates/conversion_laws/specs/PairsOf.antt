-- The pairs of a table of links: the smaller wire first, ascending by it, no wire in two of them.
use Prim.Native.Nat.{ℕ, zero, suc, ◌+◌, ◌-◌, ◌<◌, ◌≤◌}
use native.Mathlib.Omega.{arith}
use Rattle.std.proofs.Math.Decide.{ℕ_discrete, dec_lt}
use Rattle.std.specs.Prelude.{◌≡◌, Bool, false, not, ◌&&◌, ◌||◌, ◌⊎◌, eqb, ltb}
use Rattle.std.proofs.Math.Path.{refl, ap, subst}
use Rattle.std.proofs.Common.{sym, ◌∙◌, inl, inr, eqb-true, eq-eqb, ne_eqb, ltb-true, ltb-false, lt-ltb}
use Rattle.std.proofs.Math.Bool.{true}
use Rattle.std.proofs.Math.Option.{Option, none, some}
use mathlib.Core.List.{List, [], ◌∷◌, ◌++◌, map}
use Rattle.std.proofs.Math.ListN.{length}
use Rattle.net_file.specs.Lists.{all, any, distinct, ascend, concat_map}
use Rattle.net_file.specs.Checks.{pair_wires, pairs_ordered}
use Rattle.list_laws.specs.Tests.{both, both_are}
use Rattle.conversions.specs.Links.{Links, get, from, pairs_of}
use Rattle.conversion_laws.specs.Pairs.{In, all_in}
use Rattle.conversion_laws.specs.Ends.{Holds, same_some}

-- what wire a gives: a pair where it is linked with a greater one, else nothing
data One (l : Links) (a : ℕ) : List (ℕ × ℕ) → Type 0 where
  nothing : ((b : ℕ) → get l a ≡ some b → a < b → ⊥) → One l a []
  pair : (b : ℕ) → get l a ≡ some b → a < b → One l a ((a, b) ∷ [])

one_is : (l : Links) (a : ℕ) (r : Option ℕ) → get l a ≡ r → One l a (elim r as (λ _. List (ℕ × ℕ)) [ none ↦ [] | some b ↦ elim (ltb a b) as (λ _. List (ℕ × ℕ)) [ true ↦ (a, b) ∷ [] | false ↦ [] ] ])
one_is l a none e = nothing (λ b k h. let z : ◌≡◌ {A = ℕ} 0 1 = cc in absurd (omega arith))
one_is l a (some b) e = go (ltb a b) refl
  where
    go : (t : Bool) → ltb a b ≡ t → One l a (elim t as (λ _. List (ℕ × ℕ)) [ true ↦ (a, b) ∷ [] | false ↦ [] ])
    go true q = pair b e (ltb-true a b q)
    go false q = nothing (λ c k h. absurd (omega (arith, ltb-false a b q, same_some b c (sym e ∙ k))))

none_wires : (w : ℕ) (ps : List (ℕ × ℕ)) → ((p : ℕ × ℕ) → In p ps → (p.0 ≡ w → ⊥) × (p.1 ≡ w → ⊥)) → any (eqb w) (pair_wires ps) ≡ false
unfolding pair_wires
none_wires w [] h = refl
none_wires w (p ∷ ps) h =
    let n = h p (inl refl) in
    rw (ne_eqb w p.0 (λ e. n.0 (sym e))) (rw (ne_eqb w p.1 (λ e. n.1 (sym e))) (none_wires w ps (λ q m. h q (inr m))))

module _ (l : Links) (d : ℕ → ℕ) (h : Holds l d) (f : ℕ → List (ℕ × ℕ)) (is : (a : ℕ) → One l a (f a)) where
  -- each pair is one of the table, from wire k on
  record Right (k : ℕ) (p : ℕ × ℕ) : Type 0 where
    linked : get l p.0 ≡ some p.1
    less : p.0 < p.1
    later : k ≤ p.0

  all_right : (n k : ℕ) (p : ℕ × ℕ) → In p (concat_map f (from k n)) → Right k p
  unfolding from
  all_right zero k p m = absurd m
  all_right (suc n) k p m = go (f k) (is k) (all_right n (suc k) p) m
    where
      go : (xs : List (ℕ × ℕ)) → One l k xs → (In p (concat_map f (from (suc k) n)) → Right (suc k) p) → In p (xs ++ concat_map f (from (suc k) n)) → Right k p
      go _ (nothing q) i x = let r = i x in record { linked = r.linked; less = r.less; later = omega (arith, r.later) }
      go _ (pair b q u) i (inl e) = record { linked = subst (λ (z : ℕ × ℕ). get l z.0 ≡ some z.1) (sym e) q; less = subst (λ (z : ℕ × ℕ). z.0 < z.1) (sym e) u; later = omega (arith, ap (λ (z : ℕ × ℕ). z.0) e) }
      go _ (pair b q u) i (inr x) = let r = i x in record { linked = r.linked; less = r.less; later = omega (arith, r.later) }

  -- a wire before a list whose firsts are all greater
  ascend_before : (x : ℕ) (ps : List (ℕ × ℕ)) → ((p : ℕ × ℕ) → In p ps → x < p.0) → ascend (map (λ p. p.0) ps) ≡ true → ascend (x ∷ map (λ p. p.0) ps) ≡ true
  ascend_before x [] g e = refl
  ascend_before x (p ∷ ps) g e = both_are (ltb x p.0) (ascend (p.0 ∷ map (λ q. q.0) ps)) (lt-ltb x p.0 (g p (inl refl))) e

  in_order : (n k : ℕ) → ascend (map (λ p. p.0) (concat_map f (from k n))) ≡ true
  unfolding from
  in_order zero k = refl
  in_order (suc n) k = go (f k) (is k) (in_order n (suc k))
    where
      go : (xs : List (ℕ × ℕ)) → One l k xs → ascend (map (λ p. p.0) (concat_map f (from (suc k) n))) ≡ true → ascend (map (λ (p : ℕ × ℕ). p.0) (xs ++ concat_map f (from (suc k) n))) ≡ true
      go _ (nothing q) i = i
      go _ (pair b q u) i = ascend_before k (concat_map f (from (suc k) n)) (λ p m. omega (arith, (all_right n (suc k) p m).later)) i

  apart_from : (n k : ℕ) → distinct eqb (pair_wires (concat_map f (from k n))) ≡ true
  unfolding from pair_wires
  apart_from zero k = refl
  apart_from (suc n) k = go (f k) (is k) (apart_from n (suc k))
    where
      rest : List (ℕ × ℕ)
      rest = concat_map f (from (suc k) n)

      right : (p : ℕ × ℕ) → In p rest → Right (suc k) p
      right = all_right n (suc k)

      -- the first wire is smaller than all later ones, the second is linked with the first alone
      first_none : any (eqb k) (pair_wires rest) ≡ false
      first_none = none_wires k rest (λ p m. let r = right p m in (λ e. absurd (omega (arith, r.later)), λ e. absurd (omega (arith, r.later, r.less))))

      second_none : (b : ℕ) → get l k ≡ some b → k < b → any (eqb b) (pair_wires rest) ≡ false
      second_none b q u = none_wires b rest (λ p m. let r = right p m in (
        λ e. absurd (omega (arith, r.less, e, same_some p.1 k (sym r.linked ∙ ap (get l) e ∙ h.back k b q))),
        λ e. absurd (omega (arith, r.later, same_some p.0 k (sym (h.back p.0 p.1 r.linked) ∙ ap (get l) e ∙ h.back k b q))),
      ))

      go : (xs : List (ℕ × ℕ)) → One l k xs → distinct eqb (pair_wires rest) ≡ true → distinct eqb (pair_wires (xs ++ rest)) ≡ true
      go _ (nothing q) i = i
      go _ (pair b q u) i = rw (ne_eqb k b (λ e. absurd (omega arith))) (rw first_none (rw (second_none b q u) i))

  -- so many wires have fewer pairs
  few_pairs : (n k m : ℕ) → ((p : ℕ × ℕ) → In p (concat_map f (from k n)) → p.1 < m) → length (concat_map f (from k n)) ≤ m - 1 - k
  unfolding from
  few_pairs zero k m g = omega arith
  few_pairs (suc n) k m g = go (f k) (is k) (few_pairs n (suc k) m) g
    where
      go : (xs : List (ℕ × ℕ)) → One l k xs → (((p : ℕ × ℕ) → In p (concat_map f (from (suc k) n)) → p.1 < m) → length (concat_map f (from (suc k) n)) ≤ m - 1 - suc k)
          → ((p : ℕ × ℕ) → In p (xs ++ concat_map f (from (suc k) n)) → p.1 < m) → length (xs ++ concat_map f (from (suc k) n)) ≤ m - 1 - k
      go _ (nothing q) i x = omega (arith, i x)
      go _ (pair b q u) i x = omega (arith, i (λ p e. x p (inr e)), x (k, b) (inl refl), u)

-- a pair of the table stands in the list
module _ (l : Links) (f : ℕ → List (ℕ × ℕ)) (is : (a : ℕ) → One l a (f a)) where
  all_there : (n k a b : ℕ) → get l a ≡ some b → a < b → k ≤ a → a < k + n → In (a, b) (concat_map f (from k n))
  unfolding from
  all_there zero k a b e u v w = absurd (omega arith)
  all_there (suc n) k a b e u v w = elim (ℕ_discrete k a) [
    | yes q ↦ here q (f k) (is k)
    | no q ↦ later (f k) (all_there n (suc k) a b e u (above q) (omega arith))
  ]
    where
      above : (k ≡ a → ⊥) → suc k ≤ a
      above q = elim (dec_lt k a) [ yes r ↦ omega arith | no r ↦ absurd (q (omega arith)) ]

      later : (xs : List (ℕ × ℕ)) → In (a, b) (concat_map f (from (suc k) n)) → In (a, b) (xs ++ concat_map f (from (suc k) n))
      later [] m = m
      later (x ∷ xs) m = inr (later xs m)

      here : k ≡ a → (xs : List (ℕ × ℕ)) → One l k xs → In (a, b) (xs ++ concat_map f (from (suc k) n))
      here q _ (nothing x) = absurd (x b (ap (get l) q ∙ e) (omega arith))
      here q _ (pair c x y) = inl (pairs_same a b k c (sym q) (same_some b c (sym e ∙ ap (get l) (sym q) ∙ x)))
        where
          pairs_same : (x y z w : ℕ) → x ≡ z → y ≡ w → ◌≡◌ {A = ℕ × ℕ} (x, y) (z, w)
          pairs_same x y z w e f = λ i. (e i, f i)

-- ---- of the table itself

-- its pairs are in order, and no wire is in two of them
pub pairs_of_ordered : (l : Links) (d : ℕ → ℕ) → Holds l d → (n : ℕ) → pairs_ordered (pairs_of l n) ≡ true
unfolding pairs_of pairs_ordered
pairs_of_ordered l d h n =
    both_are (all (λ p. ltb p.0 p.1) (pairs_of l n) && ascend (map (λ p. p.0) (pairs_of l n))) (distinct eqb (pair_wires (pairs_of l n)))
    (both_are (all (λ p. ltb p.0 p.1) (pairs_of l n)) (ascend (map (λ p. p.0) (pairs_of l n))) (all_in (λ p. ltb p.0 p.1) (pairs_of l n) (λ p m. lt-ltb p.0 p.1 (all_right l d h _ (λ a. one_is l a (get l a) refl) n 0 p m).less)) (in_order l d h _ (λ a. one_is l a (get l a) refl) n 0))
    (apart_from l d h _ (λ a. one_is l a (get l a) refl) n 0)

-- each is two linked wires
pub pairs_of_linked : (l : Links) (d : ℕ → ℕ) → Holds l d → (n : ℕ) (p : ℕ × ℕ) → In p (pairs_of l n) → (get l p.0 ≡ some p.1) × (p.0 < p.1)
unfolding pairs_of
pairs_of_linked l d h n p m = let r = all_right l d h _ (λ a. one_is l a (get l a) refl) n 0 p m in (r.linked, r.less)

-- below a counter there are fewer pairs than wires
pub pairs_of_few : (l : Links) (d : ℕ → ℕ) → Holds l d → (n : ℕ) → ((p : ℕ × ℕ) → In p (pairs_of l n) → p.1 < n) → length (pairs_of l n) ≤ n - 1
unfolding pairs_of
pairs_of_few l d h n g = omega (arith, few_pairs l d h _ (λ a. one_is l a (get l a) refl) n 0 n g)

-- two linked wires are a pair of them
pub pairs_of_all : (l : Links) (n a b : ℕ) → get l a ≡ some b → a < b → a < n → In (a, b) (pairs_of l n)
unfolding pairs_of
pairs_of_all l n a b e u v = all_there l _ (λ c. one_is l c (get l c) refl) n 0 a b e u (omega arith) (omega arith)
