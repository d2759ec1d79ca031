-- Numbers below n that differ are at most n; and `join` keeps them apart.
use Rattle.std.specs.Prelude.{ℕ, zero, suc, ◌+◌, ◌<◌, ◌≤◌, ◌≡◌, refl, Bool, true, false, not, ◌||◌, List, [], ◌∷◌, ◌++◌, length, eqb}
use Rattle.std.proofs.Common.{sym, ap, ◌∙◌, inl, inr, arith, eqb-true, eq-eqb, ne_eqb}
use Rattle.std.proofs.lemmas.Bool.{not-true}
use Rattle.std.proofs.Math.Decide.{ℕ_discrete}
use Rattle.net_file.specs.Lists.{bit, any, count, distinct}
use Rattle.list_laws.specs.Tests.{both, both_are}
use Rattle.list_laws.specs.Lists.{any_append, count_once}
use Rattle.conversions.specs.Prune.{join}
use Rattle.prune_laws.specs.Members.{In, tested, false_true, in_here, in_there, join_none, join_seen, join_new}

-- how many of a list are below n, number by number
tally : ℕ → List ℕ → ℕ
tally zero xs = 0
tally (suc n) xs = count (eqb n) xs + tally n xs

tally_none : (n : ℕ) → tally n [] ≡ 0
unfolding tally
tally_none zero = refl
tally_none (suc n) = let e = tally_none n in omega arith

tally_same : (n x : ℕ) (xs : List ℕ) → n ≤ x → tally n (x ∷ xs) ≡ tally n xs
unfolding tally
tally_same zero x xs h = refl
tally_same (suc n) x xs h =
    let e = tally_same n x xs (omega arith) in
    let d : eqb n x ≡ false = ne_eqb n x (λ q. absurd (omega arith)) in
    let b : bit (eqb n x) ≡ 0 = ap bit d in
    omega arith

tally_more : (n x : ℕ) (xs : List ℕ) → x < n → tally n (x ∷ xs) ≡ suc (tally n xs)
unfolding tally
tally_more zero x xs h = absurd (omega arith)
tally_more (suc n) x xs h = elim (ℕ_discrete n x) [
  | yes e ↦
      let b : bit (eqb n x) ≡ 1 = ap bit (eq-eqb n x e) in
      let s = tally_same n x xs (omega arith) in
      omega arith
  | no e ↦
      let b : bit (eqb n x) ≡ 0 = ap bit (ne_eqb n x e) in
      let s = tally_more n x xs (omega arith) in
      omega arith
]

tally_length : (n : ℕ) (xs : List ℕ) → ((j : ℕ) → In j xs → j < n) → tally n xs ≡ length xs
tally_length n [] h = tally_none n
tally_length n (x ∷ xs) h =
    let e = tally_more n x xs (h x (in_here x xs)) in
    let r = tally_length n xs (λ j k. h j (in_there j x xs k)) in
    omega arith

tally_once : (n : ℕ) (xs : List ℕ) → distinct eqb xs ≡ true → tally n xs ≤ n
unfolding tally
tally_once zero xs d = omega arith
tally_once (suc n) xs d = let c = count_once eqb (λ x y e. eqb-true x y e) n xs d in let r = tally_once n xs d in omega arith

pub few_below : (n : ℕ) (xs : List ℕ) → distinct eqb xs ≡ true → ((j : ℕ) → In j xs → j < n) → length xs ≤ n
few_below n xs d h = let e = tally_length n xs h in let r = tally_once n xs d in omega arith

-- ---- apart

or_none : (a b : Bool) → (a || b) ≡ false → (a ≡ false) × (b ≡ false)
or_none true b e = false_true (sym e)
or_none false b e = (refl, e)

distinct_end : (xs : List ℕ) (x : ℕ) → distinct eqb xs ≡ true → any (eqb x) xs ≡ false → distinct eqb (xs ++ (x ∷ [])) ≡ true
distinct_end [] x d h = refl
distinct_end (y ∷ ys) x d h =
    let b = both (not (any (eqb y) ys)) (distinct eqb ys) d in
    let o = or_none (eqb x y) (any (eqb x) ys) h in
    let r = distinct_end ys x b.1 o.1 in
    let n : eqb y x ≡ false = ne_eqb y x (λ e. false_true (sym o.0 ∙ eq-eqb x y (sym e))) in
    let a : any (eqb y) (ys ++ (x ∷ [])) ≡ false = any_append (eqb y) ys (x ∷ []) ∙ (λ i. not-true (any (eqb y) ys) b.0 i || (n i || false)) in
    both_are _ _ (ap not a) r

pub join_distinct : (seen xs : List ℕ) → distinct eqb seen ≡ true → distinct eqb (join seen xs) ≡ true
join_distinct seen [] d = ap (distinct eqb) (join_none seen) ∙ d
join_distinct seen (x ∷ xs) d = elim (tested (any (eqb x) seen)) [
  | inl e ↦ ap (distinct eqb) (join_seen seen x xs e) ∙ join_distinct seen xs d
  | inr e ↦ ap (distinct eqb) (join_new seen x xs e) ∙ join_distinct (seen ++ (x ∷ [])) xs (distinct_end seen x d e)
]
