-- Which numbers a list holds, and what `join` and `concatMap` do to that.
use Rattle.std.specs.Prelude.{ℕ, ◌+◌, ◌≤◌, ◌≡◌, refl, Bool, true, false, not, ◌||◌, ◌⊎◌, List, [], ◌∷◌, ◌++◌, length, eqb}
use Rattle.std.proofs.Common.{sym, ap, ◌∙◌, inl, inr, arith, length-append, eqb-true, eq-eqb}
use Rattle.std.proofs.Math.Bool.{or-true}
use Rattle.net_file.specs.Lists.{any, concat_map}
use Rattle.list_laws.specs.Tests.{either}
use Rattle.list_laws.specs.Lists.{any_append}
use Rattle.conversions.specs.Prune.{join}

abbrev pub In : ℕ → List ℕ → Type 0
In i xs = any (eqb i) xs ≡ true

-- a test passes or not
pub tested : (t : Bool) → (t ≡ true) ⊎ (t ≡ false)
tested true = inl refl
tested false = inr refl

pub false_true : {X : Type 0} → false ≡ true → X
false_true e = let z : ◌≡◌ {A = ℕ} 0 1 = cc in absurd (omega arith)

-- ---- lists

pub in_here : (i : ℕ) (xs : List ℕ) → In i (i ∷ xs)
in_here i xs = ap (λ t. t || any (eqb i) xs) (eq-eqb i i refl)

pub in_there : (i x : ℕ) (xs : List ℕ) → In i xs → In i (x ∷ xs)
in_there i x xs h = ap (λ t. eqb i x || t) h ∙ or-true (eqb i x)

pub in_cases : (i x : ℕ) (xs : List ℕ) → In i (x ∷ xs) → (i ≡ x) ⊎ In i xs
in_cases i x xs h = elim (either (eqb i x) (any (eqb i) xs) h) [ inl e ↦ inl (eqb-true i x e) | inr e ↦ inr e ]

pub in_as : (i : ℕ) (xs ys : List ℕ) → xs ≡ ys → In i ys → In i xs
in_as i xs ys e h = ap (any (eqb i)) e ∙ h

pub in_left : (i : ℕ) (xs ys : List ℕ) → In i xs → In i (xs ++ ys)
in_left i xs ys h = any_append (eqb i) xs ys ∙ ap (λ t. t || any (eqb i) ys) h

pub in_right : (i : ℕ) (xs ys : List ℕ) → In i ys → In i (xs ++ ys)
in_right i xs ys h = any_append (eqb i) xs ys ∙ ap (λ t. any (eqb i) xs || t) h ∙ or-true (any (eqb i) xs)

pub in_either : (i : ℕ) (xs ys : List ℕ) → In i (xs ++ ys) → In i xs ⊎ In i ys
in_either i xs ys h = either (any (eqb i) xs) (any (eqb i) ys) (sym (any_append (eqb i) xs ys) ∙ h)

pub in_many : (g : ℕ → List ℕ) (i j : ℕ) (xs : List ℕ) → In i xs → In j (g i) → In j (concat_map g xs)
in_many g i j [] h k = false_true h
in_many g i j (x ∷ xs) h k = elim (in_cases i x xs h) [
  | inl e ↦ in_left j (g x) (concat_map g xs) (ap (λ y. any (eqb j) (g y)) (sym e) ∙ k)
  | inr e ↦ in_right j (g x) (concat_map g xs) (in_many g i j xs e k)
]

pub in_one : (g : ℕ → List ℕ) (j : ℕ) (xs : List ℕ) → In j (concat_map g xs) → (i : ℕ) × In i xs × In j (g i)
in_one g j [] h = false_true h
in_one g j (x ∷ xs) h = elim (in_either j (g x) (concat_map g xs) h) [
  | inl e ↦ (x, in_here x xs, e)
  | inr e ↦ let r = in_one g j xs e in (r.0, in_there r.0 x xs r.1, r.2)
]

-- ---- join

pub join_none : (seen : List ℕ) → join seen [] ≡ seen
unfolding join
join_none seen = refl

pub join_seen : (seen : List ℕ) (x : ℕ) (xs : List ℕ) → any (eqb x) seen ≡ true → join seen (x ∷ xs) ≡ join seen xs
unfolding join
join_seen seen x xs h = ap (λ (t : Bool). elim t as (λ u. List ℕ) [ true ↦ join seen xs | false ↦ join (seen ++ (x ∷ [])) xs ]) h

pub join_new : (seen : List ℕ) (x : ℕ) (xs : List ℕ) → any (eqb x) seen ≡ false → join seen (x ∷ xs) ≡ join (seen ++ (x ∷ [])) xs
unfolding join
join_new seen x xs h = ap (λ (t : Bool). elim t as (λ u. List ℕ) [ true ↦ join seen xs | false ↦ join (seen ++ (x ∷ [])) xs ]) h

pub join_keeps : (i : ℕ) (seen xs : List ℕ) → In i seen → In i (join seen xs)
join_keeps i seen [] h = in_as i _ _ (join_none seen) h
join_keeps i seen (x ∷ xs) h = elim (tested (any (eqb x) seen)) [
  | inl e ↦ in_as i _ _ (join_seen seen x xs e) (join_keeps i seen xs h)
  | inr e ↦ in_as i _ _ (join_new seen x xs e) (join_keeps i (seen ++ (x ∷ [])) xs (in_left i seen (x ∷ []) h))
]

pub join_adds : (i : ℕ) (seen xs : List ℕ) → In i xs → In i (join seen xs)
join_adds i seen [] h = false_true h
join_adds i seen (x ∷ xs) h = elim (tested (any (eqb x) seen)) [
  | inl e ↦ in_as i _ _ (join_seen seen x xs e) (elim (in_cases i x xs h) [
    | inl q ↦ join_keeps i seen xs (ap (λ y. any (eqb y) seen) q ∙ e)
    | inr q ↦ join_adds i seen xs q
  ])
  | inr e ↦ in_as i _ _ (join_new seen x xs e) (elim (in_cases i x xs h) [
    | inl q ↦ join_keeps i (seen ++ (x ∷ [])) xs (in_right i seen (x ∷ []) (ap (λ y. any (eqb y) (x ∷ [])) q ∙ in_here x []))
    | inr q ↦ join_adds i (seen ++ (x ∷ [])) xs q
  ])
]

pub join_only : (i : ℕ) (seen xs : List ℕ) → In i (join seen xs) → In i seen ⊎ In i xs
join_only i seen [] h = inl (in_as i _ _ (sym (join_none seen)) h)
join_only i seen (x ∷ xs) h = elim (tested (any (eqb x) seen)) [
  | inl e ↦ elim (join_only i seen xs (in_as i _ _ (sym (join_seen seen x xs e)) h)) [ inl q ↦ inl q | inr q ↦ inr (in_there i x xs q) ]
  | inr e ↦ elim (join_only i (seen ++ (x ∷ [])) xs (in_as i _ _ (sym (join_new seen x xs e)) h)) [
    | inl q ↦ elim (in_either i seen (x ∷ []) q) [
      | inl r ↦ inl r
      | inr r ↦ inr (elim (in_cases i x [] r) [ inl z ↦ ap (λ y. any (eqb y) (x ∷ xs)) z ∙ in_here x xs | inr z ↦ false_true z ])
    ]
    | inr q ↦ inr (in_there i x xs q)
  ]
]

-- ---- it only puts to the end

pub join_long : (seen xs : List ℕ) → length seen ≤ length (join seen xs)
join_long seen [] = let e = ap length (join_none seen) in omega arith
join_long seen (x ∷ xs) = elim (tested (any (eqb x) seen)) [
  | inl e ↦ let f = ap length (join_seen seen x xs e) in let g = join_long seen xs in omega arith
  | inr e ↦ let f = ap length (join_new seen x xs e) in let g = join_long (seen ++ (x ∷ [])) xs in let l = length-append seen (x ∷ []) in omega arith
]

-- where it is no longer it is the same
pub join_same : (seen xs : List ℕ) → length (join seen xs) ≤ length seen → join seen xs ≡ seen
join_same seen [] h = join_none seen
join_same seen (x ∷ xs) h = elim (tested (any (eqb x) seen)) [
  | inl e ↦ let f = join_seen seen x xs e in f ∙ join_same seen xs (let g = ap length f in omega arith)
  | inr e ↦
      let f = ap length (join_new seen x xs e) in
      let g = join_long (seen ++ (x ∷ [])) xs in
      let l = length-append seen (x ∷ []) in
      absurd (omega arith)
]
