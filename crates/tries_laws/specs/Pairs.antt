-- The pairs of paths that a rule is registered for, as two nodes of paths x and y meet them: straight where both stand in their lists,
-- flipped where the paths differ and both stand in the other's.
use Rattle.std.specs.Prelude.{ℕ, ◌≡◌, Bool, ◌&&◌, ◌||◌}
use Rattle.std.proofs.Math.Path.{refl, sym, ap}
use Rattle.std.proofs.Common.{◌∙◌, arith, eqb-true, eq-eqb, ne_eqb}
use Rattle.std.proofs.Math.Bool.{true, false, not}
use mathlib.Core.List.{List, [], ◌∷◌, ◌++◌, map, append_assoc}
use Rattle.std.proofs.Math.Dec.{eqb}
use Rattle.net_file.specs.Lists.{concat_map}
use Rattle.net_file.specs.Values.{Rule}
use Rattle.list_laws.specs.Tests.{both, both_are, same_test}
use Rattle.list_laws.specs.Lists.{any_append}
use Rattle.definitions.specs.Lists.{has as listed}
use Rattle.definitions.specs.Nets.{Graph, name_of}
use Rattle.definitions.specs.Step.{cross}
use Rattle.definitions.specs.Visit.{Try, interaction, try_pair}
use Rattle.words.specs.Choose.{pick}
use Rattle.tries_laws.specs.Order.{straight, flipped}

-- ---- tests

eqb_turned : (m n : ℕ) → eqb m n ≡ eqb n m
eqb_turned m n = same_test _ _ (λ e. eq-eqb n m (sym (eqb-true m n e))) (λ e. eq-eqb m n (sym (eqb-true n m e)))

pub not_both : (a : Bool) → a ≡ true → not a ≡ true → ⊥
not_both a e f = let z : ◌≡◌ {A = ℕ} 0 1 = cc in omega arith

false_not : (a : Bool) → a ≡ false → not a ≡ true
false_not a e = rw e

and_false : (a : Bool) → (a && false) ≡ false
and_false true = refl
and_false false = refl

or_under : (a b c : Bool) → ((a && b) || (a && c)) ≡ (a && (b || c))
or_under true b c = refl
or_under false b c = refl

or_over : (a b c : Bool) → ((a && c) || (b && c)) ≡ ((a || b) && c)
or_over true true true = refl
or_over true true false = refl
or_over true false true = refl
or_over true false false = refl
or_over false b c = refl

-- ---- one pair

-- by whether a pair is x and y, and y and x
abbrev told_by : Bool → Bool → List Bool
told_by c d = elim c [ true ↦ true ∷ [] | false ↦ elim d [ true ↦ false ∷ [] | false ↦ [] ] ]

-- how a pair of paths is met
unfoldable pub told : ℕ → ℕ → ℕ × ℕ → List Bool
told x y p = told_by (eqb p.0 x && eqb p.1 y) (eqb p.1 x && eqb p.0 y)

-- a rule as it is, or flipped
abbrev pub turned : Rule → ℕ → ℕ → Bool → Try
turned r n m b = pick b (interaction r n m) (interaction r m n)

pub pair_told : (g : Graph) (n m : ℕ) (r : Rule) (p : ℕ × ℕ) → try_pair g n m r p ≡ map (turned r n m) (told (name_of g n).path (name_of g m).path p)
unfolding try_pair told pick
pair_told g n m r p = go (eqb p.0 (name_of g n).path && eqb p.1 (name_of g m).path) (eqb p.1 (name_of g n).path && eqb p.0 (name_of g m).path)
  where
    go : (c d : Bool) → ◌≡◌ {A = List Try} (elim c [ true ↦ interaction r n m ∷ [] | false ↦ elim d [ true ↦ interaction r m n ∷ [] | false ↦ [] ] ]) (map (turned r n m) (told_by c d))
    go true d = refl
    go false true = refl
    go false false = refl

map_append : (f : Bool → Try) (xs ys : List Bool) → map f (xs ++ ys) ≡ map f xs ++ map f ys
map_append f [] ys = refl
map_append f (x ∷ xs) ys = ap {B = List Try} (λ l. f x ∷ l) (map_append f xs ys)

pub pairs_told : (g : Graph) (n m : ℕ) (r : Rule) (ps : List (ℕ × ℕ))
    → concat_map (try_pair g n m r) ps ≡ map (turned r n m) (concat_map (told (name_of g n).path (name_of g m).path) ps)
pairs_told g n m r [] = refl
pairs_told g n m r (p ∷ ps) =
    let t = told (name_of g n).path (name_of g m).path in
    ap {B = List Try} (λ l. l ++ concat_map (try_pair g n m r) ps) (pair_told g n m r p) ∙ ap {B = List Try} (λ l. map (turned r n m) (t p) ++ l) (pairs_told g n m r ps)
    ∙ sym (map_append (turned r n m) (t p) (concat_map t ps))

module _ (x y : ℕ) where
  turned_test : (a b : ℕ) → (not (eqb a x && eqb b y) && (eqb b x && eqb a y)) ≡ (not (eqb x y) && (eqb y a && eqb x b))
  turned_test a b = same_test _ _ forth back
    where
      forth : (not (eqb a x && eqb b y) && (eqb b x && eqb a y)) ≡ true → (not (eqb x y) && (eqb y a && eqb x b)) ≡ true
      forth h =
          let u = both (not (eqb a x && eqb b y)) (eqb b x && eqb a y) h in
          let v = both (eqb b x) (eqb a y) u.1 in
          let p : b ≡ x = eqb-true b x v.0 in
          let q : a ≡ y = eqb-true a y v.1 in
          let n : (x ≡ y) → ⊥ = λ i. not_both (eqb a x && eqb b y) (both_are _ _ (eq-eqb a x (q ∙ sym i)) (eq-eqb b y (p ∙ i))) u.0 in
          both_are (not (eqb x y)) _ (false_not _ (ne_eqb x y n)) (both_are (eqb y a) (eqb x b) (eq-eqb y a (sym q)) (eq-eqb x b (sym p)))

      back : (not (eqb x y) && (eqb y a && eqb x b)) ≡ true → (not (eqb a x && eqb b y) && (eqb b x && eqb a y)) ≡ true
      back h =
          let u = both (not (eqb x y)) (eqb y a && eqb x b) h in
          let v = both (eqb y a) (eqb x b) u.1 in
          let q : y ≡ a = eqb-true y a v.0 in
          let p : x ≡ b = eqb-true x b v.1 in
          let n : (a ≡ x) → ⊥ = λ i. not_both (eqb x y) (eq-eqb x y (sym (q ∙ i))) u.0 in
          both_are (not (eqb a x && eqb b y)) _ (rw (ne_eqb a x n)) (both_are (eqb b x) (eqb a y) (eq-eqb b x (sym p)) (eq-eqb a y (sym q)))

  told_straight : (a b : ℕ) → straight (told x y (a, b)) ≡ (eqb x a && eqb y b)
  unfolding told
  told_straight a b = go (eqb a x && eqb b y) (eqb b x && eqb a y) ∙ rw (eqb_turned a x, eqb_turned b y)
    where
      go : (c d : Bool) → straight (told_by c d) ≡ c
      go true d = refl
      go false true = refl
      go false false = refl

  told_flipped : (a b : ℕ) → flipped (told x y (a, b)) ≡ (not (eqb x y) && (eqb y a && eqb x b))
  unfolding told
  told_flipped a b = go (eqb a x && eqb b y) (eqb b x && eqb a y) ∙ turned_test a b
    where
      go : (c d : Bool) → flipped (told_by c d) ≡ (not c && d)
      go true d = refl
      go false true = refl
      go false false = refl

-- ---- one path with a list, two lists

concat_append : {A : Type 0} (f : A → List Bool) (xs ys : List A) → concat_map f (xs ++ ys) ≡ concat_map f xs ++ concat_map f ys
concat_append f [] ys = refl
concat_append f (x ∷ xs) ys = ap {B = List Bool} (λ l. f x ++ l) (concat_append f xs ys) ∙ sym (append_assoc (f x) (concat_map f xs) (concat_map f ys))

-- a row of the cross product
abbrev pub row : ℕ → List ℕ → List (ℕ × ℕ)
row a ns = map (λ b. (a, b)) ns

pub cross_cons : (f : ℕ × ℕ → List Bool) (a : ℕ) (es ns : List ℕ) → concat_map f (cross (a ∷ es) ns) ≡ concat_map f (row a ns) ++ concat_map f (cross es ns)
unfolding cross
cross_cons f a es ns = concat_append f (row a ns) (cross es ns)

module _ (x y : ℕ) where
  pub row_straight : (a : ℕ) (ns : List ℕ) → straight (concat_map (told x y) (row a ns)) ≡ (eqb x a && listed ns y)
  row_straight a [] = sym (and_false (eqb x a))
  row_straight a (b ∷ ns) =
      any_append (λ t. t) (told x y (a, b)) (concat_map (told x y) (row a ns)) ∙ rw (told_straight x y a b, row_straight a ns) (or_under (eqb x a) (eqb y b) (listed ns y))

  pub row_flipped : (a : ℕ) (ns : List ℕ) → flipped (concat_map (told x y) (row a ns)) ≡ (not (eqb x y) && (eqb y a && listed ns x))
  row_flipped a [] = sym (rw (and_false (eqb y a)) (and_false (not (eqb x y))))
  row_flipped a (b ∷ ns) =
      any_append not (told x y (a, b)) (concat_map (told x y) (row a ns))
      ∙ rw (told_flipped x y a b, row_flipped a ns) (or_under (not (eqb x y)) _ _ ∙ ap (λ (t : Bool). not (eqb x y) && t) (or_under (eqb y a) (eqb x b) (listed ns x)))

  pub cross_straight : (es ns : List ℕ) → straight (concat_map (told x y) (cross es ns)) ≡ (listed es x && listed ns y)
  unfolding cross
  cross_straight [] ns = refl
  cross_straight (a ∷ es) ns =
      ap straight (cross_cons (told x y) a es ns) ∙ any_append (λ t. t) (concat_map (told x y) (row a ns)) (concat_map (told x y) (cross es ns))
      ∙ rw (row_straight a ns, cross_straight es ns) (or_over (eqb x a) (listed es x) (listed ns y))

  pub cross_flipped : (es ns : List ℕ) → flipped (concat_map (told x y) (cross es ns)) ≡ (not (eqb x y) && (listed es y && listed ns x))
  unfolding cross
  cross_flipped [] ns = sym (and_false (not (eqb x y)))
  cross_flipped (a ∷ es) ns =
      ap flipped (cross_cons (told x y) a es ns) ∙ any_append not (concat_map (told x y) (row a ns)) (concat_map (told x y) (cross es ns))
      ∙ rw (row_flipped a ns, cross_flipped es ns)
      (or_under (not (eqb x y)) _ _ ∙ ap (λ (t : Bool). not (eqb x y) && t) (or_over (eqb y a) (listed es y) (listed ns x)))

  -- ---- each path with itself

  pub self_straight : (ps : List ℕ) → straight (concat_map (told x y) (map (λ p. (p, p)) ps)) ≡ (eqb x y && listed ps x)
  self_straight [] = sym (and_false (eqb x y))
  self_straight (a ∷ ps) =
      any_append (λ t. t) (told x y (a, a)) (concat_map (told x y) (map (λ p. (p, p)) ps))
      ∙ rw (told_straight x y a a, self_straight ps, one) (or_under (eqb x y) (eqb x a) (listed ps x))
    where
      one : (eqb x a && eqb y a) ≡ (eqb x y && eqb x a)
      one = same_test _ _
          (λ h. let u = both (eqb x a) (eqb y a) h in both_are (eqb x y) (eqb x a) (eq-eqb x y (eqb-true x a u.0 ∙ sym (eqb-true y a u.1))) u.0)
          (λ h. let u = both (eqb x y) (eqb x a) h in both_are (eqb x a) (eqb y a) u.1 (eq-eqb y a (sym (eqb-true x y u.0) ∙ eqb-true x a u.1)))

  pub self_flipped : (ps : List ℕ) → flipped (concat_map (told x y) (map (λ p. (p, p)) ps)) ≡ false
  self_flipped [] = refl
  self_flipped (a ∷ ps) =
      any_append not (told x y (a, a)) (concat_map (told x y) (map (λ p. (p, p)) ps)) ∙ rw (told_flipped x y a a, self_flipped ps, none)
    where
      none : (not (eqb x y) && (eqb y a && eqb x a)) ≡ false
      none = same_test _ _
          (λ h. let u = both (not (eqb x y)) (eqb y a && eqb x a) h in let v = both (eqb y a) (eqb x a) u.1 in
          absurd (not_both (eqb x y) (eq-eqb x y (eqb-true x a v.1 ∙ sym (eqb-true y a v.0))) u.0))
          (λ h. let z : ◌≡◌ {A = ℕ} 0 1 = cc in absurd (omega arith))
