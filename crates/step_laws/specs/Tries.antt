-- What a visit tries: registered rules, where principal port meets principal port, or on the node's own path.
use Rattle.std.specs.Prelude.{◌≡◌, ◌≢◌, ◌⊎◌, ℕ, zero, suc, ◌<◌, Bool, false, ◌&&◌}
use Rattle.std.proofs.Math.Path.{refl, sym}
use Rattle.std.proofs.Common.{ap, ◌∙◌, subst, inl, inr, arith, true≢false}
use Rattle.std.proofs.Math.Bool.{true}
use Rattle.std.proofs.Math.Option.{Option, none, some}
use mathlib.Core.List.Memᴰ
use mathlib.Core.List.{List, [], ◌∷◌, ◌++◌, map, Memᴰ}
use Rattle.std.proofs.Math.Dec.{eqb}
use borrow.Author.Tests.{eqb-true}
use Rattle.list_laws.specs.Tests.{both}
use Rattle.net_file.specs.Lists.{concat_map}
use Rattle.net_file.specs.Values.{Rule}
use Rattle.definitions.specs.Lists.{keep}
use Rattle.definitions.specs.Nets.{Port, Graph, port, is_principal, filled, name_of, arity, across, follow}
use Rattle.definitions.specs.Step.{pairs, rewrites}
use Rattle.definitions.specs.Visit.{Try, interaction, rewrite, try_pair, interactions, tries}
use Rattle.join_laws.specs.Ports.{same_port_lem}
use Rattle.script_laws.specs.Tidy.{WellWired}
use Rattle.rule_laws.specs.Places.{Ported, follow_across}

-- a rule that may be tried on its nodes; n is the node visited
abbrev pub Valid : List Rule → Graph → ℕ → Try → Type 0
Valid rules g n (interaction r a b) = Memᴰ r rules × Memᴰ ((name_of g a).path, (name_of g b).path) (pairs r) × (across g (port a 0) ≡ some (port b 0))
Valid rules g n (rewrite r a) = Memᴰ r rules × Memᴰ (name_of g a).path (rewrites r) × (a ≡ n)

-- all of a list
pub data All {A : Type 0} (P : A → Type 0) : List A → Type 0 where
  nil : All P []
  cons : {x : A} {xs : List A} → P x → All P xs → All P (x ∷ xs)

module _ {A : Type 0} (P : A → Type 0) where
  pub all_append : (xs ys : List A) → All P xs → All P ys → All P (xs ++ ys)
  all_append [] ys p q = q
  all_append (x ∷ xs) ys (cons h p) q = cons h (all_append xs ys p q)

  pub all_concat : {B : Type 0} (f : B → List A) (xs : List B) → ((x : B) → Memᴰ x xs → All P (f x)) → All P (concat_map f xs)
  all_concat f [] h = nil
  all_concat f (x ∷ xs) h = all_append (f x) (concat_map f xs) (h x (Memᴰ.head refl)) (all_concat f xs (λ y m. h y (Memᴰ.tail m)))

  pub all_map : {B : Type 0} (f : B → A) (xs : List B) → ((x : B) → Memᴰ x xs → P (f x)) → All P (map f xs)
  all_map f [] h = nil
  all_map f (x ∷ xs) h = cons (h x (Memᴰ.head refl)) (all_map f xs (λ y m. h y (Memᴰ.tail m)))

-- what is kept was there, and passes
pub keep_both : (f : ℕ → Bool) (xs : List ℕ) (n : ℕ) → Memᴰ n (keep f xs) → Memᴰ n xs × (f n ≡ true)
keep_both f [] n m = absurd (Memᴰ.not-nil m)
keep_both f (x ∷ xs) n m = go (f x) refl m (keep_both f xs n)
  where
    go : (t : Bool) → f x ≡ t → Memᴰ n (elim t as (λ _. List ℕ) [ true ↦ x ∷ keep f xs | false ↦ keep f xs ]) → (Memᴰ n (keep f xs) → Memᴰ n xs × (f n ≡ true)) → Memᴰ n (x ∷ xs) × (f n ≡ true)
    go true e k r = via (Memᴰ.cases_cons k)
      where
        via : (n ≡ x) ⊎ Memᴰ n (keep f xs) → Memᴰ n (x ∷ xs) × (f n ≡ true)
        via (inl s) = (Memᴰ.head s, ap f s ∙ e)
        via (inr q) = let y = r q in (Memᴰ.tail y.0, y.1)
    go false e k r = let y = r k in (Memᴰ.tail y.0, y.1)

module _ (rules : List Rule) (g : Graph) (w : WellWired g) (n : ℕ) (port' : 0 < arity g n) where
  -- where the principal ports of n and m meet
  pair_valid : (m : ℕ) → across g (port n 0) ≡ some (port m 0) → (r : Rule) → Memᴰ r rules → (p : ℕ × ℕ) → Memᴰ p (pairs r) → All (Valid rules g n) (try_pair g n m r p)
  unfolding try_pair
  pair_valid m met r x p q = go (eqb p.0 (name_of g n).path && eqb p.1 (name_of g m).path) (eqb p.1 (name_of g n).path && eqb p.0 (name_of g m).path) refl refl
    where
      same : (a b : ℕ) → (eqb p.0 a && eqb p.1 b) ≡ true → Memᴰ (a, b) (pairs r)
      same a b e =
          let y = both (eqb p.0 a) (eqb p.1 b) e in
          let s : p.0 ≡ a = eqb-true p.0 a y.0 in
          let t : p.1 ≡ b = eqb-true p.1 b y.1 in
          Memᴰ.cast (λ i. (sym s i, sym t i)) q

      swap : (a b : ℕ) → (eqb p.1 b && eqb p.0 a) ≡ true → Memᴰ (a, b) (pairs r)
      swap a b e =
          let y = both (eqb p.1 b) (eqb p.0 a) e in
          let s : p.0 ≡ a = eqb-true p.0 a y.1 in
          let t : p.1 ≡ b = eqb-true p.1 b y.0 in
          Memᴰ.cast (λ i. (sym s i, sym t i)) q

      go : (s t : Bool) → (eqb p.0 (name_of g n).path && eqb p.1 (name_of g m).path) ≡ s → (eqb p.1 (name_of g n).path && eqb p.0 (name_of g m).path) ≡ t
          → All (Valid rules g n) (elim s as (λ _. List Try) [ true ↦ interaction r n m ∷ [] | false ↦ elim t as (λ _. List Try) [ true ↦ interaction r m n ∷ [] | false ↦ [] ] ])
      go true t e d = cons {x = interaction r n m} (x, same (name_of g n).path (name_of g m).path e, met) nil
      go false true e d = cons {x = interaction r m n} (x, swap (name_of g m).path (name_of g n).path d, w.wired.back (port n 0) (port m 0) met) nil
      go false false e d = nil

  interactions_valid : All (Valid rules g n) (interactions rules g n (follow g (port n 0)))
  unfolding interactions is_principal
  interactions_valid = go (eqb (follow g (port n 0)).index 0) refl
    where
      q : Port
      q = follow g (port n 0)

      go : (t : Bool) → eqb (follow g (port n 0)).index 0 ≡ t
          → All (Valid rules g n) (elim t as (λ _. List Try) [ true ↦ concat_map (λ r. concat_map (try_pair g n (follow g (port n 0)).node r) (pairs r)) rules | false ↦ [] ])
      go false e = nil
      go true e =
          let met : across g (port n 0) ≡ some (port (follow g (port n 0)).node 0) =
          follow_across g w (port n 0) port' ∙ ap {B = Option Port} some (same_port_lem (follow g (port n 0)) (port (follow g (port n 0)).node 0) refl (eqb-true (follow g (port n 0)).index 0 e)) in
          all_concat (Valid rules g n) (λ r. concat_map (try_pair g n (follow g (port n 0)).node r) (pairs r)) rules
          (λ r x. all_concat (Valid rules g n) (try_pair g n (follow g (port n 0)).node r) (pairs r) (λ p y. pair_valid (follow g (port n 0)).node met r x p y))

  pub tries_valid : All (Valid rules g n) (tries rules g n)
  unfolding tries
  tries_valid =
      all_append (Valid rules g n) (interactions rules g n (follow g (port n 0))) (concat_map (λ r. map (λ p. rewrite r n) (keep (eqb (name_of g n).path) (rewrites r))) rules)
      interactions_valid
      (all_concat (Valid rules g n) (λ r. map (λ p. rewrite r n) (keep (eqb (name_of g n).path) (rewrites r))) rules
      (λ r x. all_map (Valid rules g n) (λ p. rewrite r n) (keep (eqb (name_of g n).path) (rewrites r))
      (λ p y. let z = keep_both (eqb (name_of g n).path) (rewrites r) p y in (x, Memᴰ.cast (eqb-true (name_of g n).path p z.1) z.0, refl))))
