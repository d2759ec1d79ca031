-- Eta's new node has the name of a node of one port.
use Rattle.std.specs.Prelude.{ℕ, ◌+◌, ◌-◌, ◌≡◌, Bool, not, ◌&&◌, ◌||◌, get_or}
use Rattle.std.proofs.Math.Path.{refl, subst}
use Rattle.std.proofs.Common.{sym, ap, arith, eqb-true}
use Rattle.std.proofs.Math.Bool.{true, false}
use Rattle.std.proofs.Math.Option.{Option, none, some}
use mathlib.Core.List.{List, [], ◌∷◌, ◌++◌, map}
use Rattle.std.proofs.Math.Dec.{eqb}
use Rattle.list_laws.specs.Tests.{both}
use Rattle.net_file.specs.Lists.{all}
use Rattle.net_file.specs.Values.{Name}
use Rattle.net_file.specs.Checks.{same_name}
use Rattle.definitions.specs.Lists.{find, concat, zip_with, has}
use Rattle.definitions.specs.Nets.{Port, Graph, port, is_principal, at, name_of, arity, aux, follow}
use Rattle.definitions.specs.Scripts.{Edit, Join, Cut, Script}
use Rattle.definitions.specs.Rules.{new, hang, straight, nil_pair, eta_cuts, eta_nils, eta_values, eta_pair, eta_met, eta_script}
use Rattle.rule_laws.specs.Places.{given_some}
use Rattle.graph_laws.specs.Nodes.{Brings, brings_append}
use Rattle.places_means.specs.Brought.{Differs}

module _ (other : Name) (fresh : ℕ → ℕ) (g : Graph) (ones : (j : ℕ) → arity g j ≡ 1 → name_of g j ≡ other → ⊥) where
  cuts_bring : (ps qs : List Port) → Brings (Differs other) (zip_with Cut ps qs)
  cuts_bring [] qs = tt
  cuts_bring (p ∷ ps) [] = tt
  cuts_bring (p ∷ ps) (q ∷ qs) = cuts_bring ps qs

  -- the first of the values that it takes away
  values_bring : (values : List ℕ) (x : ℕ) (s : Script) (p : Port) (ps : List Port) → aux g x ≡ p ∷ ps → eta_values fresh g values x ≡ some s → Brings (Differs other) s.edits
  unfolding eta_values hang new
  values_bring values x s p ps is h =
      let k = given_some (all (λ n. eqb (arity g n) 1) ns && has values name.path && all (λ n. same_name (name_of g n) name) ns)
      (record { edits = zip_with Cut (aux g x) met ++ hang fresh g 0 (new (at g x).net name 1) (port x 0); dead = x ∷ ns }) s h in
      let bare : all (λ n. eqb (arity g n) 1) ns ≡ true = (both (all (λ n. eqb (arity g n) 1) ns) (has values name.path)
      (both (all (λ n. eqb (arity g n) 1) ns && has values name.path) (all (λ n. same_name (name_of g n) name) ns) k.0).0).0 in
      subst (λ (t : Script). Brings (Differs other) t.edits) k.1
      (brings_append (Differs other) (zip_with Cut (aux g x) met) (hang fresh g 0 (new (at g x).net name 1) (port x 0)) (cuts_bring (aux g x) met)
      (value ns (follow g p).node (map (λ (q : Port). q.node) (map (follow g) ps)) (ap (λ (l : List Port). map (λ (q : Port). q.node) (map (follow g) l)) is) bare, tt))
    where
      met : List Port
      met = map (follow g) (aux g x)

      ns : List ℕ
      ns = map (λ (q : Port). q.node) met

      name : Name
      name = name_of g (get_or ns 0 0)

      value : (ks : List ℕ) (k : ℕ) (rest : List ℕ) → ks ≡ k ∷ rest → all (λ n. eqb (arity g n) 1) ks ≡ true → name_of g (get_or ks 0 0) ≡ other → ⊥
      value ks k rest e bare =
          let b = both (eqb (arity g k) 1) (all (λ n. eqb (arity g n) 1) rest) (subst (λ (l : List ℕ). all (λ n. eqb (arity g n) 1) l ≡ true) e bare) in
          subst (λ (l : List ℕ). name_of g (get_or l 0 0) ≡ other → ⊥) (sym e) (ones k (eqb-true (arity g k) 1 b.0))

  pair_bring : (nils : List ℕ) (x y : ℕ) (s : Script) → eta_pair fresh g nils x y ≡ some s → Brings (Differs other) s.edits
  unfolding eta_pair eta_cuts
  pair_bring nils x y s h =
      subst (λ (t : Script). Brings (Differs other) t.edits)
      (given_some (eqb (arity g x) (arity g y) && same_name (name_of g x) (name_of g y) && all (λ t. t) (zip_with (λ p q. straight fresh g p q || nil_pair fresh g nils p q) (aux g x) (aux g y)))
      (record {
        edits = Join (port x 0) (port y 0) ∷ concat (zip_with (eta_cuts fresh g) (aux g x) (aux g y));
        dead = x ∷ y ∷ concat (zip_with (eta_nils fresh g) (aux g x) (aux g y));
      }) s h).1
      (rows (aux g x) (aux g y))
    where
      cut_both : (p q : Port) → Brings (Differs other) (eta_cuts fresh g p q)
      cut_both p q = go (straight fresh g p q)
        where
          go : (t : Bool) → Brings (Differs other) (elim t as (λ _. List Edit) [ true ↦ Cut p q ∷ [] | false ↦ Cut p (follow g p) ∷ Cut q (follow g q) ∷ [] ])
          go true = tt
          go false = tt

      rows : (ps qs : List Port) → Brings (Differs other) (concat (zip_with (eta_cuts fresh g) ps qs))
      rows [] qs = tt
      rows (p ∷ ps) [] = tt
      rows (p ∷ ps) (q ∷ qs) = brings_append (Differs other) (eta_cuts fresh g p q) (concat (zip_with (eta_cuts fresh g) ps qs)) (cut_both p q) (rows ps qs)

  pub eta_brings : (values nils : List ℕ) (x : ℕ) (s : Script) → eta_script fresh g values nils x ≡ some s → Brings (Differs other) s.edits
  unfolding eta_script eta_met
  eta_brings values nils x s h = go (aux g x) refl h
    where
      met : (p : Port) (ps : List Port) → aux g x ≡ p ∷ ps → (o : Option Port) → eta_met fresh g values nils x o ≡ some s → Brings (Differs other) s.edits
      met p ps is none y = values_bring (values ++ nils) x s p ps is y
      met p ps is (some q) y = pair_bring nils x q.node s y

      go : (l : List Port) → aux g x ≡ l
          → elim l as (λ _. Option Script) [ [] ↦ none | p ∷ ps ↦ eta_met fresh g values nils x (find (λ q. not (is_principal q)) (map (follow g) (p ∷ ps))) ] ≡ some s → Brings (Differs other) s.edits
      go [] is k = let z : ◌≡◌ {A = ℕ} 0 1 = cc in absurd (omega arith)
      go (p ∷ ps) is k = met p ps is (find (λ q. not (is_principal q)) (map (follow g) (p ∷ ps))) k
