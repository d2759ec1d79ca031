-- Eta leaves the nets well wired: the combinator form from its test, and both forms.
use Rattle.std.specs.Prelude.{◌≡◌, refl, ◌≢◌, ◌⊎◌, true, false, not, ◌&&◌, ◌||◌, List, [], ◌∷◌, ◌++◌, map, eqb}
use Rattle.std.proofs.Common.{sym, ap, ◌∙◌, subst, inl, inr, arith, true≢false, eqb-true, eq-eqb}
use Prim.Native.Nat.{ℕ, zero, suc, ◌+◌, ◌-◌, ◌<◌, ◌≤◌}
use Rattle.std.proofs.Math.Bool.{Bool}
use Rattle.std.proofs.lemmas.Bool.{false≢true, not-true}
use Rattle.std.proofs.Math.Option.{Option, none, some, some-injective}
use Rattle.list_laws.specs.Tests.{both, either}
use Rattle.net_file.specs.Lists.{all}
use Rattle.net_file.specs.Checks.{same_name}
use Rattle.definitions.specs.Lists.{find, concat, zip_with, up_to, has}
use Rattle.definitions.specs.Nets.{Port, Graph, port, same_port, is_principal, at, filled, name_of, arity, aux, across, follow}
use Rattle.definitions.specs.Scripts.{Edit, Join, Cut, Script}
use Rattle.definitions.specs.Rules.{straight, nil_pair, eta_cuts, eta_nils, eta_pair, eta_met, eta_script}
use Rattle.definitions.specs.Step.{Fresh}
use Rattle.join_laws.specs.Ports.{same_port_true, Real}
use Rattle.script_laws.specs.Tidy.{WellWired}
use Rattle.rule_laws.specs.Places.{given_some, zip_rows, Clean, tidy_clean, follow_across}
use Rattle.rule_laws.specs.Rows.{all_row, find_row, map_map, aux_row}
use Rattle.rule_laws.specs.EtaValues.{values_clean}
use Rattle.rule_laws.specs.EtaPair.{Facing}
use Rattle.rule_laws.specs.EtaTidy.{paired, paired_tidy, paired_once, Ends}

module _ (fresh : ℕ → ℕ) (g : Graph) (nils : List ℕ) (a b : ℕ) where
  -- the test of aux ports i
  abbrev pub faces : ℕ → Bool
  faces i = straight fresh g (port a (1 + i)) (port b (1 + i)) || nil_pair fresh g nils (port a (1 + i)) (port b (1 + i))

  -- the script, as it is written and by rows
  abbrev as_written : Script
  as_written = record {
    edits = Join (port a 0) (port b 0) ∷ concat (zip_with (eta_cuts fresh g) (aux g a) (aux g b));
    dead = a ∷ b ∷ concat (zip_with (eta_nils fresh g) (aux g a) (aux g b));
  }

  abbrev pub by_rows : Script
  by_rows = record {
    edits = Join (port a 0) (port b 0) ∷ concat (map (λ i. eta_cuts fresh g (port a (1 + i)) (port b (1 + i))) (up_to (arity g a - 1)));
    dead = a ∷ b ∷ concat (map (λ i. eta_nils fresh g (port a (1 + i)) (port b (1 + i))) (up_to (arity g a - 1)));
  }

  pub record Paired (c : ℕ) : Type 0 where
    pub size : arity g a ≡ arity g b
    pub name : same_name (name_of g a) (name_of g b) ≡ true
    pub each : (i : ℕ) → i < c → faces i ≡ true

  -- aux ports i face each other, or both meet a node of one port
  pub faces_meets : (i : ℕ) → faces i ≡ true
      → (follow g (port a (1 + i)) ≡ port b (1 + i)) ⊎ ((arity g (follow g (port a (1 + i))).node ≡ 1) × (arity g (follow g (port b (1 + i))).node ≡ 1))
  unfolding straight nil_pair
  faces_meets i e = go (either (same_port (follow g (port a (1 + i))) (port b (1 + i))) (nil_pair fresh g nils (port a (1 + i)) (port b (1 + i))) e)
    where
      m : ℕ
      m = (follow g (port a (1 + i))).node

      n : ℕ
      n = (follow g (port b (1 + i))).node

      go : (same_port (follow g (port a (1 + i))) (port b (1 + i)) ≡ true) ⊎ (nil_pair fresh g nils (port a (1 + i)) (port b (1 + i)) ≡ true)
          → (follow g (port a (1 + i)) ≡ port b (1 + i)) ⊎ ((arity g (follow g (port a (1 + i))).node ≡ 1) × (arity g (follow g (port b (1 + i))).node ≡ 1))
      go (inl s) = inl (same_port_true (follow g (port a (1 + i))) (port b (1 + i)) s)
      go (inr s) =
          let x = both (eqb (arity g m) 1 && eqb (arity g n) 1 && same_name (name_of g m) (name_of g n)) (has nils (name_of g m).path) s in
          let y = both (eqb (arity g m) 1 && eqb (arity g n) 1) (same_name (name_of g m) (name_of g n)) x.0 in
          let z = both (eqb (arity g m) 1) (eqb (arity g n) 1) y.0 in
          inr (eqb-true (arity g m) 1 z.0, eqb-true (arity g n) 1 z.1)

  -- what the combinator form tests, and its script
  pub pair_script : (s : Script) → eta_pair fresh g nils a b ≡ some s
      → Paired (arity g a - 1)
      × (by_rows ≡ s)
  unfolding eta_pair
  pair_script s h = (record { size = size; name = z.1; each = λ i l. each i l }, script ∙ k.1)
    where
      meet : Port → Port → Bool
      meet p q = straight fresh g p q || nil_pair fresh g nils p q

      row : ℕ → List Port
      row n = map (λ i. port n (1 + i)) (up_to (arity g a - 1))

      k : ((eqb (arity g a) (arity g b) && same_name (name_of g a) (name_of g b) && all (λ t. t) (zip_with (λ p q. straight fresh g p q || nil_pair fresh g nils p q) (aux g a) (aux g b))) ≡ true)
          × (as_written ≡ s)
      k = given_some (eqb (arity g a) (arity g b) && same_name (name_of g a) (name_of g b) && all (λ t. t) (zip_with (λ p q. straight fresh g p q || nil_pair fresh g nils p q) (aux g a) (aux g b)))
          as_written s h

      y : ((eqb (arity g a) (arity g b) && same_name (name_of g a) (name_of g b)) ≡ true)
          × (all (λ t. t) (zip_with (λ p q. straight fresh g p q || nil_pair fresh g nils p q) (aux g a) (aux g b)) ≡ true)
      y = both (eqb (arity g a) (arity g b) && same_name (name_of g a) (name_of g b)) (all (λ t. t) (zip_with (λ p q. straight fresh g p q || nil_pair fresh g nils p q) (aux g a) (aux g b))) k.0

      z : (eqb (arity g a) (arity g b) ≡ true) × (same_name (name_of g a) (name_of g b) ≡ true)
      z = both (eqb (arity g a) (arity g b)) (same_name (name_of g a) (name_of g b)) y.0

      size : arity g a ≡ arity g b
      size = eqb-true (arity g a) (arity g b) z.0

      zipped : {A : Type 0} (f : Port → Port → A) → zip_with f (aux g a) (aux g b) ≡ map (λ i. f (port a (1 + i)) (port b (1 + i))) (up_to (arity g a - 1))
      zipped f =
          ap (λ (l : List Port). zip_with f l (aux g b)) (aux_row g a)
          ∙ ap (zip_with f (row a)) (aux_row g b ∙ ap (λ (n : ℕ). map (λ i. port b (1 + i)) (up_to (n - 1))) (sym size))
          ∙ zip_rows f (λ i. port a (1 + i)) (λ i. port b (1 + i)) (up_to (arity g a - 1))

      each : (i : ℕ) → i < arity g a - 1 → faces i ≡ true
      each i l = all_row faces (λ t. t) (arity g a - 1) 0 (subst (λ (ts : List Bool). all (λ t. t) ts ≡ true) (zipped meet) y.1) i (omega arith) (omega arith)

      script : by_rows ≡ as_written
      script = λ u. record {
        edits = Join (port a 0) (port b 0) ∷ concat (sym (zipped (eta_cuts fresh g)) u);
        dead = a ∷ b ∷ concat (sym (zipped (eta_nils fresh g)) u);
      }

  -- the node that aux port k meets makes a pair
  pub facing : WellWired g → Paired (arity g a - 1) → (k : ℕ) → k < arity g a - 1 → (follow g (port a (1 + k))).node ≡ b → Facing g a b (arity g a - 1)
  facing w t k l m = record {
    size_a = omega arith;
    size_b = let z = t.size in omega arith;
    some_aux = omega arith;
    differ = differ;
    one_net = w.wired.within (port a (1 + k)) (follow g (port a (1 + k))) wire ∙ ap (λ (n : ℕ). (at g n).net) m;
    meets = λ i h. faces_meets i (t.each i h);
  }
    where
      wire : across g (port a (1 + k)) ≡ some (follow g (port a (1 + k)))
      wire = follow_across g w (port a (1 + k)) (omega arith)

      differ : a ≢ b
      differ s = go (faces_meets k (t.each k l))
        where
          go : (follow g (port a (1 + k)) ≡ port b (1 + k)) ⊎ ((arity g (follow g (port a (1 + k))).node ≡ 1) × (arity g (follow g (port b (1 + k))).node ≡ 1)) → ⊥
          go (inl e) = w.wired.apart (port a (1 + k)) (wire ∙ ap {B = Option Port} some (e ∙ ap (λ (n : ℕ). port n (1 + k)) (sym s)))
          go (inr e) = let z : arity g a ≡ 1 = ap (arity g) (s ∙ sym m) ∙ e.0 in omega arith

  -- the combinator form leaves the nets well wired
  pub pair_clean : WellWired g → (k : ℕ) → k < arity g a - 1 → (follow g (port a (1 + k))).node ≡ b → (s : Script) → eta_pair fresh g nils a b ≡ some s → Clean g s
  pair_clean w k l m s h =
      let x = pair_script s h in
      let t = facing w x.0 k l m in
      subst (Clean g) x.1 (tidy_clean g (paired fresh g w a b (arity g a - 1) t) (Ends fresh g w a b (arity g a - 1) t) w (paired_tidy fresh g w a b (arity g a - 1) t) (paired_once fresh g w a b (arity g a - 1) t))

-- eta leaves the nets well wired
pub eta_clean : (fresh : ℕ → ℕ) (g : Graph) → WellWired g → Fresh g fresh → (values nils : List ℕ) (a : ℕ) (s : Script) → eta_script fresh g values nils a ≡ some s → Clean g s
unfolding eta_script eta_met
eta_clean fresh g w f values nils a s h = go (aux g a) refl h
  where
    go : (l : List Port) → aux g a ≡ l
        → elim l as (λ _. Option Script) [ [] ↦ none | p ∷ ps ↦ eta_met fresh g values nils a (find (λ q. not (is_principal q)) (map (follow g) (p ∷ ps))) ] ≡ some s
        → Clean g s
    go [] e k = let z : ◌≡◌ {A = ℕ} 0 1 = cc in absurd (omega arith)
    go (p ∷ ps) e k = met (find (λ q. not (is_principal q)) (map (follow g) (p ∷ ps))) refl k
      where
        row : p ∷ ps ≡ map (λ i. port a (1 + i)) (up_to (arity g a - 1))
        row = sym e ∙ aux_row g a

        some_aux : 2 ≤ arity g a
        some_aux = via (arity g a - 1) refl row
          where
            via : (n : ℕ) → arity g a - 1 ≡ n → p ∷ ps ≡ map (λ i. port a (1 + i)) (up_to n) → 2 ≤ arity g a
            via zero m x = let z : ◌≡◌ {A = ℕ} 0 1 = cc in absurd (omega arith)
            via (suc n) m x = omega arith

        met : (o : Option Port) → find (λ q. not (is_principal q)) (map (follow g) (p ∷ ps)) ≡ o → eta_met fresh g values nils a o ≡ some s → Clean g s
        met none x y = values_clean fresh g w f (values ++ nils) a some_aux s y
        met (some q) x y =
            let r = find_row (λ i. follow g (port a (1 + i))) (λ q. not (is_principal q)) (arity g a - 1) 0 q
            (ap (find (λ q. not (is_principal q))) (sym (map_map (follow g) (λ i. port a (1 + i)) (up_to (arity g a - 1))) ∙ ap (map (follow g)) (sym row)) ∙ x) in
            pair_clean fresh g nils a q.node w r.0 (let z = r.2 in omega arith) (ap (λ (t : Port). t.node) (sym r.3)) s y
