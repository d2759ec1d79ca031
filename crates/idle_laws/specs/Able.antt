-- Where eta and an interaction can act, said port by port and without numbers for new nodes.
use Prim.Native.Nat.{ℕ, zero, suc, ◌+◌, ◌-◌, ◌<◌}
use Rattle.std.proofs.Math.Path.{◌≡◌, refl, sym, ap}
use Rattle.std.proofs.Common.{◌∙◌, inl, inr, true≢false}
use Rattle.std.specs.Prelude.{◌⊎◌, Bool, false, ◌&&◌, ◌||◌}
use native.Mathlib.Omega.{arith}
use Rattle.std.proofs.Math.Bool.{true, not}
use Rattle.std.proofs.lemmas.Bool.{false≢true}
use Rattle.std.proofs.Math.Option.{Option, none, some}
use mathlib.Core.List.{List, [], ◌∷◌, ◌++◌, map}
use Rattle.std.proofs.Math.ListN.{get_or}
use Rattle.std.proofs.Math.Dec.{eqb}
use borrow.Author.Tests.{eqb-true, eq-eqb, not-true}
use Rattle.list_laws.specs.Tests.{both, both_are, either}
use Rattle.net_file.specs.Lists.{all}
use Rattle.net_file.specs.Values.{Rule, graft, annihilate, erase, commute, eta}
use Rattle.net_file.specs.Checks.{same_name}
use Rattle.definitions.specs.Lists.{find, concat, zip_with, up_to, has, given}
use Rattle.definitions.specs.Nets.{Port, Graph, port, same_port, is_principal, at, name_of, arity, aux, follow}
use Rattle.definitions.specs.Scripts.{Join, Cut, Script}
use Rattle.definitions.specs.Rules.{new, hang, annihilate_script, erase_script, commute_script, straight, nil_pair, eta_cuts, eta_nils, eta_values, eta_pair, eta_met, eta_script, interact}
use Rattle.join_laws.specs.Ports.{same_port_true, same_port_self}
use Rattle.rule_laws.specs.Places.{given_some, zip_rows}
use Rattle.rule_laws.specs.Rows.{all_row, map_map, aux_row}
use Rattle.rule_laws.specs.Eta.{pair_script}
use Rattle.idle_laws.specs.Rows.{name_is, is_name, row_all, row_find, row_none, first_row, none_row}

not_off : (t : Bool) → not t ≡ false → t ≡ true
not_off true q = refl
not_off false q = absurd (true≢false q)

-- a script is given exactly if its test holds
given_not : (t : Bool) (s : Script) → t ≡ true → given t s ≡ none → ⊥
given_not true s e k = let z : ◌≡◌ {A = ℕ} 0 1 = cc in omega arith
given_not false s e k = false≢true e

given_off : (t u : Bool) (x y s : Script) → u ≡ t → given t x ≡ some s → given u y ≡ none → ⊥
given_off t u x y s q h k = given_not u y (q ∙ (given_some t x s h).0) k

-- ---- eta

-- what aux port i of a meets
abbrev pub meets : Graph → ℕ → ℕ → Port
meets g a i = follow g (port a (1 + i))

-- the value form: every aux port meets a principal port of a node of one port, all of one name, a value's
pub record Valued (g : Graph) (values : List ℕ) (a : ℕ) : Type 0 where
  pub more : 0 < arity g a - 1
  pub met : (i : ℕ) → i < arity g a - 1 → is_principal (meets g a i) ≡ true
  pub bare : (i : ℕ) → i < arity g a - 1 → arity g (meets g a i).node ≡ 1
  pub value : has values (name_of g (meets g a 0).node).path ≡ true
  pub alike : (i : ℕ) → i < arity g a - 1 → name_of g (meets g a i).node ≡ name_of g (meets g a 0).node

-- the aux ports i of a and b meet nils
pub record Nils (g : Graph) (nils : List ℕ) (p q : Port) : Type 0 where
  pub first : arity g (follow g p).node ≡ 1
  pub second : arity g (follow g q).node ≡ 1
  pub alike : name_of g (follow g p).node ≡ name_of g (follow g q).node
  pub nil : has nils (name_of g (follow g p).node).path ≡ true

-- the combinator form: aux port k is the first that meets no principal port, and meets b
pub record Coupled (g : Graph) (nils : List ℕ) (a b : ℕ) : Type 0 where
  pub k : ℕ
  pub low : k < arity g a - 1
  pub met : is_principal (meets g a k) ≡ false
  pub before : (i : ℕ) → i < k → is_principal (meets g a i) ≡ true
  pub other : (meets g a k).node ≡ b
  pub size : arity g a ≡ arity g b
  pub name : name_of g a ≡ name_of g b
  pub each : (i : ℕ) → i < arity g a - 1 → (meets g a i ≡ port b (1 + i)) ⊎ Nils g nils (port a (1 + i)) (port b (1 + i))

-- eta can act at a: alone, or with b
abbrev pub Able : Graph → List ℕ → List ℕ → ℕ → Option ℕ → Type 0
Able g vs ns a none = Valued g (vs ++ ns) a
Able g vs ns a (some b) = Coupled g ns a b

module _ (fresh : ℕ → ℕ) (g : Graph) (a : ℕ) where
  abbrev open' : Port → Bool
  open' q = not (is_principal q)

  abbrev c : ℕ
  c = arity g a - 1

  met_row : map (follow g) (aux g a) ≡ map (meets g a) (up_to c)
  met_row = ap (map (follow g)) (aux_row g a) ∙ map_map (follow g) (λ i. port a (1 + i)) (up_to c)

  abbrev node_at : ℕ → ℕ
  node_at i = (meets g a i).node

  nodes_row : map (λ (q : Port). q.node) (map (follow g) (aux g a)) ≡ map node_at (up_to c)
  nodes_row = ap (map (λ (q : Port). q.node)) met_row ∙ map_map (λ (q : Port). q.node) (meets g a) (up_to c)

  first_node : 0 < c → get_or (map node_at (up_to c)) 0 0 ≡ node_at 0
  first_node l = go c l
    where
      go : (n : ℕ) → 0 < n → get_or (map node_at (up_to n)) 0 0 ≡ node_at 0
      go zero x = absurd (omega arith)
      go (suc n) x = refl

  -- the test of the value form, over the nodes that are met
  abbrev values_test : List ℕ → List ℕ → Bool
  values_test values ns =
      all (λ n. eqb (arity g n) 1) ns && has values (name_of g (get_or ns 0 0)).path && all (λ n. same_name (name_of g n) (name_of g (get_or ns 0 0))) ns

  values_test_lem : (values : List ℕ) → values_test values (map (λ (q : Port). q.node) (map (follow g) (aux g a))) ≡ values_test values (map node_at (up_to c))
  values_test_lem values = ap (values_test values) nodes_row

  abbrev values_script : Script
  values_script =
      let met = map (follow g) (aux g a) in
      let ns = map (λ (q : Port). q.node) met in
      record { edits = zip_with Cut (aux g a) met ++ hang fresh g 0 (new (at g a).net (name_of g (get_or ns 0 0)) 1) (port a 0); dead = a ∷ ns }

  values_able : (values : List ℕ) (s : Script) → 0 < c → ((i : ℕ) → i < c → is_principal (meets g a i) ≡ true) → eta_values fresh g values a ≡ some s → Valued g values a
  unfolding eta_values
  values_able values s l p h =
      let t = sym (values_test_lem values) ∙ (given_some (values_test values (map (λ (q : Port). q.node) (map (follow g) (aux g a)))) values_script s h).0 in
      let ns = map node_at (up_to c) in
      let name = name_of g (get_or ns 0 0) in
      let q : get_or ns 0 0 ≡ node_at 0 = first_node l in
      let x = both (all (λ n. eqb (arity g n) 1) ns && has values name.path) (all (λ n. same_name (name_of g n) name) ns) t in
      let y = both (all (λ n. eqb (arity g n) 1) ns) (has values name.path) x.0 in
      record {
        more = l;
        met = p;
        bare = λ i u. eqb-true (arity g (node_at i)) 1 (all_row node_at (λ n. eqb (arity g n) 1) c 0 y.0 i (omega arith) (omega arith));
        value = ap (λ (n : ℕ). has values (name_of g n).path) (sym q) ∙ y.1;
        alike = λ i u. name_is (name_of g (node_at i)) name (all_row node_at (λ n. same_name (name_of g n) name) c 0 x.1 i (omega arith) (omega arith)) ∙ ap (name_of g) q;
      }

  able_values : (values : List ℕ) → Valued g values a → eta_values fresh g values a ≡ none → ⊥
  unfolding eta_values
  able_values values v h =
      let ns = map node_at (up_to c) in
      let q : get_or ns 0 0 ≡ node_at 0 = first_node v.more in
      let name = name_of g (get_or ns 0 0) in
      let t : values_test values ns ≡ true =
      both_are (all (λ n. eqb (arity g n) 1) ns && has values name.path) (all (λ n. same_name (name_of g n) name) ns)
      (both_are (all (λ n. eqb (arity g n) 1) ns) (has values name.path) (row_all node_at (λ n. eqb (arity g n) 1) c 0 (λ i l u. eq-eqb (arity g (node_at i)) 1 (v.bare i (omega arith)))) (ap (λ (n : ℕ). has values (name_of g n).path) q ∙ v.value))
      (row_all node_at (λ n. same_name (name_of g n) name) c 0 (λ i l u. is_name (name_of g (node_at i)) name (v.alike i (omega arith) ∙ ap (name_of g) (sym q)))) in
      given_not (values_test values (map (λ (q : Port). q.node) (map (follow g) (aux g a)))) values_script (values_test_lem values ∙ t) h

  -- ---- the combinator form

  module _ (nils : List ℕ) (b : ℕ) where
    abbrev meet : Port → Port → Bool
    meet p q = straight fresh g p q || nil_pair fresh g nils p q

    faces_able : (p q : Port) → meet p q ≡ true → (follow g p ≡ q) ⊎ Nils g nils p q
    unfolding straight nil_pair
    faces_able p q e = go (either (same_port (follow g p) q) (nil_pair fresh g nils p q) e)
      where
        m : ℕ
        m = (follow g p).node

        n : ℕ
        n = (follow g q).node

        go : (same_port (follow g p) q ≡ true) ⊎ (nil_pair fresh g nils p q ≡ true) → (follow g p ≡ q) ⊎ Nils g nils p q
        go (inl s) = inl (same_port_true (follow g p) q s)
        go (inr s) =
            let x = both (eqb (arity g m) 1 && eqb (arity g n) 1 && same_name (name_of g m) (name_of g n)) (has nils (name_of g m).path) s in
            let y = both (eqb (arity g m) 1 && eqb (arity g n) 1) (same_name (name_of g m) (name_of g n)) x.0 in
            let z = both (eqb (arity g m) 1) (eqb (arity g n) 1) y.0 in
            inr (record { first = eqb-true (arity g m) 1 z.0; second = eqb-true (arity g n) 1 z.1; alike = name_is (name_of g m) (name_of g n) y.1; nil = x.1 })

    able_faces : (p q : Port) → (follow g p ≡ q) ⊎ Nils g nils p q → meet p q ≡ true
    unfolding straight nil_pair
    able_faces p q (inl e) = ap (λ (t : Bool). t || nil_pair fresh g nils p q) (ap (λ (r : Port). same_port r q) e ∙ same_port_self q)
    able_faces p q (inr x) = go (same_port (follow g p) q)
        (both_are (eqb (arity g m) 1 && eqb (arity g n) 1 && same_name (name_of g m) (name_of g n)) (has nils (name_of g m).path)
        (both_are (eqb (arity g m) 1 && eqb (arity g n) 1) (same_name (name_of g m) (name_of g n))
        (both_are (eqb (arity g m) 1) (eqb (arity g n) 1) (eq-eqb (arity g m) 1 x.first) (eq-eqb (arity g n) 1 x.second)) (is_name (name_of g m) (name_of g n) x.alike)) x.nil)
      where
        m : ℕ
        m = (follow g p).node

        n : ℕ
        n = (follow g q).node

        go : (t : Bool) {u : Bool} → u ≡ true → (t || u) ≡ true
        go true e = refl
        go false e = e

    abbrev pair_test : Bool
    pair_test = eqb (arity g a) (arity g b) && same_name (name_of g a) (name_of g b) && all (λ t. t) (zip_with (λ p q. straight fresh g p q || nil_pair fresh g nils p q) (aux g a) (aux g b))

    zipped : arity g a ≡ arity g b → zip_with meet (aux g a) (aux g b) ≡ map (λ i. meet (port a (1 + i)) (port b (1 + i))) (up_to c)
    zipped size =
        ap (λ (l : List Port). zip_with meet l (aux g b)) (aux_row g a)
        ∙ ap (zip_with meet (map (λ i. port a (1 + i)) (up_to c))) (aux_row g b ∙ ap (λ (n : ℕ). map (λ i. port b (1 + i)) (up_to (n - 1))) (sym size))
        ∙ zip_rows meet (λ i. port a (1 + i)) (λ i. port b (1 + i)) (up_to c)

    pair_able : (k : ℕ) (s : Script) → k < c → is_principal (meets g a k) ≡ false → ((i : ℕ) → i < k → is_principal (meets g a i) ≡ true) → (meets g a k).node ≡ b → eta_pair fresh g nils a b ≡ some s → Coupled g nils a b
    pair_able k s l m p o h =
        let x = (pair_script fresh g nils a b s h).0 in
        record { k = k; low = l; met = m; before = p; other = o; size = x.size; name = name_is (name_of g a) (name_of g b) x.name; each = λ i u. faces_able (port a (1 + i)) (port b (1 + i)) (x.each i u) }

    able_pair : Coupled g nils a b → eta_pair fresh g nils a b ≡ none → ⊥
    unfolding eta_pair
    able_pair x h =
        let t : pair_test ≡ true =
        both_are (eqb (arity g a) (arity g b) && same_name (name_of g a) (name_of g b)) (all (λ t. t) (zip_with meet (aux g a) (aux g b)))
        (both_are (eqb (arity g a) (arity g b)) (same_name (name_of g a) (name_of g b)) (eq-eqb (arity g a) (arity g b) x.size) (is_name (name_of g a) (name_of g b) x.name))
        (ap (all (λ t. t)) (zipped x.size) ∙ row_all (λ i. meet (port a (1 + i)) (port b (1 + i))) (λ t. t) c 0 (λ i l u. able_faces (port a (1 + i)) (port b (1 + i)) (x.each i (omega arith)))) in
        given_not pair_test (record {
          edits = Join (port a 0) (port b 0) ∷ concat (zip_with (eta_cuts fresh g) (aux g a) (aux g b));
          dead = a ∷ b ∷ concat (zip_with (eta_nils fresh g) (aux g a) (aux g b));
        }) t h

  -- ---- both forms

  -- where eta has a script
  pub eta_able : (vs ns : List ℕ) (s : Script) → eta_script fresh g vs ns a ≡ some s → (o : Option ℕ) × Able g vs ns a o
  unfolding eta_script eta_met
  eta_able vs ns s h = go (aux g a) refl h
    where
      go : (l : List Port) → aux g a ≡ l
          → elim l as (λ _. Option Script) [ [] ↦ none | p ∷ ps ↦ eta_met fresh g vs ns a (find (λ q. not (is_principal q)) (map (follow g) (p ∷ ps))) ] ≡ some s → (o : Option ℕ) × Able g vs ns a o
      go [] e k = absurd (let z : ◌≡◌ {A = ℕ} 0 1 = cc in omega arith)
      go (p ∷ ps) e k = met (find open' (map (follow g) (p ∷ ps))) refl k
        where
          row : map (follow g) (p ∷ ps) ≡ map (meets g a) (up_to c)
          row = ap (map (follow g)) (sym e) ∙ met_row

          some_aux : 0 < c
          some_aux = via c row
            where
              via : (n : ℕ) → map (follow g) (p ∷ ps) ≡ map (meets g a) (up_to n) → 0 < n
              via zero x = absurd (let z : ◌≡◌ {A = ℕ} 0 1 = cc in omega arith)
              via (suc n) x = omega arith

          met : (o : Option Port) → find open' (map (follow g) (p ∷ ps)) ≡ o → eta_met fresh g vs ns a o ≡ some s → (o : Option ℕ) × Able g vs ns a o
          met none x y = (none, values_able (vs ++ ns) s some_aux (λ i l. not_off (is_principal (meets g a i)) (none_row (meets g a) open' c 0 (ap (find open') (sym row) ∙ x) i (omega arith) (omega arith))) y)
          met (some q) x y =
              let r = first_row (meets g a) open' c 0 q (ap (find open') (sym row) ∙ x) in
              let l = r.2 in
              (some q.node, pair_able ns q.node r.0 s (omega arith) (not-true (is_principal (meets g a r.0)) r.4) (λ i u. not_off (is_principal (meets g a i)) (r.5 i (omega arith) u)) (ap (λ (t : Port). t.node) (sym r.3)) y)

  -- where it can act it has one
  pub able_eta : (vs ns : List ℕ) (o : Option ℕ) → Able g vs ns a o → eta_script fresh g vs ns a ≡ none → ⊥
  unfolding eta_script eta_met
  able_eta vs ns o x h = go (aux g a) refl h
    where
      some_aux : (o : Option ℕ) → Able g vs ns a o → 0 < c
      some_aux none v = v.more
      some_aux (some b) v = let l = v.low in omega arith

      fails : (t : Bool) → t ≡ true → not t ≡ false
      fails t e = ap not e

      go : (l : List Port) → aux g a ≡ l
          → ◌≡◌ {A = Option Script} (elim l as (λ _. Option Script) [ [] ↦ none | p ∷ ps ↦ eta_met fresh g vs ns a (find (λ q. not (is_principal q)) (map (follow g) (p ∷ ps))) ]) none → ⊥
      go [] e k = via c (some_aux o x) (sym e ∙ aux_row g a)
        where
          via : (n : ℕ) → 0 < n → ◌≡◌ {A = List Port} [] (map (λ i. port a (1 + i)) (up_to n)) → ⊥
          via zero l y = omega arith
          via (suc n) l y = let z : ◌≡◌ {A = ℕ} 0 1 = cc in omega arith
      go (p ∷ ps) e k = met o x
        where
          row : map (follow g) (p ∷ ps) ≡ map (meets g a) (up_to c)
          row = ap (map (follow g)) (sym e) ∙ met_row

          met : (o : Option ℕ) → Able g vs ns a o → ⊥
          met none v =
              let q : find open' (map (follow g) (p ∷ ps)) ≡ none = ap (find open') row ∙ row_none (meets g a) open' c 0 (λ i l u. fails (is_principal (meets g a i)) (v.met i (omega arith))) in
              able_values (vs ++ ns) v (sym (ap (eta_met fresh g vs ns a) q) ∙ k)
          met (some b) v =
              let l = v.low in
              let q : find open' (map (follow g) (p ∷ ps)) ≡ some (meets g a v.k) = ap (find open') row ∙ row_find (meets g a) open' c 0 v.k (omega arith) (omega arith) (ap not v.met) (λ i l' u. fails (is_principal (meets g a i)) (v.before i u)) in
              able_pair ns b v (ap (λ (n : ℕ). eta_pair fresh g ns a n) (sym v.other) ∙ sym (ap (eta_met fresh g vs ns a) q) ∙ k)

-- ---- interactions

-- what an interaction finds is a matter of names and numbers of ports
pub interact_able : (r : Rule) (f f' : ℕ → ℕ) (g g' : Graph) (a b a' b' : ℕ) (s : Script) → name_of g' a' ≡ name_of g a → name_of g' b' ≡ name_of g b → arity g' a' ≡ arity g a → arity g' b' ≡ arity g b
    → interact r f g a b ≡ some s → interact r f' g' a' b' ≡ none → ⊥
unfolding interact annihilate_script erase_script commute_script
interact_able (graft p lazy) f f' g g' a b a' b' s na nb ra rb h k = let z : ◌≡◌ {A = ℕ} 0 1 = cc in omega arith
interact_able (annihilate ps) f f' g g' a b a' b' s na nb ra rb h k =
    given_off (same_name (name_of g a) (name_of g b) && eqb (arity g a) (arity g b)) (same_name (name_of g' a') (name_of g' b') && eqb (arity g' a') (arity g' b')) _ _ s (rw (na, nb, ra, rb)) h k
interact_able (erase es ns) f f' g g' a b a' b' s na nb ra rb h k = given_off (eqb (arity g a) 1) (eqb (arity g' a') 1) _ _ s (rw ra) h k
interact_able (commute xs ys) f f' g g' a b a' b' s na nb ra rb h k = let z : ◌≡◌ {A = ℕ} 0 1 = cc in omega arith
interact_able (eta cs vs ns) f f' g g' a b a' b' s na nb ra rb h k = let z : ◌≡◌ {A = ℕ} 0 1 = cc in omega arith
