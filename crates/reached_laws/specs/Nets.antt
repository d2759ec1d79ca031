-- A script's dead nodes are of the net of the node that it is tried on: no wire leaves its net.
use Rattle.std.specs.Prelude.{ℕ, zero, suc, ◌≡◌, ◌≢◌, ◌⊎◌, Bool, not, ◌&&◌, ◌||◌, get_or, drop}
use Rattle.std.proofs.Math.Path.{refl, ap}
use Rattle.std.proofs.Common.{sym, ◌∙◌, subst, inl, inr, arith}
use Rattle.std.proofs.Math.Decide.{ℕ_discrete}
use Rattle.std.proofs.Math.Bool.{true, false}
use Rattle.std.proofs.Math.Option.{Option, none, some, some-injective}
use mathlib.Core.List.Memᴰ
use mathlib.Core.List.{List, [], ◌∷◌, ◌++◌, map, Memᴰ}
use Rattle.std.proofs.Math.Dec.{eqb}
use Rattle.net_file.specs.Lists.{all}
use Rattle.net_file.specs.Checks.{same_name}
use Rattle.definitions.specs.Lists.{is_some, foldl, find, concat, zip_with, up_to, has}
use Rattle.definitions.specs.Nets.{Port, Node, Graph, port, is_principal, at, filled, name_of, arity, ports, aux, follow}
use Rattle.definitions.specs.Scripts.{Edit, Insert, Copy, Join, Cut, Script, fill, join, cut, apply}
use Rattle.definitions.specs.Rules.{new, hang, straight, nil_pair, eta_cuts, eta_nils, eta_values, eta_pair, eta_met, eta_script}
use Rattle.join_laws.specs.Link.{Wired, End, filled as across_filled, hole as across_hole, follow_end}
use Rattle.rule_laws.specs.Places.{given_some, one_of_two}
use Rattle.rule_laws.specs.Order.{InOrder}
use Rattle.good_laws.specs.Owners.{owners, net_of, join_owners, cut_owners}
use Rattle.reached_laws.specs.Tracks.{filled_owner, owned_by}

-- ---- owners after edits

fill_same : (g : Graph) (n : ℕ) (y : Node) → get_or (owners (fill g n y)) n none ≡ some y.net
unfolding fill
fill_same [] zero y = refl
fill_same [] (suc n) y = fill_same [] n y
fill_same (x ∷ g) zero y = refl
fill_same (x ∷ g) (suc n) y = fill_same g n y

fill_other : (g : Graph) (n : ℕ) (y : Node) (m : ℕ) → m ≢ n → get_or (owners (fill g n y)) m none ≡ get_or (owners g) m none
unfolding fill
fill_other [] zero y zero d = absurd (d refl)
fill_other [] zero y (suc m) d = refl
fill_other [] (suc n) y zero d = refl
fill_other [] (suc n) y (suc m) d = fill_other [] n y m (λ q. d (ap suc q))
fill_other (x ∷ g) zero y zero d = absurd (d refl)
fill_other (x ∷ g) zero y (suc m) d = refl
fill_other (x ∷ g) (suc n) y zero d = refl
fill_other (x ∷ g) (suc n) y (suc m) d = fill_other g n y m (λ q. d (ap suc q))

-- the number m has the owner o, or is a new node's, of net `into`
abbrev OwnerOf : ℕ → Graph → ℕ → Option ℕ → Type 0
OwnerOf into h m o = (get_or (owners h) m none ≡ o) ⊎ (get_or (owners h) m none ≡ some into)

owner_from : (into : ℕ) (h : Graph) (m : ℕ) (o o' : Option ℕ) → (o ≡ o') ⊎ (o ≡ some into) → OwnerOf into h m o → OwnerOf into h m o'
owner_from into h m o o' (inl q) (inl r) = inl (r ∙ q)
owner_from into h m o o' (inr q) (inl r) = inr (r ∙ q)
owner_from into h m o o' q (inr r) = inr r

fill_owner : (into : ℕ) (g : Graph) (n : ℕ) (y : Node) (m : ℕ) → y.net ≡ into → (get_or (owners (fill g n y)) m none ≡ get_or (owners g) m none) ⊎ (get_or (owners (fill g n y)) m none ≡ some into)
fill_owner into g n y m q = go (ℕ_discrete m n)
  where
    go : Dec (m ≡ n) → (get_or (owners (fill g n y)) m none ≡ get_or (owners g) m none) ⊎ (get_or (owners (fill g n y)) m none ≡ some into)
    go (yes s) = inr (ap (λ (i : ℕ). get_or (owners (fill g n y)) i none) s ∙ fill_same g n y ∙ ap {B = Option ℕ} some q)
    go (no d) = inl (fill_other g n y m d)

edits_owner : (N : ℕ → ℕ) (into k : ℕ) (ds : List Edit) (g : Graph) → InOrder N into k ds → (m : ℕ) → OwnerOf into (foldl apply g ds) m (get_or (owners g) m none)
unfolding apply
edits_owner N into k [] g o m = inl refl
edits_owner N into k (Insert n y ∷ ds) g o m =
    owner_from into (foldl apply (fill g n y) ds) m (get_or (owners (fill g n y)) m none) (get_or (owners g) m none) (fill_owner into g n y m o.1) (edits_owner N into (suc k) ds (fill g n y) o.2 m)
edits_owner N into k (Copy n y ∷ ds) g o m =
    owner_from into (foldl apply (fill g n y) ds) m (get_or (owners (fill g n y)) m none) (get_or (owners g) m none) (fill_owner into g n y m o.1) (edits_owner N into (suc k) ds (fill g n y) o.2 m)
edits_owner N into k (Join a b ∷ ds) g o m =
    owner_from into (foldl apply (join g a b) ds) m (get_or (owners (join g a b)) m none) (get_or (owners g) m none) (inl (ap (λ (l : List (Option ℕ)). get_or l m none) (join_owners g a b))) (edits_owner N into k ds (join g a b) o m)
edits_owner N into k (Cut a b ∷ ds) g o m =
    owner_from into (foldl apply (cut g a b) ds) m (get_or (owners (cut g a b)) m none) (get_or (owners g) m none) (inl (ap (λ (l : List (Option ℕ)). get_or l m none) (cut_owners g a b))) (edits_owner N into k ds (cut g a b) o m)

-- so a node that is there after the edits, and if it was there before was of net `into`, is of net `into`
pub after_edits : (N : ℕ → ℕ) (into : ℕ) (ds : List Edit) (g : Graph) → InOrder N into 0 ds → (m : ℕ) → filled (foldl apply g ds) m ≡ true
    → (filled g m ≡ true → (at g m).net ≡ into) → get_or (owners (foldl apply g ds)) m none ≡ some into
after_edits N into ds g o m there was = go (edits_owner N into 0 ds g o m)
  where
    go : OwnerOf into (foldl apply g ds) m (get_or (owners g) m none) → get_or (owners (foldl apply g ds)) m none ≡ some into
    go (inr q) = q
    go (inl q) =
        let f : filled g m ≡ true = filled_owner g m ∙ ap is_some (sym q) ∙ sym (filled_owner (foldl apply g ds) m) ∙ there in
        let b = owned_by g m f in
        q ∙ b.1 ∙ ap {B = Option ℕ} some (sym (net_of g m b.0 b.1) ∙ was f)

-- ---- eta

module _ (g : Graph) (w : Wired g) where
  net_across : (p : Port) → (at g (follow g p).node).net ≡ (at g p.node).net
  net_across p = go (follow_end g p)
    where
      go : End g p (follow g p) → (at g (follow g p).node).net ≡ (at g p.node).net
      go (across_filled q) = sym (w.within p (follow g p) q)
      go (across_hole q r) = ap (λ (x : Port). (at g x.node).net) r

  drop_mem : {A : Type 0} (x : A) (xs : List A) → Memᴰ x (drop 1 xs) → Memᴰ x xs
  drop_mem x [] m = m
  drop_mem x (y ∷ xs) m = Memᴰ.tail m

  aux_node : (a : ℕ) (p : Port) → Memᴰ p (aux g a) → p.node ≡ a
  unfolding aux ports
  aux_node a p m = let r = Memᴰ.of_map (port a) (up_to (arity g a)) (drop_mem p (map (port a) (up_to (arity g a))) m) in ap (λ (x : Port). x.node) (sym r.2)

  -- what an aux port of a meets is in a's net
  met_net : (a : ℕ) (q : Port) → Memᴰ q (map (follow g) (aux g a)) → (at g q.node).net ≡ (at g a).net
  met_net a q m =
      let r = Memᴰ.of_map (follow g) (aux g a) m in
      ap (λ (x : Port). (at g x.node).net) (sym r.2) ∙ net_across r.0 ∙ ap (λ (n : ℕ). (at g n).net) (aux_node a r.0 r.1)

  find_mem : (f : Port → Bool) (ps : List Port) (q : Port) → find f ps ≡ some q → Memᴰ q ps
  find_mem f [] q h = absurd (let z : ◌≡◌ {A = ℕ} 0 1 = cc in omega arith)
  find_mem f (p ∷ ps) q h = go (f p) h (λ t. find_mem f ps q t)
    where
      go : (t : Bool) → elim t as (λ _. Option Port) [ true ↦ some p | false ↦ find f ps ] ≡ some q → (find f ps ≡ some q → Memᴰ q ps) → Memᴰ q (p ∷ ps)
      go true r s = Memᴰ.head (sym (some-injective p q r))
      go false r s = Memᴰ.tail (s r)

  module _ (fresh : ℕ → ℕ) (a : ℕ) where
    values_nets : (values : List ℕ) (s : Script) → eta_values fresh g values a ≡ some s → (d : ℕ) → Memᴰ d s.dead → (at g d).net ≡ (at g a).net
    unfolding eta_values
    values_nets values s h d m =
        let met = map (follow g) (aux g a) in
        let ns = map (λ (q : Port). q.node) met in
        let name = name_of g (get_or ns 0 0) in
        let k = given_some (all (λ n. eqb (arity g n) 1) ns && has values name.path && all (λ n. same_name (name_of g n) name) ns)
        (record { edits = zip_with Cut (aux g a) met ++ hang fresh g 0 (new (at g a).net name 1) (port a 0); dead = a ∷ ns }) s h in
        go (Memᴰ.cases_cons (subst (λ (t : Script). Memᴰ d t.dead) (sym k.1) m))
      where
        go : (d ≡ a) ⊎ Memᴰ d (map (λ (q : Port). q.node) (map (follow g) (aux g a))) → (at g d).net ≡ (at g a).net
        go (inl q) = ap (λ (n : ℕ). (at g n).net) q
        go (inr k) = let r = Memᴰ.of_map (λ (q : Port). q.node) (map (follow g) (aux g a)) k in ap (λ (n : ℕ). (at g n).net) (sym r.2) ∙ met_net a r.0 r.1

    nils_nets : (p q : Port) → (at g p.node).net ≡ (at g a).net → (at g q.node).net ≡ (at g a).net → (d : ℕ) → Memᴰ d (eta_nils fresh g p q) → (at g d).net ≡ (at g a).net
    unfolding eta_nils
    nils_nets p q np nq d m = go (straight fresh g p q) m
      where
        go : (t : Bool) → Memᴰ d (elim t as (λ _. List ℕ) [ true ↦ [] | false ↦ (follow g p).node ∷ (follow g q).node ∷ [] ]) → (at g d).net ≡ (at g a).net
        go true k = absurd (Memᴰ.not-nil k)
        go false k = two (one_of_two k)
          where
            two : (d ≡ (follow g p).node) ⊎ (d ≡ (follow g q).node) → (at g d).net ≡ (at g a).net
            two (inl r) = ap (λ (n : ℕ). (at g n).net) r ∙ net_across p ∙ np
            two (inr r) = ap (λ (n : ℕ). (at g n).net) r ∙ net_across q ∙ nq

    rows_nets : (ps qs : List Port) → ((p : Port) → Memᴰ p ps → (at g p.node).net ≡ (at g a).net) → ((q : Port) → Memᴰ q qs → (at g q.node).net ≡ (at g a).net)
        → (d : ℕ) → Memᴰ d (concat (zip_with (eta_nils fresh g) ps qs)) → (at g d).net ≡ (at g a).net
    rows_nets [] qs np nq d m = absurd (Memᴰ.not-nil m)
    rows_nets (p ∷ ps) [] np nq d m = absurd (Memᴰ.not-nil m)
    rows_nets (p ∷ ps) (q ∷ qs) np nq d m = go (Memᴰ.append_cases (eta_nils fresh g p q) m)
        (λ k. rows_nets ps qs (λ x l. np x (Memᴰ.tail l)) (λ x l. nq x (Memᴰ.tail l)) d k)
      where
        go : Memᴰ d (eta_nils fresh g p q) ⊎ Memᴰ d (concat (zip_with (eta_nils fresh g) ps qs)) → (Memᴰ d (concat (zip_with (eta_nils fresh g) ps qs)) → (at g d).net ≡ (at g a).net) → (at g d).net ≡ (at g a).net
        go (inl k) r = nils_nets p q (np p (Memᴰ.head refl)) (nq q (Memᴰ.head refl)) d k
        go (inr k) r = r k

    pair_nets : (nils : List ℕ) (b : ℕ) (s : Script) → (at g b).net ≡ (at g a).net → eta_pair fresh g nils a b ≡ some s → (d : ℕ) → Memᴰ d s.dead → (at g d).net ≡ (at g a).net
    unfolding eta_pair
    pair_nets nils b s nb h d m =
        let k = given_some (eqb (arity g a) (arity g b) && same_name (name_of g a) (name_of g b) && all (λ t. t) (zip_with (λ p q. straight fresh g p q || nil_pair fresh g nils p q) (aux g a) (aux g b)))
        (record {
          edits = Join (port a 0) (port b 0) ∷ concat (zip_with (eta_cuts fresh g) (aux g a) (aux g b));
          dead = a ∷ b ∷ concat (zip_with (eta_nils fresh g) (aux g a) (aux g b));
        }) s h in
        go (Memᴰ.cases_cons (subst (λ (t : Script). Memᴰ d t.dead) (sym k.1) m))
      where
        rest : (d ≡ b) ⊎ Memᴰ d (concat (zip_with (eta_nils fresh g) (aux g a) (aux g b))) → (at g d).net ≡ (at g a).net
        rest (inl q) = ap (λ (n : ℕ). (at g n).net) q ∙ nb
        rest (inr k) =
            rows_nets (aux g a) (aux g b) (λ p l. ap (λ (n : ℕ). (at g n).net) (aux_node a p l)) (λ q l. ap (λ (n : ℕ). (at g n).net) (aux_node b q l) ∙ nb) d k

        go : (d ≡ a) ⊎ Memᴰ d (b ∷ concat (zip_with (eta_nils fresh g) (aux g a) (aux g b))) → (at g d).net ≡ (at g a).net
        go (inl q) = ap (λ (n : ℕ). (at g n).net) q
        go (inr k) = rest (Memᴰ.cases_cons k)

    pub eta_nets : (values nils : List ℕ) (s : Script) → eta_script fresh g values nils a ≡ some s → (d : ℕ) → Memᴰ d s.dead → (at g d).net ≡ (at g a).net
    unfolding eta_script eta_met
    eta_nets values nils s h d m = go (aux g a) refl h
      where
        met : (o : Option Port) → ((q : Port) → o ≡ some q → Memᴰ q (map (follow g) (aux g a))) → eta_met fresh g values nils a o ≡ some s → (at g d).net ≡ (at g a).net
        met none i y = values_nets (values ++ nils) s y d m
        met (some q) i y = pair_nets nils q.node s (met_net a q (i q refl)) y d m

        go : (l : List Port) → aux g a ≡ l
            → elim l as (λ _. Option Script) [ [] ↦ none | p ∷ ps ↦ eta_met fresh g values nils a (find (λ q. not (is_principal q)) (map (follow g) (p ∷ ps))) ] ≡ some s → (at g d).net ≡ (at g a).net
        go [] q k = let z : ◌≡◌ {A = ℕ} 0 1 = cc in absurd (omega arith)
        go (p ∷ ps) q k =
            met (find (λ q. not (is_principal q)) (map (follow g) (p ∷ ps)))
            (λ x r. subst (λ (l : List Port). Memᴰ x (map (follow g) l)) (sym q) (find_mem (λ q. not (is_principal q)) (map (follow g) (p ∷ ps)) x r)) k
