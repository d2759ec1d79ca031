-- A net that draws a well wired graph is well wired: document 01, "a wire in no pair occurs twice or never among free and node places".
use Rattle.std.specs.Prelude.{ℕ, zero, suc, ◌+◌, ◌-◌, ◌≤◌, ◌<◌, ◌≡◌, ◌≢◌, ◌⊎◌, Bool, true, false, ◌||◌, drop}
use Rattle.std.proofs.Math.Path.{refl, sym, ap, subst}
use Rattle.std.proofs.Common.{◌∙◌, inl, inr, true≢false, eqb-true, eq-eqb, ne_eqb}
use Rattle.std.proofs.Math.Decide.{ℕ_discrete, dec_lt}
use native.Mathlib.Omega.{arith}
use Rattle.std.proofs.Math.Bool.{not}
use Rattle.std.proofs.lemmas.Bool.{false≢true}
use Rattle.std.proofs.Math.Option.{Option, none, some}
use mathlib.Core.List.Memᴰ
use mathlib.Core.List.{List, [], ◌∷◌, ◌++◌, map, Memᴰ}
use Rattle.std.proofs.Math.Dec.{eqb}
use Rattle.list_laws.specs.Tests.{both, both_are, same_test}
use Rattle.net_file.specs.Lists.{bit, all, any, count, distinct, concat_map}
use Rattle.net_file.specs.Values.{Name, FlatNode, FlatNet}
use Rattle.net_file.specs.Checks.{occurs, places, pair_wires, pair_wired, wire_wired, flat_wired}
use Rattle.definitions.specs.Lists.{or_else, is_some, keep, from}
use Rattle.definitions.specs.Nets.{Port, Graph, Home, port, same_port, at, filled, holds, arity, ports, across, follow}
use Rattle.definitions.specs.Step.{NodesOf}
use Rattle.join_laws.specs.Ports.{Frame, no_frame, in_net, frame, filled_frame, same_port_lem, same_port_true, same_port_self, Real, net_frame, holds_frame}
use Rattle.script_laws.specs.Tidy.{WellWired}
use Rattle.rule_laws.specs.Places.{follow_across, follow_real, follow_back, follow_filled, across_follow}
use Rattle.rule_laws.specs.Ids.{distinct_head, distinct_cons}
use Rattle.rule_laws.specs.Rows.{mem_row}
use Rattle.graph_laws.specs.Rest.{FreeNode}
use Rattle.finish_laws.specs.Wires.{ports_of}
use Rattle.finish_laws.specs.Drawn.{others, written, stands, Drawn, keep_in, in_keep}

-- ---- how many pass a test

pub count_append : {A : Type 0} (f : A → Bool) (xs ys : List A) → count f (xs ++ ys) ≡ count f xs + count f ys
count_append f [] ys = omega arith
count_append f (x ∷ xs) ys = let h = count_append f xs ys in omega arith

pub count_map : {A B : Type 0} (f : B → Bool) (h : A → B) (xs : List A) → count f (map h xs) ≡ count (λ x. f (h x)) xs
count_map f h [] = refl
count_map f h (x ∷ xs) = ap (λ (n : ℕ). bit (f (h x)) + n) (count_map f h xs)

pub count_same : {A : Type 0} (f h : A → Bool) (xs : List A) → ((x : A) → Memᴰ x xs → f x ≡ h x) → count f xs ≡ count h xs
count_same f h [] e = refl
count_same f h (x ∷ xs) e = λ i. bit (e x (Memᴰ.head refl) i) + count_same f h xs (λ y m. e y (Memᴰ.tail m)) i

-- where no element passes both
pub count_either : {A : Type 0} (f h : A → Bool) (xs : List A) → ((x : A) → f x ≡ true → h x ≡ false) → count (λ x. f x || h x) xs ≡ count f xs + count h xs
count_either f h [] e = refl
count_either f h (x ∷ xs) e = go (f x) refl (h x) refl (count_either f h xs e)
  where
    go : (s : Bool) → f x ≡ s → (t : Bool) → h x ≡ t → count (λ y. f y || h y) xs ≡ count f xs + count h xs → bit (s || t) + count (λ y. f y || h y) xs ≡ bit s + count f xs + (bit t + count h xs)
    go true p true q r = absurd (true≢false (sym q ∙ e x p))
    go true p false q r = omega arith
    go false p true q r = omega arith
    go false p false q r = omega arith

pub map_append : {A B : Type 0} (f : A → B) (xs ys : List A) → map f (xs ++ ys) ≡ map f xs ++ map f ys
map_append f [] ys = refl
map_append f (x ∷ xs) ys = ap (λ l. f x ∷ l) (map_append f xs ys)

pub all_in : {A : Type 0} (f : A → Bool) (xs : List A) → ((x : A) → Memᴰ x xs → f x ≡ true) → all f xs ≡ true
all_in f [] h = refl
all_in f (x ∷ xs) h = both_are (f x) (all f xs) (h x (Memᴰ.head refl)) (all_in f xs (λ y m. h y (Memᴰ.tail m)))

-- ---- a port among the ports of nodes

pub row_none : (p : Port) (n a i : ℕ) → (p.node ≢ n) ⊎ (p.index < i) → count (same_port p) (map (port n) (from i a)) ≡ 0
row_none p n zero i h = refl
row_none p n (suc a) i h = go (same_port p (port n i)) refl (row_none p n a (suc i) (later h))
  where
    later : (p.node ≢ n) ⊎ (p.index < i) → (p.node ≢ n) ⊎ (p.index < suc i)
    later (inl d) = inl d
    later (inr l) = inr (omega arith)

    here : (p.node ≢ n) ⊎ (p.index < i) → p ≡ port n i → ⊥
    here (inl d) e = d (ap (λ (q : Port). q.node) e)
    here (inr l) e = let z : p.index ≡ i = ap (λ (q : Port). q.index) e in omega arith

    go : (t : Bool) → same_port p (port n i) ≡ t → count (same_port p) (map (port n) (from (suc i) a)) ≡ 0 → bit t + count (same_port p) (map (port n) (from (suc i) a)) ≡ 0
    go true e r = absurd (here h (same_port_true p (port n i) e))
    go false e r = omega arith

pub row_once : (p : Port) (n a i : ℕ) → p.node ≡ n → i ≤ p.index → p.index < i + a → count (same_port p) (map (port n) (from i a)) ≡ 1
row_once p n zero i e l u = absurd (omega arith)
row_once p n (suc a) i e l u = go (ℕ_discrete p.index i) (row_once p n a (suc i) e)
  where
    go : Dec (p.index ≡ i) → (suc i ≤ p.index → p.index < suc i + a → count (same_port p) (map (port n) (from (suc i) a)) ≡ 1)
        → bit (same_port p (port n i)) + count (same_port p) (map (port n) (from (suc i) a)) ≡ 1
    go (yes s) r =
        let q : same_port p (port n i) ≡ true = ap (same_port p) (sym (same_port_lem p (port n i) e s)) ∙ same_port_self p in
        ap (λ (t : Bool). bit t + count (same_port p) (map (port n) (from (suc i) a))) q ∙ (let z = row_none p n a (suc i) (inr (omega arith)) in omega arith)
    go (no s) r = ap (λ (t : Bool). bit t + count (same_port p) (map (port n) (from (suc i) a))) (other (same_port p (port n i)) refl) ∙ (let z = r (omega arith) (omega arith) in omega arith)
      where
        other : (t : Bool) → same_port p (port n i) ≡ t → same_port p (port n i) ≡ false
        other true q = absurd (s (ap (λ (r : Port). r.index) (same_port_true p (port n i) q)))
        other false q = q

pub drop_row : {A : Type 0} (h : ℕ → A) (a : ℕ) → drop 2 (map h (from 0 a)) ≡ map h (from 2 (a - 2))
drop_row h zero = refl
drop_row h (suc zero) = refl
drop_row h (suc (suc a)) = ap (λ (n : ℕ). map h (from 2 n)) (let z : a ≡ suc (suc a) - 2 = omega arith in z)

module _ (g : Graph) where
  pub nodes_none : (p : Port) (ns : List ℕ) → ¬ Memᴰ p.node ns → count (same_port p) (concat_map (ports g) ns) ≡ 0
  unfolding ports
  nodes_none p [] h = refl
  nodes_none p (n ∷ ns) h =
      let a = count_append (same_port p) (ports g n) (concat_map (ports g) ns) in
      let b : count (same_port p) (ports g n) ≡ 0 = row_none p n (arity g n) 0 (inl (λ e. h (Memᴰ.head e))) in
      let c = nodes_none p ns (λ m. h (Memᴰ.tail m)) in
      omega arith

  pub nodes_once : (p : Port) (ns : List ℕ) → distinct eqb ns ≡ true → Memᴰ p.node ns → Real g p → count (same_port p) (concat_map (ports g) ns) ≡ 1
  unfolding ports
  nodes_once p [] d m l = absurd (Memᴰ.not-nil m)
  nodes_once p (n ∷ ns) d m l = go (ℕ_discrete p.node n) (Memᴰ.cases_cons m) (λ k. nodes_once p ns (both (not (any (eqb n) ns)) (distinct eqb ns) d).1 k l)
    where
      a : count (same_port p) (concat_map (ports g) (n ∷ ns)) ≡ count (same_port p) (ports g n) + count (same_port p) (concat_map (ports g) ns)
      a = count_append (same_port p) (ports g n) (concat_map (ports g) ns)

      go : Dec (p.node ≡ n) → (p.node ≡ n) ⊎ Memᴰ p.node ns → (Memᴰ p.node ns → count (same_port p) (concat_map (ports g) ns) ≡ 1) → count (same_port p) (concat_map (ports g) (n ∷ ns)) ≡ 1
      go (yes e) k r =
          let low : p.index < 0 + arity g n = subst (λ (j : ℕ). p.index < 0 + arity g j) e (omega arith) in
          let b : count (same_port p) (ports g n) ≡ 1 = row_once p n (arity g n) 0 e (omega arith) low in
          let c = nodes_none p ns (λ q. distinct_head n ns d (subst (λ (j : ℕ). Memᴰ j ns) e q)) in
          omega (arith, a)
      go (no e) (inl s) r = absurd (e s)
      go (no e) (inr k) r =
          let b : count (same_port p) (ports g n) ≡ 0 = row_none p n (arity g n) 0 (inl e) in
          let c = r k in
          omega (arith, a)

pub keep_once : (f : ℕ → Bool) (xs : List ℕ) → distinct eqb xs ≡ true → distinct eqb (keep f xs) ≡ true
keep_once f [] d = refl
keep_once f (x ∷ xs) d = go (f x) (keep_once f xs (both (not (any (eqb x) xs)) (distinct eqb xs) d).1)
  where
    go : (t : Bool) → distinct eqb (keep f xs) ≡ true → distinct eqb (elim t as (λ _. List ℕ) [ true ↦ x ∷ keep f xs | false ↦ keep f xs ]) ≡ true
    go true h = distinct_cons x (keep f xs) (λ m. distinct_head x xs d (keep_in f xs x m).0) h
    go false h = h

-- ---- the places of a net

module _ (path k : ℕ) (g : Graph) (w : WellWired g) (h : Home) (node : FreeNode path g k h) (ids : List ℕ) (nodes : NodesOf g k ids) where
  -- the ports that have a place: all but the free node's own wire
  pub places_of : List Port
  places_of = drop 2 (ports g h.free) ++ concat_map (ports g) (others h.free ids)

  pub record Placed (p : Port) : Type 0 where
    pub real : Real g p
    pub in_net : Memᴰ p.node ids
    pub other : p.node ≡ h.free → 2 ≤ p.index

  -- the free ports as a row
  pub free_row : drop 2 (ports g h.free) ≡ map (port h.free) (from 2 (arity g h.free - 2))
  unfolding ports
  free_row = drop_row (port h.free) (arity g h.free)

  pub not_free : (n : ℕ) → n ≢ h.free → not (eqb n h.free) ≡ true
  not_free n d = ap not (ne_eqb n h.free d)

  pub is_not : (n : ℕ) → not (eqb n h.free) ≡ true → n ≢ h.free
  is_not n e s = false≢true (sym (ap not (eq-eqb n h.free s)) ∙ e)

  -- each of them has one place
  pub placed_once : (p : Port) → Placed p → count (same_port p) places_of ≡ 1
  unfolding places_of
  placed_once p a = go (ℕ_discrete p.node h.free)
    where
      sum : count (same_port p) places_of ≡ count (same_port p) (drop 2 (ports g h.free)) + count (same_port p) (concat_map (ports g) (others h.free ids))
      sum = count_append (same_port p) (drop 2 (ports g h.free)) (concat_map (ports g) (others h.free ids))

      row : count (same_port p) (drop 2 (ports g h.free)) ≡ count (same_port p) (map (port h.free) (from 2 (arity g h.free - 2)))
      row = ap (count (same_port p)) free_row

      go : Dec (p.node ≡ h.free) → count (same_port p) places_of ≡ 1
      go (yes e) =
          let two = a.other e in
          let low : p.index < arity g h.free = subst (λ (n : ℕ). p.index < arity g n) e a.real in
          let b = row_once p h.free (arity g h.free - 2) 2 e two (omega arith) in
          let c = nodes_none g p (others h.free ids) (λ m. is_not p.node (keep_in (λ n. not (eqb n h.free)) ids p.node m).1 e) in
          omega (arith, sum, row)
      go (no e) =
          let b = row_none p h.free (arity g h.free - 2) 2 (inl e) in
          let c = nodes_once g p (others h.free ids) (keep_once (λ n. not (eqb n h.free)) ids nodes.once) (in_keep (λ n. not (eqb n h.free)) ids p.node a.in_net (not_free p.node e)) a.real in
          omega (arith, sum, row)

  pub free_in : Memᴰ h.free ids
  free_in = nodes.full h.free node.held

  pub placed : (p : Port) → Memᴰ p places_of → Placed p
  unfolding places_of
  placed p m = go (Memᴰ.append_cases (drop 2 (ports g h.free)) m)
    where
      go : Memᴰ p (drop 2 (ports g h.free)) ⊎ Memᴰ p (concat_map (ports g) (others h.free ids)) → Placed p
      go (inl q) =
          let y = mem_row (port h.free) (arity g h.free - 2) 2 p (subst (Memᴰ p) free_row q) in
          let n : p.node ≡ h.free = ap (λ (x : Port). x.node) y.3 in
          let i : p.index ≡ y.0 = ap (λ (x : Port). x.index) y.3 in
          let l = y.1 in
          let u = y.2 in
          record {
            real = subst (λ (j : ℕ). p.index < arity g j) (sym n) (omega arith);
            in_net = subst (λ (j : ℕ). Memᴰ j ids) (sym n) free_in;
            other = λ _. omega arith;
          }
      go (inr q) =
          let y = ports_of g (others h.free ids) p q in
          let x = keep_in (λ n. not (eqb n h.free)) ids p.node y.0 in
          record { real = y.1; in_net = x.0; other = λ e. absurd (is_not p.node x.1 e) }

  -- so has the port across
  pub across_placed : (p : Port) → Placed p → Placed (follow g p)
  across_placed p a = record { real = follow_real g w p a.real; in_net = nodes.full (follow g p).node inside; other = other }
    where
      net_of : (n : ℕ) → holds g k n ≡ true → (at g n).net ≡ k
      net_of n e = net_frame g n ∙ via (frame g n) (sym (holds_frame g n k) ∙ e)
        where
          via : (o : Option Frame) → in_net k o ≡ true → (or_else o no_frame).net ≡ k
          via none x = absurd (true≢false (sym x))
          via (some f) x = eqb-true f.net k x

      in_net_lem : (n : ℕ) → filled g n ≡ true → (at g n).net ≡ k → holds g k n ≡ true
      in_net_lem n f e = holds_frame g n k ∙ via (frame g n) (sym (filled_frame g n) ∙ f) (sym (net_frame g n) ∙ e)
        where
          via : (o : Option Frame) → is_some o ≡ true → (or_else o no_frame).net ≡ k → in_net k o ≡ true
          via none x y = absurd (true≢false (sym x))
          via (some f') x y = eq-eqb f'.net k y

      inside : holds g k (follow g p).node ≡ true
      inside = in_net_lem (follow g p).node (follow_filled g w p a.real) (sym (w.wired.within p (follow g p) (follow_across g w p a.real)) ∙ net_of p.node (nodes.sound p.node a.in_net))

      own : (q : Port) → q.node ≡ h.free → q.index < 2 → ((follow g q).node ≡ h.free) × ((follow g q).index < 2)
      own q n l = go (ℕ_discrete q.index 0)
        where
          zero_one : follow g (port h.free 0) ≡ port h.free 1
          zero_one = across_follow g w (port h.free 0) (port h.free 1) node.wired

          one_zero : follow g (port h.free 1) ≡ port h.free 0
          one_zero = across_follow g w (port h.free 1) (port h.free 0) (w.wired.back (port h.free 0) (port h.free 1) node.wired)

          go : Dec (q.index ≡ 0) → ((follow g q).node ≡ h.free) × ((follow g q).index < 2)
          go (yes e) = let s = ap (follow g) (same_port_lem q (port h.free 0) n e) ∙ zero_one in (ap (λ (x : Port). x.node) s, let z : (follow g q).index ≡ 1 = ap (λ (x : Port). x.index) s in omega arith)
          go (no e) =
              let s = ap (follow g) (same_port_lem q (port h.free 1) n (let z : q.index ≡ 1 = omega arith in z)) ∙ one_zero in
              (ap (λ (x : Port). x.node) s, let z : (follow g q).index ≡ 0 = ap (λ (x : Port). x.index) s in omega arith)

      other : (follow g p).node ≡ h.free → 2 ≤ (follow g p).index
      other e = go (dec_lt 1 (follow g p).index)
        where
          go : Dec (1 < (follow g p).index) → 2 ≤ (follow g p).index
          go (yes l) = omega arith
          go (no l) =
              let o = own (follow g p) e (omega arith) in
              let b = follow_back g w p a.real in
              let n : p.node ≡ h.free = ap (λ (x : Port). x.node) (sym b) ∙ o.0 in
              let i : p.index ≡ (follow g (follow g p)).index = ap (λ (x : Port). x.index) (sym b) in
              let two = a.other n in
              let low = o.1 in
              absurd (omega arith)

  -- ---- well wired

  module _ (t : FlatNet) (d : Drawn g ids h.free t) where
    pub concat_map_lem : (ns : List ℕ) → concat_map (λ (x : Name × List ℕ). x.1) (map (stands g d.wire) ns) ≡ map d.wire (concat_map (ports g) ns)
    concat_map_lem [] = refl
    concat_map_lem (n ∷ ns) = ap (λ (l : List ℕ). map d.wire (ports g n) ++ l) (concat_map_lem ns) ∙ sym (map_append d.wire (ports g n) (concat_map (ports g) ns))

    pub concat_written : (xs : List FlatNode) → concat_map (λ (m : FlatNode). m.pri ∷ m.aux) xs ≡ concat_map (λ (x : Name × List ℕ). x.1) (map written xs)
    concat_written [] = refl
    concat_written (x ∷ xs) = ap (λ (l : List ℕ). (x.pri ∷ x.aux) ++ l) (concat_written xs)

    -- the wires at the places
    pub places_are : places t ≡ map d.wire places_of
    unfolding places places_of
    places_are =
        (λ i. d.free_wires i ++ (concat_written t.nodes ∙ ap (concat_map (λ (x : Name × List ℕ). x.1)) d.nodes ∙ concat_map_lem (others h.free ids)) i)
        ∙ sym (map_append d.wire (drop 2 (ports g h.free)) (concat_map (ports g) (others h.free ids)))
