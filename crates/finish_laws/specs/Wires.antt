-- A wire and its number: two ports have one wire exactly if they are one port or wired together, and so they have one number.
use Rattle.std.specs.Prelude.{ℕ, zero, suc, ◌+◌, ◌-◌, ◌<◌, ◌≡◌, ◌⊎◌, ◌↔◌, Bool, true, false, cond, ◌&&◌, ◌||◌, length, drop, leb, ltb}
use Rattle.std.proofs.Math.Path.{refl, ap}
use Rattle.std.proofs.Common.{sym, ◌∙◌, subst, arith, eqb-true, leb-true, leb-false, ltb-true, ltb-false}
use Rattle.std.proofs.Math.Logic.{inl, inr}
use Rattle.std.proofs.Math.Option.{Option, some}
use mathlib.Core.List.Memᴰ
use mathlib.Core.List.{List, [], ◌∷◌, ◌++◌, map, Memᴰ}
use Rattle.std.proofs.Math.Dec.{eqb}
use Rattle.std.proofs.lemmas.Bool.{eqb-false}
use Rattle.net_file.specs.Lists.{any, concat_map}
use Rattle.definitions.specs.Lists.{place, firsts, from, up_to}
use Rattle.definitions.specs.Nets.{Port, Graph, port, same_port, arity, ports, aux, across, follow}
use Rattle.definitions.specs.Finish.{lower, wire_at, wires_met, wire_number}
use Rattle.join_laws.specs.Ports.{same_port_lem, same_port_true, same_port_self, Real}
use Rattle.script_laws.specs.Tidy.{WellWired}
use Rattle.rule_laws.specs.Places.{follow_across, across_follow, follow_back}
use Rattle.rule_laws.specs.Rows.{mem_row, row_mem, map_map}
use Rattle.finish_laws.specs.Firsts.{place_below, place_one, firsts_all, met_in_order}

-- ---- the lower of two ports

lower_either : (p q : Port) → (lower p q ≡ p) ⊎ (lower p q ≡ q)
unfolding lower
lower_either p q = go (ltb p.node q.node || (eqb p.node q.node && leb p.index q.index))
  where
    go : (t : Bool) → (cond t p q ≡ p) ⊎ (cond t p q ≡ q)
    go true = inl refl
    go false = inr refl

lower_swap : (p q : Port) → lower p q ≡ lower q p
unfolding lower
lower_swap p q =
    go (ltb p.node q.node) refl (ltb q.node p.node) refl (eqb p.node q.node) refl (eqb q.node p.node) refl (leb p.index q.index) refl (leb q.index p.index) refl
  where
    go : (a : Bool) → ltb p.node q.node ≡ a → (b : Bool) → ltb q.node p.node ≡ b → (c : Bool) → eqb p.node q.node ≡ c → (d : Bool) → eqb q.node p.node ≡ d
        → (x : Bool) → leb p.index q.index ≡ x → (y : Bool) → leb q.index p.index ≡ y → cond (a || (c && x)) p q ≡ cond (b || (d && y)) q p
    go true a true b c s d t x u y v = let l = ltb-true p.node q.node a in let m = ltb-true q.node p.node b in absurd (omega arith)
    go true a false b c s true t x u y v = let l = ltb-true p.node q.node a in let m = eqb-true q.node p.node t in absurd (omega arith)
    go true a false b c s false t x u y v = refl
    go false a true b true s d t x u y v = let l = ltb-true q.node p.node b in let m = eqb-true p.node q.node s in absurd (omega arith)
    go false a true b false s d t x u y v = refl
    go false a false b false s d t x u y v =
        let l = ltb-false p.node q.node a in let m = ltb-false q.node p.node b in absurd (eqb-false p.node q.node s (omega arith))
    go false a false b true s false t x u y v = absurd (eqb-false q.node p.node t (sym (eqb-true p.node q.node s)))
    go false a false b true s true t true u true v =
        let l = leb-true p.index q.index u in let m = leb-true q.index p.index v in same_port_lem p q (eqb-true p.node q.node s) (omega arith)
    go false a false b true s true t true u false v = refl
    go false a false b true s true t false u true v = refl
    go false a false b true s true t false u false v = let l = leb-false p.index q.index u in let m = leb-false q.index p.index v in absurd (omega arith)

-- ---- a node's ports

pub ports_mem : (g : Graph) (p : Port) → Real g p → Memᴰ p (ports g p.node)
unfolding ports
ports_mem g p l = row_mem (port p.node) (arity g p.node) 0 p.index (omega arith) (omega arith)

pub concat_mem : {A B : Type 0} (f : A → List B) (xs : List A) (x : A) (y : B) → Memᴰ x xs → Memᴰ y (f x) → Memᴰ y (concat_map f xs)
concat_mem f [] x y m h = absurd (Memᴰ.not-nil m)
concat_mem f (z ∷ zs) x y m h = go (Memᴰ.cases_cons m) (λ k. concat_mem f zs x y k h)
  where
    go : (x ≡ z) ⊎ Memᴰ x zs → (Memᴰ x zs → Memᴰ y (concat_map f zs)) → Memᴰ y (f z ++ concat_map f zs)
    go (inl e) r = Memᴰ.append_left (concat_map f zs) (subst (λ w. Memᴰ y (f w)) e h)
    go (inr k) r = Memᴰ.append_right (f z) (r k)

-- a port in the list is a port of one of the nodes
pub ports_of : (g : Graph) (ns : List ℕ) (p : Port) → Memᴰ p (concat_map (ports g) ns) → Memᴰ p.node ns × Real g p
unfolding ports
ports_of g [] p m = absurd (Memᴰ.not-nil m)
ports_of g (n ∷ ns) p m = go (Memᴰ.append_cases (ports g n) m) (ports_of g ns p)
  where
    go : Memᴰ p (ports g n) ⊎ Memᴰ p (concat_map (ports g) ns) → (Memᴰ p (concat_map (ports g) ns) → Memᴰ p.node ns × Real g p) → Memᴰ p.node (n ∷ ns) × Real g p
    go (inl q) r = let y = mem_row (port n) (arity g n) 0 p q in (
      Memᴰ.head (ap (λ (x : Port). x.node) y.3),
      subst (Real g) (sym y.3) (let z = y.2 in omega arith),
    )
    go (inr q) r = let y = r q in (Memᴰ.tail y.0, y.1)

pub map_mem : {A B : Type 0} (f : A → B) (xs : List A) (x : A) → Memᴰ x xs → Memᴰ (f x) (map f xs)
map_mem f [] x m = absurd (Memᴰ.not-nil m)
map_mem f (y ∷ ys) x m = go (Memᴰ.cases_cons m) (map_mem f ys x)
  where
    go : (x ≡ y) ⊎ Memᴰ x ys → (Memᴰ x ys → Memᴰ (f x) (map f ys)) → Memᴰ (f x) (f y ∷ map f ys)
    go (inl e) r = Memᴰ.head (ap f e)
    go (inr k) r = Memᴰ.tail (r k)

pub ports_split : (g : Graph) (n : ℕ) → 0 < arity g n → ports g n ≡ port n 0 ∷ aux g n
unfolding ports aux
ports_split g n l = go (arity g n) l
  where
    go : (a : ℕ) → 0 < a → map (port n) (from 0 a) ≡ port n 0 ∷ drop 1 (map (port n) (from 0 a))
    go zero h = absurd (omega arith)
    go (suc a) h = refl

-- ---- wires

module _ (g : Graph) (w : WellWired g) where
  -- a wire has one name at both ends
  pub wire_across : (p : Port) → Real g p → wire_at g (follow g p) ≡ wire_at g p
  unfolding wire_at
  wire_across p l = ap (lower (follow g p)) (follow_back g w p l) ∙ lower_swap (follow g p) p

  -- and no two wires have one
  wire_one : (p q : Port) → Real g p → Real g q → wire_at g p ≡ wire_at g q → (p ≡ q) ⊎ (follow g p ≡ q)
  unfolding wire_at
  wire_one p q l m e = go (lower_either p (follow g p)) (lower_either q (follow g q))
    where
      go : (lower p (follow g p) ≡ p) ⊎ (lower p (follow g p) ≡ follow g p) → (lower q (follow g q) ≡ q) ⊎ (lower q (follow g q) ≡ follow g q) → (p ≡ q) ⊎ (follow g p ≡ q)
      go (inl a) (inl b) = inl (sym a ∙ e ∙ b)
      go (inl a) (inr b) = inr (ap (follow g) (sym a ∙ e ∙ b) ∙ follow_back g w q m)
      go (inr a) (inl b) = inr (sym a ∙ e ∙ b)
      go (inr a) (inr b) = inl (sym (follow_back g w p l) ∙ ap (follow g) (sym a ∙ e ∙ b) ∙ follow_back g w q m)

  module _ (ids : List ℕ) where
    -- a port of one of the nodes `ids`
    abbrev pub Among : Port → Type 0
    Among p = Memᴰ p.node ids × Real g p

    -- its wire was met
    wire_met : (p : Port) → Among p → any (same_port (wire_at g p)) (wires_met g ids) ≡ true
    unfolding wires_met
    wire_met p a =
        firsts_all same_port same_port_true same_port_self (map (wire_at g) (concat_map (ports g) ids)) [] (wire_at g p)
        (map_mem (wire_at g) (concat_map (ports g) ids) p (concat_mem (ports g) ids p.node p a.0 (ports_mem g p a.1))) refl

    pub number_below : (p : Port) → Among p → wire_number g (wires_met g ids) p < length (wires_met g ids)
    unfolding wire_number
    number_below p a = place_below same_port same_port_true same_port_self (wire_at g p) (wires_met g ids) (wire_met p a)

    -- two ports have one number exactly if they are one, or wired together
    pub one_number : (p q : Port) → Among p → Among q → (wire_number g (wires_met g ids) p ≡ wire_number g (wires_met g ids) q) ↔ ((p ≡ q) ⊎ (across g p ≡ some q))
    unfolding wire_number
    one_number p q a b = (
      λ e. to (wire_one p q a.1 b.1 (place_one same_port same_port_true same_port_self (wire_at g p) (wire_at g q) (wires_met g ids) (wire_met p a) (wire_met q b) e)),
      back,
    )
      where
        to : (p ≡ q) ⊎ (follow g p ≡ q) → (p ≡ q) ⊎ (across g p ≡ some q)
        to (inl e) = inl e
        to (inr e) = inr (follow_across g w p a.1 ∙ ap {B = Option Port} some e)

        back : (p ≡ q) ⊎ (across g p ≡ some q) → place (same_port (wire_at g p)) (wires_met g ids) ≡ place (same_port (wire_at g q)) (wires_met g ids)
        back (inl e) = ap (λ (r : Port). place (same_port (wire_at g r)) (wires_met g ids)) e
        back (inr e) =
            ap (λ (r : Port). place (same_port r) (wires_met g ids)) (sym (wire_across p a.1)) ∙ ap (λ (r : Port). place (same_port (wire_at g r)) (wires_met g ids)) (across_follow g w p q e)

    -- "numbers wires at first meeting from 0"
    pub in_order : firsts eqb [] (map (wire_number g (wires_met g ids)) (concat_map (ports g) ids)) ≡ up_to (length (wires_met g ids))
    unfolding wire_number wires_met
    in_order =
        ap (firsts eqb []) (sym (map_map (λ x. place (same_port x) (firsts same_port [] (map (wire_at g) (concat_map (ports g) ids)))) (wire_at g) (concat_map (ports g) ids)))
        ∙ met_in_order same_port same_port_true same_port_self (map (wire_at g) (concat_map (ports g) ids))
