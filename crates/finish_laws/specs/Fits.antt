-- A net that draws a graph whose nodes can be written fits: its wires are below its counter, and the counter within 65,536.
use Prim.Native.Nat.{ℕ, zero, suc, ◌+◌, ◌*◌, ◌-◌, ◌≤◌, ◌<◌}
use Rattle.std.specs.Prelude.{◌≡◌, refl, Bool, true, false, drop, eqb}
use Rattle.std.proofs.Common.{sym, ◌∙◌, arith, length-append, eqb-true, eq-eqb}
use Rattle.std.proofs.Math.Path.{ap, subst}
use Rattle.std.proofs.Math.Bool.{not}
use mathlib.Core.List.{List, [], ◌∷◌, map, Memᴰ}
use Rattle.std.proofs.Math.ListN.{length, length-map, length-drop}
use Rattle.net_file.specs.Lists.{concat_map}
use Rattle.net_file.specs.Values.{Name, FlatNode, FlatNet}
use Rattle.net_file_laws.specs.Exact.{Each}
use Rattle.net_file_laws.specs.Parts.{NameFits}
use Rattle.net_file_laws.specs.Flat.{NodeFits, FlatNetFits}
use Rattle.definitions.specs.Lists.{keep, firsts, from, up_to}
use Rattle.definitions.specs.Nets.{Port, Graph, Home, port, name_of, arity, ports}
use Rattle.definitions.specs.Step.{NodesOf}
use Rattle.join_laws.specs.Ports.{Real}
use Rattle.rule_laws.specs.Rows.{mem_row}
use Rattle.graph_laws.specs.Rest.{FreeNode, holds_filled}
use Rattle.graph_laws.specs.Nodes.{AllNodes}
use Rattle.finish_laws.specs.Firsts.{firsts_shorter, firsts_all, any_in}
use Rattle.finish_laws.specs.Wires.{ports_mem, concat_mem, map_mem}
use Rattle.finish_laws.specs.Drawn.{others, written, stands, Drawn, keep_in}

-- ---- rows

pub length_from : (a i : ℕ) → length (from i a) ≡ a
length_from zero i = refl
length_from (suc a) i = ap suc (length_from a (suc i))

length_ports : (g : Graph) (n : ℕ) → length (ports g n) ≡ arity g n
unfolding ports
length_ports g n = length-map (up_to (arity g n)) (port n) ∙ length_from (arity g n) 0

keep_shorter : (f : ℕ → Bool) (xs : List ℕ) → length (keep f xs) ≤ length xs
keep_shorter f [] = omega arith
keep_shorter f (x ∷ xs) = go (f x) (keep_shorter f xs)
  where
    go : (t : Bool) → length (keep f xs) ≤ length xs → length {A = ℕ} (elim t as (λ _. List ℕ) [ true ↦ x ∷ keep f xs | false ↦ keep f xs ]) ≤ suc (length xs)
    go true h = omega arith
    go false h = omega arith

-- 16 ports a node
ports_few : (g : Graph) (ns : List ℕ) → ((n : ℕ) → Memᴰ n ns → arity g n ≤ 16) → length (concat_map (ports g) ns) ≤ 16 * length ns
ports_few g [] h = omega arith
ports_few g (n ∷ ns) h =
    let a = length-append (ports g n) (concat_map (ports g) ns) in
    let b = length_ports g n in
    let c = h n (Memᴰ.head refl) in
    let d = ports_few g ns (λ m k. h m (Memᴰ.tail k)) in
    omega arith

pub each_map : {A B : Type 0} (P : B → Type 0) (f : A → B) (xs : List A) → ((x : A) → Memᴰ x xs → P (f x)) → Each P (map f xs)
each_map P f [] h = tt
each_map P f (x ∷ xs) h = (h x (Memᴰ.head refl), each_map P f xs (λ y m. h y (Memᴰ.tail m)))

-- ---- a net

module _ (path k : ℕ) (g : Graph) (h : Home) (node : FreeNode path g k h) (ids : List ℕ) (nodes : NodesOf g k ids) (t : FlatNet) (d : Drawn g ids h.free t) where
  -- a wire's number is below the counter
  number_below : (p : Port) → Memᴰ p.node ids → Real g p → d.wire p < t.wires
  number_below p m l =
      let i = firsts_all eqb eqb-true (λ n. eq-eqb n n refl) (map d.wire (concat_map (ports g) ids)) [] (d.wire p)
      (map_mem d.wire (concat_map (ports g) ids) p (concat_mem (ports g) ids p.node p m (ports_mem g p l))) refl in
      let z = below t.wires 0 (d.wire p) (subst (Memᴰ (d.wire p)) d.order (any_in eqb eqb-true (λ n. eq-eqb n n refl) (d.wire p) (firsts eqb [] (map d.wire (concat_map (ports g) ids))) i)) in
      omega arith
    where
      ids_map : (n i : ℕ) → map (λ j. j) (from i n) ≡ from i n
      ids_map zero i = refl
      ids_map (suc n) i = ap (λ (l : List ℕ). i ∷ l) (ids_map n (suc i))

      below : (n i v : ℕ) → Memᴰ v (from i n) → v < i + n
      below n i v q = let y = mem_row (λ j. j) n i v (subst (Memᴰ v) (sym (ids_map n i)) q) in let e = y.3 in let u = y.2 in omega arith

  module _ (few : (n : ℕ) → Memᴰ n ids → arity g n ≤ 16) (most : length ids ≤ 4096) where
    -- the counter is at most the number of ports
    counter_fits : t.wires ≤ 65536
    counter_fits =
        let a : length (firsts eqb [] (map d.wire (concat_map (ports g) ids))) ≡ t.wires = ap length d.order ∙ length_from t.wires 0 in
        let b = firsts_shorter eqb eqb-true (λ n. eq-eqb n n refl) (map d.wire (concat_map (ports g) ids)) [] in
        let c = length-map (concat_map (ports g) ids) d.wire in
        let e = ports_few g ids few in
        omega arith

    -- a node's wires
    node_wires : (n : ℕ) → Memᴰ n ids → Each (λ v. v < t.wires) (map d.wire (ports g n))
    unfolding ports
    node_wires n m = each_map (λ v. v < t.wires) d.wire (ports g n) (λ p q.
        let y = mem_row (port n) (arity g n) 0 p q in
        let s : p.node ≡ n = ap (λ (x : Port). x.node) y.3 in
        let i : p.index ≡ y.0 = ap (λ (x : Port). x.index) y.3 in
        let u = y.2 in
        number_below p (subst (λ (j : ℕ). Memᴰ j ids) (sym s) m) (subst (λ (j : ℕ). p.index < arity g j) (sym s) (omega arith)))

    nodes_fit : (paths names : ℕ) → AllNodes (λ m s. NameFits paths names m × (s ≤ 16)) g → (xs : List FlatNode) (ns : List ℕ) → ((n : ℕ) → Memᴰ n ns → Memᴰ n ids)
        → map written xs ≡ map (stands g d.wire) ns → Each (NodeFits paths names t.wires) xs
    nodes_fit paths names w [] ns i e = tt
    nodes_fit paths names w (x ∷ xs) [] i e = let z : suc (length (map written xs)) ≡ 0 = ap length e in absurd (omega arith)
    nodes_fit paths names w (x ∷ xs) (n ∷ ns) i e =
        let head : written x ≡ stands g d.wire n = cc in
        let tail : map written xs ≡ map (stands g d.wire) ns = cc in
        let m = i n (Memᴰ.head refl) in
        let name : x.name ≡ name_of g n = ap (λ (y : Name × List ℕ). y.0) head in
        let wires : x.pri ∷ x.aux ≡ map d.wire (ports g n) = ap (λ (y : Name × List ℕ). y.1) head in
        let fit = subst (Each (λ v. v < t.wires)) (sym wires) (node_wires n m) in
        let long : suc (length x.aux) ≡ arity g n = ap length wires ∙ length-map (ports g n) d.wire ∙ length_ports g n in
        let q = w n (holds_filled g k n (nodes.sound n m)) in
        let a = q.1 in (
          record { name = subst (NameFits paths names) (sym name) q.0; pri = fit.0; few = omega arith; aux = fit.1 },
          nodes_fit paths names w xs ns (λ j l. i j (Memᴰ.tail l)) tail,
        )

    pub drawn_fits : (paths names free : ℕ) → AllNodes (λ m s. NameFits paths names m × (s ≤ 16)) g → arity g h.free ≡ 2 + free → free ≤ 14 → t.name < names → FlatNetFits paths names t
    unfolding ports
    drawn_fits paths names free w two low name = record {
      name = name;
      wires = counter_fits;
      few_free =
          let a = ap length d.free_wires in
          let b = length-map (drop 2 (ports g h.free)) d.wire in
          let c = length-drop 2 (ports g h.free) in
          let e = length_ports g h.free in
          omega arith;
      free = subst (Each (λ v. v < t.wires)) (sym d.free_wires) (each_drop 2 d.wire (ports g h.free) (node_wires h.free (nodes.full h.free node.held)));
      few_pairs = let a = ap length d.pairs in omega arith;
      pairs = subst (Each (λ (p : ℕ × ℕ). (p.0 < t.wires) × (p.1 < t.wires))) (sym d.pairs) tt;
      few_nodes =
          let a = ap length d.nodes in
          let b = length-map t.nodes written in
          let c = length-map (others h.free ids) (stands g d.wire) in
          let e = keep_shorter (λ n. not (eqb n h.free)) ids in
          omega arith;
      nodes = nodes_fit paths names w t.nodes (others h.free ids) (λ n m. (keep_in (λ j. not (eqb j h.free)) ids n m).0) d.nodes;
    }
      where
        each_drop : (i : ℕ) (f : Port → ℕ) (ps : List Port) → Each (λ v. v < t.wires) (map f ps) → Each (λ v. v < t.wires) (map f (drop i ps))
        each_drop zero f ps e = e
        each_drop (suc i) f [] e = tt
        each_drop (suc i) f (p ∷ ps) e = each_drop i f ps e.1
