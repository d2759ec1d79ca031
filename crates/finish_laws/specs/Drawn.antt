-- A net of a file is the graph of a net's nodes. Document 01: "Finishing walks each node list in order, each live number at its first
-- place only, and numbers wires at first meeting from 0. Included nets come out without pairs."
use Rattle.std.specs.Prelude.{ℕ, ◌<◌, ◌≡◌, refl, ◌⊎◌, ◌↔◌, Bool, true, false, not, drop, eqb}
use Rattle.std.proofs.Common.{sym, ap, ◌∙◌, inl, inr, true≢false}
use Rattle.std.proofs.Math.Option.{some}
use mathlib.Core.List.Memᴰ
use mathlib.Core.List.{List, [], ◌∷◌, map, Memᴰ}
use Rattle.net_file.specs.Lists.{concat_map}
use Rattle.net_file.specs.Values.{Name, FlatNode, FlatNet}
use Rattle.definitions.specs.Lists.{keep, firsts, up_to}
use Rattle.definitions.specs.Nets.{Port, Graph, name_of, arity, ports, across}
use Rattle.definitions.specs.State.{Engine, graph_of, net_at}
use Rattle.definitions.specs.Finish.{wire_number, wires_met, flat_node, live_nodes, flat_net}
use Rattle.definitions.specs.Step.{NodesOf}
use Rattle.join_laws.specs.Ports.{Real}
use Rattle.script_laws.specs.Tidy.{WellWired}
use Rattle.rule_laws.specs.Places.{Ported}
use Rattle.graph_laws.specs.Rest.{holds_filled}
use Rattle.finish_laws.specs.Wires

-- the nodes but the free node
abbrev pub others : ℕ → List ℕ → List ℕ
others free ids = keep (λ n. not (eqb n free)) ids

-- a node's name and the wires at its ports, the principal one first: in a file, and in a graph
abbrev pub written : FlatNode → Name × List ℕ
written x = (x.name, x.pri ∷ x.aux)

abbrev pub stands : Graph → (Port → ℕ) → ℕ → Name × List ℕ
stands g wire n = (name_of g n, map wire (ports g n))

-- t draws the nodes `ids` of g, of which `free` is the free node
pub record Drawn (g : Graph) (ids : List ℕ) (free : ℕ) (t : FlatNet) : Type 0 where
  -- the number of the wire at a port
  pub wire : Port → ℕ
  -- two ports have one number exactly if they are one port, or wired together
  pub same : (p q : Port) → Memᴰ p.node ids × Real g p → Memᴰ q.node ids × Real g q → (wire p ≡ wire q) ↔ ((p ≡ q) ⊎ (across g p ≡ some q))
  -- numbers at first meeting are 0, 1, 2 .. over the nodes in order, their ports in order
  pub order : firsts eqb [] (map wire (concat_map (ports g) ids)) ≡ up_to t.wires
  -- free port i is port 2 + i of the free node
  pub free_wires : t.free ≡ map wire (drop 2 (ports g free))
  -- the other nodes in order
  pub nodes : map written t.nodes ≡ map (stands g wire) (others free ids)
  pub pairs : t.pairs ≡ []

-- what is kept was there, and passes
pub keep_in : {A : Type 0} (f : A → Bool) (xs : List A) (x : A) → Memᴰ x (keep f xs) → Memᴰ x xs × (f x ≡ true)
keep_in f [] x m = absurd (Memᴰ.not-nil m)
keep_in {A} f (y ∷ ys) x m = go (f y) refl m (keep_in f ys x)
  where
    go : (t : Bool) → f y ≡ t → Memᴰ x (elim t as (λ _. List A) [ true ↦ y ∷ keep f ys | false ↦ keep f ys ]) → (Memᴰ x (keep f ys) → Memᴰ x ys × (f x ≡ true)) → Memᴰ x (y ∷ ys) × (f x ≡ true)
    go true e k r = via (Memᴰ.cases_cons k)
      where
        via : (x ≡ y) ⊎ Memᴰ x (keep f ys) → Memᴰ x (y ∷ ys) × (f x ≡ true)
        via (inl s) = (Memᴰ.head s, ap f s ∙ e)
        via (inr q) = (Memᴰ.tail (r q).0, (r q).1)
    go false e k r = (Memᴰ.tail (r k).0, (r k).1)

-- what was there and passes is kept
pub in_keep : {A : Type 0} (f : A → Bool) (xs : List A) (x : A) → Memᴰ x xs → f x ≡ true → Memᴰ x (keep f xs)
in_keep f [] x m e = absurd (Memᴰ.not-nil m)
in_keep {A} f (y ∷ ys) x m e = go (f y) refl (Memᴰ.cases_cons m) (λ k. in_keep f ys x k e)
  where
    go : (t : Bool) → f y ≡ t → (x ≡ y) ⊎ Memᴰ x ys → (Memᴰ x ys → Memᴰ x (keep f ys)) → Memᴰ x (elim t as (λ _. List A) [ true ↦ y ∷ keep f ys | false ↦ keep f ys ])
    go true q (inl s) r = Memᴰ.head s
    go true q (inr k) r = Memᴰ.tail (r k)
    go false q (inl s) r = absurd (true≢false (sym e ∙ ap f s ∙ q))
    go false q (inr k) r = r k

-- a node as it is written
pub node_drawn : (g : Graph) (met : List Port) (n : ℕ) → 0 < arity g n
    → written (flat_node g met n) ≡ stands g (wire_number g met) n
unfolding flat_node
node_drawn g met n l = λ i. (name_of g n, map (wire_number g met) (sym (Wires.ports_split g n l) i))

-- and all of them
nodes_drawn : (g : Graph) (met : List Port) (ns : List ℕ) → ((n : ℕ) → Memᴰ n ns → 0 < arity g n)
    → map written (map (flat_node g met) ns) ≡ map (stands g (wire_number g met)) ns
nodes_drawn g met [] h = refl
nodes_drawn g met (n ∷ ns) h = λ i. node_drawn g met n (h n (Memᴰ.head refl)) i ∷ nodes_drawn g met ns (λ k m. h k (Memᴰ.tail m)) i

-- the finish draws a net's nodes
pub finish_drawn : (e : Engine) (k : ℕ) (t : FlatNet) → WellWired (graph_of e) → Ported (graph_of e) → NodesOf (graph_of e) k (live_nodes e k)
    → Drawn (graph_of e) (live_nodes e k) (net_at e k).home.free (flat_net e k t)
unfolding flat_net
finish_drawn e k t w ported nodes = record {
  wire = wire_number (graph_of e) (wires_met (graph_of e) (live_nodes e k));
  same = Wires.one_number (graph_of e) w (live_nodes e k);
  order = Wires.in_order (graph_of e) w (live_nodes e k);
  free_wires = refl;
  nodes = nodes_drawn (graph_of e) (wires_met (graph_of e) (live_nodes e k)) (others (net_at e k).home.free (live_nodes e k))
      (λ n m. ported n (holds_filled (graph_of e) k n (nodes.sound n (keep_in (λ n. not (eqb n (net_at e k).home.free)) (live_nodes e k) n m).0)));
  pairs = refl;
}
