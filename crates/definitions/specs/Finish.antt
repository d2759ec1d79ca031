-- Level Engine, 6: finishing. Document 01: "walks each node list in order, each live number at its first place only, and numbers
-- wires at first meeting from 0".
use Rattle.std.specs.Prelude.{ℕ, Bool, not, cond, ◌&&◌, ◌||◌, List, [], ◌∷◌, map, length, drop, eqb, leb, ltb}
use Rattle.std.proofs.Math.Option.{Option, none, some}
use Rattle.net_file.specs.Lists.{concat_map}
use Rattle.net_file.specs.Values.{FlatNode, FlatNet, File}
use Rattle.definitions.specs.Lists.{keep, place, firsts}
use Rattle.definitions.specs.Nets.{Port, Graph, port, same_port, holds, name_of, ports, aux, follow}
use Rattle.definitions.specs.State.{Engine, graph_of, net_at}
use Rattle.definitions.specs.Books.{tight}
use Rattle.definitions.specs.Load.{with_free_path, included}
use Rattle.definitions.specs.Visit.{get_net}

-- by node, then by index
unfoldable pub lower : Port → Port → Port
lower p q = cond (ltb p.node q.node || (eqb p.node q.node && leb p.index q.index)) p q

-- the lower of a wire's two ports stands for it
unfoldable pub wire_at : Graph → Port → Port
wire_at g p = lower p (follow g p)

-- the wires at the nodes `ids`, in the order in which they are met
unfoldable pub wires_met : Graph → List ℕ → List Port
wires_met g ids = firsts same_port [] (map (wire_at g) (concat_map (ports g) ids))

-- a wire's number is its place among those met
unfoldable pub wire_number : Graph → List Port → Port → ℕ
wire_number g met p = place (same_port (wire_at g p)) met

-- its ports in order, as wire numbers
unfoldable pub flat_node : Graph → List Port → ℕ → FlatNode
flat_node g met n = record { name = name_of g n; pri = wire_number g met (port n 0); aux = map (wire_number g met) (aux g n) }

-- net k's nodes in list order
unfoldable pub live_nodes : Engine → ℕ → List ℕ
live_nodes e k = (tight (holds (graph_of e) k) (net_at e k).list).items

-- net k in place of t: "Included nets come out without pairs"
unfoldable pub flat_net : Engine → ℕ → FlatNet → FlatNet
flat_net e k t =
    let g = graph_of e in
    let ids = live_nodes e k in
    let free = (net_at e k).home.free in
    let met = wires_met g ids in
    record {
      name = t.name;
      included = t.included;
      wires = length met;
      free = map (wire_number g met) (drop 2 (ports g free));
      pairs = [];
      nodes = map (flat_node g met) (keep (λ n. not (eqb n free)) ids);
    }

-- nets that are not included "pass unchanged"
unfoldable pub finish_net : Engine → FlatNet → FlatNet
finish_net e t = elim (get_net e t.name) [ none ↦ t | some k ↦ flat_net e k t ]

-- "Rules, marks and tables (the added path apart) stay"
unfoldable pub result : File FlatNet → Engine → File FlatNet
result f e = record {
  limit = e.limit;
  paths = elim (included f) [ [] ↦ f.paths | t ∷ ts ↦ with_free_path f.paths ];
  names = f.names;
  rules = f.rules;
  nets = map (finish_net e) f.nets;
}
