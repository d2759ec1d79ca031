-- `to_tree`, `to_flat` and the flat `resolve_links` of net.rs. Document 01, "Trees and pruning".
use Rattle.std.specs.Prelude.{ℕ, zero, suc, Bool, true, false, not, ◌&&◌, List, [], ◌∷◌, ◌++◌, map, eqb, ltb}
use Rattle.std.proofs.Math.Option.{Option, none, some}
use Rattle.net_file.specs.Lists.{Result, ok, refuse, any}
use Rattle.net_file.specs.Values.{Name, FlatNode, FlatNet, Tree, wire, node, Trees, more, trees, TreeNet}
use Rattle.net_file.specs.Values
use Rattle.net_file.specs.Checks.{places}
use Rattle.conversions.specs.Links.{Links, link, canonical, links_of, pairs_of}

-- the greatest wire counter; conversions refuse to go past it by 18
abbrev pub max_wires : ℕ
max_wires = 65536

infixl 10 ◌>>=◌
abbrev pub ◌>>=◌ : {A B : Type 0} → Result A → (A → Result B) → Result B
ok a >>= f = f a
refuse r >>= f = refuse r

-- one after the other, the state handed on, until one refuses
unfoldable pub each : {A B S : Type 0} → (A → S → Result (B × S)) → List A → S → Result (List B × S)
each f [] s = ok ([], s)
each f (x ∷ xs) s = f x s >>= λ r. each f xs r.1 >>= λ q. ok (r.0 ∷ q.0, q.1)

-- ---- to_tree: each node hangs on its principal wire

unfoldable pub to_tree : FlatNet → TreeNet
to_tree n =
    let l = links_of n.pairs in
    record {
      name = n.name;
      included = n.included;
      wires = n.wires;
      free = map (λ w. wire (canonical l w)) n.free;
      links = map (λ m. (wire (canonical l m.pri), node m.name (trees (map (λ w. wire (canonical l w)) m.aux)))) n.nodes;
    }

-- ---- resolve_links of a flat net: each wire of a pair takes the smaller number; pairs that occur nowhere stay

-- the pairs whose wires are in none of these places
unfoldable pub unused : List ℕ → List (ℕ × ℕ) → List (ℕ × ℕ)
unused ws [] = []
unused ws (p ∷ ps) = elim (any (eqb p.0) ws) [ true ↦ unused ws ps | false ↦ p ∷ unused ws ps ]

unfoldable pub resolve_flat : FlatNet → FlatNet
resolve_flat n =
    let l = links_of n.pairs in
    let c = canonical l in
    record {
      name = n.name;
      included = n.included;
      wires = n.wires;
      free = map c n.free;
      pairs = unused (places n) n.pairs;
      nodes = map (λ m. let k : FlatNode = record { name = m.name; pri = c m.pri; aux = map c m.aux } in k) n.nodes;
    }

-- ---- to_flat: a node takes a number before its children, left to right

-- the wire counter, the links and the nodes so far
pub record Made : Type 0 where
  pub wires : ℕ
  pub links : Links
  pub nodes : List FlatNode

-- a new wire, unless all 65,536 are taken
unfoldable pub fresh : Made → Result (ℕ × Made)
fresh s = elim (ltb s.wires max_wires) [
  | true ↦ ok (s.wires, record { wires = suc s.wires; links = s.links; nodes = s.nodes })
  | false ↦ refuse 18
]

-- a wire that is given, or a new one
unfoldable pub up_or : Option ℕ → Made → Result (ℕ × Made)
up_or none s = fresh s
up_or (some w) s = ok (w, s)

-- a wire that hangs on another is linked with it
unfoldable pub hang : Option ℕ → ℕ → Made → Made
hang none w s = s
hang (some u) w s = record { wires = s.wires; links = link s.links u w; nodes = s.nodes }

-- a tree embedded: its top wire; its node stands before those of its children
unfoldable mutual
  pub embed : Tree → Option ℕ → Made → Result (ℕ × Made)
  embed (wire w) up s = ok (w, hang up w s)
  embed (node m ts) up s =
      up_or up s >>= λ p. embed_all ts (record { wires = p.1.wires; links = p.1.links; nodes = [] }) >>= λ q.
      ok (p.0, record { wires = q.1.wires; links = q.1.links; nodes = p.1.nodes ++ (record { name = m; pri = p.0; aux = q.0 } ∷ q.1.nodes) })

  pub embed_all : Trees → Made → Result (List ℕ × Made)
  embed_all Values.none s = ok ([], s)
  embed_all (more t ts) s = embed t none s >>= λ p. embed_all ts p.1 >>= λ q. ok (p.0 ∷ q.0, q.1)

-- the right tree of a link hangs on the wire of the left one
unfoldable pub embed_link : Tree × Tree → Made → Result (ℕ × Made)
embed_link l s = embed l.0 none s >>= λ p. embed l.1 (some p.0) p.1

unfoldable pub to_flat : TreeNet → Result FlatNet
to_flat n =
    each (λ t s. embed t none s) n.free (record { wires = n.wires; links = []; nodes = [] }) >>= λ p.
    each embed_link n.links p.1 >>= λ q.
    let s = q.1 in
    ok (record { name = n.name; included = n.included; wires = s.wires; free = p.0; pairs = pairs_of s.links s.wires; nodes = s.nodes })
