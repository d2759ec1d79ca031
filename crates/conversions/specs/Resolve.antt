-- `resolve_links` of a tree net, as in net.rs: wire-to-wire links are dropped, a tree that hangs on a wire moves to where that
-- wire occurs; trees in a vicious circle keep their inner wires and come last by ascending wire. 17: a tree deeper than 64.
use Rattle.std.specs.Prelude.{ℕ, zero, suc, ◌+◌, min, Bool, true, false, List, [], ◌∷◌, ◌++◌, map, length, eqb, leb, ltb}
use Rattle.std.proofs.Math.Option.{Option, none, some}
use Rattle.net_file.specs.Lists.{Result, ok, refuse, all}
use Rattle.net_file.specs.Values.{Name, Tree, wire, node, Trees, more, TreeNet}
use Rattle.net_file.specs.Values
use Rattle.net_file.specs.Checks.{trees_of}
use Rattle.conversions.specs.Links.{Links, get, remove, insert, link}

-- the wire links that are not used up yet, and the trees that hang on a wire
pub record Hung : Type 0 where
  pub links : Links
  pub trees : List (ℕ × Tree)

-- the smaller of a wire and what it is linked with; the link is then used up on this side (`canonicalize`)
unfoldable pub canonicalize : Hung → ℕ → ℕ × Hung
canonicalize s a = elim (get s.links a) [
  | none ↦ (a, s)
  | some b ↦ (min a b, record { links = remove s.links a; trees = s.trees })
]

-- the links of two wires
unfoldable pub wire_links : List (Tree × Tree) → Links → Links
wire_links [] l = l
wire_links (p ∷ ps) l = wire_links ps (one p.0 p.1)
  where
    one : Tree → Tree → Links
    one (wire a) (wire b) = link l a b
    one (wire a) (node m ts) = l
    one (node m ts) t = l

-- a tree meets a wire: it hangs there, or is linked with the tree that does
unfoldable pub meet : ℕ → Tree → Hung → List (Tree × Tree) × Hung
meet w t s =
    let c = canonicalize s w in
    let r = c.1 in
    elim (get r.trees c.0) [
      | none ↦ ([], record { links = r.links; trees = insert r.trees c.0 t })
      | some u ↦ ((u, t) ∷ [], record { links = r.links; trees = remove r.trees c.0 })
    ]

-- the links that are kept, in the order of the pass
unfoldable pub pass : List (Tree × Tree) → Hung → List (Tree × Tree) × Hung
pass [] s = ([], s)
pass (p ∷ ps) s = let r = one p.0 p.1 in let q = pass ps r.1 in (r.0 ++ q.0, q.1)
  where
    one : Tree → Tree → List (Tree × Tree) × Hung
    one (wire a) (wire b) = ([], s)
    one (wire a) (node m ts) = meet a (node m ts) s
    one (node m ts) (wire b) = meet b (node m ts) s
    one (node m ts) (node k us) = ((node m ts, node k us) ∷ [], s)

-- a tree with its wires renamed, and each that a tree hangs on taken for that tree, which is visited `again`
unfoldable mutual
  pub visit_by : (Tree → Hung → Tree × Hung) → Tree → Hung → Tree × Hung
  visit_by again (wire w) s =
      let c = canonicalize s w in
      let r = c.1 in
      elim (get r.trees c.0) [
        | none ↦ (wire c.0, r)
        | some t ↦ again t (record { links = r.links; trees = remove r.trees c.0 })
      ]
  visit_by again (node m ts) s = let r = visit_all again ts s in (node m r.0, r.1)

  pub visit_all : (Tree → Hung → Tree × Hung) → Trees → Hung → Trees × Hung
  visit_all again Values.none s = (Values.none, s)
  visit_all again (more t ts) s = let r = visit_by again t s in let q = visit_all again ts r.1 in (more r.0 q.0, q.1)

-- each tree that hangs is taken once, so as many visits go as deep as there are
unfoldable pub visit : ℕ → Tree → Hung → Tree × Hung
visit zero t s = (t, s)
visit (suc n) t s = visit_by (visit n) t s

unfoldable pub visits : {A : Type 0} → (A → Hung → A × Hung) → List A → Hung → List A × Hung
visits f [] s = ([], s)
visits f (x ∷ xs) s = let r = f x s in let q = visits f xs r.1 in (r.0 ∷ q.0, q.1)

unfoldable pub visit_link : ℕ → Tree × Tree → Hung → (Tree × Tree) × Hung
visit_link n l s = let a = visit n l.0 s in let b = visit n l.1 a.1 in ((a.0, b.0), b.1)

-- what is left in vicious circles, by ascending wire
unfoldable pub put : ℕ × Tree → List (ℕ × Tree) → List (ℕ × Tree)
put e [] = e ∷ []
put e (f ∷ fs) = let r = put e fs in elim (ltb e.0 f.0) [ true ↦ e ∷ f ∷ fs | false ↦ f ∷ r ]

unfoldable pub sorted : List (ℕ × Tree) → List (ℕ × Tree)
sorted [] = []
sorted (e ∷ es) = put e (sorted es)

-- a net with these free trees and links
unfoldable pub with_trees : TreeNet → List Tree → List (Tree × Tree) → TreeNet
with_trees n free links = record { name = n.name; included = n.included; wires = n.wires; free = free; links = links }

-- where no tree is left hanging nothing is renamed; else all free trees and kept links are visited
unfoldable pub resolve_all : TreeNet → TreeNet
resolve_all n =
    let p = pass n.links (record { links = wire_links n.links []; trees = [] }) in
    let h = length p.1.trees in
    elim (eqb h 0) [
      | true ↦ with_trees n n.free p.0
      | false ↦
          let f = visits (visit (suc h)) n.free p.1 in
          let k = visits (visit_link (suc h)) p.0 f.1 in
          with_trees n f.0 (k.0 ++ map (λ e. (wire e.0, e.1)) (sorted k.1.trees))
    ]

-- a wire is 0 deep, a node one more than its deepest child, 1 if childless
unfoldable mutual
  pub deeper : ℕ → Tree → Bool
  deeper d (wire w) = false
  deeper d (node m ts) = elim d [ zero ↦ true | suc c ↦ deeper_any c ts ]

  pub deeper_any : ℕ → Trees → Bool
  deeper_any d Values.none = false
  deeper_any d (more t ts) = elim (deeper d t) [ true ↦ true | false ↦ deeper_any d ts ]

unfoldable pub resolve_tree : TreeNet → Result TreeNet
resolve_tree n = let r = resolve_all n in elim (all (λ t. elim (deeper 64 t) [ true ↦ false | false ↦ true ]) (trees_of r)) [ true ↦ ok r | false ↦ refuse 17 ]
