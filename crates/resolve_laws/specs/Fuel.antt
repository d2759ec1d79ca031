-- The walk that counts down the depth is the definition's visit, cut where the tree is deeper; the fuel of the definition suffices,
-- since each tree that hangs is taken once.
use Rattle.std.specs.Prelude.{ℕ, zero, suc, ◌<◌, ◌≤◌, ◌≡◌, refl, Bool, true, false, List, length}
use Rattle.std.proofs.Common.{sym, ap, ◌∙◌, arith}
use Rattle.std.proofs.Math.Option.{Option, none, some}
use Rattle.net_file.specs.Values.{Name, Tree, wire, node, Trees, more}
use Rattle.net_file.specs.Values
use Rattle.conversions.specs.Links.{get, remove}
use Rattle.conversions.specs.Resolve.{Hung, canonicalize, visit_by, visit_all, visit, deeper, deeper_any}
use Rattle.wire_tables_laws.specs.Get.{remove_less}
use Rattle.resolve_laws.specs.Walk.{then, led_by, lead, at_node, walk_all, too_deep, walk, below, walk_is, cut, limited, limited_all, on_led, visit_wire}
use Rattle.resolve_laws.specs.Kept.{IsNode, Nodes, nodes_remove, nodes_get, canonical_trees, by_keeps}

-- a node leads to itself
pub walk_node : (d : ℕ) (m : Name) (ts : Trees) (s : Hung) → walk d (node m ts) s ≡ then (below d ts s) (λ r. some (node m r.0, r.1))
unfolding lead at_node
walk_node d m ts s = walk_is d (node m ts) s

-- what is cut is cut still
pub cut_as : {A B : Type 0} (b : Bool) (a : A) (f : A → B) → then (cut b a) (λ x. some (f x)) ≡ cut b (f a)
unfolding then cut
cut_as true a f = refl
cut_as false a f = refl

-- as deep as before by one more
pub cut_node : (d : ℕ) (m : Name) (r : Trees × Hung) → then (limited_all d r) (λ q. some (node m q.0, q.1)) ≡ limited (suc d) (node m r.0, r.1)
unfolding limited_all limited deeper
cut_node d m r = cut_as (deeper_any d r.0) r (λ q. (node m q.0, q.1))

-- a walk of what is led to, where that is a node
pub walk_led : (d : ℕ) (t : Tree) (s : Hung) → IsNode t → at_node (below d) t s ≡ walk d t s
unfolding at_node
walk_led d (wire w) s h = absurd h
walk_led d (node m ts) s h = sym (walk_node d m ts s)

-- a wire is never too deep
pub wire_cut : (d w : ℕ) (s : Hung) → at_node (below d) (wire w) s ≡ limited d (wire w, s)
unfolding at_node limited deeper cut
wire_cut d w s = refl

-- a node is, where no depth is left
pub node_cut : (m : Name) (ts : Trees) (s : Hung) (r : Trees × Hung) → then (below 0 ts s) (λ q. some (node m q.0, q.1)) ≡ limited 0 (node m r.0, r.1)
unfolding then below too_deep limited deeper cut
node_cut m ts s r = refl

-- no children are not
pub none_cut : (d : ℕ) (s : Hung) → some (Values.none, s) ≡ limited_all d (Values.none, s)
unfolding limited_all deeper cut
none_cut d s = refl

-- one tree, then others
pub both_cut : (d : ℕ) (us : Trees) (x : Tree × Hung) (y : Trees × Hung) → walk_all (walk d) us x.1 ≡ limited_all d y
    → then {B = Trees × Hung} (limited d x) (λ z. then {B = Trees × Hung} (walk_all (walk d) us z.1) (λ v. some (more z.0 v.0, v.1))) ≡ limited_all d (more x.0 y.0, y.1)
unfolding then limited limited_all deeper cut
both_cut d us x y g = go (deeper d x.0) (deeper_any d y.0) g
  where
    go : (a b : Bool) → walk_all (walk d) us x.1 ≡ cut b y
        → then {B = Trees × Hung} (cut a x) (λ z. then {B = Trees × Hung} (walk_all (walk d) us z.1) (λ v. some (more z.0 v.0, v.1)))
        ≡ cut (elim a [ true ↦ true | false ↦ b ]) (more x.0 y.0, y.1)
    go true b f = refl
    go false true f = rw f
    go false false f = rw f

module _ (n : ℕ) (ih : (d : ℕ) (t : Tree) (s : Hung) → Nodes s.trees → length s.trees < n → walk d t s ≡ limited d (visit n t s)) where
  -- what a wire leads to
  pub led_step : (d w : ℕ) (s : Hung) (o : Option Tree) → get s.trees w ≡ o → Nodes s.trees → length s.trees < suc n
      → at_node (below d) (led_by w s o).0 (led_by w s o).1 ≡ limited d (on_led (visit n) w s o)
  unfolding led_by on_led
  led_step d w s none e h l = wire_cut d w s
  led_step d w s (some t) e h l =
      let r : Hung = record { links = s.links; trees = remove s.trees w } in
      walk_led d t r (nodes_get IsNode s.trees w t h e) ∙ ih d t r (nodes_remove IsNode s.trees w h) (omega (arith, remove_less s.trees w t e))
