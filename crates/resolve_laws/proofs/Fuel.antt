-- The walk that counts down the depth is the definition's visit, cut where the tree is deeper; the fuel of the definition suffices,
use Rattle.std.specs.Prelude.{ℕ, zero, suc, ◌<◌, ◌≤◌, ◌≡◌, refl, Bool, true, false, List, length}
use Rattle.std.proofs.Common.{sym, ap, ◌∙◌, arith}
use Rattle.std.proofs.Math.Option.{Option, none, some}
use Rattle.net_file.specs.Values.{Name, Tree, wire, node, Trees, more}
use Rattle.net_file.specs.Values
use Rattle.conversions.specs.Links.{get, remove}
use Rattle.conversions.specs.Resolve.{Hung, canonicalize, visit_by, visit_all, visit, deeper, deeper_any}
use Rattle.wire_tables_laws.specs.Get.{remove_less}
use Rattle.resolve_laws.specs.Walk.{then, led_by, lead, at_node, walk_all, too_deep, walk, below, walk_is, cut, limited, limited_all, on_led, visit_wire}
use Rattle.resolve_laws.specs.Kept.{IsNode, Nodes, nodes_remove, nodes_get, canonical_trees, by_keeps}
use Rattle.resolve_laws.specs.Fuel.{walk_node, cut_node, node_cut, none_cut, both_cut, led_step}

module _ (n : ℕ) (ih : (d : ℕ) (t : Tree) (s : Hung) → Nodes s.trees → length s.trees < n → walk d t s ≡ limited d (visit n t s)) where
  mutual
    unfolding lead visit_by walk_all below

    step : (d : ℕ) (t : Tree) (s : Hung) → Nodes s.trees → length s.trees < suc n → walk d t s ≡ limited d (visit_by (visit n) t s)
    step d (wire w) s h l =
        let c = canonicalize s w in
        let e = canonical_trees s w in
        walk_is d (wire w) s
        ∙ (led_step n ih) d c.0 c.1 (get c.1.trees c.0) refl (rw e h) (rw e l)
        ∙ ap (limited d) (sym (visit_wire (visit n) w s))
    step zero (node m ts) s h l = walk_node 0 m ts s ∙ node_cut m ts s (visit_all (visit n) ts s)
    step (suc d) (node m ts) s h l =
        walk_node (suc d) m ts s ∙ ap (λ o. then o (λ r. some (node m r.0, r.1))) (steps d ts s h l) ∙ cut_node d m (visit_all (visit n) ts s)

    steps : (d : ℕ) (ts : Trees) (s : Hung) → Nodes s.trees → length s.trees < suc n → walk_all (walk d) ts s ≡ limited_all d (visit_all (visit n) ts s)
    steps d Values.none s h l = none_cut d s
    steps d (more t ts) s h l =
        let r = visit_by (visit n) t s in
        let k = by_keeps n t s in
        ap (λ o. then o (λ x. then (walk_all (walk d) ts x.1) (λ y. some (more x.0 y.0, y.1)))) (step d t s h l)
        ∙ both_cut d ts r (visit_all (visit n) ts r.1) (steps d ts r.1 (k.nodes IsNode h) (let m = k.most in omega arith))

-- the walk is the visit, cut where it is too deep
pub walk_visit : (n d : ℕ) (t : Tree) (s : Hung) → Nodes s.trees → length s.trees < n → walk d t s ≡ limited d (visit n t s)
unfolding visit
walk_visit zero d t s h l = absurd (omega arith)
walk_visit (suc n) d t s h l = step n (walk_visit n) d t s h l

-- and so are trees one after another
pub walk_all_lem : (n d : ℕ) (ts : Trees) (s : Hung) → Nodes s.trees → length s.trees < suc n → walk_all (walk d) ts s ≡ limited_all d (visit_all (visit n) ts s)
walk_all_lem n d ts s h l = steps n (walk_visit n) d ts s h l
