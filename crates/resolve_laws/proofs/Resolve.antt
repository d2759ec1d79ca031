-- The resolution of a net by the walk that counts down the depth: `resolve-is`. 17 comes exactly where the walk gives nothing.
use Rattle.std.specs.Prelude.{ℕ, zero, suc, ◌<◌, ◌≤◌, ◌≡◌, refl, Bool, true, false, not, ◌&&◌, List, [], ◌∷◌, ◌++◌, map, length, eqb, ltb}
use Rattle.std.proofs.Common.{sym, ap, ◌∙◌, arith}
use Rattle.std.proofs.Math.Option.{Option, none, some}
use Rattle.net_file.specs.Lists.{Result, ok, refuse, all, concat_map}
use Rattle.net_file.specs.Values.{Tree, wire, node, Trees, more, listed, trees, TreeNet}
use Rattle.net_file.specs.Values
use Rattle.net_file.specs.Checks.{trees_of}
use Rattle.conversions.specs.Links.{get, remove, insert}
use Rattle.conversions.specs.Resolve.{Hung, canonicalize, wire_links, meet, pass, visit_all, visit, visits, visit_link, put, sorted, with_trees, resolve_all, deeper, deeper_any, resolve_tree}
use Rattle.list_laws.specs.Lists.{all_append}
use Rattle.resolve_laws.specs.Walk.{then, walk_all, walk, cut, limited_all}
use Rattle.resolve_laws.specs.Kept.{Hang, Nodes, nodes_remove, nodes_get, canonical_trees, IsNode, Keeps, all_keeps}
use Rattle.resolve_laws.proofs.Fuel.{walk_all_lem}
use Rattle.resolve_laws.specs.Pass.{pass_one, pass_more, pass_none, met_by, meet_is}
use Rattle.resolve_laws.specs.Links.{visits_all, walk_links, or, deep_link, deep_links, links_keep}
use Rattle.resolve_laws.proofs.Links.{walk_links_lem}
use Rattle.resolve_laws.specs.Resolve.{circle, walked_by, passed, walked, shallow, Shallow, Links, all_pass, all_listed, links_shallow, sorted_links, circles_shallow, judged, judge, resolved_by, resolve_by, Frees, plain_judged, judged_is, walk_judged}

by_test : (n : TreeNet) (ls : List (Tree × Tree)) (h : Hung) → Frees n.free → Links Shallow ls → Hang Shallow h.trees → Nodes h.trees → (b : Bool)
    → judged (all shallow (trees_of (resolved_by n ls h b))) (resolved_by n ls h b) ≡ walked_by n ls h b
unfolding resolved_by walked_by limited_all
by_test n ls h f l s d true = plain_judged n ls f l
by_test n ls h f l s d false =
    let m = length h.trees in
    let u = visit_all (visit m) (trees n.free) h in
    let k = all_keeps m (trees n.free) h in
    let v = visits (visit_link (suc m)) ls u.1 in
    let c = links_keep (suc m) ls u.1 in
    let w : walk_links 64 ls u.1 ≡ cut (deep_links 64 v.0) v = walk_links_lem (suc m) 64 ls u.1 (k.nodes IsNode d) (let o = k.most in omega arith) in
    let z : deep_links 64 (map circle (sorted v.1.trees)) ≡ false =
    links_shallow (map circle (sorted v.1.trees)) (circles_shallow (sorted v.1.trees) (sorted_links v.1.trees (c.nodes Shallow (k.nodes Shallow s)))) in
    rw (visits_all m n.free h, walk_all_lem m 64 (trees n.free) h d (omega arith))
    (judged_is n (listed u.0) v.0 (map circle (sorted v.1.trees)) (deeper_any 64 u.0) (deep_links 64 v.0) (all_listed u.0) refl z
    ∙ sym (walk_judged n ls u (deeper_any 64 u.0) (deep_links 64 v.0) v w))

pub resolve_is : (n : TreeNet) → Frees n.free → Links Shallow n.links → Nodes (passed n).1.trees → resolve_tree n ≡ walked n
unfolding walked Hang
resolve_is n f l nodes =
    judge n ∙ ap (λ r. judged (all shallow (trees_of r)) r) (resolve_by n)
    ∙ by_test n (passed n).0 (passed n).1 f q.0 q.1 nodes (eqb (length (passed n).1.trees) 0)
  where
    q : Links Shallow (passed n).0 × Hang Shallow (passed n).1.trees
    q = all_pass Shallow n.links (record { links = wire_links n.links []; trees = [] }) l tt
