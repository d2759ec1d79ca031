-- Lists of trees and of links, walked: what the definition's visits give, cut where a tree is too deep.
use Rattle.std.specs.Prelude.{ℕ, zero, suc, ◌<◌, ◌≤◌, ◌≡◌, refl, Bool, true, false, not, ◌&&◌, List, [], ◌∷◌, length}
use Rattle.std.proofs.Common.{sym, ap, ◌∙◌, arith}
use Rattle.std.proofs.Math.Option.{Option, none, some}
use Rattle.net_file.specs.Lists.{all, concat_map}
use Rattle.net_file.specs.Values.{Tree, wire, node, Trees, more, listed, trees}
use Rattle.net_file.specs.Values
use Rattle.conversions.specs.Resolve.{Hung, visit_by, visit_all, visit, visits, visit_link, deeper, deeper_any}
use Rattle.resolve_laws.specs.Walk.{then, walk, cut, limited}
use Rattle.resolve_laws.specs.Kept.{IsNode, Nodes, Keeps, keeps_same, keeps_then, visit_keeps}
use Rattle.resolve_laws.proofs.Fuel.{walk_visit}
use Rattle.resolve_laws.specs.Links.{walk_link, walk_links, deep_link, deep_links, two_cut, link_keeps}

walk_link_lem : (n d : ℕ) (l : Tree × Tree) (s : Hung) → Nodes s.trees → length s.trees < n → walk_link d l s ≡ cut (deep_link d (visit_link n l s).0) (visit_link n l s)
unfolding walk_link visit_link deep_link limited
walk_link_lem n d l s h k =
    let a = visit n l.0 s in
    let g = visit_keeps n l.0 s in
    let b = visit n l.1 a.1 in
    rw (walk_visit n d l.0 s h k)
    (two_cut (deeper d a.0) (deeper d b.0) a b (λ p. walk d l.1 p.1) (λ p q. ((p.0, q.0), q.1)) (walk_visit n d l.1 a.1 (g.nodes IsNode h) (let m = g.most in omega arith)))

pub walk_links_lem : (n d : ℕ) (ls : List (Tree × Tree)) (s : Hung) → Nodes s.trees → length s.trees < n
    → walk_links d ls s ≡ cut (deep_links d (visits (visit_link n) ls s).0) (visits (visit_link n) ls s)
unfolding walk_links visits deep_links cut
walk_links_lem n d [] s h k = refl
walk_links_lem n d (l ∷ ls) s h k =
    let a = visit_link n l s in
    let g = link_keeps n l s in
    let b = visits (visit_link n) ls a.1 in
    rw (walk_link_lem n d l s h k)
    (two_cut (deep_link d a.0) (deep_links d b.0) a b (λ p. walk_links d ls p.1) (λ p q. (p.0 ∷ q.0, q.1)) (walk_links_lem n d ls a.1 (g.nodes IsNode h) (let m = g.most in omega arith)))
