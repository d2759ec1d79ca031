-- Lists of trees and of links, walked: what the definition's visits give, cut where a tree is too deep.
use Rattle.std.specs.Prelude.{ℕ, zero, suc, ◌<◌, ◌≤◌, ◌≡◌, refl, Bool, true, false, not, ◌&&◌, List, [], ◌∷◌, length}
use Rattle.std.proofs.Common.{sym, ap, ◌∙◌, arith}
use Rattle.std.proofs.Math.Option.{Option, none, some}
use Rattle.net_file.specs.Lists.{all, concat_map}
use Rattle.net_file.specs.Values.{Tree, wire, node, Trees, more, listed, trees}
use Rattle.net_file.specs.Values
use Rattle.conversions.specs.Resolve.{Hung, visit_by, visit_all, visit, visits, visit_link, deeper, deeper_any}
use Rattle.resolve_laws.specs.Walk.{then, walk, cut, limited}
use Rattle.resolve_laws.specs.Kept.{IsNode, Nodes, Keeps, keeps_same, keeps_then, visit_keeps}

-- ---- free trees

pub visits_all : (n : ℕ) (ts : List Tree) (s : Hung) → visits (visit (suc n)) ts s ≡ (listed (visit_all (visit n) (trees ts) s).0, (visit_all (visit n) (trees ts) s).1)
unfolding visits visit visit_by
visits_all n [] s = refl
visits_all n (t ∷ ts) s = rw (visits_all n ts (visit_by (visit n) t s).1)

-- ---- links

-- both trees of a link, one after the other
unfoldable pub walk_link : ℕ → Tree × Tree → Hung → Option ((Tree × Tree) × Hung)
walk_link d l s = then (walk d l.0 s) (λ a. then (walk d l.1 a.1) (λ b. some ((a.0, b.0), b.1)))

unfoldable pub walk_links : ℕ → List (Tree × Tree) → Hung → Option (List (Tree × Tree) × Hung)
walk_links d [] s = some ([], s)
walk_links d (l ∷ ls) s = then (walk_link d l s) (λ r. then (walk_links d ls r.1) (λ q. some (r.0 ∷ q.0, q.1)))

unfoldable pub or : Bool → Bool → Bool
or true b = true
or false b = b

-- whether some tree is too deep
unfoldable pub deep_link : ℕ → Tree × Tree → Bool
deep_link d l = or (deeper d l.0) (deeper d l.1)

unfoldable pub deep_links : ℕ → List (Tree × Tree) → Bool
deep_links d [] = false
deep_links d (l ∷ ls) = or (deep_link d l) (deep_links d ls)

-- what comes of two steps, of which each may be cut
pub two_cut : {A B C : Type 0} (a b : Bool) (x : A) (y : B) (f : A → Option B) (g : A → B → C) → f x ≡ cut b y
    → then (cut a x) (λ p. then (f p) (λ q. some (g p q))) ≡ cut (or a b) (g x y)
unfolding then cut or
two_cut true b x y f g e = refl
two_cut false true x y f g e = rw e
two_cut false false x y f g e = rw e

pub link_keeps : (n : ℕ) (l : Tree × Tree) (s : Hung) → Keeps s (visit_link n l s).1
unfolding visit_link
link_keeps n l s = keeps_then (visit_keeps n l.0 s) (visit_keeps n l.1 (visit n l.0 s).1)

pub links_keep : (n : ℕ) (ls : List (Tree × Tree)) (s : Hung) → Keeps s (visits (visit_link n) ls s).1
unfolding visits
links_keep n [] s = keeps_same s s refl
links_keep n (l ∷ ls) s = keeps_then (link_keeps n l s) (links_keep n ls (visit_link n l s).1)
