-- The two passes of the definition, one link at a time: `wire-links-more`, `pass-more`; and meeting a wire, by what is there.
use Rattle.std.specs.Prelude.{ℕ, ◌≡◌, refl, List, [], ◌∷◌, ◌++◌}
use Rattle.std.proofs.Math.Option.{Option, none, some}
use Rattle.net_file.specs.Values.{Tree, wire, node}
use Rattle.conversions.specs.Links.{Links, get, remove, insert, link}
use Rattle.conversions.specs.Resolve.{Hung, canonicalize, wire_links, meet, pass}

-- a link of two wires
unfoldable pub link_one : Tree → Tree → Links → Links
link_one (wire a) (wire b) l = link l a b
link_one (wire a) (node m ts) l = l
link_one (node m ts) t l = l

pub wire_links_more : (a b : Tree) (ps : List (Tree × Tree)) (l : Links) → wire_links ((a, b) ∷ ps) l ≡ wire_links ps (link_one a b l)
unfolding wire_links link_one
wire_links_more (wire a) (wire b) ps l = refl
wire_links_more (wire a) (node m ts) ps l = refl
wire_links_more (node m ts) b ps l = refl

pub wire_links_none : (l : Links) → wire_links [] l ≡ l
unfolding wire_links
wire_links_none l = refl

-- a link of the second pass: what is kept of it, and what hangs then
unfoldable pub pass_one : Tree → Tree → Hung → List (Tree × Tree) × Hung
pass_one (wire a) (wire b) s = ([], s)
pass_one (wire a) (node m ts) s = meet a (node m ts) s
pass_one (node m ts) (wire b) s = meet b (node m ts) s
pass_one (node m ts) (node k us) s = ((node m ts, node k us) ∷ [], s)

pub pass_more : (a b : Tree) (ps : List (Tree × Tree)) (s : Hung)
    → pass ((a, b) ∷ ps) s ≡ ((pass_one a b s).0 ++ (pass ps (pass_one a b s).1).0, (pass ps (pass_one a b s).1).1)
unfolding pass pass_one
pass_more (wire a) (wire b) ps s = refl
pass_more (wire a) (node m ts) ps s = refl
pass_more (node m ts) (wire b) ps s = refl
pass_more (node m ts) (node k us) ps s = refl

pub pass_none : (s : Hung) → pass [] s ≡ ([], s)
unfolding pass
pass_none s = refl

-- a tree meets a wire that this hangs on
unfoldable pub met_by : Tree → ℕ → Hung → Option Tree → List (Tree × Tree) × Hung
met_by t w s none = ([], record { links = s.links; trees = insert s.trees w t })
met_by t w s (some u) = ((u, t) ∷ [], record { links = s.links; trees = remove s.trees w })

pub meet_is : (w : ℕ) (t : Tree) (s : Hung)
    → meet w t s ≡ met_by t (canonicalize s w).0 (canonicalize s w).1 (get (canonicalize s w).1.trees (canonicalize s w).0)
unfolding meet met_by
meet_is w t s = go (canonicalize s w).0 (canonicalize s w).1 (get (canonicalize s w).1.trees (canonicalize s w).0)
  where
    go : (c : ℕ) (r : Hung) (o : Option Tree)
        → ◌≡◌ {A = List (Tree × Tree) × Hung}
        (elim o [
          | none ↦ ([], record { links = r.links; trees = insert r.trees c t })
          | some u ↦ ((u, t) ∷ [], record { links = r.links; trees = remove r.trees c })
        ])
        (met_by t c r o)
    go c r none = refl
    go c r (some u) = refl
