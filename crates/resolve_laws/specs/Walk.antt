-- A visit that counts down the depth that is left: where a tree becomes deeper it gives nothing. This is how stored trees are walked;
-- that it is `visit` of the definition, or 17, is in `Fuel`.
use Rattle.std.specs.Prelude.{ℕ, zero, suc, min, ◌≡◌, refl, Bool, true, false, List}
use Rattle.std.proofs.Math.Option.{Option, none, some}
use Rattle.net_file.specs.Values.{Tree, wire, node, Trees, more}
use Rattle.net_file.specs.Values
use Rattle.conversions.specs.Links.{get, remove}
use Rattle.conversions.specs.Resolve.{Hung, canonicalize, visit_by, deeper, deeper_any}

-- ---- what may not be there

unfoldable pub then : {A B : Type 0} → Option A → (A → Option B) → Option B
then none f = none
then (some a) f = f a

-- ---- what a tree leads to

-- the tree that hangs on a wire, taken off it; or the wire
unfoldable pub led_by : ℕ → Hung → Option Tree → Tree × Hung
led_by w s none = (wire w, s)
led_by w s (some t) = (t, record { links = s.links; trees = remove s.trees w })

-- of a wire: the smaller of it and what it is linked with, or the tree that hangs there
unfoldable pub lead : Tree → Hung → Tree × Hung
lead (wire w) s = let c = canonicalize s w in led_by c.0 c.1 (get c.1.trees c.0)
lead (node m ts) s = (node m ts, s)

-- ---- the walk

-- a node with its children walked by `all`; a wire stays
unfoldable pub at_node : (Trees → Hung → Option (Trees × Hung)) → Tree → Hung → Option (Tree × Hung)
at_node all (wire w) s = some (wire w, s)
at_node all (node m ts) s = then (all ts s) (λ r. some (node m r.0, r.1))

-- one after the other
unfoldable pub walk_all : (Tree → Hung → Option (Tree × Hung)) → Trees → Hung → Option (Trees × Hung)
walk_all one Values.none s = some (Values.none, s)
walk_all one (more t ts) s = then (one t s) (λ r. then (walk_all one ts r.1) (λ q. some (more r.0 q.0, q.1)))

-- no depth is left for children
unfoldable pub too_deep : Trees → Hung → Option (Trees × Hung)
too_deep ts s = none

-- a tree of at most depth d
unfoldable pub walk : ℕ → Tree → Hung → Option (Tree × Hung)
walk zero t s = let l = lead t s in at_node too_deep l.0 l.1
walk (suc d) t s = let l = lead t s in at_node (walk_all (walk d)) l.0 l.1

-- what a walk gives for its children
unfoldable pub below : ℕ → Trees → Hung → Option (Trees × Hung)
below zero = too_deep
below (suc d) = walk_all (walk d)

pub walk_is : (d : ℕ) (t : Tree) (s : Hung) → walk d t s ≡ at_node (below d) (lead t s).0 (lead t s).1
unfolding walk below
walk_is zero t s = refl
walk_is (suc d) t s = refl

-- ---- what is not too deep

unfoldable pub cut : {A : Type 0} → Bool → A → Option A
cut true a = none
cut false a = some a

unfoldable pub limited : ℕ → Tree × Hung → Option (Tree × Hung)
limited d r = cut (deeper d r.0) r

unfoldable pub limited_all : ℕ → Trees × Hung → Option (Trees × Hung)
limited_all d r = cut (deeper_any d r.0) r

-- ---- a wire whose link is used up, by what it is linked with

unfoldable pub used_by : Hung → ℕ → Option ℕ → ℕ × Hung
used_by s a none = (a, s)
used_by s a (some b) = (min a b, record { links = remove s.links a; trees = s.trees })

pub canonical_is : (s : Hung) (a : ℕ) → canonicalize s a ≡ used_by s a (get s.links a)
unfolding canonicalize used_by
canonical_is s a = go (get s.links a)
  where
    go : (o : Option ℕ) → ◌≡◌ {A = ℕ × Hung} (elim o [ none ↦ (a, s) | some b ↦ (min a b, record { links = remove s.links a; trees = s.trees }) ]) (used_by s a o)
    go none = refl
    go (some b) = refl

-- ---- the definition's visit of a wire, by what the wire leads to

unfoldable pub on_led : (Tree → Hung → Tree × Hung) → ℕ → Hung → Option Tree → Tree × Hung
on_led again w s none = (wire w, s)
on_led again w s (some t) = again t (record { links = s.links; trees = remove s.trees w })

pub visit_wire : (again : Tree → Hung → Tree × Hung) (w : ℕ) (s : Hung)
    → visit_by again (wire w) s ≡ on_led again (canonicalize s w).0 (canonicalize s w).1 (get (canonicalize s w).1.trees (canonicalize s w).0)
unfolding visit_by on_led
visit_wire again w s = go (canonicalize s w).0 (canonicalize s w).1 (get (canonicalize s w).1.trees (canonicalize s w).0)
  where
    go : (c : ℕ) (r : Hung) (o : Option Tree)
        → ◌≡◌ {A = Tree × Hung} (elim o [ none ↦ (wire c, r) | some t ↦ again t (record { links = r.links; trees = remove r.trees c }) ]) (on_led again c r o)
    go c r none = refl
    go c r (some t) = refl
