-- What every visit keeps: only nodes hang, and no more trees hang than before.
use Rattle.std.specs.Prelude.{ℕ, zero, suc, ◌<◌, ◌≤◌, ◌≡◌, Bool, true, false, List, [], ◌∷◌, ◌++◌, length}
use Rattle.std.proofs.Math.Path.{refl}
use Rattle.std.proofs.Common.{sym, ap, ◌∙◌, arith}
use Rattle.std.proofs.Math.Option.{Option, none, some}
use Rattle.std.proofs.Math.Decide.{ℕ_discrete}
use Rattle.net_file.specs.Values.{Tree, wire, node, Trees, more}
use Rattle.net_file.specs.Values
use Rattle.conversions.specs.Links.{get, remove, insert}
use Rattle.conversions.specs.Resolve.{Hung, canonicalize, visit_by, visit_all, visit}
use Rattle.wire_tables_laws.specs.Get.{get_here, get_there, remove_here, remove_there, remove_most, remove_less}
use Rattle.resolve_laws.specs.Keys.{Keys, keys_remove}
use Rattle.resolve_laws.specs.Walk.{used_by, canonical_is, on_led, visit_wire}

abbrev pub IsNode : Tree → Type 0
IsNode (wire w) = ⊥
IsNode (node m ts) = Unit {0}

-- every tree that hangs is such a one
unfoldable pub Hang : (Tree → Type 0) → List (ℕ × Tree) → Type 0
Hang P [] = Unit {0}
Hang P (e ∷ es) = P e.1 × Hang P es

abbrev pub Nodes : List (ℕ × Tree) → Type 0
Nodes es = Hang IsNode es

pub nodes_remove : (P : Tree → Type 0) (es : List (ℕ × Tree)) (a : ℕ) → Hang P es → Hang P (remove es a)
unfolding Hang remove
nodes_remove P [] a h = h
nodes_remove P (e ∷ es) a h = elim (ℕ_discrete e.0 a) [
  | yes g ↦ rw (remove_here e es a g) (nodes_remove P es a h.1)
  | no g ↦ rw (remove_there e es a g) (h.0, nodes_remove P es a h.1)
]

pub nodes_get : (P : Tree → Type 0) (es : List (ℕ × Tree)) (a : ℕ) (t : Tree) → Hang P es → get es a ≡ some t → P t
unfolding Hang get
nodes_get P [] a t h g = let z : ◌≡◌ {A = ℕ} 0 1 = cc in absurd (omega arith)
nodes_get P (e ∷ es) a t h g = elim (ℕ_discrete e.0 a) [
  | yes y ↦ rw (same (sym (get_here e es a y) ∙ g)) at h.0
  | no n ↦ nodes_get P es a t h.1 (sym (get_there e es a n) ∙ g)
]
  where
    value : Option Tree → Tree
    value none = t
    value (some u) = u

    same : ◌≡◌ {A = Option Tree} (some e.1) (some t) → e.1 ≡ t
    same q = ap value q

used_trees : (s : Hung) (a : ℕ) (o : Option ℕ) → (used_by s a o).1.trees ≡ s.trees
unfolding used_by
used_trees s a none = refl
used_trees s a (some b) = refl

-- every wire that a tree hangs on is below n
unfoldable pub Low : ℕ → List (ℕ × Tree) → Type 0
Low n [] = Unit {0}
Low n (e ∷ es) = (e.0 < n) × Low n es

pub low_remove : (n : ℕ) (es : List (ℕ × Tree)) (a : ℕ) → Low n es → Low n (remove es a)
unfolding Low remove
low_remove n [] a h = h
low_remove n (e ∷ es) a h = elim (ℕ_discrete e.0 a) [
  | yes g ↦ rw (remove_here e es a g) (low_remove n es a h.1)
  | no g ↦ rw (remove_there e es a g) (h.0, low_remove n es a h.1)
]

low_last : (n : ℕ) (es : List (ℕ × Tree)) (a : ℕ) (t : Tree) → a < n → Low n es → Low n (es ++ ((a, t) ∷ []))
unfolding Low
low_last n [] a t l h = (l, tt)
low_last n (e ∷ es) a t l h = (h.0, low_last n es a t l h.1)

pub low_insert : (n : ℕ) (es : List (ℕ × Tree)) (a : ℕ) (t : Tree) → a < n → Low n es → Low n (insert es a t)
unfolding insert
low_insert n es a t l h = low_last n (remove es a) a t l (low_remove n es a h)

-- the trees that hang are not touched when a wire's link is used up
pub canonical_trees : (s : Hung) (a : ℕ) → (canonicalize s a).1.trees ≡ s.trees
canonical_trees s a = rw (canonical_is s a) (used_trees s a (get s.links a))

-- only nodes hang after it, and no more than before
pub record Keeps (s : Hung) (r : Hung) : Type 1 where
  pub nodes : (P : Tree → Type 0) → Hang P s.trees → Hang P r.trees
  pub most : length r.trees ≤ length s.trees
  pub keys : Keys s.trees → Keys r.trees
  pub low : (n : ℕ) → Low n s.trees → Low n r.trees

pub keeps_same : (s r : Hung) → r.trees ≡ s.trees → Keeps s r
keeps_same s r e = record { nodes = λ P h. rw e h; most = rw e (omega arith); keys = λ h. rw e h; low = λ n h. rw e h }

pub keeps_then : {s r q : Hung} → Keeps s r → Keeps r q → Keeps s q
keeps_then k l = record { nodes = λ P h. l.nodes P (k.nodes P h); most = let a = k.most in let b = l.most in omega arith; keys = λ h. l.keys (k.keys h); low = λ n h. l.low n (k.low n h) }

module _ (again : Tree → Hung → Tree × Hung) (h : (t : Tree) (s : Hung) → Keeps s (again t s).1) where
  keeps_led : (w : ℕ) (s : Hung) (o : Option Tree) → Keeps s (on_led again w s o).1
  unfolding on_led
  keeps_led w s none = keeps_same s s refl
  keeps_led w s (some t) =
      let r : Hung = record { links = s.links; trees = remove s.trees w } in
      keeps_then (record { nodes = λ P. nodes_remove P s.trees w; most = remove_most s.trees w; keys = keys_remove s.trees w; low = λ n. low_remove n s.trees w }) (h t r)

  mutual
    unfolding visit_by

    keeps_by : (t : Tree) (s : Hung) → Keeps s (visit_by again t s).1
    keeps_by (wire w) s =
        let c = canonicalize s w in
        rw (visit_wire again w s) (keeps_then (keeps_same s c.1 (canonical_trees s w)) (keeps_led c.0 c.1 (get c.1.trees c.0)))
    keeps_by (node m ts) s = keeps_all ts s

    keeps_all : (ts : Trees) (s : Hung) → Keeps s (visit_all again ts s).1
    keeps_all Values.none s = keeps_same s s refl
    keeps_all (more t ts) s = keeps_then (keeps_by t s) (keeps_all ts (visit_by again t s).1)

pub visit_keeps : (n : ℕ) (t : Tree) (s : Hung) → Keeps s (visit n t s).1
unfolding visit
visit_keeps zero t s = keeps_same s s refl
visit_keeps (suc n) t s = keeps_by (visit n) (visit_keeps n) t s

pub by_keeps : (n : ℕ) (t : Tree) (s : Hung) → Keeps s (visit_by (visit n) t s).1
by_keeps n t s = keeps_by (visit n) (visit_keeps n) t s

pub all_keeps : (n : ℕ) (ts : Trees) (s : Hung) → Keeps s (visit_all (visit n) ts s).1
all_keeps n ts s = keeps_all (visit n) (visit_keeps n) ts s
