-- The resolution of a net by the walk that counts down the depth: `resolve-is`. 17 comes exactly where the walk gives nothing.
use Rattle.std.specs.Prelude.{ℕ, zero, suc, ◌<◌, ◌≤◌, ◌≡◌, refl, Bool, true, false, not, ◌&&◌, List, [], ◌∷◌, ◌++◌, map, length, eqb, ltb}
use Rattle.std.proofs.Common.{sym, ap, ◌∙◌, arith}
use Rattle.std.proofs.Math.Option.{Option, none, some}
use Rattle.net_file.specs.Lists.{Result, ok, refuse, all, concat_map}
use Rattle.net_file.specs.Values.{Tree, wire, node, Trees, more, listed, trees, TreeNet}
use Rattle.net_file.specs.Values
use Rattle.net_file.specs.Checks.{trees_of}
use Rattle.conversions.specs.Links.{get, remove, insert}
use Rattle.conversions.specs.Resolve.{Hung, canonicalize, wire_links, meet, pass, visit_all, visit, visits, visit_link, put, sorted, with_trees, resolve_all, deeper, deeper_any, resolve_tree}
use Rattle.list_laws.specs.Lists.{all_append}
use Rattle.resolve_laws.specs.Walk.{then, walk_all, walk, cut, limited_all}
use Rattle.resolve_laws.specs.Kept.{Hang, Nodes, nodes_remove, nodes_get, canonical_trees, IsNode, Keeps, all_keeps}
use Rattle.resolve_laws.specs.Pass.{pass_one, pass_more, pass_none, met_by, meet_is}
use Rattle.resolve_laws.specs.Links.{visits_all, walk_links, or, deep_link, deep_links, links_keep}

-- ---- by the walk

-- a wire and the tree that is left on it
abbrev pub circle : ℕ × Tree → Tree × Tree
circle e = (wire e.0, e.1)

unfoldable pub on_links : TreeNet → List Tree → Option (List (Tree × Tree) × Hung) → Result TreeNet
on_links n free none = refuse 17
on_links n free (some q) = ok (with_trees n free (q.0 ++ map circle (sorted q.1.trees)))

unfoldable pub on_free : TreeNet → List (Tree × Tree) → Option (Trees × Hung) → Result TreeNet
on_free n ls none = refuse 17
on_free n ls (some r) = on_links n (listed r.0) (walk_links 64 ls r.1)

unfoldable pub walked_by : TreeNet → List (Tree × Tree) → Hung → Bool → Result TreeNet
walked_by n ls h true = ok (with_trees n n.free ls)
walked_by n ls h false = on_free n ls (walk_all (walk 64) (trees n.free) h)

-- what both passes leave
abbrev pub passed : TreeNet → List (Tree × Tree) × Hung
passed n = pass n.links (record { links = wire_links n.links []; trees = [] })

unfoldable pub walked : TreeNet → Result TreeNet
walked n = let p = passed n in walked_by n p.0 p.1 (eqb (length p.1.trees) 0)

-- ---- what is not too deep

abbrev pub shallow : Tree → Bool
shallow t = elim (deeper 64 t) [ true ↦ false | false ↦ true ]

abbrev pub Shallow : Tree → Type 0
Shallow t = deeper 64 t ≡ false

pub shallow_is : (t : Tree) → shallow t ≡ not (deeper 64 t)
shallow_is t = go (deeper 64 t)
  where
    go : (b : Bool) → ◌≡◌ {A = Bool} (elim b [ true ↦ false | false ↦ true ]) (not b)
    go true = refl
    go false = refl

-- links whose trees are such
unfoldable pub Links : (Tree → Type 0) → List (Tree × Tree) → Type 0
Links P [] = Unit {0}
Links P (l ∷ ls) = P l.0 × P l.1 × Links P ls

pub links_append : (P : Tree → Type 0) (ls ks : List (Tree × Tree)) → Links P ls → Links P ks → Links P (ls ++ ks)
unfolding Links
links_append P [] ks a b = b
links_append P (l ∷ ls) ks a b = (a.0, a.1, links_append P ls ks a.2 b)

pub hang_last : (P : Tree → Type 0) (es : List (ℕ × Tree)) (a : ℕ) (t : Tree) → Hang P es → P t → Hang P (es ++ ((a, t) ∷ []))
unfolding Hang
hang_last P [] a t h p = (p, tt)
hang_last P (e ∷ es) a t h p = (h.0, hang_last P es a t h.1 p)

pub hang_insert : (P : Tree → Type 0) (es : List (ℕ × Tree)) (a : ℕ) (t : Tree) → Hang P es → P t → Hang P (insert es a t)
unfolding insert
hang_insert P es a t h p = hang_last P (remove es a) a t (nodes_remove P es a h) p

-- what the second pass keeps, and leaves hanging, is of the links' trees
abbrev pub Passes : (Tree → Type 0) → List (Tree × Tree) × Hung → Type 0
Passes P r = Links P r.0 × Hang P r.1.trees

pub meet_passes : (P : Tree → Type 0) (t : Tree) (c : ℕ) (r : Hung) (o : Option Tree) → get r.trees c ≡ o → P t → Hang P r.trees → Passes P (met_by t c r o)
unfolding met_by Links
meet_passes P t c r none e p h = (tt, hang_insert P r.trees c t h p)
meet_passes P t c r (some u) e p h = ((nodes_get P r.trees c u h e, p, tt), nodes_remove P r.trees c h)

pub meets_pass : (P : Tree → Type 0) (t : Tree) (w : ℕ) (s : Hung) → P t → Hang P s.trees → Passes P (meet w t s)
meets_pass P t w s p h =
    let c = canonicalize s w in
    rw (meet_is w t s) (meet_passes P t c.0 c.1 (get c.1.trees c.0) refl p (rw (canonical_trees s w) h))

pub one_passes : (P : Tree → Type 0) (t u : Tree) (s : Hung) → P t → P u → Hang P s.trees → Passes P (pass_one t u s)
unfolding pass_one Links
one_passes P (wire a) (wire b) s p q h = (tt, h)
one_passes P (wire a) (node m ts) s p q h = meets_pass P (node m ts) a s q h
one_passes P (node m ts) (wire b) s p q h = meets_pass P (node m ts) b s p h
one_passes P (node m ts) (node k us) s p q h = ((p, q, tt), h)

pub all_pass : (P : Tree → Type 0) (ps : List (Tree × Tree)) (s : Hung) → Links P ps → Hang P s.trees → Links P (pass ps s).0 × Hang P (pass ps s).1.trees
unfolding Links
all_pass P [] s l h = rw (pass_none s) (tt, h)
all_pass P (p ∷ ps) s l h =
    let r = pass_one p.0 p.1 s in
    let a = one_passes P p.0 p.1 s l.0 l.1 h in
    let b = all_pass P ps r.1 l.2 a.1 in
    let e : pass (p ∷ ps) s ≡ (r.0 ++ (pass ps r.1).0, (pass ps r.1).1) = pass_more p.0 p.1 ps s in
    rw e (links_append P r.0 (pass ps r.1).0 a.0 b.0, b.1)

-- ---- every tree of the result

abbrev pub pairs : List (Tree × Tree) → List Tree
pairs ls = concat_map (λ l. l.0 ∷ l.1 ∷ []) ls

pub all_listed : (ts : Trees) → all shallow (listed ts) ≡ not (deeper_any 64 ts)
unfolding deeper_any
all_listed Values.none = refl
all_listed (more t ts) = ap (λ b. shallow t && b) (all_listed ts) ∙ go (deeper 64 t) (deeper_any 64 ts)
  where
    go : (a b : Bool) → ◌≡◌ {A = Bool} ((elim a [ true ↦ false | false ↦ true ]) && not b) (not (elim a [ true ↦ true | false ↦ b ]))
    go true b = refl
    go false b = refl

pub all_pairs : (ls : List (Tree × Tree)) → all shallow (pairs ls) ≡ not (deep_links 64 ls)
unfolding deep_links deep_link or
all_pairs [] = refl
all_pairs (l ∷ ls) = ap (λ b. shallow l.0 && (shallow l.1 && b)) (all_pairs ls) ∙ go (deeper 64 l.0) (deeper 64 l.1) (deep_links 64 ls)
  where
    go : (a b c : Bool) → ◌≡◌ {A = Bool} ((elim a [ true ↦ false | false ↦ true ]) && ((elim b [ true ↦ false | false ↦ true ]) && not c)) (not (or (or a b) c))
    go true b c = refl
    go false true c = refl
    go false false c = refl

pub links_shallow : (ls : List (Tree × Tree)) → Links Shallow ls → deep_links 64 ls ≡ false
unfolding deep_links deep_link or Links
links_shallow [] h = refl
links_shallow (l ∷ ls) h = rw (h.0, h.1, links_shallow ls h.2)

pub put_links : (e : ℕ × Tree) (es : List (ℕ × Tree)) → Shallow e.1 → Hang Shallow es → Hang Shallow (put e es)
unfolding put Hang
put_links e [] s h = (s, tt)
put_links e (f ∷ fs) s h = go (ltb e.0 f.0) (put_links e fs s h.1)
  where
    go : (b : Bool) → Hang Shallow (put e fs) → Hang Shallow (elim b [ true ↦ e ∷ f ∷ fs | false ↦ f ∷ put e fs ])
    go true g = (s, (h.0, h.1))
    go false g = (h.0, g)

pub sorted_links : (es : List (ℕ × Tree)) → Hang Shallow es → Hang Shallow (sorted es)
unfolding sorted Hang
sorted_links [] h = tt
sorted_links (e ∷ es) h = put_links e (sorted es) h.0 (sorted_links es h.1)

pub circles_shallow : (es : List (ℕ × Tree)) → Hang Shallow es → Links Shallow (map circle es)
unfolding Hang Links deeper
circles_shallow [] h = tt
circles_shallow (e ∷ es) h = (refl, h.0, circles_shallow es h.1)

-- ---- the definition, by its tests

unfoldable pub judged : Bool → TreeNet → Result TreeNet
judged true r = ok r
judged false r = refuse 17

pub judge_by : (b : Bool) (r : TreeNet) → ◌≡◌ {A = Result TreeNet} (elim b [ true ↦ ok r | false ↦ refuse 17 ]) (judged b r)
unfolding judged
judge_by true r = refl
judge_by false r = refl

pub judge : (n : TreeNet) → resolve_tree n ≡ judged (all shallow (trees_of (resolve_all n))) (resolve_all n)
unfolding resolve_tree
judge n = judge_by (all shallow (trees_of (resolve_all n))) (resolve_all n)

-- where trees are left hanging
abbrev pub visited : TreeNet → List (Tree × Tree) → Hung → TreeNet
visited n ls h =
    let f = visits (visit (suc (length h.trees))) n.free h in
    let k = visits (visit_link (suc (length h.trees))) ls f.1 in
    with_trees n f.0 (k.0 ++ map circle (sorted k.1.trees))

unfoldable pub resolved_by : TreeNet → List (Tree × Tree) → Hung → Bool → TreeNet
resolved_by n ls h true = with_trees n n.free ls
resolved_by n ls h false = visited n ls h

pub resolve_by : (n : TreeNet) → resolve_all n ≡ resolved_by n (passed n).0 (passed n).1 (eqb (length (passed n).1.trees) 0)
unfolding resolve_all resolved_by
resolve_by n = go (eqb (length (passed n).1.trees) 0)
  where
    go : (b : Bool) → ◌≡◌ {A = TreeNet} (elim b [ true ↦ with_trees n n.free (passed n).0 | false ↦ visited n (passed n).0 (passed n).1 ]) (resolved_by n (passed n).0 (passed n).1 b)
    go true = refl
    go false = refl

pub trees_of_lem : (n : TreeNet) (free : List Tree) (ls : List (Tree × Tree)) → all shallow (trees_of (with_trees n free ls)) ≡ (all shallow free && all shallow (pairs ls))
unfolding trees_of with_trees
trees_of_lem n free ls = all_append shallow free (pairs ls)

pub pairs_append : (ls ks : List (Tree × Tree)) → deep_links 64 (ls ++ ks) ≡ or (deep_links 64 ls) (deep_links 64 ks)
unfolding deep_links or
pairs_append [] ks = refl
pairs_append (l ∷ ls) ks = ap (or (deep_link 64 l)) (pairs_append ls ks) ∙ go (deep_link 64 l) (deep_links 64 ls) (deep_links 64 ks)
  where
    go : (a b c : Bool) → or a (or b c) ≡ or (or a b) c
    go true b c = refl
    go false b c = refl

-- all free trees that are read are shallow
unfoldable pub Frees : List Tree → Type 0
Frees [] = Unit {0}
Frees (t ∷ ts) = Shallow t × Frees ts

pub frees_all : (ts : List Tree) → Frees ts → all shallow ts ≡ true
unfolding Frees
frees_all [] h = refl
frees_all (t ∷ ts) h = rw (shallow_is t, h.0, frees_all ts h.1)

-- the three ways
pub plain_judged : (n : TreeNet) (ls : List (Tree × Tree)) → Frees n.free → Links Shallow ls → judged (all shallow (trees_of (with_trees n n.free ls))) (with_trees n n.free ls) ≡ ok (with_trees n n.free ls)
unfolding judged
plain_judged n ls f l = rw (trees_of_lem n n.free ls, frees_all n.free f, all_pairs ls, links_shallow ls l)

pub both_not : (a b : Bool) → (not a && not (or b false)) ≡ not (or a b)
unfolding or
both_not true b = refl
both_not false true = refl
both_not false false = refl

pub judged_is : (n : TreeNet) (free : List Tree) (ls ks : List (Tree × Tree)) (a b : Bool) → all shallow free ≡ not a → deep_links 64 ls ≡ b → deep_links 64 ks ≡ false
    → judged (all shallow (trees_of (with_trees n free (ls ++ ks)))) (with_trees n free (ls ++ ks)) ≡ judged (not (or a b)) (with_trees n free (ls ++ ks))
judged_is n free ls ks a b ea eb ec =
    ap (λ t. judged t (with_trees n free (ls ++ ks))) (trees_of_lem n free (ls ++ ks) ∙ rw (ea, all_pairs (ls ++ ks), pairs_append ls ks, eb, ec) (both_not a b))

-- what is cut, and then judged
pub walk_judged : (n : TreeNet) (ls : List (Tree × Tree)) (u : Trees × Hung) (a b : Bool) (v : List (Tree × Tree) × Hung) → walk_links 64 ls u.1 ≡ cut b v
    → on_free n ls (cut a u) ≡ judged (not (or a b)) (with_trees n (listed u.0) (v.0 ++ map circle (sorted v.1.trees)))
unfolding on_free on_links cut judged or
walk_judged n ls u true b v e = refl
walk_judged n ls u false true v e = rw e
walk_judged n ls u false false v e = rw e
