-- What `to_flat` makes of an accepted tree file, where it is not refused, is an accepted flat file.
use Prim.Native.Nat.{ℕ, zero, suc, ◌+◌, ◌-◌, ◌*◌, ◌<◌, ◌≤◌}
use native.Mathlib.Omega.{arith}
use Rattle.std.proofs.Math.Decide.{ℕ_discrete, dec_lt, dec_le}
use Rattle.std.specs.Prelude.{◌≡◌, Bool, true, false, not, ◌&&◌, ◌||◌, ◌⊎◌, List, [], ◌∷◌, ◌++◌, map, length, eqb, ltb}
use Rattle.std.proofs.Math.Path.{refl}
use Rattle.std.proofs.Common.{sym, ap, ◌∙◌, subst, eqb-true, eq-eqb, lt-ltb, le-ltb}
use Rattle.std.proofs.Math.Option.{Option, none, some}
use Rattle.std.proofs.Math.Logic.{inl, inr}
use Rattle.net_file.specs.Lists.{ok, bit, all, any, count, concat_map, sum}
use Rattle.net_file.specs.Values.{FlatNode, FlatNet, Tree, wire, node, Trees, more, listed, TreeNet, File}
use Rattle.net_file.specs.Values
use Rattle.net_file.specs.Checks.{flat, tree, read, write, places, pair_wires, pairs_ordered, occurs, pair_wired, wire_wired, flat_wired, tree_wired, trees_of, wires_of, wires_of_all, nodes_of}
use Rattle.net_file_laws.specs.Bytes.{Bytes}
use Rattle.net_file_laws.specs.Exact.{Each}
use Rattle.net_file_laws.specs.Flat.{PairFits, NodeFits, FlatNetFits}
use Rattle.net_file_laws.specs.Trees.{TreeFits, LinkFits, TreeNetFits}
use Rattle.net_file_laws.proofs.RoundTrip.{tree_write_read, flat_read_write}
use Rattle.size_laws.specs.Each.{each_append, each_more}
use Rattle.size_laws.proofs.Files.{flat_fits}
use Rattle.list_laws.specs.Tests.{both, both_are}
use Rattle.list_laws.specs.Lists.{count_none}
use Rattle.conversions.specs.Links.{Links, get, pairs_of}
use Rattle.conversions.specs.Convert.{Made, max_wires, each, embed, embed_link, to_flat}
use Rattle.conversions.specs.Calls.{convert}
use Rattle.conversion_laws.specs.SameWire.{clash, or_right}
use Rattle.conversion_laws.specs.Counts.{all_at, all_mapped, some_occurs}
use Rattle.conversion_laws.specs.Accepted.{Keeps, KeepsAll, goes_on, same_ok, result_accepted}
use Rattle.conversion_laws.specs.Pairs.{In, all_in, in_wires}
use Rattle.conversion_laws.specs.Ends.{link_all, Holds, none_hold, all_hold}
use Rattle.conversion_laws.specs.PairsOf.{pairs_of_ordered, pairs_of_linked, pairs_of_few, pairs_of_all}
use Rattle.conversion_laws.specs.Embed.{below, node_places, Embeds, then, weighed, link_trees, occurs_append, concat_append, embedded_free, embedded_links}
use Rattle.conversion_laws.specs.EmbedFits.{Sound, links_fit, free_fits}

-- the wires of all its trees
abbrev pub tree_wires : TreeNet → List ℕ
tree_wires n = concat_map wires_of (trees_of n)

-- the flat net m that n has become
pub record Flattened (n : TreeNet) (m : FlatNet) : Type 0 where
  pub name : m.name ≡ n.name
  pub ops : List (ℕ × ℕ)
  pub pairs : m.pairs ≡ pairs_of (link_all [] ops) m.wires
  pub more : n.wires ≤ m.wires
  pub few : n.wires ≤ max_wires → m.wires ≤ max_wires
  pub long : length m.nodes ≡ sum (map nodes_of (trees_of n))
  pub balance : (x : ℕ) → occurs x (places m) + occurs x (pair_wires ops) + 2 * below n.wires x ≡ occurs x (tree_wires n) + 2 * below m.wires x
  pub fits : (paths names : ℕ) → TreeNetFits paths names n → Each (NodeFits paths names m.wires) m.nodes × Each (λ w. w < m.wires) m.free × (length m.free ≡ length n.free)

sum_append : (xs ys : List Tree) → sum (map nodes_of (xs ++ ys)) ≡ sum (map nodes_of xs) + sum (map nodes_of ys)
sum_append [] ys = omega arith
sum_append (x ∷ xs) ys = omega (arith, sum_append xs ys)

pub flattened : (n : TreeNet) (m : FlatNet) → to_flat n ≡ ok m → Flattened n m
unfolding to_flat trees_of places link_all
flattened n m e =
    let s : Made = record { wires = n.wires; links = []; nodes = [] } in
    let p = goes_on (each (λ t u. embed t none u) n.free s) _ m e in
    let q = goes_on (each embed_link n.links p.0.1) _ m p.1.1 in
    let a = embedded_free n.free s p.0 p.1.0 in
    let b = embedded_links n.links p.0.1 q.0 q.1.0 in
    let c = then a b in
    let l : q.0.1.nodes ≡ c.added = c.listed in
    subst (Flattened n) (same_ok _ m q.1.1) (record {
      name = refl;
      ops = c.ops;
      pairs = ap (λ (k : Links). pairs_of k q.0.1.wires) c.links;
      more = c.more;
      few = c.few;
      long = ap length l ∙ c.long ∙ sym (sum_append n.free (link_trees n.links));
      balance = λ x. omega (
        arith,
        c.balance x,
        occurs_append x p.0.0 (node_places q.0.1.nodes),
        ap (λ (ns : List FlatNode). occurs x (node_places ns)) l,
        ap (occurs x) (concat_append wires_of n.free (link_trees n.links)),
        occurs_append x (concat_map wires_of n.free) (concat_map wires_of (link_trees n.links)),
      );
      fits = λ paths names h.
          let f = free_fits paths names n.wires n.free s p.0 h.free p.1.0 (record { past = omega arith; nodes = tt }) in
          let g = links_fit paths names n.wires n.links p.0.1 q.0 h.links q.1.0 f.0 in
          (g.nodes, each_more (λ w. w < p.0.1.wires) (λ w. w < q.0.1.wires) (λ w k. omega (arith, k, b.more)) p.0.0 f.1, f.2);
    })

-- ---- it is well wired

wired_all : (n : TreeNet) → tree_wired n ≡ true → all (λ w. eqb (occurs w (tree_wires n)) 2) (tree_wires n) ≡ true
unfolding tree_wired
wired_all n h = h

none_occurs : (x : ℕ) (ws : List ℕ) → any (eqb x) ws ≡ false → occurs x ws ≡ 0
unfolding occurs
none_occurs x ws e = count_none (eqb x) ws e

not_less : (a b : ℕ) → (a < b → ⊥) → b ≤ a
not_less a b n = elim (dec_le b a) [ yes r ↦ r | no r ↦ absurd (n (omega arith)) ]

less_other : (w y : ℕ) → (w < y → ⊥) → (y ≡ w → ⊥) → y < w
less_other w y n m = elim (dec_lt y w) [ yes r ↦ r | no r ↦ absurd (m (omega (arith, not_less w y n, not_less y w r))) ]

all_where : (f : ℕ → Bool) (xs : List ℕ) → ((w : ℕ) → any (eqb w) xs ≡ true → f w ≡ true) → all f xs ≡ true
all_where f [] h = refl
all_where f (x ∷ xs) h = both_are (f x) (all f xs) (h x (rw (eq-eqb x x refl) refl)) (all_where f xs (λ w m. h w (rw m (or_right (eqb w x)))))

-- two that are the same, at most one each
by_count : (a b : ℕ) → a ≡ b → a ≤ 1 → (eqb a 1 && eqb b 1 || eqb a 0 && eqb b 0) ≡ true
by_count zero zero e l = refl
by_count zero (suc b) e l = absurd (omega arith)
by_count (suc zero) zero e l = absurd (omega arith)
by_count (suc zero) (suc zero) e l = refl
by_count (suc zero) (suc (suc b)) e l = absurd (omega arith)
by_count (suc (suc a)) b e l = absurd (omega arith)

module _ (n : TreeNet) (m : FlatNet) (f : Flattened n m) (inside : (x : ℕ) → 1 ≤ occurs x (tree_wires n) → x < n.wires) (h : tree_wired n ≡ true) where
  -- a wire occurs twice in the trees, or never
  twice : (x : ℕ) → (occurs x (tree_wires n) ≡ 0) ⊎ (occurs x (tree_wires n) ≡ 2)
  twice x = go (any (eqb x) (tree_wires n)) refl
    where
      go : (t : Bool) → any (eqb x) (tree_wires n) ≡ t → (occurs x (tree_wires n) ≡ 0) ⊎ (occurs x (tree_wires n) ≡ 2)
      go true e = inr (eqb-true (occurs x (tree_wires n)) 2 (all_at (λ w. eqb (occurs w (tree_wires n)) 2) (tree_wires n) (wired_all n h) x e))
      go false e = inl (none_occurs x (tree_wires n) e)

  -- in places and links together it occurs twice, or never, and never past the counter
  total : (x : ℕ) → (occurs x (places m) + occurs x (pair_wires f.ops) ≡ 0) ⊎ ((occurs x (places m) + occurs x (pair_wires f.ops) ≡ 2) × (x < m.wires))
  total x = go (twice x) (dec_lt x n.wires) (dec_lt x m.wires)
    where
      in_both : x < n.wires → (below n.wires x ≡ 1) × (below m.wires x ≡ 1)
      in_both k = (ap bit (lt-ltb x n.wires k), ap bit (lt-ltb x m.wires (omega (arith, f.more))))

      go : (occurs x (tree_wires n) ≡ 0) ⊎ (occurs x (tree_wires n) ≡ 2) → Dec (x < n.wires) → Dec (x < m.wires)
          → (occurs x (places m) + occurs x (pair_wires f.ops) ≡ 0) ⊎ ((occurs x (places m) + occurs x (pair_wires f.ops) ≡ 2) × (x < m.wires))
      go (inr t) r u = let k = inside x (omega (arith, t)) in let b = in_both k in inr (omega (arith, f.balance x, t, b.0, b.1), omega (arith, k, f.more))
      go (inl t) (yes r) u = let b = in_both r in inl (omega (arith, f.balance x, t, b.0, b.1))
      go (inl t) (no r) (yes u) = inr (omega (arith, f.balance x, t, ap bit (le-ltb x n.wires (not_less x n.wires r)), ap bit (lt-ltb x m.wires u)), u)
      go (inl t) (no r) (no u) = inl (omega (arith, f.balance x, t, ap bit (le-ltb x n.wires (not_less x n.wires r)), ap bit (le-ltb x m.wires (not_less x m.wires u))))

  -- the table of links, and how often each wire was linked
  abbrev table : Links
  table = link_all [] f.ops

  abbrev linked : ℕ → ℕ
  linked x = 0 + occurs x (pair_wires f.ops)

  holds : Holds table linked
  holds = all_hold f.ops [] (λ x. 0) none_hold (λ x. elim (total x) [ inl e ↦ omega (arith, e) | inr e ↦ omega (arith, e.0) ])

  -- a linked wire is one of the net's, and occurs once less in places
  linked_once : (x : ℕ) → 1 ≤ linked x → (occurs x (places m) + linked x ≡ 2) × (x < m.wires)
  linked_once x l = elim (total x) [ inl e ↦ absurd (omega (arith, e, l)) | inr e ↦ (omega (arith, e.0), e.1) ]

  pair_right : (p : ℕ × ℕ) → In p m.pairs → (get table p.0 ≡ some p.1) × (p.0 < p.1)
  pair_right p i = pairs_of_linked table linked holds m.wires p (subst (In p) f.pairs i)

  pair_inside : (p : ℕ × ℕ) → In p m.pairs → (p.0 < m.wires) × (p.1 < m.wires)
  pair_inside p i =
      let r = pair_right p i in
      let a = holds.linked p.0 p.1 r.0 in
      ((linked_once p.0 a).1, (linked_once p.1 (omega (arith, a, holds.alike p.0 p.1 r.0))).1)

  -- of a pair both wires occur once or neither does
  pair_wired_lem : (p : ℕ × ℕ) → In p m.pairs → pair_wired (places m) p ≡ true
  unfolding pair_wired
  pair_wired_lem p i =
      let r = pair_right p i in
      let a = holds.linked p.0 p.1 r.0 in
      let k = holds.alike p.0 p.1 r.0 in
      let b = (linked_once p.0 a).0 in
      let c = (linked_once p.1 (omega (arith, a, k))).0 in
      by_count (occurs p.0 (places m)) (occurs p.1 (places m)) (omega (arith, b, c, k)) (omega (arith, a, b))

  -- a wire of a place is in a pair, or occurs twice
  wire_wired_lem : (w : ℕ) → any (eqb w) (places m) ≡ true → wire_wired (places m) m.pairs w ≡ true
  unfolding wire_wired
  wire_wired_lem w e = elim (total w) [
    | inl t ↦ absurd (omega (arith, t, some_occurs w (places m) e))
    | inr t ↦ elim (ℕ_discrete (linked w) 1) [
      | yes q ↦ rw (in_pair q t.1) refl
      | no q ↦ rw (eq-eqb (occurs w (places m)) 2 (never (linked w) (occurs w (places m)) q (omega (arith, t.0)) (some_occurs w (places m) e))) (or_right (any (eqb w) (pair_wires m.pairs)))
    ]
  ]
    where
      never : (k o : ℕ) → (k ≡ 1 → ⊥) → o + k ≡ 2 → 1 ≤ o → o ≡ 2
      never zero o n s l = omega arith
      never (suc zero) o n s l = absurd (n refl)
      never (suc (suc k)) o n s l = absurd (omega arith)

      in_pair : linked w ≡ 1 → w < m.wires → any (eqb w) (pair_wires m.pairs) ≡ true
      in_pair q u = go (get table w) refl
        where
          go : (r : Option ℕ) → get table w ≡ r → any (eqb w) (pair_wires m.pairs) ≡ true
          go none g = absurd (holds.once w q g)
          go (some y) g = elim (dec_lt w y) [
            | yes k ↦ (in_wires (w, y) m.pairs (subst (In (w, y)) (sym f.pairs) (pairs_of_all table m.wires w y g k u))).0
            | no k ↦ (in_wires (y, w) m.pairs (subst (In (y, w)) (sym f.pairs) (pairs_of_all table m.wires y w (holds.back w y g) (less_other w y k (λ z. holds.other w (g ∙ ap (λ (v : ℕ). some v) z))) (omega (arith, u, not_less w y k))))).1
          ]

  pub flattened_wired : flat_wired m ≡ true
  unfolding flat_wired
  flattened_wired =
      both_are (all (pair_wired (places m)) m.pairs) (all (wire_wired (places m) m.pairs) (places m))
      (all_in (pair_wired (places m)) m.pairs pair_wired_lem) (all_where (wire_wired (places m) m.pairs) (places m) wire_wired_lem)

  pub flattened_ordered : pairs_ordered m.pairs ≡ true
  flattened_ordered = subst (λ ps. pairs_ordered ps ≡ true) (sym f.pairs) (pairs_of_ordered table linked holds m.wires)

  pub flattened_few : length m.pairs ≤ m.wires - 1
  flattened_few = subst (λ (ps : List (ℕ × ℕ)). length ps ≤ m.wires - 1) (sym f.pairs) (pairs_of_few table linked holds m.wires (λ p i. (pair_inside p (subst (In p) (sym f.pairs) i)).1))

-- ---- the file

-- the wires of a tree that fits are below the counter
module _ (paths names wires : ℕ) where
  mutual
    unfolding TreeFits wires_of

    wires_inside : (t : Tree) (d : ℕ) → TreeFits paths names wires d t → Each (λ w. w < wires) (wires_of t)
    wires_inside (wire w) zero h = (h, tt)
    wires_inside (wire w) (suc d) h = (h, tt)
    wires_inside (node m ts) zero h = absurd h
    wires_inside (node m ts) (suc d) h = all_inside ts d h.2

    all_inside : (ts : Trees) (d : ℕ) → Each (TreeFits paths names wires d) (listed ts) → Each (λ w. w < wires) (wires_of_all ts)
    all_inside Values.none d h = tt
    all_inside (more t ts) d h = each_append (λ w. w < wires) (wires_of t) (wires_of_all ts) (wires_inside t d h.0) (all_inside ts d h.1)

  listed_inside : (ts : List Tree) → Each (TreeFits paths names wires 64) ts → Each (λ w. w < wires) (concat_map wires_of ts)
  listed_inside [] h = tt
  listed_inside (t ∷ ts) h = each_append (λ w. w < wires) (wires_of t) (concat_map wires_of ts) (wires_inside t 64 h.0) (listed_inside ts h.1)

  link_trees_lem : (ls : List (Tree × Tree)) → Each (LinkFits paths names wires) ls → Each (TreeFits paths names wires 64) (link_trees ls)
  link_trees_lem [] h = tt
  link_trees_lem (l ∷ ls) h = (h.0.0, (h.0.1, link_trees_lem ls h.1))

occurs_inside : (wires x : ℕ) (ws : List ℕ) → Each (λ w. w < wires) ws → 1 ≤ occurs x ws → x < wires
unfolding occurs
occurs_inside wires x [] h l = absurd (omega arith)
occurs_inside wires x (w ∷ ws) h l = go (occurs_inside wires x ws h.1) (eqb x w) refl l
  where
    go : (1 ≤ occurs x ws → x < wires) → (t : Bool) → eqb x w ≡ t → 1 ≤ bit t + occurs x ws → x < wires
    go i true e k = omega (arith, eqb-true x w e, h.0)
    go i false e k = i (omega arith)

tree_inside : (paths names : ℕ) (n : TreeNet) → TreeNetFits paths names n → (x : ℕ) → 1 ≤ occurs x (tree_wires n) → x < n.wires
unfolding trees_of
tree_inside paths names n h x l =
    occurs_inside n.wires x (tree_wires n) (listed_inside paths names n.wires (trees_of n) (each_append (TreeFits paths names n.wires 64) n.free (link_trees n.links) h.free (link_trees_lem paths names n.wires n.links h.links))) l

pairs_fit : (wires : ℕ) (ps : List (ℕ × ℕ)) → ((p : ℕ × ℕ) → In p ps → (p.0 < wires) × (p.1 < wires)) → Each (PairFits wires) ps
pairs_fit wires [] h = tt
pairs_fit wires (p ∷ ps) h = (h p (inl refl), pairs_fit wires ps (λ q i. h q (inr i)))

to_flat_keeps : KeepsAll tree TreeNetFits flat FlatNetFits to_flat
to_flat_keeps paths names n h o g l m e =
    let f = flattened n m e in
    let i = tree_inside paths names n h in
    let k = f.fits paths names h in
    record {
      fits = record {
        name = omega (arith, f.name, h.name);
        wires = f.few h.wires;
        few_free = omega (arith, k.2, h.few_free);
        free = k.1;
        few_pairs = omega (arith, flattened_few n m f i g, f.few h.wires);
        pairs = pairs_fit m.wires m.pairs (pair_inside n m f i g);
        few_nodes = omega (arith, f.long, l);
        nodes = k.0;
      };
      nodes = omega (arith, f.long);
      name = f.name;
      ordered = flattened_ordered n m f i g;
      wired = flattened_wired n m f i g;
    }

-- the result of `to_flat` is an accepted file
pub to_flat_accepted : (bs : List ℕ) → Bytes bs → (x : File TreeNet) → read tree bs ≡ ok x → (y : File FlatNet) → convert to_flat x ≡ ok y → read flat (write flat y) ≡ ok y
to_flat_accepted bs b x e y c =
    result_accepted tree TreeNetFits flat FlatNetFits to_flat to_flat_keeps flat_fits flat_read_write bs x (tree_write_read bs b x e) y c
