-- What the walk over a stored tree numbers is what the definitions give for the tree that stands there: `walks`, `walks-all`.
use Prim.Native.Nat.{ℕ, zero, suc, ◌+◌, ◌<◌, ◌≤◌, min}
use Rattle.std.specs.Prelude.{◌≡◌, List, [], ◌∷◌}
use Rattle.std.proofs.Math.Path.{refl, sym, ap}
use Rattle.std.proofs.Common.{◌∙◌}
use Rattle.std.proofs.Math.Option.{Option, none, some}
use native.Mathlib.Omega.{arith}
use Rattle.std.proofs.Math.Decide.{ℕ_discrete}
use Rattle.std.proofs.Math.ListN.{length}
use Rattle.words.specs.Choose.{eq_yes, eq_no, lt_yes, lt_no}
use Rattle.net_file.specs.Values.{Tree, wire, node, Trees, trees}
use Rattle.net_file.specs.Checks.{nodes_of, nodes_of_all}
use Rattle.fields.specs.Fields.{byte, be16}
use Rattle.stored.specs.Stored.{table_at, table_end, name_at}
use Rattle.stored_tree.specs.Tree.{child_count_at, children, tree_end, tree_at}
use Rattle.ends.specs.Ends.{table_up}
use Rattle.tree_laws.specs.Places.{leaf_at, leaf_end, wire_at, wire_end, node_at, node_end, tree_up}
use Rattle.text_writers.specs.Wrote.{far}
use Rattle.wire_links.specs.Table.{on}
use Rattle.embed.specs.declared.Growth.{Growth}
use Rattle.embed.specs.Embed.{next, principal, counter, kids, leaf, entered, topped, closed, walked_by, walked, walked_all}
use Rattle.embed_laws.specs.Numbers.{given, after, top_of, below, taken}
use Rattle.embed_walk_laws.specs.Sizes.{size_of, size_all, count_place, kids_children, name_long, kids_long}

-- the wire that is given, or 65,536 for none, as the code hands it over
abbrev pub Coded : Option ℕ → ℕ → Type 0
Coded none k = k ≡ 65536
Coded (some u) k = (k ≡ u) × (u < 65536)

-- the counters and the place are no more than the code lets them be
pub record Bounded (g : Growth) : Type 0 where
  pub wires : g.wires ≤ 65537
  pub nodes : g.nodes ≤ 65537
  pub to : g.to ≤ far

-- from g to r past the tree t that ends at e; its top wire is right where all its wires fit
pub record Grows (up : Option ℕ) (t : Tree) (e : ℕ) (g r : Growth) : Type 0 where
  pub at : r.at ≡ e
  pub wires : r.wires ≡ min 65537 (g.wires + taken up t)
  pub nodes : r.nodes ≡ min 65537 (g.nodes + nodes_of t)
  pub to : r.to ≡ min far (g.to + size_of t)
  pub top : g.wires + taken up t ≤ 65536 → r.top ≡ top_of up t g.wires

-- and past the trees ts
pub record GrowsAll (ts : Trees) (e : ℕ) (g r : Growth) : Type 0 where
  pub at : r.at ≡ e
  pub wires : r.wires ≡ min 65537 (g.wires + nodes_of_all ts)
  pub nodes : r.nodes ≡ min 65537 (g.nodes + nodes_of_all ts)
  pub to : r.to ≡ min far (g.to + size_all ts)

pub bounded_on : {up : Option ℕ} {t : Tree} {e : ℕ} {g r : Growth} → Grows up t e g r → Bounded r
bounded_on h = let w = h.wires in let n = h.nodes in let o = h.to in record { wires = omega arith; nodes = omega arith; to = omega arith }

pub topped_grows : {up : Option ℕ} {t : Tree} {e : ℕ} {g r : Growth} (a : ℕ) → Grows up t e g r → Grows up t e g (topped r a)
unfolding topped
topped_grows a h = record { at = h.at; wires = h.wires; nodes = h.nodes; to = h.to; top = h.top }

-- a wire takes nothing
wire_takes : (up : Option ℕ) (w : ℕ) → taken up (wire w) ≡ 0
unfolding taken below nodes_of
wire_takes none w = refl
wire_takes (some u) w = refl

module _ (s : List ℕ) where
  -- ---- a wire

  leaf_grows : (up : Option ℕ) (g : Growth) → Bounded g → g.at + 3 ≤ length s → Grows up (wire (be16 s (g.at + 1))) (g.at + 3) g (leaf s g)
  unfolding leaf nodes_of size_of top_of
  leaf_grows up g b i =
      let z = wire_takes up (be16 s (g.at + 1)) in
      let w = b.wires in
      let n = b.nodes in
      let o = b.to in
      record { at = omega arith; wires = omega arith; nodes = omega arith; to = omega arith; top = λ h. refl }

  -- ---- a node before its children

  pub counter_is : (up : Option ℕ) (k n : ℕ) → Coded up k → n ≤ 65537 → counter n k ≡ min 65537 (after up n)
  unfolding counter next after
  counter_is none k n c h = sym (lt_no _ _ _ _ (omega arith) (omega arith))
  counter_is (some u) k n c h = let e = c.0 in let l = c.1 in sym (lt_yes _ _ _ _ (omega arith) (omega arith))

  pub principal_is : (up : Option ℕ) (k n : ℕ) → Coded up k → after up n ≤ 65536 → principal n k ≡ given up n
  unfolding principal after given
  principal_is none k n c h = sym (lt_no _ _ _ _ (omega arith) (omega arith))
  principal_is (some u) k n c h = let e = c.0 in let l = c.1 in sym (lt_yes _ _ _ _ (omega arith) (omega arith))

  -- ---- trees one after another

  -- past one, and then past the others
  module _ (d : ℕ) where
    all_next : (t : Tree) (e k : ℕ) (g x r : Growth) → Grows none t e g x → GrowsAll (trees (table_at (tree_at s d) (tree_end s d) x.at k)) (table_end (tree_end s d) x.at k) x r
        → GrowsAll (trees (t ∷ table_at (tree_at s d) (tree_end s d) e k)) (table_end (tree_end s d) e k) g r
    unfolding nodes_of_all size_all taken
    all_next t e k g x r h a =
        let w₁ = h.wires in
        let w₂ : r.wires ≡ min 65537 (x.wires + nodes_of_all (trees (table_at (tree_at s d) (tree_end s d) e k))) = rw h.at at a.wires in
        let n₁ = h.nodes in
        let n₂ : r.nodes ≡ min 65537 (x.nodes + nodes_of_all (trees (table_at (tree_at s d) (tree_end s d) e k))) = rw h.at at a.nodes in
        let o₁ = h.to in
        let o₂ : r.to ≡ min far (x.to + size_all (trees (table_at (tree_at s d) (tree_end s d) e k))) = rw h.at at a.to in
        record { at = a.at ∙ ap (λ p. table_end (tree_end s d) p k) h.at; wires = omega arith; nodes = omega arith; to = omega arith }

  module _ (d : ℕ) (one : (g : Growth) → Bounded g → tree_end s d g.at ≤ length s → Grows none (tree_at s d g.at) (tree_end s d g.at) g (walked s d g 65536)) where
    all_grow : (k : ℕ) (g : Growth) → Bounded g → table_end (tree_end s d) g.at k ≤ length s
        → GrowsAll (trees (table_at (tree_at s d) (tree_end s d) g.at k)) (table_end (tree_end s d) g.at k) g (walked_by (λ x. walked s d x 65536) g k)
    unfolding walked_by table_at table_end nodes_of_all size_all
    all_grow zero g b i =
        let w = b.wires in
        let n = b.nodes in
        let o = b.to in
        record { at = refl; wires = omega arith; nodes = omega arith; to = omega arith }
    all_grow (suc k) g b i =
        let t = walked s d g 65536 in
        let u = table_up (tree_end s d) (tree_up s d) (tree_end s d g.at) k in
        let h = one g b (omega arith) in
        let x = topped t g.aux in
        let hx = topped_grows g.aux h in
        all_next d (tree_at s d g.at) (tree_end s d g.at) k g x (walked_by (λ x. walked s d x 65536) x k) hx (all_grow k x (bounded_on hx) (rw hx.at i))

  -- ---- a node

  -- at its first child
  pub entered_at : (g : Growth) (k : ℕ) → child_count_at s g.at + 1 ≤ length s → (entered s g k).at ≡ child_count_at s g.at + 1
  unfolding entered
  entered_at g k h = let e = count_place s g.at in omega arith

  module _ (d : ℕ) (up : Option ℕ) (k : ℕ) (g r : Growth) (c : Coded up k) (b : Bounded g) where
    abbrev below_it : Trees
    below_it = trees (table_at (tree_at s d) (tree_end s d) (child_count_at s g.at + 1) (children s g.at))

    abbrev whole : Tree
    whole = node (name_at s (g.at + 1)) below_it

    takes_is : taken up whole + g.wires ≡ after up g.wires + nodes_of_all below_it
    unfolding taken below nodes_of after
    takes_is = go up
      where
        go : (up : Option ℕ) → taken up whole + g.wires ≡ after up g.wires + nodes_of_all below_it
        go none = omega arith
        go (some u) = omega arith

    closed_grows : (e : ℕ) → GrowsAll below_it e (entered s g k) r → Grows up whole e g (closed r (entered s g k).top)
    unfolding closed entered on next nodes_of size_of top_of
    closed_grows e h =
        let w₀ = counter_is up k g.wires c b.wires in
        let w₁ = takes_is in
        let w₂ = h.wires in
        let n₀ = b.nodes in
        let n₂ = h.nodes in
        let o₀ = b.to in
        let o₂ = h.to in
        let l = name_long s g.at in
        let m = kids_long s (child_count_at s g.at + 1) (tree_at s d) (tree_end s d) (children s g.at) in
        let j = kids_children s g.at in
        record {
          at = h.at;
          wires = omega arith;
          nodes = omega arith;
          to = omega arith;
          top = λ f. principal_is up k g.wires c (omega arith);
        }

    pub bounded_entered : Bounded (entered s g k)
    unfolding entered on next
    bounded_entered = let w = counter_is up k g.wires c b.wires in record { wires = omega arith; nodes = omega arith; to = omega arith }

  -- its children, from where they begin
  kids_grow : (d : ℕ) (up : Option ℕ) (k : ℕ) (g : Growth) → Coded up k → Bounded g
      → table_end (tree_end s d) (child_count_at s g.at + 1) (children s g.at) ≤ length s
      → ((x : Growth) → Bounded x → tree_end s d x.at ≤ length s → Grows none (tree_at s d x.at) (tree_end s d x.at) x (walked s d x 65536))
      → GrowsAll (trees (table_at (tree_at s d) (tree_end s d) (child_count_at s g.at + 1) (children s g.at)))
      (table_end (tree_end s d) (child_count_at s g.at + 1) (children s g.at)) (entered s g k) (walked_by (λ x. walked s d x 65536) (entered s g k) (kids s g.at))
  kids_grow d up k g c b j one =
      let u = table_up (tree_end s d) (tree_up s d) (child_count_at s g.at + 1) (children s g.at) in
      let a = entered_at g k (omega arith) in
      let n = kids_children s g.at in
      let q : table_end (tree_end s d) (entered s g k).at (children s g.at) ≤ length s = rw a j in
      let h = all_grow d one (children s g.at) (entered s g k) (bounded_entered d up k g (entered s g k) c b) q in
      rw n (record {
        at = h.at ∙ ap (λ p. table_end (tree_end s d) p (children s g.at)) a;
        wires = h.wires ∙ ap (λ p. min 65537 ((entered s g k).wires + nodes_of_all (trees (table_at (tree_at s d) (tree_end s d) p (children s g.at))))) a;
        nodes = h.nodes ∙ ap (λ p. min 65537 ((entered s g k).nodes + nodes_of_all (trees (table_at (tree_at s d) (tree_end s d) p (children s g.at))))) a;
        to = h.to ∙ ap (λ p. min far ((entered s g k).to + size_all (trees (table_at (tree_at s d) (tree_end s d) p (children s g.at))))) a;
      })

  -- ---- any tree

  pub walks : (d : ℕ) (up : Option ℕ) (k : ℕ) (g : Growth) → Coded up k → Bounded g → tree_end s d g.at ≤ length s
      → Grows up (tree_at s d g.at) (tree_end s d g.at) g (walked s d g k)
  unfolding walked
  walks zero up k g c b i = rw (leaf_at s g.at, leaf_end s g.at) (leaf_grows up g b (rw (leaf_end s g.at) at i))
  walks (suc d) up k g c b i = elim (ℕ_discrete (byte s g.at) 0) [
    | yes z ↦
        let j : g.at + 3 ≤ length s = rw (wire_end s g.at z (suc d)) at i in
        let e : leaf s g ≡ walked s (suc d) g k = eq_yes _ _ _ _ z refl in
        rw (wire_at s g.at z (suc d), wire_end s g.at z (suc d), ← e) (leaf_grows up g b j)
    | no z ↦
        let j : table_end (tree_end s d) (child_count_at s g.at + 1) (children s g.at) ≤ length s = rw (node_end s g.at z d) at i in
        let o = entered s g k in
        let r = walked_by (λ x. walked s d x 65536) o (kids s g.at) in
        let e : closed r o.top ≡ walked s (suc d) g k = eq_no _ _ _ _ z refl in
        rw (node_at s g.at z d, node_end s g.at z d, ← e) (closed_grows d up k g r c b _ (kids_grow d up k g c b j (λ x. walks d none 65536 x refl)))
  ]

  -- k trees, one after another
  pub walks_all : (d k : ℕ) (g : Growth) → Bounded g → table_end (tree_end s d) g.at k ≤ length s
      → GrowsAll (trees (table_at (tree_at s d) (tree_end s d) g.at k)) (table_end (tree_end s d) g.at k) g (walked_all s d g k)
  unfolding walked_all
  walks_all d k g b i = all_grow d (λ x. walks d none 65536 x refl) k g b i
