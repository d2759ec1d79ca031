-- What of a tree net fits and is therefore read back. Document 01, "A tree net": a tree is at most 64 deep.
use Prim.Native.Nat.{ℕ, zero, suc, ◌<◌, ◌≤◌}
use native.Mathlib.Omega.{arith}
use Rattle.std.specs.Prelude.{◌≡◌, refl, length}
use Rattle.std.proofs.Common.{sym, ◌∙◌}
use Rattle.std.proofs.Math.Path.{ap}
use mathlib.Core.List.{List, [], ◌∷◌, ◌++◌, append_assoc, append-nil}
use Rattle.net_file.specs.Lists.{concat_map}
use Rattle.net_file.specs.Values.{Name, Tree, wire, node, Trees, none, more, listed, trees, TreeNet}
use Rattle.net_file.specs.Read.{◌>>=◌, give, many, read_name, read_wire, by_tag, read_tree, read_link, read_tree_net}
use Rattle.net_file.specs.Write.{be, counted, write_name, write_tree, write_trees, write_link, write_head, write_tree_net}
use Rattle.net_file_laws.specs.Exact.{Exact, exact_as, exact_step, exact_give, exact_below, Each, exact_many}
use Rattle.net_file_laws.specs.Parts.{NameFits, exact_name, exact_bit}

-- ---- children as a list

pub listed_trees : (ts : List Tree) → listed (trees ts) ≡ ts
listed_trees [] = refl
listed_trees (t ∷ ts) = ap (λ (us : List Tree). t ∷ us) (listed_trees ts)

pub trees_listed : (ts : Trees) → trees (listed ts) ≡ ts
trees_listed none = refl
trees_listed (more t ts) = ap (more t) (trees_listed ts)

pub trees_written : (ts : Trees) → write_trees ts ≡ concat_map write_tree (listed ts)
unfolding write_tree
trees_written none = refl
trees_written (more t ts) = ap (λ (us : List ℕ). write_tree t ++ us) (trees_written ts)

-- ---- one tree

-- the parts of a tree; of a tree that lacks a part, anything
abbrev tag_of : Tree → ℕ
tag_of (wire w) = 0
tag_of (node m ts) = 1

abbrev wire_of : Tree → ℕ
wire_of (wire w) = w
wire_of (node m ts) = 0

abbrev name_of : Tree → Name
name_of (wire w) = record { path = 0; payload = 0; children = [] }
name_of (node m ts) = m

abbrev children_of : Tree → List Tree
children_of (wire w) = []
children_of (node m ts) = listed ts

-- what is written after the tag, 0 or more
abbrev after : ℕ → Tree → List ℕ
after zero t = be 2 (wire_of t) ++ []
after (suc n) t = write_name (name_of t) ++ (counted 1 write_tree (children_of t) ++ [])

module _ (paths names wires : ℕ) where
  -- at most d deep, at most 15 children a node, names and wires in range
  unfoldable pub TreeFits : ℕ → Tree → Type 0
  TreeFits zero (wire w) = w < wires
  TreeFits zero (node m ts) = ⊥
  TreeFits (suc d) (wire w) = w < wires
  TreeFits (suc d) (node m ts) = NameFits paths names m × (length (listed ts) ≤ 15) × Each (TreeFits d) (listed ts)

  -- what fits after the tag of a tree of at most depth suc d
  abbrev Tagged : ℕ → ℕ → Tree → Type 0
  Tagged d zero t = (wire_of t < wires) × (t ≡ wire (wire_of t))
  Tagged d (suc n) t =
      NameFits paths names (name_of t) × (((length (children_of t) ≤ 15) × Each (TreeFits d) (children_of t)) × (t ≡ node (name_of t) (trees (children_of t))))

  module _ (hp : paths ≤ 65536) (hn : names ≤ 65536) (hw : wires ≤ 65536) where
    exact_wire : Exact (read_wire wires) (after 0) (Tagged 0 0)
    unfolding read_wire
    exact_wire = exact_step (exact_below 2 wires hw) wire_of (λ w h. exact_give (wire w)) (λ w h t g. ap wire_of g)

    exact_children : (d n : ℕ) → Exact (read_tree paths names wires d) write_tree (TreeFits d)
        → Exact (by_tag n (read_wire wires) (read_name paths names >>= λ m. many 1 15 (read_tree paths names wires d) >>= λ ts. give (node m (trees ts)))) (after n) (Tagged d n)
    unfolding by_tag
    exact_children d zero x = exact_wire
    exact_children d (suc n) x =
        exact_step (exact_name paths names hp hn) name_of
        (λ m h. exact_step (exact_many x 1 15 (omega arith)) children_of (λ ts h. exact_give (node m (trees ts))) (λ ts h t g. ap children_of g ∙ listed_trees ts))
        (λ m h t g. ap name_of g.1)

    tagged : (d n : ℕ) → n < 2 → (t : Tree) → Tagged d n t → tag_of t ≡ n
    tagged d zero h t g = ap tag_of g.1
    tagged d (suc zero) h t g = ap tag_of g.1.1
    tagged d (suc (suc n)) h t g = absurd (omega arith)

    tree_written : (t : Tree) → write_tree t ≡ be 1 (tag_of t) ++ after (tag_of t) t
    unfolding write_tree counted
    tree_written (wire w) = simp append-nil
    tree_written (node m ts) = simp (append_assoc, append-nil) (ap (λ (us : List ℕ). be 1 1 ++ (write_name m ++ (be 1 (length (listed ts)) ++ us))) (trees_written ts))

    needs : (d : ℕ) (t : Tree) → TreeFits (suc d) t → (tag_of t < 2) × Tagged d (tag_of t) t
    unfolding TreeFits
    needs d (wire w) h = (omega arith, (h, refl))
    needs d (node m ts) h = (omega arith, (h.0, ((h.1, h.2), ap (node m) (sym (trees_listed ts)))))

    fits : (d : ℕ) (t : Tree) → (tag_of t < 2) × Tagged d (tag_of t) t → TreeFits (suc d) t
    unfolding TreeFits
    fits d (wire w) g = g.1.0
    fits d (node m ts) g = (g.1.0, g.1.1.0.0, g.1.1.0.1)

    -- of depth 0 there are wires only
    exact_leaf : Exact (read_tree paths names wires 0) write_tree (TreeFits 0)
    unfolding read_tree TreeFits write_tree
    exact_leaf = exact_as written needs_leaf fits_leaf (exact_step (exact_below 1 1 (omega arith)) tag_of (λ n h. exact_wire) (λ n h t g. ap tag_of g.1 ∙ omega arith))
      where
        written : (t : Tree) → TreeFits 0 t → write_tree t ≡ be 1 (tag_of t) ++ after 0 t
        written (wire w) h = simp append-nil
        written (node m ts) h = absurd h

        needs_leaf : (t : Tree) → TreeFits 0 t → (tag_of t < 1) × Tagged 0 0 t
        needs_leaf (wire w) h = (omega arith, (h, refl))
        needs_leaf (node m ts) h = absurd h

        fits_leaf : (t : Tree) → (tag_of t < 1) × Tagged 0 0 t → TreeFits 0 t
        fits_leaf (wire w) g = g.1.0
        fits_leaf (node m ts) g = absurd (omega (arith, g.0))

    pub exact_tree : (d : ℕ) → Exact (read_tree paths names wires d) write_tree (TreeFits d)
    unfolding read_tree
    exact_tree zero = exact_leaf
    exact_tree (suc d) =
        exact_as (λ t h. tree_written t) (needs d) (fits d)
        (exact_step (exact_below 1 2 (omega arith)) tag_of (λ n h. exact_children d n (exact_tree d)) (tagged d))

    pub exact_link : Exact (read_link paths names wires) write_link (λ l. TreeFits 64 l.0 × TreeFits 64 l.1)
    unfolding read_link write_link
    exact_link =
        exact_as (λ l h. simp append-nil) (λ l h. (h.0, (h.1, refl))) (λ l g. (g.0, g.1.0))
        (exact_step (exact_tree 64) (λ (l : Tree × Tree). l.0)
        (λ a h. exact_step (exact_tree 64) (λ (l : Tree × Tree). l.1)
        (λ b h. exact_give (a, b))
        (λ b h l g. ap (λ (k : Tree × Tree). k.1) g))
        (λ a h l g. ap (λ (k : Tree × Tree). k.0) g.1))

-- ---- a net

abbrev pub LinkFits : ℕ → ℕ → ℕ → Tree × Tree → Type 0
LinkFits paths names wires l = TreeFits paths names wires 64 l.0 × TreeFits paths names wires 64 l.1

pub record TreeNetFits (paths names : ℕ) (n : TreeNet) : Type 0 where
  pub name : n.name < names
  pub wires : n.wires ≤ 65536
  pub few_free : length n.free ≤ 14
  pub free : Each (TreeFits paths names n.wires 64) n.free
  pub few_links : length n.links ≤ 65535
  pub links : Each (LinkFits paths names n.wires) n.links

pub exact_tree_net : (paths names : ℕ) → paths ≤ 65536 → names ≤ 65536 → Exact (read_tree_net paths names) write_tree_net (TreeNetFits paths names)
unfolding read_tree_net write_tree_net write_head
exact_tree_net paths names hp hn =
    exact_as (λ n h. simp (append_assoc, append-nil))
    (λ n h. (h.name, (tt, (omega (arith, h.wires), ((h.few_free, h.free), ((h.few_links, h.links), refl))))))
    (λ n g. let w : n.wires ≤ 65536 = omega (arith, g.1.1.0) in record {
      name = g.0;
      wires = w;
      few_free = g.1.1.1.0.0;
      free = g.1.1.1.0.1;
      few_links = g.1.1.1.1.0.0;
      links = g.1.1.1.1.0.1;
    })
    (exact_step (exact_below 2 names hn) (λ (n : TreeNet). n.name)
    (λ m h. exact_step exact_bit (λ (n : TreeNet). n.included)
    (λ i h. exact_step (exact_below 4 65537 (omega arith)) (λ (n : TreeNet). n.wires)
    (λ ws hw. exact_step (exact_many (exact_tree paths names ws hp hn (omega arith) 64) 1 14 (omega arith)) (λ (n : TreeNet). n.free)
    (λ fs h. exact_step (exact_many (exact_link paths names ws hp hn (omega arith)) 2 65535 (omega arith)) (λ (n : TreeNet). n.links)
    (λ ls h. exact_give (record { name = m; included = i; wires = ws; free = fs; links = ls }))
    (λ ls h n g. ap (λ (k : TreeNet). k.links) g))
    (λ fs h n g. ap (λ (k : TreeNet). k.free) g.1))
    (λ ws h n g. ap (λ (k : TreeNet). k.wires) g.1.1))
    (λ i h n g. ap (λ (k : TreeNet). k.included) g.1.1.1))
    (λ m h n g. ap (λ (k : TreeNet). k.name) g.1.1.1.1))
