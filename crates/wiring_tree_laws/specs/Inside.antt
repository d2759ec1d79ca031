-- Every wire of a net that is read is below its wire counter, and that is at most 65,536 (`net_reads`).
use Prim.Native.Nat.{ℕ, zero, suc, ◌≤◌}
use Rattle.std.specs.Prelude.{◌≡◌}
use Rattle.std.proofs.Common.{subst, arith}
use Rattle.std.proofs.Math.Option.{some}
use mathlib.Core.List.{List, [], ◌∷◌, ◌++◌, append-nil}
use Rattle.net_file.specs.Lists.{concat_map}
use Rattle.net_file.specs.Values.{Tree, wire, node, trees, TreeNet}
use Rattle.net_file.specs.Read.{Parser, ◌>>=◌, give, below, times, many, read_name, read_bit, read_wire, by_tag, read_tree, read_link, read_tree_net}
use Rattle.net_file.specs.Checks.{wires_of, trees_of}
use Rattle.stored.specs.Laws.{some_value, bound}
use Rattle.walk.specs.Loops.{times_zero, times_suc}
use Rattle.tally.specs.Tally.{Inside, inside_append}
use Rattle.stored.specs.Pass.{under}
use Rattle.scan_tree_laws.specs.Trees.{singles}
use Rattle.scan_tree_laws.specs.Scanned.{concat_append, wires_listed}

module _ (wires : ℕ) where
  -- the wires of trees
  abbrev Within : List Tree → Type 0
  Within ts = Inside wires (concat_map wires_of ts)

  within_append : (ts us : List Tree) → Within ts → Within us → Within (ts ++ us)
  within_append ts us h k = rw (concat_append wires_of ts us) (inside_append wires (concat_map wires_of ts) (concat_map wires_of us) h k)

  -- ---- parts of which each holds trees

  module _ {A : Type 0} (p : Parser A) (ts : A → List Tree) (each : (bs : List ℕ) (x : A) (r : List ℕ) → p bs ≡ some (x, r) → Within (ts x)) where
    within_times : (n : ℕ) (bs : List ℕ) (xs : List A) (r : List ℕ) → times n p bs ≡ some (xs, r) → Within (concat_map ts xs)
    within_times zero bs xs r h = rw (← (some_value (rw times_zero at h)).0) Prim.tt
    within_times (suc n) bs xs r h =
        let b = bound p (λ x. times n p >>= λ ys. give (x ∷ ys)) bs xs r (rw times_suc at h) in
        let c = bound (times n p) (λ ys. give (b.value ∷ ys)) b.rest xs r b.next in
        rw (← (some_value c.next).0)
        (within_append (ts b.value) (concat_map ts c.value) (each bs b.value b.rest b.first) (within_times n b.rest c.value c.rest c.first))

    within_many : (k m : ℕ) (bs : List ℕ) (xs : List A) (r : List ℕ) → many k m p bs ≡ some (xs, r) → Within (concat_map ts xs)
    unfolding many
    within_many k m bs xs r h = let b = bound (below k (suc m)) (λ n. times n p) bs xs r h in within_times b.value b.rest xs r b.next

  -- ---- a tree

  within_wire : (bs : List ℕ) (x : Tree) (r : List ℕ) → read_wire wires bs ≡ some (x, r) → Within (x ∷ [])
  unfolding read_wire wires_of
  within_wire bs x r h =
      let b = bound (below 2 wires) (λ w. give (wire w)) bs x r h in
      let l = under 2 wires b.value bs b.rest b.first in
      rw (← (some_value b.next).0) (l, Prim.tt)

module _ (paths names wires : ℕ) where
  -- a node behind its tag
  abbrev node_of : ℕ → Parser Tree
  node_of d = read_name paths names >>= λ m. many 1 15 (read_tree paths names wires d) >>= λ ts. give (node m (trees ts))

  -- trees of one depth
  abbrev Safe : ℕ → Type 0
  Safe d = (bs : List ℕ) (x : Tree) (r : List ℕ) → read_tree paths names wires d bs ≡ some (x, r) → Within wires (x ∷ [])

  within_node : (d : ℕ) → Safe d → (bs : List ℕ) (x : Tree) (r : List ℕ) → node_of d bs ≡ some (x, r) → Within wires (x ∷ [])
  unfolding wires_of
  within_node d each bs x r h =
      let b = bound (read_name paths names) _ bs x r h in
      let c = bound (many 1 15 (read_tree paths names wires d)) (λ ts. give (node b.value (trees ts))) b.rest x r b.next in
      let w = within_many wires (read_tree paths names wires d) (λ t. t ∷ []) each 1 15 b.rest c.value c.rest c.first in
      rw (← (some_value c.next).0, append-nil, wires_listed c.value) (rw (singles c.value) at w)

  within_tagged : (d tag : ℕ) → Safe d → (bs : List ℕ) (x : Tree) (r : List ℕ) → by_tag tag (read_wire wires) (node_of d) bs ≡ some (x, r) → Within wires (x ∷ [])
  unfolding by_tag
  within_tagged d zero each = within_wire wires
  within_tagged d (suc n) each = within_node d each

  within_tree : (d : ℕ) → Safe d
  unfolding read_tree
  within_tree zero bs x r h = let b = bound (below 1 1) (λ tag. read_wire wires) bs x r h in within_wire wires b.rest x r b.next
  within_tree (suc d) bs x r h =
      let b = bound (below 1 2) (λ tag. by_tag tag (read_wire wires) (node_of d)) bs x r h in
      within_tagged d b.value (within_tree d) b.rest x r b.next

  within_link : (bs : List ℕ) (x : Tree × Tree) (r : List ℕ) → read_link paths names wires bs ≡ some (x, r) → Within wires (x.0 ∷ x.1 ∷ [])
  unfolding read_link
  within_link bs x r h =
      let a_tree = read_tree paths names wires 64 in
      let b = bound a_tree (λ a. a_tree >>= λ b. give (a, b)) bs x r h in
      let c = bound a_tree (λ t. give (b.value, t)) b.rest x r b.next in
      rw (← (some_value c.next).0)
      (within_append wires (b.value ∷ []) (c.value ∷ []) (within_tree 64 bs b.value b.rest b.first) (within_tree 64 b.rest c.value c.rest c.first))

-- ---- a net

-- the wires of a net, and its counter
pub record Wires (x : TreeNet) : Type 0 where
  pub inside : Inside x.wires (concat_map wires_of (trees_of x))
  pub counter : x.wires ≤ 65536

pub net_reads : (paths names : ℕ) (bs : List ℕ) (x : TreeNet) (r : List ℕ) → read_tree_net paths names bs ≡ some (x, r) → Wires x
unfolding read_tree_net trees_of
net_reads paths names bs x r h =
    let a = bound (below 2 names) _ bs x r h in
    let b = bound read_bit _ a.rest x r a.next in
    let c = bound (below 4 65537) _ b.rest x r b.next in
    let wires = c.value in
    let l = under 4 65537 wires b.rest c.rest c.first in
    let a_tree = read_tree paths names wires 64 in
    let a_link = read_link paths names wires in
    let d = bound (many 1 14 a_tree) _ c.rest x r c.next in
    let e = bound (many 2 65535 a_link) _ d.rest x r d.next in
    let free = within_many wires a_tree (λ t. t ∷ []) (within_tree paths names wires 64) 1 14 c.rest d.value d.rest d.first in
    let links = within_many wires a_link (λ t. t.0 ∷ t.1 ∷ []) (within_link paths names wires) 2 65535 d.rest e.value e.rest e.first in
    subst Wires (some_value e.next).0 (record {
      inside = within_append wires d.value (concat_map (λ t. t.0 ∷ t.1 ∷ []) e.value) (rw (singles d.value) at free) links;
      counter = omega arith;
    })
