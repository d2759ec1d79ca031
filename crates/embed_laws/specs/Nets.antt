-- `to_flat` of the definitions without its state: how many wires a net takes, which wires are free, which nodes it has, in which order.
use Rattle.std.specs.Prelude.{ℕ, ◌+◌, ◌≤◌, ◌<◌, ◌≡◌, refl}
use Rattle.std.proofs.Common.{sym, arith}
use Rattle.std.proofs.Math.Option.{none, some}
use mathlib.Core.List.{List, [], ◌∷◌, ◌++◌, append_assoc, append-nil}
use Rattle.std.proofs.Math.Decide.{dec_lt}
use Rattle.net_file.specs.Lists.{Result, ok, refuse}
use Rattle.net_file.specs.Values.{FlatNode, FlatNet, Tree, trees, TreeNet}
use Rattle.net_file.specs.Checks.{nodes_of, nodes_of_all}
use Rattle.conversions.specs.Links.{Links, pairs_of}
use Rattle.conversions.specs.Convert.{◌>>=◌, each, Made, embed, embed_all, embed_link, to_flat}
use Rattle.embed_laws.specs.Numbers.{top_of, below, taken, tops, flats, flats_all, hangs, grown, grown_all, embed_fits, embed_all_fits, embed_over, embed_all_over}

-- ---- free trees: as a node's children

-- a tree's top wire before those of the trees after it
abbrev and_then : Result (ℕ × Made) → (Made → Result (List ℕ × Made)) → Result (List ℕ × Made)
and_then o f = ◌>>=◌ {B = List ℕ × Made} o (λ r. ◌>>=◌ {B = List ℕ × Made} (f r.1) (λ q. ok (r.0 ∷ q.0, q.1)))

each_step : (ts : List Tree) → ((s : Made) → each (λ t s. embed t none s) ts s ≡ embed_all (trees ts) s) → (o : Result (ℕ × Made))
    → and_then o (each (λ t s. embed t none s) ts) ≡ and_then o (embed_all (trees ts))
each_step ts h (ok r) = rw (h r.1)
each_step ts h (refuse n) = refl

each_trees : (ts : List Tree) (s : Made) → each (λ t s. embed t none s) ts s ≡ embed_all (trees ts) s
unfolding each embed_all
each_trees [] s = refl
each_trees (t ∷ ts) s = each_step ts (each_trees ts) (embed t none s)

-- ---- links

-- the top wire of a link's left tree; the counter after it; the wires that a link takes; the top wire of its right tree
unfoldable pub left_top : Tree × Tree → ℕ → ℕ
left_top l n = top_of none l.0 n

unfoldable pub link_taken : Tree × Tree → ℕ
link_taken l = nodes_of l.0 + below l.1

unfoldable pub right_top : Tree × Tree → ℕ → ℕ
right_top l n = top_of (some (left_top l n)) l.1 (n + nodes_of l.0)

unfoldable pub right_tops : List (Tree × Tree) → ℕ → List ℕ
right_tops [] n = []
right_tops (l ∷ ls) n = right_top l n ∷ right_tops ls (n + link_taken l)

unfoldable pub links_taken : List (Tree × Tree) → ℕ
links_taken [] = 0
links_taken (l ∷ ls) = link_taken l + links_taken ls

-- the state after a link, and after links
unfoldable pub link_flats : Tree × Tree → ℕ → List FlatNode
link_flats l n = flats none l.0 n ++ flats (some (left_top l n)) l.1 (n + nodes_of l.0)

unfoldable pub links_flats : List (Tree × Tree) → ℕ → List FlatNode
links_flats [] n = []
links_flats (l ∷ ls) n = link_flats l n ++ links_flats ls (n + link_taken l)

unfoldable pub link_hangs : Tree × Tree → ℕ → Links → Links
link_hangs l n k = hangs (some (left_top l n)) l.1 k

unfoldable pub links_hangs : List (Tree × Tree) → ℕ → Links → Links
links_hangs [] n k = k
links_hangs (l ∷ ls) n k = links_hangs ls (n + link_taken l) (link_hangs l n k)

abbrev pub link_grown : Tree × Tree → Made → Made
link_grown l s = record { wires = s.wires + link_taken l; links = link_hangs l s.wires s.links; nodes = s.nodes ++ link_flats l s.wires }

abbrev pub links_grown : List (Tree × Tree) → Made → Made
links_grown ls s = record { wires = s.wires + links_taken ls; links = links_hangs ls s.wires s.links; nodes = s.nodes ++ links_flats ls s.wires }

link_fits : (l : Tree × Tree) (s : Made) → s.wires + link_taken l ≤ 65536 → embed_link l s ≡ ok (right_top l s.wires, link_grown l s)
unfolding embed_link link_taken right_top left_top link_flats link_hangs hangs taken
link_fits l s h =
    let e : s.wires + nodes_of l.0 + below l.1 ≡ s.wires + (nodes_of l.0 + below l.1) = omega arith in
    rw (embed_fits l.0 none s (omega arith), embed_fits l.1 (some (top_of none l.0 s.wires)) (grown none l.0 s) (omega arith), e, append_assoc)

link_over : (l : Tree × Tree) (s : Made) → s.wires ≤ 65536 → 65536 < s.wires + link_taken l → embed_link l s ≡ refuse 18
unfolding embed_link link_taken taken
link_over l s i h = elim (dec_lt 65536 (s.wires + nodes_of l.0)) [
  | yes k ↦ rw (embed_over l.0 none s i k)
  | no k ↦ rw (embed_fits l.0 none s (omega arith), embed_over l.1 (some (top_of none l.0 s.wires)) (grown none l.0 s) (omega arith) (omega arith))
]

pub links_fit : (ls : List (Tree × Tree)) (s : Made) → s.wires + links_taken ls ≤ 65536 → each embed_link ls s ≡ ok (right_tops ls s.wires, links_grown ls s)
unfolding each links_taken right_tops links_hangs links_flats
links_fit [] s h =
    let e : s.wires ≡ s.wires + 0 = omega arith in
    λ i. ok ([], record { wires = e i; links = s.links; nodes = sym (append-nil s.nodes) i })
links_fit (l ∷ ls) s h =
    let e : s.wires + link_taken l + links_taken ls ≡ s.wires + (link_taken l + links_taken ls) = omega arith in
    rw (link_fits l s (omega arith), links_fit ls (link_grown l s) (omega arith), e, append_assoc)

pub links_over : (ls : List (Tree × Tree)) (s : Made) → s.wires ≤ 65536 → 65536 < s.wires + links_taken ls → each embed_link ls s ≡ refuse 18
unfolding each links_taken
links_over [] s i h = absurd (omega arith)
links_over (l ∷ ls) s i h = elim (dec_lt 65536 (s.wires + link_taken l)) [
  | yes k ↦ rw (link_over l s i k)
  | no k ↦ rw (link_fits l s (omega arith), links_over ls (link_grown l s) (omega arith) (omega arith))
]

-- ---- a net

module _ (n : TreeNet) where
  -- the counter after the free trees, and after all
  unfoldable pub free_wires : ℕ
  free_wires = n.wires + nodes_of_all (trees n.free)

  unfoldable pub flat_wires : ℕ
  flat_wires = free_wires + links_taken n.links

  -- the links, and the nodes in order
  unfoldable pub flat_links : Links
  flat_links = links_hangs n.links free_wires []

  unfoldable pub flat_nodes : List FlatNode
  flat_nodes = flats_all (trees n.free) n.wires ++ links_flats n.links free_wires

  unfoldable pub flat_of : FlatNet
  flat_of = record {
    name = n.name;
    included = n.included;
    wires = flat_wires;
    free = tops (trees n.free) n.wires;
    pairs = pairs_of flat_links flat_wires;
    nodes = flat_nodes;
  }

  pub flat_fits : flat_wires ≤ 65536 → to_flat n ≡ ok flat_of
  unfolding to_flat flat_of flat_wires free_wires flat_links flat_nodes
  flat_fits h = rw (
    each_trees n.free (record { wires = n.wires; links = []; nodes = [] }),
    embed_all_fits (trees n.free) (record { wires = n.wires; links = []; nodes = [] }) (omega arith),
    links_fit n.links (grown_all (trees n.free) (record { wires = n.wires; links = []; nodes = [] })) (omega arith),
  )

  pub flat_over : n.wires ≤ 65536 → 65536 < flat_wires → to_flat n ≡ refuse 18
  unfolding to_flat flat_wires free_wires
  flat_over i h = elim (dec_lt 65536 (n.wires + nodes_of_all (trees n.free))) [
    | yes k ↦ rw (each_trees n.free (record { wires = n.wires; links = []; nodes = [] }), embed_all_over (trees n.free) (record { wires = n.wires; links = []; nodes = [] }) i k)
    | no k ↦ rw (
      each_trees n.free (record { wires = n.wires; links = []; nodes = [] }),
      embed_all_fits (trees n.free) (record { wires = n.wires; links = []; nodes = [] }) (omega arith),
      links_over n.links (grown_all (trees n.free) (record { wires = n.wires; links = []; nodes = [] })) (omega arith) (omega arith),
    )
  ]
