-- The walk over a net where it stands: its wire counter, its nodes and its links are those of `to_flat` of the definitions.
use Prim.Native.Nat.{ℕ, zero, suc, ◌+◌, ◌*◌, ◌<◌, ◌≤◌, min}
use Rattle.std.specs.Prelude.{◌≡◌, refl}
use Rattle.std.proofs.Common.{sym, ◌∙◌, length-append}
use Rattle.std.proofs.Math.Path.{ap, subst}
use Rattle.std.proofs.Math.Option.{Option, none, some}
use mathlib.Core.List.{List, [], ◌∷◌}
use native.Mathlib.Omega.{arith}
use Rattle.std.proofs.Math.ListN.{length}
use Rattle.std.proofs.Math.Seq.{sets}
use Rattle.net_file.specs.Lists.{concat_map}
use Rattle.net_file.specs.Values.{Tree, wire, node, Trees, more, trees, TreeNet}
use Rattle.net_file.specs.Values
use Rattle.net_file.specs.Write.{write_node}
use Rattle.net_file.specs.Checks.{nodes_of, nodes_of_all}
use Rattle.net_file_laws.specs.Bytes.{Bytes}
use Rattle.fields.specs.Fields.{byte, be16, be32}
use Rattle.stored.specs.Stored.{table_at, table_end}
use Rattle.stored_tree.specs.Tree.{tree_end, tree_at, link_at, link_end, link_count_at, tree_net_at, tree_net_end}
use Rattle.tree_laws.specs.Places.{links_past, net_past}
use Rattle.put.specs.Written.{numbers}
use Rattle.text_writers.specs.Wrote.{far}
use Rattle.wire_links_laws.specs.Means.{Means}
use Rattle.embed.specs.Embed.{written_all}
use Rattle.embed_laws.specs.Numbers.{after, tops, flats, flats_all}
use Rattle.embed_laws.specs.Nets.{left_top, link_taken, links_taken, link_flats, links_flats, links_hangs, free_wires, flat_wires, flat_links, flat_nodes}
use Rattle.embed_walk_laws.specs.Sizes.{size_all, bytes_all, nodes_append, all_size, kids_long}
use Rattle.embed_walk_laws.specs.Walked.{Bounded, GrowsAll, walks_all}
use Rattle.embed_walk_laws.specs.Written.{RoomAll, laid_out, writes_all}
use Rattle.embed_walk_laws.specs.Sets.{sets_then}
use Rattle.embed_nets.specs.Nets.{links_written, at_free, at_links, free_walked, net_walked, net_hung, net_written}
use Rattle.flat_nets_laws.specs.Links.{links_nodes, links_size, links_bytes, link_nodes, LinksGrow, links_walk, links_mean, links_write}

-- ---- how many nodes there are

mutual
  unfolding flats flats_all nodes_of nodes_of_all

  flats_long : (up : Option ℕ) (t : Tree) (n : ℕ) → length (flats up t n) ≡ nodes_of t
  flats_long up (wire w) n = refl
  flats_long up (node m ts) n = ap suc (flats_all_long ts (after up n))

  flats_all_long : (ts : Trees) (n : ℕ) → length (flats_all ts n) ≡ nodes_of_all ts
  flats_all_long Values.none n = refl
  flats_all_long (more t ts) n = length-append (flats none t n) (flats_all ts (n + nodes_of t)) ∙ omega (arith, flats_long none t n, flats_all_long ts (n + nodes_of t))

links_long_lem : (ls : List (Tree × Tree)) (n : ℕ) → length (links_flats ls n) ≡ links_nodes ls
unfolding links_flats link_flats links_nodes link_nodes
links_long_lem [] n = refl
links_long_lem (l ∷ ls) n =
    let a = flats_long none l.0 n in
    let b = flats_long (some (left_top l n)) l.1 (n + nodes_of l.0) in
    let c = links_long_lem ls (n + link_taken l) in
    simp length-append (omega arith)

-- of a net, and how many bytes they take
unfoldable pub node_count : TreeNet → ℕ
node_count n = nodes_of_all (trees n.free) + links_nodes n.links

unfoldable pub node_bytes : TreeNet → ℕ
node_bytes n = size_all (trees n.free) + links_size n.links

pub nodes_long : (n : TreeNet) → length (flat_nodes n) ≡ node_count n
unfolding flat_nodes node_count
nodes_long n =
    length-append (flats_all (trees n.free) n.wires) (links_flats n.links (free_wires n))
    ∙ omega (arith, flats_all_long (trees n.free) n.wires, links_long_lem n.links (free_wires n))

-- ---- the net at a place

module _ (s : List ℕ) (bytes : Bytes s) (at : ℕ) (inside : tree_net_end s at ≤ length s) (low : be32 s (at + 3) ≤ 65536) (to aux : ℕ) (h : to ≤ far) where
  abbrev net : TreeNet
  net = tree_net_at s at

  links_inside : link_count_at s at + 2 ≤ length s
  links_inside = let p = net_past s at in omega arith

  free_start : (at_free s at to aux).at ≡ at + 8
  unfolding at_free
  free_start = let p = links_past s at in let q = links_inside in omega arith

  free_bounded : Bounded (at_free s at to aux)
  unfolding at_free
  free_bounded = record { wires = omega arith; nodes = omega arith; to = h }

  free_inside_lem : table_end (tree_end s 64) (at_free s at to aux).at (byte s (at + 7)) ≤ length s
  unfolding link_count_at
  free_inside_lem = let q = links_inside in rw free_start (omega arith)

  free_grows : GrowsAll (trees (table_at (tree_at s 64) (tree_end s 64) (at_free s at to aux).at (byte s (at + 7)))) (table_end (tree_end s 64) (at_free s at to aux).at (byte s (at + 7)))
      (at_free s at to aux) (free_walked s at to aux)
  unfolding free_walked
  free_grows = walks_all s 64 (byte s (at + 7)) (at_free s at to aux) free_bounded free_inside_lem

  free_trees : trees (table_at (tree_at s 64) (tree_end s 64) (at_free s at to aux).at (byte s (at + 7))) ≡ trees net.free
  unfolding tree_net_at
  free_trees = ap (λ p. trees (table_at (tree_at s 64) (tree_end s 64) p (byte s (at + 7)))) free_start

  free_end : (free_walked s at to aux).at ≡ link_count_at s at
  unfolding link_count_at
  free_end = free_grows.at ∙ ap (λ p. table_end (tree_end s 64) p (byte s (at + 7))) free_start

  free_wires_lem : (free_walked s at to aux).wires ≡ min 65537 (free_wires net)
  unfolding free_wires tree_net_at at_free
  free_wires_lem = free_grows.wires ∙ ap (λ ts. min 65537 (be32 s (at + 3) + nodes_of_all ts)) free_trees

  free_nodes : (free_walked s at to aux).nodes ≡ min 65537 (nodes_of_all (trees net.free))
  unfolding at_free
  free_nodes = free_grows.nodes ∙ ap (λ ts. min 65537 (0 + nodes_of_all ts)) free_trees ∙ omega arith

  free_to : (free_walked s at to aux).to ≡ min far (to + size_all (trees net.free))
  unfolding at_free
  free_to = free_grows.to ∙ ap (λ ts. min far (to + size_all ts)) free_trees

  -- ---- its links

  links_start : (at_links s (free_walked s at to aux)).at ≡ link_count_at s at + 2
  unfolding at_links
  links_start = let q = links_inside in let e = free_end in omega arith

  links_bounded : Bounded (at_links s (free_walked s at to aux))
  unfolding at_links
  links_bounded = let w = free_wires_lem in let n = free_nodes in let o = free_to in record { wires = omega arith; nodes = omega arith; to = omega arith }

  abbrev links_from : ℕ → ℕ → List (Tree × Tree)
  links_from p k = table_at (link_at s) (link_end s) p k

  links_end : table_end (link_end s) (at_links s (free_walked s at to aux)).at (be16 s (free_walked s at to aux).at) ≡ tree_net_end s at
  unfolding tree_net_end
  links_end = rw (links_start, free_end)

  links_are : links_from (at_links s (free_walked s at to aux)).at (be16 s (free_walked s at to aux).at) ≡ net.links
  unfolding tree_net_at
  links_are = rw (links_start, free_end)

  links_grow : LinksGrow (links_from (at_links s (free_walked s at to aux)).at (be16 s (free_walked s at to aux).at))
      (table_end (link_end s) (at_links s (free_walked s at to aux)).at (be16 s (free_walked s at to aux).at)) (at_links s (free_walked s at to aux)) (net_walked s at to aux)
  unfolding net_walked
  links_grow = links_walk s bytes (be16 s (free_walked s at to aux).at) (at_links s (free_walked s at to aux)) links_bounded (rw links_end inside)

  -- ---- the whole net

  pub net_end_lem : (net_walked s at to aux).at ≡ tree_net_end s at
  net_end_lem = links_grow.at ∙ links_end

  pub net_wires_lem : (net_walked s at to aux).wires ≡ min 65537 (flat_wires net)
  unfolding flat_wires at_links
  net_wires_lem =
      let w = free_wires_lem in
      let e : (net_walked s at to aux).wires ≡ min 65537 ((free_walked s at to aux).wires + links_taken net.links) =
      links_grow.wires ∙ ap (λ ls. min 65537 ((free_walked s at to aux).wires + links_taken ls)) links_are in
      omega arith

  pub net_nodes_lem : (net_walked s at to aux).nodes ≡ min 65537 (node_count net)
  unfolding node_count at_links
  net_nodes_lem =
      let w = free_nodes in
      let e : (net_walked s at to aux).nodes ≡ min 65537 ((free_walked s at to aux).nodes + links_nodes net.links) =
      links_grow.nodes ∙ ap (λ ls. min 65537 ((free_walked s at to aux).nodes + links_nodes ls)) links_are in
      omega arith

  pub net_to : (net_walked s at to aux).to ≡ min far (to + node_bytes net)
  unfolding node_bytes at_links
  net_to =
      let w = free_to in
      let e : (net_walked s at to aux).to ≡ min far ((free_walked s at to aux).to + links_size net.links) =
      links_grow.to ∙ ap (λ ls. min far ((free_walked s at to aux).to + links_size ls)) links_are in
      omega arith

  -- ---- where its wires fit

  module _ (fits : flat_wires net ≤ 65536) where
    free_fits : free_wires net + links_taken net.links ≤ 65536
    unfolding flat_wires
    free_fits = fits

    links_wires : (at_links s (free_walked s at to aux)).wires ≡ free_wires net
    unfolding at_links
    links_wires = let w = free_wires_lem in let f = free_fits in omega arith

    links_fit : (at_links s (free_walked s at to aux)).wires + links_taken (links_from (at_links s (free_walked s at to aux)).at (be16 s (free_walked s at to aux).at)) ≤ 65536
    links_fit = let w = links_wires in let f = free_fits in rw links_are (omega arith)

    -- the table means its links
    pub net_means : (ws : List ℕ) → Means ws [] → Means (net_hung s ws at to aux) (flat_links net)
    unfolding net_hung flat_links
    net_means ws m = subst (Means (net_hung s ws at to aux)) (λ i. links_hangs (links_are i) (links_wires i) []) (links_mean s bytes (be16 s (free_walked s at to aux).at) (at_links s (free_walked s at to aux)) links_bounded (rw links_end inside) links_fit ws [] m)

    -- its free wires and its nodes are written
    module _ (said : to + node_bytes net ≤ far) (apart : aux + 2 * byte s (at + 7) ≤ to) (out : List ℕ) where
      free_said : to + size_all (trees net.free) + links_size net.links ≤ far
      unfolding node_bytes
      free_said = omega arith

      free_room : RoomAll s (trees (table_at (tree_at s 64) (tree_end s 64) (at_free s at to aux).at (byte s (at + 7)))) (at_free s at to aux)
      unfolding at_free free_wires tree_net_at
      free_room =
          let f = free_fits in
          let q = free_said in
          let k = kids_long s (at + 8) (tree_at s 64) (tree_end s 64) (byte s (at + 7)) in
          let e = free_trees in
          record { fits = rw e (omega arith); said = rw e (omega arith); apart = rw e (omega arith) }

      free_laid : written_all s 64 (at_free s at to aux) (byte s (at + 7)) out ≡ sets (sets out aux (numbers (tops (trees net.free) net.wires))) to (bytes_all (trees net.free) net.wires)
      unfolding at_free tree_net_at
      free_laid =
          writes_all s 64 (byte s (at + 7)) (at_free s at to aux) out free_bounded free_inside_lem free_room
          ∙ ap (λ ts. laid_out s ts (be32 s (at + 3)) aux to out) free_trees

      links_to : (at_links s (free_walked s at to aux)).to ≡ to + size_all (trees net.free)
      unfolding at_links
      links_to = let o = free_to in let q = free_said in omega arith

      links_said : (at_links s (free_walked s at to aux)).to + links_size (links_from (at_links s (free_walked s at to aux)).at (be16 s (free_walked s at to aux).at)) ≤ far
      links_said = let o = links_to in let q = free_said in rw links_are (omega arith)

      links_laid : (o : List ℕ) → links_written s (at_links s (free_walked s at to aux)) (be16 s (free_walked s at to aux).at) o
          ≡ sets o (to + size_all (trees net.free)) (links_bytes net.links (free_wires net))
      links_laid o =
          links_write s bytes (be16 s (free_walked s at to aux).at) (at_links s (free_walked s at to aux)) links_bounded (rw links_end inside) links_fit links_said o
          ∙ (λ i. sets o (links_to i) (links_bytes (links_are i) (links_wires i)))

      pub net_laid : net_written s at to aux out ≡ sets (sets out aux (numbers (tops (trees net.free) net.wires))) to (concat_map write_node (flat_nodes net))
      unfolding net_written flat_nodes bytes_all links_bytes
      net_laid =
          let x = bytes_all (trees net.free) net.wires in
          let y = links_bytes net.links (free_wires net) in
          let o = sets out aux (numbers (tops (trees net.free) net.wires)) in
          let l : length x ≡ size_all (trees net.free) = all_size (trees net.free) net.wires in
          links_laid (written_all s 64 (at_free s at to aux) (byte s (at + 7)) out)
          ∙ ap (λ (z : List ℕ). sets z (to + size_all (trees net.free)) y) free_laid
          ∙ sets_then o to (to + size_all (trees net.free)) x y (omega arith)
          ∙ ap (sets o to) (sym (nodes_append (flats_all (trees net.free) net.wires) (links_flats net.links (free_wires net))))
