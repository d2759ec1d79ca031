-- A tree net that fits and is spelt at a place lies there: `spelt-net`. Last: it is written as `resolveTree` of it says (`net-is`).
use Rattle.std.specs.Prelude.{ℕ, zero, suc, ◌+◌, ◌-◌, ◌<◌, ◌≤◌, ◌≡◌, refl, Bool, true, false, take, drop}
use Rattle.std.proofs.Math.Path.{sym, ap}
use Rattle.std.proofs.Common.{subst, ◌∙◌}
use mathlib.Core.List.{List, [], ◌∷◌, ◌++◌, append_assoc}
use native.Mathlib.Omega.{arith}
use Rattle.std.proofs.Math.ListN.{length, length-append}
use Rattle.std.proofs.Math.Seq.{take-append_seam}
use Rattle.net_file.specs.Lists.{bit, concat_map}
use Rattle.net_file.specs.Values.{Tree, wire, node, Trees, more, listed, trees, TreeNet}
use Rattle.net_file.specs.Values
use Rattle.net_file.specs.Write.{be, counted, write_head, write_tree, write_trees, write_link, write_tree_net}
use Rattle.net_file_laws.specs.Bytes.{Bytes, length_be}
use Rattle.wire_tables_laws.specs.Table.{Empty}
use Rattle.net_file_laws.specs.Exact.{Each, exact_number}
use Rattle.net_file_laws.specs.Trees.{listed_trees, trees_written, TreeFits, LinkFits, TreeNetFits}
use Rattle.net_file_laws.specs.Depth.{depth, deepest, InRange, InRanges, fits_depth}
use Rattle.conversions.specs.Resolve.{deeper, deeper_any, resolve_tree}
use Rattle.fields.specs.Fields.{byte, be16, be32}
use Rattle.stored.specs.Laws.{stands_1, stands_2, stands_4}
use Rattle.ends.specs.Ends.{within}
use Rattle.scan_tree.specs.Count.{links_at}
use Rattle.scan_tree_laws.specs.Scanned.{scanned_end}
use Rattle.store.specs.Store.{store}
use Rattle.resolve_net.specs.Net.{wires_at, net}
use Rattle.resolve_laws.specs.Resolve.{Shallow, Links, Frees, passed, walked}
use Rattle.resolve_laws.proofs.Resolve.{resolve_is}
use Rattle.spelt_trees.specs.Spelt.{Spelt, spelt_room, spelt_next, spelt_is}
use Rattle.spelt_trees.specs.Lies.{Lies, LieAll, spelt_lies, spelt_lie_all}
use Rattle.spelt_trees.specs.Scanned.{all_scanned}
use Rattle.resolve_walk_laws.specs.Places.{most}
use Rattle.resolve_pass_laws.specs.Room.{LinksLie}
use Rattle.resolve_net_laws.specs.Copied.{Holds}
use Rattle.resolve_pass_laws.specs.Linking.{links_long}
use Rattle.resolve_net_laws.specs.Lies.{front, upto, NetLies}
use Rattle.resolve_net_laws.specs.Net.{end, NetOut, left_nodes}
use Rattle.resolve_net_laws.proofs.Net.{net_resolves}
use Rattle.resolve_net_laws.specs.Spelt.{frees_shallow, links_fit, lies}

module _ (s : List ℕ) (paths names : ℕ) (hp : paths ≤ 65536) (hn : names ≤ 65536) (m : TreeNet) (fits : TreeNetFits paths names m) (at : ℕ) (r : List ℕ)
    (spelt : Spelt s at (write_tree_net m) r) (small : length s ≤ 4294967299) (ws : List ℕ) (room : 262144 ≤ length ws) (b : Bytes s) (empty : Empty ws) where
  pub net_is : (out : List ℕ) (to : ℕ) (low : to ≤ most) → NetOut s m at (at + length (upto m)) (lies s paths names hp hn m fits at r spelt small ws room b empty) small ws room b empty out to low (resolve_tree m) (net s ws out at to)
  net_is out to low =
      rw (resolve_is m (frees_shallow paths names m.wires m.free fits.free) (links_fit paths names m.wires m.links fits.links) (left_nodes s m at (at + length (upto m)) (lies s paths names hp hn m fits at r spelt small ws room b empty) small ws room b empty))
      (net_resolves s m at (at + length (upto m)) (lies s paths names hp hn m fits at r spelt small ws room b empty) small ws room b empty out to low)
