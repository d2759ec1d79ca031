-- A tree net lies at a place of a file, with its link count at p: what the resolution meets there. And its bytes, as they are put
-- together again.
use Rattle.std.specs.Prelude.{ℕ, suc, ◌+◌, ◌-◌, ◌<◌, ◌≤◌, ◌≡◌, refl, Bool, List, [], ◌∷◌, ◌++◌, length}
use Rattle.std.proofs.Common.{sym, ap, ◌∙◌, append_assoc, arith, length-append}
use Rattle.net_file.specs.Lists.{concat_map}
use Rattle.net_file.specs.Values.{Tree, Trees, listed, trees, TreeNet}
use Rattle.net_file.specs.Write.{be, counted, write_head, write_tree, write_trees, write_link, write_tree_net}
use Rattle.net_file_laws.specs.Trees.{listed_trees, trees_written}
use Rattle.conversions.specs.Resolve.{with_trees}
use Rattle.fields.specs.Fields.{byte, be16}
use Rattle.ends.specs.Ends.{within}
use Rattle.scan_tree.specs.Count.{links_at}
use Rattle.resolve_net.specs.Net.{wires_at}
use Rattle.spelt_trees.specs.Lies.{LieAll}
use Rattle.resolve_pass_laws.specs.Room.{LinksLie}
use Rattle.resolve_net_laws.specs.Copied.{Holds}

-- what stands before a net's free trees: its head, and how many there are
abbrev pub front : TreeNet → List ℕ
front m = write_head m.name m.included m.wires ++ be 1 (length m.free)

-- and before its link count
abbrev pub upto : TreeNet → List ℕ
upto m = front m ++ concat_map write_tree m.free

pub record NetLies (s : List ℕ) (m : TreeNet) (at p : ℕ) : Type 0 where
  pub wires : wires_at s at ≡ m.wires
  pub few : m.wires ≤ 65536
  pub count : byte s (within s (at + 7)) ≡ length m.free
  pub begins : Holds s at (front m)
  pub eight : length (front m) ≡ 8
  pub frees : LieAll s m.wires (trees m.free) (at + 8)
  pub holds : Holds s at (upto m)
  pub place : links_at s at ≡ p
  pub long : p ≡ at + length (upto m)
  pub links : be16 s p ≡ length m.links
  pub few_links : length m.links ≤ 65535
  pub lies : LinksLie s m.wires m.links (p + 2)
  pub room : p + 2 ≤ length s

-- the bytes of a net with these free trees and links
pub net_bytes : (m : TreeNet) (free : List Tree) (ls : List (Tree × Tree)) → length free ≡ length m.free
    → front m ++ (concat_map write_tree free ++ (be 2 (length ls) ++ concat_map write_link ls)) ≡ write_tree_net (with_trees m free ls)
unfolding write_tree_net with_trees counted
net_bytes m free ls e =
    let h = write_head m.name m.included m.wires in
    let c = be 1 (length m.free) in
    let y = be 2 (length ls) ++ concat_map write_link ls in
    let fs = concat_map write_tree free in
    rw e (sym (append_assoc (h ++ c) fs y) ∙ ap (λ zs. zs ++ y) (append_assoc h c fs))
