-- Which wires the tables speak of while a net is resolved: those of its links, and no others. So nothing is left in them once these
use Prim.Native.Nat.{ℕ, zero, suc, ◌+◌, ◌-◌, ◌<◌, ◌≤◌}
use Rattle.std.specs.Prelude.{◌≡◌, set, replicate}
use Rattle.std.proofs.Math.Path.{refl}
use Rattle.std.proofs.Common.{◌∙◌}
use mathlib.Core.List.{List}
use native.Mathlib.Omega.{arith}
use Rattle.std.proofs.Math.Decide.{ℕ_discrete, dec_lt}
use Rattle.std.proofs.Math.ListN.{length, get_or, length-replicate}
use Rattle.words.specs.Choose.{eq_yes, eq_split, lt_split}
use Rattle.net_file_laws.specs.Bytes.{Bytes}
use Rattle.fields.specs.Fields.{byte, be16}
use Rattle.ends.specs.Ends.{within}
use Rattle.scan_tree.specs.Count.{links_at}
use Rattle.wire_tables.specs.Tables.{hung, freed}
use Rattle.wire_tables_laws.specs.Table.{length_freed, zero_there, zero_stays, Empty}
use Rattle.wire_blocks.specs.Blocks.{row_mark, block_mark, marked}
use Rattle.wire_blocks.specs.Laws.{length_marked, row_set, block_set}
use Rattle.wire_blocks.specs.Laws
use Rattle.resolve_pass.specs.Pass.{wire_at, tree_end, over, hung_tree, hung_links, mark_wire, mark_tree, marked_links, free_tree, free_links}
use Rattle.resolve_walk.specs.Penned.{Stepped, Penned}
use Rattle.resolve_net.specs.Renamed.{marks_of, left_below}
use Rattle.resolve_net.specs.Net.{pass_links, prepare, resolved, net}
use Rattle.resolve_net.specs.Net
use Rattle.resolve_net_laws.specs.Only.{Only, Covers, only_empty, links_only, passed_only, renamed_only}
use Rattle.resolve_net_laws.specs.Touched.{Seen, OfLinks, of_left, of_right, of_later, covers_more, links_freed, Mine, seen}

-- ---- the wires of links

module _ (s : List ℕ) where
  module _ (bytes : Bytes s) where
    covered : (k at : ℕ) → Covers ((OfLinks s) at k) s bytes at k
    unfolding Covers
    covered zero at = tt
    covered (suc k) at = ((of_left s) at k, (of_right s) at k, (covers_more s bytes) _ _ (λ w. (of_later s) at k w) k _ (covered k (tree_end s (tree_end s at))))

-- ---- a net

module _ (s : List ℕ) (bytes : Bytes s) (at : ℕ) where
  pub prepared_only : (ws : List ℕ) → Empty ws → Only (Mine s bytes at) (prepare s ws at).ws
  unfolding prepare pass_links
  prepared_only ws e =
      let c = covered s bytes (be16 s (links_at s at)) (within s (links_at s at + 2)) in
      passed_only (Mine s bytes at) s bytes _ _ _ _ c (links_only (Mine s bytes at) s bytes _ _ _ c (only_empty (Mine s bytes at) ws e))

  pub none_unseen : (ws : List ℕ) (n v : ℕ) → n ≤ 65536 → Only (Mine s bytes at) ws → v < n → (Seen s ws (links_at s at) n v → ⊥) → hung ws v ≡ 0
  none_unseen ws n v few o h l = elim (ℕ_discrete (hung ws v) 0) [ yes z ↦ z | no d ↦ absurd (l ((seen s bytes at) ws n v few o h d)) ]

  -- nothing is left in the tables
  pub net_frees : (ws out : List ℕ) (to : ℕ) → Empty ws → Empty (net s ws out at to).ws
  unfolding net Net.freed resolved prepare pass_links
  net_frees ws out to e =
      let o = prepared_only ws e in
      links_freed s (be16 s (links_at s at)) (within s (links_at s at + 2)) _
      (eq_split _ _ _ _ (λ (x : Penned Stepped). Only (Mine s bytes at) x.ws) (λ z. o) (λ z. renamed_only (Mine s bytes at) s _ _ at _ _ _ to o))
