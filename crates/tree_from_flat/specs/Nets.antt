-- A tree file from a flat one, by what stands in the file and in the scratch.
use Prim.Native.Nat.{ℕ, zero, suc, ◌+◌, ◌≤◌, ◌<◌}
use Rattle.std.specs.Prelude.{◌≡◌, List, set}
use Rattle.std.proofs.Math.Path.{refl, ap}
use Rattle.std.proofs.Common.{◌∙◌, arith}
use Rattle.net_file_laws.specs.Bytes.{Bytes}
use Rattle.fields.specs.Fields.{be16}
use Rattle.stored.specs.Stored.{table_at, pair_at, pairs_at, pair_count_at}
use Rattle.ends.specs.Ends.{within}
use Rattle.clear.specs.Zeroed.{zeroed}
use Rattle.text_writers.specs.Wrote.{Wrote, wrote_as}
use Rattle.wire_marks.specs.Marks.{mark, marked}
use Rattle.tree_writers.specs.Trees.{net_part}
use Rattle.convert_frame.specs.Nets.{zeroed_set}
use Rattle.flat_frame.specs.Nets.{Kind, parts_of, words_of, whole_of, left_of, result_of}

module _ (s : List ℕ) where
  -- the scratch with the pairs of the net at a place marked
  unfoldable pub mark_net : List ℕ → ℕ → ℕ → List ℕ
  mark_net ws stamp at = let p = within s (pair_count_at s at) in marked stamp (pairs_at s (p + 2) (be16 s p)) ws

  -- ---- a net

  module _ (ws w : List ℕ) (stamp from p : ℕ) where
    pub net_marked : p ≡ within s (pair_count_at s from) → w ≡ marked stamp (pairs_at s (p + 2) (be16 s p)) ws → w ≡ mark_net ws stamp from
    unfolding mark_net
    net_marked e h = h ∙ rw e

    pub net_written : (at r : ℕ) (out z : List ℕ) → p ≡ within s (pair_count_at s from) → w ≡ marked stamp (pairs_at s (p + 2) (be16 s p)) ws
        → Wrote (net_part w stamp s from) at out z r → Wrote (net_part (mark_net ws stamp from) stamp s from) at out z r
    net_written at r out z e h t = wrote_as (ap (λ u. net_part u stamp s from) (net_marked e h)) t

  -- marks stay in the table
  module _ (b : Bytes s) where
    wire_low : (at : ℕ) → be16 s at < 65536
    wire_low at = omega (arith, b at, b (at + 1))

    zeroed_marked : (m : ℕ) → 65536 ≤ m → (stamp at k : ℕ) (ws : List ℕ) → zeroed m (marked stamp (pairs_at s at k) ws) ≡ zeroed m ws
    unfolding marked pairs_at pair_at table_at
    zeroed_marked m wide stamp at zero ws = refl
    zeroed_marked m wide stamp at (suc k) ws =
        let v = mark stamp (be16 s at) in
        zeroed_marked m wide stamp (at + 4) k (set ws (be16 s (at + 2)) v) ∙ zeroed_set m ws (be16 s (at + 2)) v (omega (arith, wire_low (at + 2)))

    pub mark_kept : (m : ℕ) → 65536 ≤ m → (ws : List ℕ) (stamp at : ℕ) → zeroed m (mark_net ws stamp at) ≡ zeroed m ws
    unfolding mark_net
    mark_kept m wide ws stamp at = zeroed_marked m wide stamp _ _ ws

-- what the call marks and writes of a net; a table of 65,536 words
abbrev pub tree_kind : Kind 65536
tree_kind = record { mark = mark_net; part = λ s ws stamp at. net_part ws stamp s at; room = omega arith; kept = mark_kept }

-- what is written of k nets from a place on, and the scratch after them
abbrev pub tree_nets : List ℕ → List ℕ → ℕ → ℕ → ℕ → List ℕ
tree_nets = parts_of tree_kind

abbrev pub tree_words : List ℕ → List ℕ → ℕ → ℕ → ℕ → List ℕ
tree_words = words_of tree_kind

-- a whole result with this length in its length field, and the scratch after it
abbrev pub tree_whole : List ℕ → List ℕ → ℕ → List ℕ
tree_whole = whole_of tree_kind 65

abbrev pub tree_left : List ℕ → List ℕ → List ℕ
tree_left = left_of tree_kind

-- the result: its own length is in its length field
abbrev pub tree_result : List ℕ → List ℕ → List ℕ
tree_result = result_of tree_kind 65
