-- A flat file with its links resolved, by what stands in the file and in the scratch.
use Prim.Native.Nat.{ℕ, zero, suc, ◌+◌, ◌≤◌, ◌<◌}
use Rattle.std.specs.Prelude.{◌≡◌, set}
use Rattle.std.proofs.Math.Path.{refl, ap}
use Rattle.std.proofs.Common.{◌∙◌, arith}
use mathlib.Core.List.{List, [], ◌∷◌, ◌++◌}
use Rattle.net_file_laws.specs.Bytes.{Bytes}
use Rattle.net_file_laws.specs.Exact.{Each}
use Rattle.fields.specs.Fields.{byte, be16}
use Rattle.stored.specs.Stored.{table_at, numbers_at, list_at, name_end, node_at, node_end, pair_at, pairs_at, pair_count_at}
use Rattle.ends.specs.Ends.{within}
use Rattle.clear.specs.Zeroed.{zeroed}
use Rattle.text_writers.specs.Wrote.{Wrote, wrote_as}
use Rattle.wire_marks.specs.Marks.{mark, marked}
use Rattle.wire_marks.specs.Along.{along}
use Rattle.wire_places.specs.Places.{seen, node_wires, nodes_wires, places_part}
use Rattle.pair_writers.specs.Pairs.{net_part}
use Rattle.convert_frame.specs.Nets.{zeroed_set}
use Rattle.flat_frame.specs.Nets.{Kind, parts_of, words_of, whole_of, left_of, result_of}

module _ (s : List ℕ) where
  -- the scratch with the pairs and the places of the net at a place marked
  unfoldable pub mark_net : List ℕ → ℕ → ℕ → List ℕ
  mark_net ws stamp at = let p = within s (pair_count_at s at) in seen stamp (places_part s at) (marked stamp (pairs_at s (p + 2) (be16 s p)) ws)

  -- ---- a net

  module _ (ws u w : List ℕ) (stamp from p : ℕ) where
    pub net_marked : p ≡ within s (pair_count_at s from) → u ≡ marked stamp (pairs_at s (p + 2) (be16 s p)) ws → w ≡ seen stamp (places_part s from) u → w ≡ mark_net ws stamp from
    unfolding mark_net
    net_marked e h g = g ∙ rw (h, e)

    pub net_written : (at r : ℕ) (out z : List ℕ) → p ≡ within s (pair_count_at s from) → u ≡ marked stamp (pairs_at s (p + 2) (be16 s p)) ws → w ≡ seen stamp (places_part s from) u
        → Wrote (net_part w stamp s from) at out z r → Wrote (net_part (mark_net ws stamp from) stamp s from) at out z r
    net_written at r out z e h g t = wrote_as (ap (λ v. net_part v stamp s from) (net_marked e h g)) t

  -- marks stay in the table
  module _ (b : Bytes s) where
    wire_low : (at : ℕ) → be16 s at < 65536
    wire_low at = omega (arith, b at, b (at + 1))

    zeroed_marked : (m : ℕ) → 131072 ≤ m → (stamp at k : ℕ) (ws : List ℕ) → zeroed m (marked stamp (pairs_at s at k) ws) ≡ zeroed m ws
    unfolding marked pairs_at pair_at table_at
    zeroed_marked m wide stamp at zero ws = refl
    zeroed_marked m wide stamp at (suc k) ws =
        let v = mark stamp (be16 s at) in
        zeroed_marked m wide stamp (at + 4) k (set ws (be16 s (at + 2)) v) ∙ zeroed_set m ws (be16 s (at + 2)) v (omega (arith, wire_low (at + 2)))

    -- the wires of a list, of nodes, of a net
    low_numbers : (at k : ℕ) → Each (λ w. w < 65536) (numbers_at s at k)
    unfolding numbers_at table_at
    low_numbers at zero = tt
    low_numbers at (suc k) = (wire_low at, low_numbers (at + 2) k)

    low_list : (at : ℕ) → Each (λ w. w < 65536) (list_at s at)
    unfolding list_at
    low_list at = low_numbers (at + 1) (byte s at)

    low_append : (l m : List ℕ) → Each (λ w. w < 65536) l → Each (λ w. w < 65536) m → Each (λ w. w < 65536) (l ++ m)
    low_append [] m h g = g
    low_append (w ∷ l) m h g = (h.0, low_append l m h.1 g)

    low_node : (at : ℕ) → Each (λ w. w < 65536) (node_wires (node_at s at))
    unfolding node_wires node_at
    low_node at = (wire_low (name_end s at), low_list (name_end s at + 2))

    low_nodes : (at k : ℕ) → Each (λ w. w < 65536) (along s (λ a. node_wires (node_at s a)) (node_end s) at k)
    unfolding along
    low_nodes at zero = tt
    low_nodes at (suc k) = low_append (node_wires (node_at s at)) _ (low_node at) (low_nodes (within s (node_end s at)) k)

    low_places : (at : ℕ) → Each (λ w. w < 65536) (places_part s at)
    unfolding places_part nodes_wires
    low_places at = low_append (list_at s (at + 7)) _ (low_list (at + 7)) (low_nodes _ _)

    zeroed_seen : (m : ℕ) → 131072 ≤ m → (stamp : ℕ) (l : List ℕ) → Each (λ w. w < 65536) l → (ws : List ℕ) → zeroed m (seen stamp l ws) ≡ zeroed m ws
    unfolding seen
    zeroed_seen m wide stamp [] h ws = refl
    zeroed_seen m wide stamp (w ∷ l) h ws = zeroed_seen m wide stamp l h.1 (set ws (65536 + w) stamp) ∙ zeroed_set m ws (65536 + w) stamp (omega (arith, h.0))

    pub mark_kept : (m : ℕ) → 131072 ≤ m → (ws : List ℕ) (stamp at : ℕ) → zeroed m (mark_net ws stamp at) ≡ zeroed m ws
    unfolding mark_net
    mark_kept m wide ws stamp at = zeroed_seen m wide stamp (places_part s at) (low_places at) _ ∙ zeroed_marked m wide stamp _ _ ws

-- what the call marks and writes of a net; a table of 131,072 words
abbrev pub flat_kind : Kind 131072
flat_kind = record { mark = mark_net; part = λ s ws stamp at. net_part ws stamp s at; room = omega arith; kept = mark_kept }

-- what is written of k nets from a place on, and the scratch after them
abbrev pub flat_nets : List ℕ → List ℕ → ℕ → ℕ → ℕ → List ℕ
flat_nets = parts_of flat_kind

abbrev pub flat_words : List ℕ → List ℕ → ℕ → ℕ → ℕ → List ℕ
flat_words = words_of flat_kind

-- a whole result with this length in its length field, and the scratch after it
abbrev pub flat_whole : List ℕ → List ℕ → ℕ → List ℕ
flat_whole = whole_of flat_kind 1

abbrev pub flat_left : List ℕ → List ℕ → List ℕ
flat_left = left_of flat_kind

-- the result: its own length is in its length field
abbrev pub flat_result : List ℕ → List ℕ → List ℕ
flat_result = result_of flat_kind 1
