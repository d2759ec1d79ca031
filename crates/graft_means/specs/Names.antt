-- The copies of a graft leave the nets' names alone.
use Rattle.std.specs.Prelude.{ℕ, zero, suc, ◌≤◌, List}
use Rattle.std.proofs.Common.{arith}
use Rattle.words.specs.Choose.{lt_split}
use Rattle.words.specs.Left.{Left}
use Rattle.layout.specs.Layout.{next, node_at, entry_word, net_word_words, across, set_across, principal, set_node_word}
use Rattle.edits.specs.declared.Placed.{Placed}
use Rattle.edits.specs.declared.Placed.TheVariants.{At, Refused}
use Rattle.edits.specs.Edits.{on_placed, place_node}
use Rattle.tried.specs.Tries.{arity, name}
use Rattle.graft.specs.Graft.{copy_node, copy_entries, copy_nodes, copy_of, copied_port, wire_ports, wire_copy, wire_entries, wire_copies}
use Rattle.means.specs.Frame.{rest_trans}
use Rattle.names_means.specs.Kept.{Kept, kept_all, past, place_node_names, across_names}

copy_node_names : (ws : List ℕ) (t n : ℕ) → 1 ≤ t → Kept ws (copy_node ws t n).ws
unfolding copy_node on_placed
copy_node_names ws t n b = rest_trans (place_node_names ws t (name ws n) (arity ws n) b) (go (place_node ws t (name ws n) (arity ws n)).is)
  where
    w : List ℕ
    w = (place_node ws t (name ws n) (arity ws n)).ws

    go : (p : Placed) → Kept w (on_placed {A = Left ℕ} p (λ m. record { is = 0; ws = set_node_word w n 5 m }) (λ r. record { is = r; ws = w })).ws
    go (At m) = past w (node_at n 5) m.0 (omega arith)
    go (Refused r) = kept_all w

copy_entries_names : (k : ℕ) (ws : List ℕ) (t c : ℕ) → 1 ≤ t → Kept ws (copy_entries ws t c k).ws
unfolding copy_entries
copy_entries_names zero ws t c b = kept_all ws
copy_entries_names (suc k) ws t c b =
    let a = copy_node ws t (entry_word ws c 0) in
    let rest = copy_entries a.ws t (entry_word a.ws c 1) k in
    let first : Kept ws a.ws = copy_node_names ws t (entry_word ws c 0) b in
    lt_split 0 a.is a rest (λ (l : Left ℕ). Kept ws l.ws) (λ h. first) (λ h. rest_trans first (copy_entries_names k a.ws t (entry_word a.ws c 1) b))

pub copy_nodes_names : (ws : List ℕ) (m t : ℕ) → 1 ≤ t → Kept ws (copy_nodes ws m t).ws
unfolding copy_nodes
copy_nodes_names ws m t b = copy_entries_names (net_word_words ws m 4) ws t (net_word_words ws m 2) b

wire_ports_names : (k : ℕ) (ws : List ℕ) (x y : ℕ) → Kept ws (wire_ports ws x y k)
unfolding wire_ports
wire_ports_names zero ws x y = kept_all ws
wire_ports_names (suc k) ws x y =
    let w = set_across ws y (copied_port ws (across ws x)) in
    rest_trans (across_names ws y (copied_port ws (across ws x))) (wire_ports_names k w (next x) (next y))

wire_copy_names : (ws : List ℕ) (n : ℕ) → Kept ws (wire_copy ws n)
unfolding wire_copy
wire_copy_names ws n = wire_ports_names (arity ws n) ws (principal n) (principal (copy_of ws n))

wire_entries_names : (k : ℕ) (ws : List ℕ) (c : ℕ) → Kept ws (wire_entries ws c k)
unfolding wire_entries
wire_entries_names zero ws c = kept_all ws
wire_entries_names (suc k) ws c =
    let w = wire_copy ws (entry_word ws c 0) in
    rest_trans (wire_copy_names ws (entry_word ws c 0)) (wire_entries_names k w (entry_word w c 1))

pub wire_copies_names : (ws : List ℕ) (m : ℕ) → Kept ws (wire_copies ws m)
unfolding wire_copies
wire_copies_names ws m = wire_entries_names (net_word_words ws m 4) ws (net_word_words ws m 2)
