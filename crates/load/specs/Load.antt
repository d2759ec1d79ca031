-- Included nets come into the engine, on the words: engine.rs, `add_flat_nets`, `add_flat_net`. Level Words.
use Rattle.std.specs.Prelude.{ℕ, zero, suc, ◌+◌, ◌%◌, List, set, replicate, eqb}
use Rattle.words.specs.Choose.{pick, if_lt}
use Rattle.words.specs.Left.{Left}
use Rattle.fields.specs.Fields.{byte, be16, be32}
use Rattle.stored.specs.Stored.{name_end, node_end, pair_count_at, node_count_at, flat_net_end, net_count_at}
use Rattle.ends.specs.Ends.{within, on}
use Rattle.layout.specs.Layout.{next, nets, set_net_word, principal}
use Rattle.graph.specs.Graph.{link}
use Rattle.edits.specs.Edits.{on_placed, insert_node}
use Rattle.wire_ends.specs.WireEnds.{Joined, join_wire, join_wires, put_pairs}
use Rattle.load.specs.Added.{Added, unrefused, without}

-- node n's k + 1 wires, which stand from a place on: the principal one, a count, the others
unfoldable pub join_node : List ℕ → List ℕ → List ℕ → ℕ → ℕ → ℕ → Joined
join_node ws wires file at n k =
    let p = principal n in
    let j = join_wire ws wires (be16 file at) p in
    join_wires j.ws j.wires file (on file at 3) (next p) k

-- the node at a place, whose name is known by this place: 0, or the number by which it is refused
unfoldable pub add_node : List ℕ → List ℕ → List ℕ → ℕ → ℕ → Added
add_node ws wires file t at =
    let e = within file (name_end file at) in
    let k = byte file (e + 2) in
    let p = insert_node ws t (at % 4294967296) (1 + k) in
    on_placed p.is (λ n. unrefused (join_node p.ws wires file e n k)) (λ r. record { is = r; ws = p.ws; wires = wires })

-- k nodes from a place on, up to one that is refused
unfoldable pub add_nodes : List ℕ → List ℕ → List ℕ → ℕ → ℕ → ℕ → Added
add_nodes ws wires file t at zero = record { is = 0; ws = ws; wires = wires }
add_nodes ws wires file t at (suc k) =
    let a = add_node ws wires file t at in
    let rest = add_nodes a.ws a.wires file t (within file (node_end file at)) k in
    if_lt 0 a.is a rest

-- the free node n of net t: its principal port with port 1, the k free wires from port 2 on
unfoldable pub join_free : List ℕ → List ℕ → List ℕ → ℕ → ℕ → ℕ → ℕ → Joined
join_free ws wires file t at n k =
    let p = principal n in
    let q = next p in
    join_wires (link (set_net_word ws t 1 n) p q) wires file (on file at 8) (next q) k

-- net t's free node, which has no name
unfoldable pub add_free : List ℕ → List ℕ → List ℕ → ℕ → ℕ → Added
add_free ws wires file t at =
    let k = byte file (at + 7) in
    let p = insert_node ws t 0 (2 + k) in
    on_placed p.is (λ n. unrefused (join_free p.ws wires file t at n k)) (λ r. record { is = r; ws = p.ws; wires = wires })

-- the free node, then the nodes
unfoldable pub add_all : List ℕ → List ℕ → List ℕ → ℕ → ℕ → Added
add_all ws wires file t at =
    let a = add_free ws wires file t at in
    let q = within file (node_count_at file at) in
    if_lt 0 a.is a (add_nodes a.ws a.wires file t (on file q 2) (be16 file q))

-- the same by a table that is clear: first the pairs are put there
unfoldable pub add_wired : List ℕ → List ℕ → List ℕ → ℕ → ℕ → Added
add_wired ws wires file t at =
    let p = within file (pair_count_at file at) in
    add_all ws (put_pairs wires file (on file p 2) (be16 file p)) file t at

-- by a table for m wires
unfoldable pub add_sized : ℕ → List ℕ → List ℕ → ℕ → ℕ → Left ℕ
add_sized m ws file t at = without (add_wired ws (replicate m 0) file t at)

-- one net more, with the name that stands at a place
unfoldable pub new_net_words : List ℕ → List ℕ → ℕ → List ℕ
new_net_words ws file at =
    let t = next (nets ws) in
    set_net_word (set (set ws 7 t) (64 + be16 file at) t) t 0 (be16 file at)

-- the net at a place
unfoldable pub add_flat_net_words : List ℕ → List ℕ → ℕ → Left ℕ
add_flat_net_words ws file at =
    let t = next (nets ws) in
    let w = new_net_words ws file at in
    if_lt 1024 (be32 file (at + 3)) (add_sized 65536 w file t at) (add_sized 1024 w file t at)

-- a net that is not included stays out: `filter`
unfoldable pub add_if_included : List ℕ → List ℕ → ℕ → Left ℕ
add_if_included ws file at = pick (eqb (byte file (at + 2)) 1) (add_flat_net_words ws file at) (record { is = 0; ws = ws })

-- k nets from a place on, up to one that is refused
unfoldable pub add_flat_nets : List ℕ → List ℕ → ℕ → ℕ → Left ℕ
add_flat_nets ws file at zero = record { is = 0; ws = ws }
add_flat_nets ws file at (suc k) =
    let a = add_if_included ws file at in
    let rest = add_flat_nets a.ws file (within file (flat_net_end file at)) k in
    if_lt 0 a.is a rest

-- the included nets of a file, in its order
unfoldable pub load : List ℕ → List ℕ → Left ℕ
load ws file =
    let q = within file (net_count_at file) in
    add_flat_nets ws file (on file q 2) (be16 file q)
