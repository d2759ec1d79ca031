-- The result's length on the words. Level Words.
use Rattle.std.specs.Prelude.{ℕ, zero, suc, ◌+◌, ◌-◌, ◌*◌, ◌%◌, Bool, true, false, List, ◌==◌, slice_index}
use Rattle.words.specs.Choose.{pick, if_eq}
use Rattle.fields.specs.Fields.{byte, be16}
use Rattle.stored.specs.Stored.{node_count_at, flat_net_end, net_count_at}
use Rattle.ends.specs.Ends.{within}
use Rattle.free_path.specs.FreePath.{free_number}
use Rattle.layout.specs.Layout.{next, nets, node_word}
use Rattle.node_names.specs.Names.{child_count}
use Rattle.tried.specs.Tries.{arity, name}
use Rattle.measure.specs.declared.Size.{Size}

-- so many nodes and bytes more
unfoldable pub plus : Size → ℕ → ℕ → Size
plus size nodes bytes = record { nodes = (size.nodes + nodes) % 18446744073709551616; bytes = (size.bytes + bytes) % 18446744073709551616 }

-- a node of this name with so many ports: its name, its principal wire, the number of aux wires, these
unfoldable pub node_size : List ℕ → ℕ → ℕ → ℕ
node_size file a k = 12 + 2 * child_count file a + 2 * k

-- with slot n: a node counts unless it is a free node
unfoldable pub with_slot : List ℕ → List ℕ → ℕ → Size → Size
with_slot ws file n size =
    if_eq (node_word ws n 0) 0 size (if_eq (name ws n) 0 size (plus size 1 (node_size file (name ws n) (arity ws n))))

-- with k slots from slot n on
unfoldable pub with_slots : List ℕ → List ℕ → ℕ → ℕ → Size → Size
with_slots ws file n zero size = size
with_slots ws file n (suc k) size = with_slots ws file (next n) k (with_slot ws file n size)

-- the slots that were ever used
unfoldable pub slots_size : List ℕ → List ℕ → Size
slots_size ws file = with_slots ws file 0 (slice_index ws 9) (record { nodes = 0; bytes = 0 })

-- with the net from a place up to an end: an included one without its nodes, another as it stands
unfoldable pub with_net : List ℕ → ℕ → ℕ → Size → Size
with_net file at end size =
    pick (byte file (at + 2) == 1) (plus size 0 (12 + 2 * byte file (at + 7)))
    (plus size (be16 file (node_count_at file at)) (end - at))

-- with k nets from a place on
unfoldable pub nets_size : List ℕ → ℕ → ℕ → Size → Size
nets_size file at zero size = size
nets_size file at (suc k) size =
    let end = within file (flat_net_end file at) in
    nets_size file end k (with_net file at end size)

-- "If any is included and the path is absent, `ivy:engine:free` joins the path table last"
unfoldable pub path_joins : List ℕ → List ℕ → Bool
path_joins ws file = if_eq (nets ws) 0 false (free_number file 11 (be16 file 9) == be16 file 9)

-- the free path takes sixteen bytes
unfoldable pub with_path : List ℕ → List ℕ → Size → Size
with_path ws file size = pick (path_joins ws file) (plus size 0 16) size

-- the whole result: tables, nets, and the free path where it joins
unfoldable pub measure : List ℕ → List ℕ → Size
measure ws file =
    let q = within file (net_count_at file) in
    let from = within file (q + 2) in
    with_path ws file (nets_size file from (be16 file q) (plus (slots_size ws file) 0 from))
