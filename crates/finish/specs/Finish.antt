-- The result written, on the words. Level Words. Document 01: "Included nets come out without pairs. Rules, marks and tables (the
-- added path apart) stay."
use Rattle.std.specs.Prelude.{ℕ, zero, suc, ◌+◌, ◌-◌, ◌*◌, ◌%◌, List, ◌∷◌}
use Rattle.words.specs.Choose.{pick, if_eq}
use Rattle.net_file.specs.Values.{free_path}
use Rattle.net_file.specs.Write.{be}
use Rattle.fields.specs.Fields.{byte, be16}
use Rattle.stored.specs.Stored.{flat_net_end, name_count_at, net_count_at}
use Rattle.ends.specs.Ends.{within}
use Rattle.store.specs.Store.{store, between}
use Rattle.layout.specs.Layout.{limit, net_by_name, net_word_words}
use Rattle.measure.specs.Measure.{path_joins}
use Rattle.write_nodes.specs.Wrote.{Wrote, Bytes}
use Rattle.write_nodes.specs.Nodes.{on, write_list}

-- ---- nets

-- nodes of net t: its list's length less the stale entries and the free node
unfoldable pub live_nodes_words : List ℕ → ℕ → ℕ
live_nodes_words ws t = net_word_words ws t 4 - net_word_words ws t 6 - 1

-- the counts of pairs and of nodes; the place after them: "Included nets come out without pairs"
unfoldable pub write_counts : List ℕ → ℕ → ℕ → Bytes ℕ
write_counts out at nodes = record { is = on at 4; out = store (on at 2) (be 2 (nodes % 65536)) (store at (be 2 0) out) }

-- what stands before the nodes of the net at a place of the file: its name and mark, the number of its free wires, the counts;
-- room is left for the wire counter and the free wires
unfoldable pub write_net_head : List ℕ → List ℕ → ℕ → ℕ → ℕ → Bytes ℕ
write_net_head file out from at nodes =
    let k = byte file (from + 7) in
    let named = store at (between file from (within file (from + 3))) out in
    write_counts (store (on at 7) (be 1 k) named) (on at (8 + 2 * k)) nodes

-- net t, at a place of the file: wires are numbered "from 0", and as many as were met are the counter
unfoldable pub write_included : List ℕ → List ℕ → List ℕ → ℕ → ℕ → ℕ → Wrote ℕ
write_included ws file out t from at =
    let head = write_net_head file out from at (live_nodes_words ws t) in
    let r = write_list ws file head.out (record { net = record { 0 = t }; free = on at 8 }) (record { at = head.is; wire = 0 }) in
    record { is = r.is.at; ws = r.ws; out = store (on at 3) (be 4 r.is.wire) r.out }

-- the net from a place of the file up to an end: "others pass unchanged"
unfoldable pub write_net : List ℕ → List ℕ → List ℕ → ℕ → ℕ → ℕ → Wrote ℕ
write_net ws file out from end at =
    let t = net_by_name ws (be16 file from) in
    if_eq t 0 (record { is = on at (end - from); ws = ws; out = store at (between file from end) out }) (write_included ws file out t from at)

-- k nets from a place of the file on
unfoldable pub write_nets : List ℕ → List ℕ → List ℕ → ℕ → ℕ → ℕ → Wrote ℕ
write_nets ws file out from zero at = record { is = at; ws = ws; out = out }
write_nets ws file out from (suc k) at =
    let end = within file (flat_net_end file from) in
    let r = write_net ws file out from end at in
    write_nets r.ws file r.out end k r.is

-- ---- the file

-- the length, the version, the limit left, the number of paths with those that joined
unfoldable pub write_head : List ℕ → List ℕ → List ℕ → ℕ → ℕ → List ℕ
write_head ws file out length joined =
    let sized = store 0 (be 4 ((length - 4) % 4294967296)) out in
    let flat = store 4 (be 1 1) sized in
    let limited = store 5 (be 4 (limit ws)) flat in
    store 9 (be 2 ((be16 file 9 + joined) % 65536)) limited

-- the free path, at a place: its length and its bytes
unfoldable pub write_path_words : List ℕ → ℕ → Bytes ℕ
write_path_words out at = record { is = on at 16; out = store at (15 ∷ free_path) out }

-- the file from its names on, at a place: tables as they stand, then the nets
unfoldable pub write_rest : List ℕ → List ℕ → List ℕ → ℕ → ℕ → Wrote ℕ
write_rest ws file out names at =
    let q = within file (net_count_at file) in
    let from = within file (q + 2) in
    write_nets ws file (store at (between file names from) out) from (be16 file q) (on at (from - names))

-- the whole result, of this length: "`ivy:engine:free` joins the path table last"
unfoldable pub write : List ℕ → List ℕ → List ℕ → ℕ → Wrote ℕ
write ws file out length =
    let names = within file (name_count_at file) in
    let paths = store 11 (between file 11 names) out in
    let added = write_path_words (write_head ws file paths length 1) names in
    pick (path_joins ws file) (write_rest ws file added.out names added.is)
    (write_rest ws file (write_head ws file paths length 0) names names)
