-- A net's nodes written, on the words. Level Words. Document 01: "Finishing walks each node list in order, each live number at
-- its first place only, and numbers wires at first meeting from 0."
use Rattle.std.specs.Prelude.{ℕ, zero, suc, ◌+◌, ◌-◌, ◌%◌, List}
use Rattle.words.specs.Choose.{if_eq, if_lt}
use Rattle.words.specs.Left.{Left}
use Rattle.net_file.specs.Write.{be}
use Rattle.stored.specs.Stored.{name_end}
use Rattle.ends.specs.Ends.{within}
use Rattle.store.specs.Store.{store, between}
use Rattle.layout.specs.Layout.{next, less, net_word_words, node_word, set_node_word, across, set_across, principal, entry_word}
use Rattle.tried.specs.Tries.{arity, name}
use Rattle.write_nodes.specs.Wrote.{Wrote, Bytes}
use Rattle.write_nodes.specs.declared.Pen.{Pen}
use Rattle.write_nodes.specs.declared.Page.{Page}

-- the place k bytes on
unfoldable pub on : ℕ → ℕ → ℕ
on at k = (at + k) % 18446744073709551616

-- ---- wires

-- what both ports of wire w hold once it is met
unfoldable pub numbered : ℕ → ℕ
numbered w = (2147483648 + w) % 4294967296

-- the number of port p's wire: w at first meeting
unfoldable pub wire_number_words : List ℕ → ℕ → ℕ → Left ℕ
wire_number_words ws p w =
    let q = across ws p in
    if_lt q 2147483648 (record { is = w; ws = set_across (set_across ws p (numbered w)) q (numbered w) })
    (record { is = q - 2147483648; ws = ws })

-- the number to give next, where w was that and a wire has this number
unfoldable pub after_wire : ℕ → ℕ → ℕ
after_wire w number = if_eq number w (next w) w

-- the wire of port p
unfoldable pub write_wire : List ℕ → List ℕ → ℕ → Pen → Wrote Pen
write_wire ws out p pen =
    let n = wire_number_words ws p pen.wire in
    record { is = record { at = on pen.at 2; wire = after_wire pen.wire n.is }; ws = n.ws; out = store pen.at (be 2 (n.is % 65536)) out }

-- the wires of k ports from p on
unfoldable pub write_wires : List ℕ → List ℕ → ℕ → ℕ → Pen → Wrote Pen
write_wires ws out p zero pen = record { is = pen; ws = ws; out = out }
write_wires ws out p (suc k) pen =
    let r = write_wire ws out p pen in
    write_wires r.ws r.out (next p) k r.is

-- ---- nodes

-- aux ports of node n
unfoldable pub aux_ports : List ℕ → ℕ → ℕ
aux_ports ws n = less (arity ws n)

-- free ports of a net, of its free node n: "2 more ports than its free ports"
unfoldable pub free_ports : List ℕ → ℕ → ℕ
free_ports ws n = less (aux_ports ws n)

-- the free node's wires, at a place; its own wire, "ports 0 and 1 wired together", has a number and no place in a file
unfoldable pub write_free : List ℕ → List ℕ → ℕ → ℕ → Pen → Wrote Pen
write_free ws out n at pen =
    let p = principal n in
    let own = wire_number_words ws p pen.wire in
    let r = write_wires own.ws out (next (next p)) (free_ports ws n) (record { at = at; wire = after_wire pen.wire own.is }) in
    record { is = record { at = pen.at; wire = r.is.wire }; ws = r.ws; out = r.out }

-- the name at a place of the file; the place after it
unfoldable pub write_name_words : List ℕ → List ℕ → ℕ → ℕ → Bytes ℕ
write_name_words file out from at =
    let end = within file (name_end file from) in
    record { is = on at (end - from); out = store at (between file from end) out }

-- a node's principal wire, the number of its aux wires, these
unfoldable pub write_ports : List ℕ → List ℕ → ℕ → Pen → Wrote Pen
write_ports ws out n pen =
    let p = principal n in
    let k = aux_ports ws n in
    let first = write_wire ws out p pen in
    write_wires first.ws (store first.is.at (be 1 (k % 256)) first.out) (next p) k
    (record { at = on first.is.at 1; wire = first.is.wire })

-- node n: its name, its wires
unfoldable pub write_node_words : List ℕ → List ℕ → List ℕ → ℕ → Pen → Wrote Pen
write_node_words ws file out n pen =
    let named = write_name_words file out (name ws n) pen.at in
    write_ports ws named.out n (record { at = named.is; wire = pen.wire })

-- ---- lists

-- a live node at its first place: its slot is of no net from then on, so no later entry finds it
unfoldable pub write_live : List ℕ → List ℕ → List ℕ → Page → ℕ → Pen → Wrote Pen
write_live ws file out page n pen =
    let w = set_node_word ws n 0 0 in
    if_eq n (net_word_words w page.net.0 1) (write_free w out n page.free pen) (write_node_words w file out n pen)

-- an entry of a list: "a number is live while its slot holds a node of that net"
unfoldable pub write_entry : List ℕ → List ℕ → List ℕ → Page → ℕ → Pen → Wrote Pen
write_entry ws file out page n pen =
    if_eq (node_word ws n 0) page.net.0 (write_live ws file out page n pen) (record { is = pen; ws = ws; out = out })

-- k entries from entry c on
unfoldable pub write_entries : List ℕ → List ℕ → List ℕ → Page → ℕ → ℕ → Pen → Wrote Pen
write_entries ws file out page c zero pen = record { is = pen; ws = ws; out = out }
write_entries ws file out page c (suc k) pen =
    let r = write_entry ws file out page (entry_word ws c 0) pen in
    write_entries r.ws file r.out page (entry_word r.ws c 1) k r.is

-- a net's list, in order
unfoldable pub write_list : List ℕ → List ℕ → List ℕ → Page → Pen → Wrote Pen
write_list ws file out page pen =
    let t = page.net.0 in
    write_entries ws file out page (net_word_words ws t 2) (net_word_words ws t 4) pen
