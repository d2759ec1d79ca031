-- Tree nets of a file as flat nets: each measured, then written. Level Words: the numbers, the table of links and the output.
use Rattle.std.specs.Prelude.{ℕ, zero, suc, ◌+◌, ◌*◌, ◌/◌, ◌%◌, List, [], ◌∷◌, ◌++◌, set, eqb}
use Rattle.std.proofs.lemmas.List.Edits.{sets}
use Rattle.words.specs.Choose.{if_lt}
use Rattle.net_file.specs.Write.{be, write_head}
use Rattle.fields.specs.Fields.{byte, be16}
use Rattle.wire_links.specs.Table.{on, extent, looks_below, pair_count, pairs_end, pairs_out}
use Rattle.embed_nets.specs.Nets.{net_walked, net_hung, net_written}
use Rattle.flat_nets.specs.declared.Measured.{Measured}
use Rattle.flat_nets.specs.declared.Total.{Total}
use Rattle.flat_nets.specs.declared.Spot.{Spot}

-- n words from a place on made 0
unfoldable pub zero_from : ℕ → ℕ → List ℕ → List ℕ
zero_from i zero ws = ws
zero_from i (suc n) ws = zero_from (suc i) n (set ws i 0)

-- the words of some wires made 0
unfoldable pub empty_over : List ℕ → List ℕ → List ℕ
empty_over [] ws = ws
empty_over (w ∷ l) ws = empty_over l (set ws w 0)

-- the table without links again: the wires that are looked at, the word behind it and the marks that far
unfoldable pub emptied : List ℕ → List ℕ
emptied ws =
    let e = extent ws 65536 in
    zero_from 65601 ((e + 31) / 32) (zero_from 65536 (1 + (e + 1023) / 1024) (empty_over (looks_below ws 65536) ws))

module _ (s : List ℕ) where
  -- the table with the links of the net at a place
  unfoldable pub linked : List ℕ → ℕ → List ℕ
  linked ws at = net_hung s ws at 0 0

  -- what that net takes as a flat one
  unfoldable pub measured : List ℕ → ℕ → Measured
  measured ws at =
      let g = net_walked s at 0 0 in
      record { end = g.at; wires = g.wires; nodes = g.nodes; pairs = pair_count (linked ws at) g.wires; bytes = g.to }

  -- and how many bytes: 12 for its head, its counts and its marks, 2 for a free wire, 4 for a pair, and its nodes
  unfoldable pub size : ℕ → Measured → ℕ
  size at m = on m.bytes (12 + 2 * byte s (at + 7) + 4 * m.pairs)

  -- one net more
  unfoldable pub summed : List ℕ → Total → Total
  summed ws t =
      let m = measured ws t.at in
      let to = on t.to (size t.at m) in
      if_lt t.wires m.wires (record { at = m.end; wires = m.wires; to = to }) (record { at = m.end; wires = t.wires; to = to })

  -- and the table without its links again
  unfoldable pub passed : List ℕ → ℕ → List ℕ
  passed ws at = emptied (linked ws at)

  -- n nets
  unfoldable pub summed_all : List ℕ → Total → ℕ → Total
  summed_all ws t zero = t
  summed_all ws t (suc n) = summed_all (passed ws t.at) (summed ws t) n

  unfoldable pub passed_all : List ℕ → Total → ℕ → List ℕ
  passed_all ws t zero = ws
  passed_all ws t (suc n) = passed_all (passed ws t.at) (summed ws t) n

  -- name, included mark, wire counter, how many free wires
  unfoldable pub head_of : ℕ → ℕ → List ℕ
  head_of at wires = write_head (be16 s at) (eqb (byte s (at + 2)) 1) wires ++ be 1 (byte s (at + 7))

  unfoldable pub head_written : ℕ → ℕ → ℕ → List ℕ → List ℕ
  head_written at to wires out = sets out to (head_of at wires)

  -- the place of the pairs' count, of the nodes' count, and of the nodes
  unfoldable pub pairs_count_at : ℕ → ℕ → ℕ
  pairs_count_at at to = on (on to 8) (2 * byte s (at + 7))

  unfoldable pub nodes_count_at : List ℕ → ℕ → ℕ → Measured → ℕ
  nodes_count_at ws at to m = pairs_end ws m.wires (on (pairs_count_at at to) 2)

  unfoldable pub before_place : List ℕ → ℕ → ℕ → Measured → ℕ
  before_place ws at to m = on (nodes_count_at ws at to m) 2

  -- all that comes before a net's nodes, but for its free wires
  unfoldable pub before_written : List ℕ → ℕ → ℕ → Measured → List ℕ → List ℕ
  before_written ws at to m out =
      let c = pairs_count_at at to in
      let a = sets (head_written at to m.wires out) c (be 2 (m.pairs % 65536)) in
      sets (pairs_out ws m.wires (on c 2) a) (nodes_count_at ws at to m) (be 2 (m.nodes % 65536))

  -- the place of a net's nodes in the output
  unfoldable pub nodes_at : List ℕ → Spot → ℕ
  nodes_at ws p = before_place (linked ws p.at) p.at p.to (measured ws p.at)

  -- a net: the place after it, the table, the output
  unfoldable pub net_spot : List ℕ → Spot → Spot
  net_spot ws p = let g = net_walked s p.at (nodes_at ws p) (on p.to 8) in record { at = g.at; to = g.to }

  unfoldable pub net_words : List ℕ → Spot → List ℕ
  net_words ws p = emptied (net_hung s (linked ws p.at) p.at (nodes_at ws p) (on p.to 8))

  unfoldable pub net_out : List ℕ → Spot → List ℕ → List ℕ
  net_out ws p out =
      net_written s p.at (nodes_at ws p) (on p.to 8)
      (before_written (linked ws p.at) p.at p.to (measured ws p.at) out)

  -- n nets
  unfoldable pub nets_spot : List ℕ → Spot → ℕ → Spot
  nets_spot ws p zero = p
  nets_spot ws p (suc n) = nets_spot (net_words ws p) (net_spot ws p) n

  unfoldable pub nets_words : List ℕ → Spot → ℕ → List ℕ
  nets_words ws p zero = ws
  nets_words ws p (suc n) = nets_words (net_words ws p) (net_spot ws p) n

  unfoldable pub nets_out : List ℕ → Spot → ℕ → List ℕ → List ℕ
  nets_out ws p zero out = out
  nets_out ws p (suc n) out = nets_out (net_words ws p) (net_spot ws p) n (net_out ws p out)
