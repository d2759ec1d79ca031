use Rattle.std.proofs.Common.{◌≡◌, ◌+◌, ◌-◌, ◌<◌, ◌≤◌, arith}
use Rattle.embed.specs.Ways as ways
use Rattle.embed.proofs.+embed_embed_all.Goals as goal

pub embed-returns-then-byte-eq0 : goal.embed-returns-then-byte-eq0
embed-returns-then-byte-eq0 t c = (search ways.wire_walked, search ways.wire_written)

pub embed-returns-then-d-eq0 : goal.embed-returns-then-d-eq0
embed-returns-then-d-eq0 t c = (search ways.flat_walked, search ways.flat_written)

pub embed-returns : goal.embed-returns
embed-returns t c = (search ways.node_walked, search ways.node_written)

pub embed_all-loop-preserved : goal.embed_all-loop-preserved
embed_all-loop-preserved t c =
    let more : 0 < c.args.k - c.loop.counter = omega arith in
    let next : c.args.k - (c.loop.counter + 1) ≡ c.args.k - c.loop.counter - 1 = omega arith in
    (rw next (search ways.all_walked_more), rw next (search ways.all_written_more), omega arith)

pub embed_all-returns : goal.embed_all-returns
embed_all-returns t c =
    let done : c.args.k - c.loop.counter ≤ 0 = omega arith in
    (search ways.all_walked_done, search ways.all_written_done)
