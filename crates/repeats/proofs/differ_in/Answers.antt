use Rattle.std.proofs.Common.{◌-◌, ◌<◌, ◌+◌, ◌≤◌, ◌≡◌, arith}
use Rattle.repeats.specs.Steps.{differ_short, differ_past, differ_known, differ_more, differ_done}
use Rattle.repeats.proofs.differ_in.Goals as goal

pub returns-then-s-z : goal.returns-then-s-z
returns-then-s-z c =
    let more : 0 < c.args.n - c.loop.counter = omega arith in
    search differ_short

pub returns-then-s-z-2 : goal.returns-then-s-z-2
returns-then-s-z-2 c =
    let more : 0 < c.args.n - c.loop.counter = omega arith in
    search differ_past

pub returns-then-known : goal.returns-then-known
returns-then-known c =
    let more : 0 < c.args.n - c.loop.counter = omega arith in
    search differ_known

pub loop-preserved : goal.loop-preserved
loop-preserved c =
    let more : 0 < c.args.n - c.loop.counter = omega arith in
    let next : c.args.n - (c.loop.counter + 1) ≡ c.args.n - c.loop.counter - 1 = omega arith in (
      rw next (differ_more _ _ _ _ _ _ _ _ c.loop.invariant.0 more c.item_size-z.ensures _ _ _
          c.if-s-z.false c.if-s-z-2.false c.search-p.ensures c.known.ensures c.if-known.false
          c.insert.ensures),
      omega arith,
      omega arith,
    )

pub returns : goal.returns
returns c =
    let done : c.args.n - c.loop.counter ≤ 0 = omega arith in
    search differ_done
