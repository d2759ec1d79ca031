use Rattle.std.proofs.Common.{◌≡◌, ◌+◌, ◌-◌, ◌<◌, ◌≤◌, refl, arith}
use Rattle.wiring_nets.specs.Told.{told_more, told_not, told_unfit, told_done}
use Rattle.words.specs.Left.{left}
use Rattle.wiring_nets.proofs.nets_told.Goals as goal

pub loop-i-init : goal.loop-i-init
loop-i-init g c =
    let start : c.args.n - 0 ≡ c.args.n = omega arith in
    (rw start, refl, refl)

pub returns-then-not-fits : goal.returns-then-not-fits
returns-then-not-fits g c =
    let more : 0 < c.args.n - c.loop-i.i = omega arith in
    left (told_unfit _ _ _ _ _ _ _ c.fits.ensures _ c.loop-i.invariant.0 more c.if-not-fits.true)

pub returns-in_default : goal.returns-in_default
returns-in_default g c =
    let more : 0 < c.args.n - c.loop-i.i = omega arith in
    left (told_not _ _ _ _ _ _ _ _ _ c.fits.ensures c.if-not-fits.false c.in_default.ensures c.loop-i.invariant.0 more)

pub loop-i-preserved : goal.loop-i-preserved
loop-i-preserved g c =
    let more : 0 < c.args.n - c.loop-i.i = omega arith in
    let next : c.args.n - (c.loop-i.i + 1) ≡ c.args.n - c.loop-i.i - 1 = omega arith in
    (rw next (told_more _ _ _ _ _ _ _ _ _ _ c.fits.ensures c.if-not-fits.false c.in-Some.ensures c.loop-i.invariant.0 more), omega arith, omega arith)

pub returns : goal.returns
returns g c =
    let done : c.args.n - c.loop-i.i ≤ 0 = omega arith in
    left (told_done _ _ _ _ _ _ _ c.loop-i.invariant.0 done)
