use Rattle.std.proofs.Common.{◌+◌, ◌-◌, ◌<◌, ◌≤◌, ◌≡◌, arith, sym, ◌∙◌}
use Rattle.free_path.specs.Steps.{number_more, number_found, number_done}
use Rattle.free_path.specs.FreePath.{free_number}
use Rattle.free_path.proofs.free_number.Goals as goal

pub loop-i-init : goal.loop-i-init
loop-i-init c =
    let start : c.args.n - 0 ≡ c.args.n = omega arith in
    rw start (omega arith)

pub returns-then-is_free : goal.returns-then-is_free
returns-then-is_free c =
    let more : 0 < c.args.n - c.loop-i.i = omega arith in
    search number_found

pub loop-i-preserved : goal.loop-i-preserved
loop-i-preserved c =
    let more : 0 < c.args.n - c.loop-i.i = omega arith in
    let next : c.args.n - (c.loop-i.i + 1) ≡ c.args.n - c.loop-i.i - 1 = omega arith in
    rw next (search number_more)

pub returns : goal.returns
returns c =
    let done : c.args.n - c.loop-i.i ≤ 0 = omega arith in
    let all : c.loop-i.i ≡ c.args.n = omega arith in
    let found : c.loop-i.i ≡ free_number c.args.s.now c.args.from c.args.n = search number_done in
    sym all ∙ found
