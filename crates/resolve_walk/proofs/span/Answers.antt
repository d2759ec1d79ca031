use Rattle.std.proofs.Common.{arith}
use Rattle.resolve_walk.specs.Walk.{span}
use Rattle.resolve_walk.proofs.span.Goals as goal

pub returns-then-to-from : goal.returns-then-to-from
unfolding span
returns-then-to-from c = omega arith

pub returns : goal.returns
unfolding span
returns c = omega arith
