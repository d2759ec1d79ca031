use Rattle.flat_nets.specs.Flat.{passed}
use Rattle.flat_nets.specs.Ways.{sum_greater, sum_no_greater}
use Rattle.flat_nets.proofs.sum.Goals as goal

pub returns-then-t-m : goal.returns-then-t-m
unfolding passed
returns-then-t-m c = (search sum_greater, cc)

pub returns : goal.returns
unfolding passed
returns c = (search sum_no_greater, cc)
